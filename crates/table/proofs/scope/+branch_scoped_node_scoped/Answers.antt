-- `table::scope::node_scoped` and `branch_scoped` meet their contracts.
use mathlib.Core.Path.{sym, ◌∙◌}
use native.Mathlib.Omega.{arith}
use Rattle.std.proofs.Common.{rules, tests, refl}
use Rattle.std.proofs.lemmas.Grind.{common_steps}
use Rattle.lists.proofs.Ranges.{every_more, every-stop, every-done}
use Rattle.table.proofs.Walk.{next-inside, same-held, more-held, silent-body, unheard-body, receive-body, unsent-body, send-body, child-inside, child-held, child-body, arguments-small, call-body, stop-body, choice-body, branch-of}
use Rattle.table.proofs.scope.+branch_scoped_node_scoped.Goals as goal

pub branch_scoped-node_scoped-requires : goal.branch_scoped-node_scoped-requires
branch_scoped-node_scoped-requires t c = let i = next-inside _ c.requires.0 _ _ c.requires.1 _ c.requires.2 _ _ refl c.field4-next.ensures.is in (omega (arith, c.decreases, i.0, i.1), (c.requires.0, i.1, same-held _ c.requires.0 _ _ c.requires.1 _ c.requires.2 _ _ refl c.field4-next.ensures.is (λ t. grind (arith, common_steps))))

pub branch_scoped-returns-then-eq : goal.branch_scoped-returns-then-eq
branch_scoped-returns-then-eq t c = silent-body _ c.requires.0 _ _ c.requires.1 _ c.requires.2 _ _ refl c.field4-next.ensures.is (search (rules, tests)) _ c.node_scoped.ensures

pub branch_scoped-returns-then-word-eq0 : goal.branch_scoped-returns-then-word-eq0
branch_scoped-returns-then-word-eq0 t c = unheard-body _ c.requires.0 _ _ c.requires.1 _ c.requires.2 _ _ refl c.field4-next.ensures.is (λ t. grind (arith, common_steps)) _ _ c.field4.ensures.is c.word.ensures.is c.if-word-eq0.true

pub branch_scoped-node_scoped-requires-then-eq-2 : goal.branch_scoped-node_scoped-requires-then-eq-2
branch_scoped-node_scoped-requires-then-eq-2 t c = let i = next-inside _ c.requires.0 _ _ c.requires.1 _ c.requires.2 _ _ refl c.field4-next.ensures.is in (omega (arith, c.decreases, i.0, i.1), (c.requires.0, i.1, more-held _ c.requires.0 _ _ c.requires.1 _ c.requires.2 _ _ refl c.field4-next.ensures.is _ _ (search (rules, tests)) c.field4-name.ensures.is c.tally.ensures))

pub branch_scoped-returns-then-eq-2 : goal.branch_scoped-returns-then-eq-2
branch_scoped-returns-then-eq-2 t c = receive-body _ c.requires.0 _ _ c.requires.1 _ c.requires.2 _ _ refl c.field4-next.ensures.is (λ t. grind (arith, common_steps)) _ _ c.field4.ensures.is c.word.ensures.is c.if-word-eq0.false (search (rules, tests)) _ c.node_scoped-then-eq-2.ensures

pub branch_scoped-returns-then-word-eq0-2 : goal.branch_scoped-returns-then-word-eq0-2
branch_scoped-returns-then-word-eq0-2 t c = unsent-body _ c.requires.0 _ _ c.requires.1 _ c.requires.2 _ _ refl c.field4-next.ensures.is (λ t. grind (arith, common_steps)) _ _ c.field4.ensures.is c.word.ensures.is c.if-word-eq0.false (λ t. grind (arith, common_steps)) _ _ c.field4-name.ensures.is c.word-2.ensures.is c.if-word-eq0-2.true

pub branch_scoped-node_scoped-requires-2 : goal.branch_scoped-node_scoped-requires-2
branch_scoped-node_scoped-requires-2 t c = let i = next-inside _ c.requires.0 _ _ c.requires.1 _ c.requires.2 _ _ refl c.field4-next.ensures.is in (omega (arith, c.decreases, i.0, i.1), (c.requires.0, i.1, same-held _ c.requires.0 _ _ c.requires.1 _ c.requires.2 _ _ refl c.field4-next.ensures.is (λ t. grind (arith, common_steps))))

pub branch_scoped-returns : goal.branch_scoped-returns
branch_scoped-returns t c = send-body _ c.requires.0 _ _ c.requires.1 _ c.requires.2 _ _ refl c.field4-next.ensures.is (λ t. grind (arith, common_steps)) _ _ c.field4.ensures.is c.word.ensures.is c.if-word-eq0.false (λ t. grind (arith, common_steps)) _ _ c.field4-name.ensures.is c.word-2.ensures.is c.if-word-eq0-2.false _ c.node_scoped-2.ensures

pub node_scoped-node_scoped-requires : goal.node_scoped-node_scoped-requires
node_scoped-node_scoped-requires t c = let i = child-inside _ c.requires.0 _ c.requires.1 _ c.requires.2 _ _ _ refl c.field3-first.ensures.is c.field3-second.ensures.is (search (rules, tests)) in (omega (arith, c.decreases, i.0, i.1), (c.requires.0, i.1, child-held _ c.requires.0 _ c.requires.1 _ c.requires.2 _ _ _ refl c.field3-first.ensures.is c.field3-second.ensures.is (search (rules, tests)) _ c.tally.ensures))

pub node_scoped-returns-in-Some-New : goal.node_scoped-returns-in-Some-New
node_scoped-returns-in-Some-New t c = child-body _ c.requires.0 _ c.requires.1 _ c.requires.2 _ _ _ refl c.field3-first.ensures.is c.field3-second.ensures.is (search (rules, tests)) _ c.node_scoped.ensures

pub node_scoped-arguments_held-requires : goal.node_scoped-arguments_held-requires
node_scoped-arguments_held-requires t c = (c.requires.2, arguments-small _ c.requires.0 _ c.requires.1 _ c.requires.2 _ _ _ refl c.field3-first.ensures.is c.field3-second.ensures.is (search (rules, tests)) _ c.field4.ensures.is)

pub node_scoped-returns-in-Some-Call : goal.node_scoped-returns-in-Some-Call
node_scoped-returns-in-Some-Call t c = call-body _ c.requires.0 _ c.requires.1 _ c.requires.2 _ _ _ refl c.field3-first.ensures.is c.field3-second.ensures.is (search (rules, tests)) _ c.field4.ensures.is _ c.arguments_held.ensures

pub node_scoped-returns-in-Some-Stop : goal.node_scoped-returns-in-Some-Stop
node_scoped-returns-in-Some-Stop t c = stop-body _ c.requires.0 _ c.requires.1 _ c.requires.2 _ _ _ refl c.field3-first.ensures.is c.field3-second.ensures.is (λ t. grind (arith, common_steps)) (λ t. grind (arith, common_steps)) (λ t. grind (arith, common_steps))

pub node_scoped-returns-in-None : goal.node_scoped-returns-in-None
node_scoped-returns-in-None t c = stop-body _ c.requires.0 _ c.requires.1 _ c.requires.2 _ _ _ refl c.field3-first.ensures.is c.field3-second.ensures.is (λ t. grind (arith, common_steps)) (λ t. grind (arith, common_steps)) (λ t. grind (arith, common_steps))

pub node_scoped-branch_scoped-requires : goal.node_scoped-branch_scoped-requires
node_scoped-branch_scoped-requires t c = (omega (arith, c.decreases, c.requires.1), (c.requires.0, branch-of _ c.requires.0 _ c.requires.1 _ c.requires.2 _ _ _ refl c.field3-first.ensures.is c.field3-second.ensures.is (search (rules, tests)) _ c.loop-b.auto.b c.loop-b-test.true, c.requires.2))

pub node_scoped-returns-then-not-branch_scoped : goal.node_scoped-returns-then-not-branch_scoped
node_scoped-returns-then-not-branch_scoped t c = sym (choice-body _ c.requires.0 _ c.requires.1 _ c.requires.2 _ _ _ refl c.field3-first.ensures.is c.field3-second.ensures.is (search (rules, tests)) ∙ (c.loop-b.invariant ∙ every-stop _ _ _ c.loop-b-test.true (sym c.branch_scoped.ensures ∙ c.if-not-branch_scoped.true)))

pub node_scoped-loop-b-preserved : goal.node_scoped-loop-b-preserved
node_scoped-loop-b-preserved t c = c.loop-b.invariant ∙ every_more _ _ _ c.loop-b-test.true (sym c.branch_scoped.ensures ∙ c.if-not-branch_scoped.false)

pub node_scoped-returns-after-loop-b : goal.node_scoped-returns-after-loop-b
node_scoped-returns-after-loop-b t c = sym (choice-body _ c.requires.0 _ c.requires.1 _ c.requires.2 _ _ _ refl c.field3-first.ensures.is c.field3-second.ensures.is (search (rules, tests)) ∙ (c.loop-b.invariant ∙ every-done _ _ _ c.loop-b-test.false))
