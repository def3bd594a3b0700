use mathlib.Core.Path.{◌≡◌, sym, ◌∙◌}
use mathlib.Core.Bool.{Bool, true, not}
use mathlib.Core.List.{List}
use Prim.Native.Nat.{ℕ, ◌≤◌}
use native.Mathlib.Omega.{arith}
use borrow.Author.Tests.{not-true}
use Rattle.lists.specs.Lists.{same, word, range, every}
use Rattle.lists.proofs.Ranges.{every-same, every-below, below-every, from_member}
use Rattle.scheme.specs.Words.{definitions, threads, nodes, branches, is_call_node}
use Rattle.table.specs.Causes.{is_entry_right, call_right_in, is_call_right, are_calls_right}
use Rattle.scheme.specs.Index.{definitions_in, HasBodies}
use Rattle.scheme.proofs.Joined.{filled-bodies, definition-told}
use Rattle.table.proofs.Chains.{all_in}
use Rattle.std.proofs.Common.{rules, tests, refl}
use Rattle.table.proofs.calls.calls_right.Goals as goal

-- the definitions that the index gives, at every node
module _ (w x : List ℕ) (few : (nodes w ≤ 256) × (branches w ≤ 256) × (definitions w ≤ 32)) (I : HasBodies w x) (spared : Bool) where
  all-calls : (r : Bool) → r ≡ every (λ n. call_right_in w spared (word (definitions_in x) n) n) (range (nodes w))
      → r ≡ every (is_call_right w spared) (range (nodes w))
  unfolding is_call_right
  all-calls r e =
      e ∙ every-same (λ n. call_right_in w spared (word (definitions_in x) n) n) (is_call_right w spared) (range (nodes w))
      (λ n m. rw (definition-told w x I few.0 few.1 (omega (arith, few.2)) n (omega (arith, (from_member n 0 (nodes w) m).1))))

-- where no node is a Call, each is right
no-calls : (w : List ℕ) (spared : Bool) → every (λ n. not (is_call_node w n)) (range (nodes w)) ≡ true → every (is_call_right w spared) (range (nodes w)) ≡ true
unfolding is_call_right call_right_in
no-calls w spared h = below-every (is_call_right w spared) (nodes w) (λ n l. right n (every-below (λ k. not (is_call_node w k)) (nodes w) h n l))
  where
    right : (n : ℕ) → not (is_call_node w n) ≡ true → is_call_right w spared n ≡ true
    right n e = rw (not-true (is_call_node w n) e)

pub returns-then-not-all : goal.returns-then-not-all
unfolding are_calls_right
returns-then-not-all c =
    let w = c.args.table.now in
    rw (all_in (is_entry_right w) 0 (threads w) refl (omega arith) c.all.ensures.ran (λ x b q k. search (rules, tests)) ∙ c.if-not-all.true)

pub returns-then-all : goal.returns-then-all
unfolding are_calls_right same
returns-then-all c =
    let w = c.args.table.now in
    rw (
      all_in (is_entry_right w) 0 (threads w) refl (omega arith) c.all.ensures.ran (λ x b q k. search (rules, tests)) ∙ c.if-not-all.false,
      no-calls w c.args.spared (all_in (λ n. not (is_call_node w n)) 0 (nodes w) refl (omega arith) c.all-2.ensures.ran (λ x b q k. search (rules, tests)) ∙ c.if-all.true),
    )

pub returns : goal.returns
unfolding are_calls_right
returns c =
    let a = c.args in
    let w = a.table.now in
    let index = c.fill_bodies.new.index in
    rw (all_in (is_entry_right w) 0 (threads w) refl (omega arith) c.all.ensures.ran (λ x b q k. search (rules, tests)) ∙ c.if-not-all.false)
    (all-calls w index c.requires (filled-bodies _ _ _ _ c.fill_bodies.ensures (omega arith)) a.spared _
    (sym (all_in (λ n. call_right_in w a.spared (word (definitions_in index) n) n) 0 (nodes w) refl (omega arith) c.all-3.ensures.ran (λ x b q k. search (rules, tests)))))
