-- `scheme::lookup::held_names` meets its contract, by recursion to the owner. The names are at most a definition's formals and one more for each
-- step, so their count does not wrap.
use native.Mathlib.Omega.{arith}
use Rattle.std.proofs.Common.{rules, tests, refl}
use Rattle.std.proofs.lemmas.Grind.{common_steps}
use Rattle.scheme.specs.Index.{owners_in, homes_in}
use Rattle.scheme.proofs.Indexed.{new-below, branch-below, held-count, held-at-root, held-at-new, held-at-receive, held-at-branch, held-at-nobody}
use Rattle.scheme.proofs.lookup.+held_names.Goals as goal

pub overflow_add-result : goal.overflow_add-result
overflow_add-result t c = omega (
  arith,
  new-below (owners_in c.args.index.now) (homes_in c.args.index.now) _ _ _ c.step_up.ensures c.in-New.is,
  held-count _ _ _ _ _ _ _ c.held_names-count.ensures (λ i. omega (arith, c.type_inv.table i)),
)

pub overflow_add-result-then-eq : goal.overflow_add-result-then-eq
overflow_add-result-then-eq t c = omega (
  arith,
  branch-below (owners_in c.args.index.now) (homes_in c.args.index.now) _ _ _ _ c.step_up.ensures c.in-Branch.is,
  held-count _ _ _ _ _ _ _ c.held_names-count-in-Branch.ensures (λ i. omega (arith, c.type_inv.table i)),
)

pub returns-then-eq : goal.returns-then-eq
returns-then-eq t c =
    held-at-receive _ _ _ _ _ c.step_up.ensures _ _ _ _ _ _ _ _ c.in-Branch.is c.held_names-count-in-Branch.ensures
    refl (search (rules, tests)) c.field4-then-eq.ensures.is c.store-then-eq.ensures

pub returns-in-Definition : goal.returns-in-Definition
returns-in-Definition t c =
    held-at-root _ _ _ _ _ c.step_up.ensures _ _ _ _ _ _ c.in-Definition.is c.field4.ensures.is
    c.field4-in-Definition.ensures.is c.write_span.ensures

pub returns-in-New : goal.returns-in-New
returns-in-New t c =
    held-at-new _ _ _ _ _ c.step_up.ensures _ _ _ _ _ _ c.in-New.is c.held_names-count.ensures
    c.field3.ensures.is c.store.ensures

pub returns-else-eq : goal.returns-else-eq
returns-else-eq t c =
    held-at-branch _ _ _ _ _ c.step_up.ensures _ _ _ _ _ _ c.in-Branch.is c.held_names-count-in-Branch.ensures
    refl (λ q. grind (arith, common_steps))

pub returns-in-Nobody : goal.returns-in-Nobody
returns-in-Nobody t c = held-at-nobody _ _ _ _ _ c.step_up.ensures _ c.in-Nobody.is
