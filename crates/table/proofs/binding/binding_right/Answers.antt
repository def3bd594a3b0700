use Rattle.std.proofs.Common.{◌≡◌, ◌&&◌, Bool, List, ℕ, refl, sym}
use Rattle.lists.specs.Lists.{every, from}
use Rattle.scheme.specs.Words.{publics, bounds}
use Rattle.scheme.specs.declared.spans.Source.TheVariants.{NewNames, ReceivedNames, Formals}
use Rattle.table.specs.Causes.{is_binding_right, bound_right, new_names, received_names, formal_names}
use Rattle.table.proofs.Chains.{and_then, and_else, and_assoc}
use Rattle.table.proofs.SpanLists.{new-names-spans, received-spans, formals-spans}
use Rattle.table.proofs.Parts.{bound-part}
use Rattle.table.proofs.binding.binding_right.Goals.{Joined-kind_bound, then-kind_bound, else-kind_bound}
use Rattle.table.proofs.binding.binding_right.Goals as goal

abbrev all_bound : List ℕ → List ℕ → ℕ → Bool
all_bound w binders kind = every (bound_right w binders kind) (from (publics w) (bounds w))

first_two : (c : Joined-kind_bound) → let w = c.args.table.now in c.if-kind_bound.value ≡ (all_bound w (new_names w) 0 && all_bound w (received_names w) 1)
first_two c =
    let w = c.args.table.now in
    let a = bound-part w NewNames _ _ _ _ _ _ c.word.ensures.is (new-names-spans w) c.kind_bound.ensures refl in
    elim c.if-kind_bound.branch [
      | then-kind_bound u ↦ and_then a u.if-kind_bound.true
          (bound-part w ReceivedNames _ _ _ _ _ _ u.word-then-kind_bound.ensures.is (received-spans w) u.kind_bound-then-kind_bound.ensures refl) u.value-is
      | else-kind_bound u ↦ and_else _ a u.if-kind_bound.false u.value-is
    ]

pub returns-then-kind_bound-2 : goal.returns-then-kind_bound-2
unfolding is_binding_right
returns-then-kind_bound-2 c =
    let w = c.args.table.now in
    let d : c.kind_bound-then-kind_bound-2.result ≡ ((all_bound w (new_names w) 0 && all_bound w (received_names w) 1) && all_bound w (formal_names w) 2) =
    and_then (sym (first_two (goal.at.returns-then-kind_bound-2 c).Joined-kind_bound)) c.if-kind_bound-2.true
    (bound-part w Formals _ _ _ _ _ _ c.word-then-kind_bound-2.ensures.is (formals-spans w) c.kind_bound-then-kind_bound-2.ensures refl) refl in
    simp and_assoc at d

pub returns-else-kind_bound-2 : goal.returns-else-kind_bound-2
unfolding is_binding_right
returns-else-kind_bound-2 c =
    let w = c.args.table.now in
    let d : c.if-kind_bound.value ≡ ((all_bound w (new_names w) 0 && all_bound w (received_names w) 1) && all_bound w (formal_names w) 2) =
    and_else _ (sym (first_two (goal.at.returns-else-kind_bound-2 c).Joined-kind_bound)) c.if-kind_bound-2.false refl in
    simp and_assoc at d
