use Rattle.std.proofs.Common.{rules, refl, tests, sym, ◌≡◌, Bool, ◌&&◌, arith, List, ℕ}
use Rattle.lists.specs.Lists.{every, range}
use Rattle.scheme.specs.Words.{nodes, branches, arguments, node_first, node_second, branch_count_of, argument_count_of}
use Rattle.table.specs.Causes.{consecutive, is_owned_once, are_children_above, is_shape_right}
use Rattle.table.proofs.Chains.{all_in, and_then, and_else, and_assoc}
use Rattle.table.proofs.shape.shape_right.Goals.{Joined-spans_consecutive-2, then-spans_consecutive, else-spans_consecutive, then-spans_consecutive-2, else-spans_consecutive-2}
use Rattle.table.proofs.shape.shape_right.Goals as goal

abbrev ranges_consecutive : List ℕ → Bool
ranges_consecutive w =
    consecutive w (node_first w) (branch_count_of w) (branches w) 0 (range (nodes w))
    && consecutive w (node_second w) (argument_count_of w) (arguments w) 0 (range (nodes w))

abbrev three_right : List ℕ → Bool
three_right w = ranges_consecutive w && every (is_owned_once w) (range (nodes w))

abbrev four_right : List ℕ → Bool
four_right w = three_right w && every (are_children_above w) (range (nodes w))

first_two : (c : Joined-spans_consecutive-2) → c.if-spans_consecutive.value ≡ ranges_consecutive c.args.table.now
first_two c =
    let a = rw c.word.ensures.is at (sym c.spans_consecutive.ensures) in
    elim c.if-spans_consecutive.branch [
      | then-spans_consecutive u ↦ and_then a u.if-spans_consecutive.true
          (rw u.word-then-spans_consecutive.ensures.is at (sym u.spans_consecutive-then-spans_consecutive.ensures)) u.value-is
      | else-spans_consecutive u ↦ and_else _ a u.if-spans_consecutive.false u.value-is
    ]

first_three : (c : Joined-spans_consecutive-2) → c.if-spans_consecutive-2.value ≡ three_right c.args.table.now
first_three c =
    elim c.if-spans_consecutive-2.branch [
      | then-spans_consecutive-2 u ↦ and_then (sym (first_two c)) u.if-spans_consecutive-2.true (sym u.owned_once.ensures) u.value-is
      | else-spans_consecutive-2 u ↦ and_else _ (sym (first_two c)) u.if-spans_consecutive-2.false u.value-is
    ]

pub returns-then-owned_once : goal.returns-then-owned_once
unfolding is_shape_right
returns-then-owned_once c =
    let w = c.args.table.now in
    let d : c.all.result ≡ four_right w =
    and_then (sym (first_three (goal.at.returns-then-owned_once c).Joined-spans_consecutive-2)) c.if-owned_once.true
    (all_in (are_children_above w) 0 (nodes w) refl (omega arith) c.all.ensures.ran (λ x b q k. search (rules, tests))) refl in
    simp and_assoc at d

pub returns-else-owned_once : goal.returns-else-owned_once
unfolding is_shape_right
returns-else-owned_once c =
    let d : c.if-spans_consecutive-2.value ≡ four_right c.args.table.now =
    and_else _ (sym (first_three (goal.at.returns-else-owned_once c).Joined-spans_consecutive-2)) c.if-owned_once.false refl in
    simp and_assoc at d
