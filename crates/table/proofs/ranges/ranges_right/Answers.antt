use Rattle.std.proofs.Common.{rules, refl, tests, sym, ◌≡◌, Bool, ◌&&◌, arith, List, ℕ}
use Rattle.lists.specs.Lists.{every, range}
use Rattle.scheme.specs.Words.{definitions, threads, nodes, branches, arguments}
use Rattle.table.specs.Causes.{are_ranges_right, is_definition_inside, is_entry_inside, is_node_inside, is_branch_inside, is_argument_inside}
use Rattle.table.proofs.Chains.{all_in, and_then, and_else, and_assoc}
use Rattle.table.proofs.ranges.ranges_right.Goals.{Joined-all-3, then-all, else-all, then-all-2, else-all-2, then-all-3, else-all-3}
use Rattle.table.proofs.ranges.ranges_right.Goals as goal

abbrev two_inside : List ℕ → Bool
two_inside w = every (is_definition_inside w) (range (definitions w)) && every (is_entry_inside w) (range (threads w))

abbrev three_inside : List ℕ → Bool
three_inside w = two_inside w && every (is_node_inside w) (range (nodes w))

abbrev four_inside : List ℕ → Bool
four_inside w = three_inside w && every (is_branch_inside w) (range (branches w))

abbrev five_inside : List ℕ → Bool
five_inside w = four_inside w && every (is_argument_inside w) (range (arguments w))

first_two : (c : Joined-all-3) → c.if-all.value ≡ two_inside c.args.table.now
first_two c =
    let w = c.args.table.now in
    let a = all_in (is_definition_inside w) 0 (definitions w) refl (omega arith) c.all.ensures.ran (λ x b q k. search (rules, tests)) in
    elim c.if-all.branch [
      | then-all u ↦ and_then a u.if-all.true
          (all_in (is_entry_inside w) 0 (threads w) refl (omega arith) u.all-then-all.ensures.ran (λ x b q k. search (rules, tests))) u.value-is
      | else-all u ↦ and_else _ a u.if-all.false u.value-is
    ]

first_three : (c : Joined-all-3) → c.if-all-2.value ≡ three_inside c.args.table.now
first_three c =
    let w = c.args.table.now in
    elim c.if-all-2.branch [
      | then-all-2 u ↦ and_then (sym (first_two c)) u.if-all-2.true
          (all_in (is_node_inside w) 0 (nodes w) refl (omega arith) u.all-then-all-2.ensures.ran (λ x b q k. search (rules, tests))) u.value-is
      | else-all-2 u ↦ and_else _ (sym (first_two c)) u.if-all-2.false u.value-is
    ]

first_four : (c : Joined-all-3) → c.if-all-3.value ≡ four_inside c.args.table.now
first_four c =
    let w = c.args.table.now in
    elim c.if-all-3.branch [
      | then-all-3 u ↦ and_then (sym (first_three c)) u.if-all-3.true
          (all_in (is_branch_inside w) 0 (branches w) refl (omega arith) u.all-then-all-3.ensures.ran (λ x b q k. search (rules, tests))) u.value-is
      | else-all-3 u ↦ and_else _ (sym (first_three c)) u.if-all-3.false u.value-is
    ]

pub returns-then-all-4 : goal.returns-then-all-4
unfolding are_ranges_right
returns-then-all-4 c =
    let w = c.args.table.now in
    let d : c.all-then-all-4.result ≡ five_inside w =
    and_then (sym (first_four (goal.at.returns-then-all-4 c).Joined-all-3)) c.if-all-4.true
    (all_in (is_argument_inside w) 0 (arguments w) refl (omega arith) c.all-then-all-4.ensures.ran (λ x b q k. search (rules, tests))) refl in
    simp and_assoc at d

pub returns-else-all-4 : goal.returns-else-all-4
unfolding are_ranges_right
returns-else-all-4 c =
    let d : c.if-all-3.value ≡ five_inside c.args.table.now =
    and_else _ (sym (first_four (goal.at.returns-else-all-4 c).Joined-all-3)) c.if-all-4.false refl in
    simp and_assoc at d
