use Rattle.std.proofs.Common.{rules, refl, tests, sym, ◌≡◌, Bool, ◌&&◌, arith, List, ℕ}
use Rattle.lists.specs.Lists.{every, from, range}
use Rattle.scheme.specs.Words.{publics, bounds, definitions, nodes, branches}
use Rattle.table.specs.Causes.{are_kinds_right, is_name_kind_right, are_formals_zero, is_node_kind_right, is_branch_kind_right}
use Rattle.table.proofs.Chains.{all_in, and_then, and_else, and_assoc}
use Rattle.table.proofs.kinds.kinds_right.Goals.{Joined-all-2, then-all, else-all, then-all-2, else-all-2}
use Rattle.table.proofs.kinds.kinds_right.Goals as goal

abbrev names_right : List ℕ → Bool
names_right w = every (is_name_kind_right w) (from (publics w) (bounds w))

abbrev formals_right : List ℕ → Bool
formals_right w = every (are_formals_zero w) (range (definitions w))

abbrev nodes_right : List ℕ → Bool
nodes_right w = every (is_node_kind_right w) (range (nodes w))

abbrev branches_right : List ℕ → Bool
branches_right w = every (is_branch_kind_right w) (range (branches w))

first_two : (c : Joined-all-2) → let w = c.args.table.now in c.if-all.value ≡ (names_right w && formals_right w)
first_two c =
    let w = c.args.table.now in
    let a = all_in (is_name_kind_right w) (publics w) (bounds w) c.word-publics.ensures.is (omega arith) c.all.ensures.ran (λ x b q k. search (rules, tests)) in
    elim c.if-all.branch [
      | then-all u ↦ and_then a u.if-all.true
          (all_in (are_formals_zero w) 0 (definitions w) refl (omega arith) u.all-then-all.ensures.ran (λ x b q k. search (rules, tests))) u.value-is
      | else-all u ↦ and_else _ a u.if-all.false u.value-is
    ]

first_three : (c : Joined-all-2) → let w = c.args.table.now in c.if-all-2.value ≡ ((names_right w && formals_right w) && nodes_right w)
first_three c =
    let w = c.args.table.now in
    elim c.if-all-2.branch [
      | then-all-2 u ↦ and_then (sym (first_two c)) u.if-all-2.true
          (all_in (is_node_kind_right w) 0 (nodes w) refl (omega arith) u.all-then-all-2.ensures.ran (λ x b q k. search (rules, tests))) u.value-is
      | else-all-2 u ↦ and_else _ (sym (first_two c)) u.if-all-2.false u.value-is
    ]

pub returns-then-all-3 : goal.returns-then-all-3
unfolding are_kinds_right
returns-then-all-3 c =
    let w = c.args.table.now in
    let d : c.all-then-all-3.result ≡ (((names_right w && formals_right w) && nodes_right w) && branches_right w) =
    and_then (sym (first_three (goal.at.returns-then-all-3 c).Joined-all-2)) c.if-all-3.true
    (all_in (is_branch_kind_right w) 0 (branches w) refl (omega arith) c.all-then-all-3.ensures.ran (λ x b q k. search (rules, tests))) refl in
    simp and_assoc at d

pub returns-else-all-3 : goal.returns-else-all-3
unfolding are_kinds_right
returns-else-all-3 c =
    let w = c.args.table.now in
    let d : c.if-all-2.value ≡ (((names_right w && formals_right w) && nodes_right w) && branches_right w) =
    and_else _ (sym (first_three (goal.at.returns-else-all-3 c).Joined-all-2)) c.if-all-3.false refl in
    simp and_assoc at d
