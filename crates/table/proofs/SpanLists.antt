-- Laws of the spans that entries name: as lists of the causes' definitions, and in the check of consecutive ranges.
use mathlib.Core.Path.{◌≡◌, refl}
use mathlib.Core.Bool.{Bool, true, false}
use mathlib.Core.List.{List, [], ◌∷◌}
use Prim.Native.Nat.{ℕ, ◌+◌, ◌-◌, ◌≤◌, ◌<◌}
use Rattle.lists.specs.Lists.{pick, bit, same, from, range, flat}
use Rattle.lists.proofs.Tests.{same-yes, same-no}
use Rattle.lists.proofs.Ranges.{from_more, from-done}
use Rattle.lists.proofs.Members.{flat-same}
use Rattle.scheme.specs.Words.{definitions, nodes, branches, formals, node_first, node_second, is_new, is_choice, branches_of, branch_name, is_receive}
use Rattle.table.specs.Causes.{root_nodes, new_children, next_nodes, new_names, received_names, formal_names, consecutive}
use Rattle.scheme.specs.Spans.{span_of}
use Rattle.scheme.specs.declared.spans.Source.TheVariants.{Roots, Formals, NewChildren, NewNames, NextNodes, ReceivedNames, Branches}

-- a span of one number, or of none
pub from-bit : (x : ℕ) (b : Bool) → from x (bit b) ≡ pick b (x ∷ []) []
unfolding from
from-bit x true = refl
from-bit x false = refl

pub from-pick : (x n : ℕ) (b : Bool) → from x (pick b n 0) ≡ pick b (from x n) []
unfolding from
from-pick x n true = refl
from-pick x n false = refl

module _ (w : List ℕ) where
  pub roots-spans : flat (span_of w Roots) (range (definitions w)) ≡ root_nodes w
  unfolding root_nodes from
  roots-spans = refl

  pub children-spans : flat (span_of w NewChildren) (range (nodes w)) ≡ new_children w
  unfolding new_children
  children-spans =
      flat-same (span_of w NewChildren) (λ n. pick (is_new w n) (node_second w n ∷ []) []) (range (nodes w)) (λ n m. from-bit (node_second w n) (is_new w n))

  pub nexts-spans : flat (span_of w NextNodes) (range (branches w)) ≡ next_nodes w
  unfolding next_nodes from
  nexts-spans = refl

  pub new-names-spans : flat (span_of w NewNames) (range (nodes w)) ≡ new_names w
  unfolding new_names
  new-names-spans =
      flat-same (span_of w NewNames) (λ n. pick (is_new w n) (node_first w n ∷ []) []) (range (nodes w)) (λ n m. from-bit (node_first w n) (is_new w n))

  pub received-spans : flat (span_of w ReceivedNames) (range (branches w)) ≡ received_names w
  unfolding received_names
  received-spans =
      flat-same (span_of w ReceivedNames) (λ b. pick (is_receive w b) (branch_name w b ∷ []) []) (range (branches w)) (λ b m. from-bit (branch_name w b) (is_receive w b))

  pub formals-spans : flat (span_of w Formals) (range (definitions w)) ≡ formal_names w
  unfolding formal_names formals
  formals-spans = refl

  pub branches-span : (n : ℕ) → span_of w Branches n ≡ branches_of w n
  unfolding branches_of
  branches-span n = from-pick (node_first w n) (node_second w n) (is_choice w n)

-- one turn of the check of consecutive ranges, and its end
module _ (w : List ℕ) (first size : ℕ → ℕ) (end a i e : ℕ) where
  pub skip-empty : i < e → size i ≡ 0 → consecutive w first size end a (from i (e - i)) ≡ consecutive w first size end a (from (i + 1) (e - (i + 1)))
  unfolding consecutive
  skip-empty h z = rw (from_more i e h, same-yes _ _ z)

  pub take_range : i < e → (size i ≡ 0 → ⊥) → first i ≡ a
      → consecutive w first size end a (from i (e - i)) ≡ consecutive w first size end (a + size i) (from (i + 1) (e - (i + 1)))
  unfolding consecutive
  take_range h z q = rw (from_more i e h, same-no _ _ z, same-yes _ _ q)

  pub break-range : i < e → (size i ≡ 0 → ⊥) → (first i ≡ a → ⊥) → consecutive w first size end a (from i (e - i)) ≡ false
  unfolding consecutive
  break-range h z q = rw (from_more i e h, same-no _ _ z, same-no _ _ q)

  pub end-ranges : e ≤ i → consecutive w first size end a (from i (e - i)) ≡ same a end
  unfolding consecutive
  end-ranges h = rw (from-done i e h)
