-- The lists that the rewritten table has: formals, branches of a Choice, arguments of a Call.
use mathlib.Core.Path.{◌≡◌, refl, sym, ◌∙◌}
use mathlib.Core.Bool.{true, false}
use mathlib.Core.List.{List, [], ◌∷◌, ◌++◌, map}
use mathlib.Core.Logic.{◌⊎◌, inl, inr}
use Prim.Native.Nat.{ℕ, ◌+◌, ◌≤◌, ◌<◌}
use native.Mathlib.Decide.{ℕ_discrete}
use native.Mathlib.Omega.{arith}
use lib.ListN.{length}
use Rattle.lists.specs.Lists.{pick, same, from, range, member}
use Rattle.lists.proofs.Tests.{true-or-false, same-no, same_true}
use Rattle.lists.proofs.Ranges.{member-from, from_member}
use Rattle.scheme.specs.Words.{publics, definitions, nodes, names, first_formal, formal_count, formals, node_first, node_second, is_choice, is_call_node, branches_of}
use Rattle.scheme.specs.Words.{argument, arguments_of, argument_count_of}
use Rattle.scheme.specs.Owners.{definition}
use Rattle.table.proofs.Inside
use Rattle.process.specs.StateWords.{place}
use Rattle.rewriting.specs.Rewriting.{copied, appended, name_copies, node_copies, branch_copies, argument_copies, copy_name_of, copy_definition_of, copy_node_of}
use Rattle.rewriting.specs.Rewriting.{copy_branch_of, copy_argument_of, rewritten}
use Rattle.rewriting.proofs.Runs.{run-next, map-from}
use Rattle.rewriting.proofs.Reading
use Rattle.rewriting.proofs.Family
use Rattle.rewriting.proofs.Family.{Sound, copied-inside, nodes-distinct, branches-distinct, names-distinct, arguments-distinct, node_of, copy-bound}
-- ---- the kinds of nodes and branches of any table

use Rattle.rewriting.proofs.Fields
use Rattle.rewriting.proofs.Insides
use Rattle.rewriting.proofs.Appended.{copies-range, groups-order}
use Rattle.lists.proofs.Ranges.{from-append}

-- a map that changes nothing there
map-there : (f g : ℕ → ℕ) (xs : List ℕ) → ((x : ℕ) → member x xs ≡ true → f x ≡ g x) → map f xs ≡ map g xs
map-there f g [] h = refl
map-there f g (x ∷ xs) h =
    rw (h x (Rattle.lists.proofs.Members.member-here x xs), map-there f g xs (λ y m. h y (Rattle.lists.proofs.Members.member-there y x xs m)))

map-map : (f g : ℕ → ℕ) (xs : List ℕ) → map f (map g xs) ≡ map (λ x. f (g x)) xs
map-map f g [] = refl
map-map f g (x ∷ xs) = rw (map-map f g xs)

module _ (w : List ℕ) (p : Sound w) where
  pub formals-old : (d : ℕ) → d < definitions w → formals (rewritten w) d ≡ formals w d
  unfolding formals
  formals-old d l = rw (Reading.first_formal-old w d l, Reading.formal_count-old w d l)

  pub formals-copy : (d : ℕ) → member d (copied w) ≡ true → formals (rewritten w) (copy_definition_of w d) ≡ map (copy_name_of w) (formals w d)
  unfolding formals from
  formals-copy d m = rw (Reading.first_formal-copy w d m, Reading.formal_count-copy w d m) (go (ℕ_discrete (formal_count w d) 0))
    where
      go : Dec (formal_count w d ≡ 0)
          → from (pick (same (formal_count w d) 0) 0 (copy_name_of w (first_formal w d))) (formal_count w d)
          ≡ map (copy_name_of w) (from (first_formal w d) (formal_count w d))
      go (yes z) = rw z
      go (no z) =
          let r = Fields.formals-run w p d m z in
          let low : publics w ≤ first_formal w d =
          (Inside.formals-inside w p.ranges d (first_formal w d) (copied-inside w d m)
          (Fields.formals-in w p d (first_formal w d) (omega arith) (omega arith))).0 in
          rw (same-no (formal_count w d) 0 z, copy-bound w (first_formal w d) low)
          (sym (map-from (copy_name_of w) (first_formal w d) (names w + place (first_formal w d) (name_copies w)) (formal_count w d)
          (λ i l. copy-bound w (first_formal w d + i) (omega arith)
          ∙ omega (arith, run-next (first_formal w d) (formal_count w d) (name_copies w) (names-distinct w) r i l))))

  pub branches-old : (n : ℕ) → n < nodes w → branches_of (rewritten w) n ≡ branches_of w n
  unfolding branches_of
  branches-old n l = rw (Reading.node_kind-old w n l, Reading.node_second-old w n l) (go (true-or-false (is_choice w n)))
    where
      go : (is_choice w n ≡ true) ⊎ (is_choice w n ≡ false)
          → pick (is_choice w n) (from (node_first (rewritten w) n) (node_second w n)) [] ≡ pick (is_choice w n) (from (node_first w n) (node_second w n)) []
      go (inl k) = rw (Insides.first w p n l (same_true _ _ k) (λ z. omega arith))
      go (inr k) = rw k

  pub branches-copy : (n : ℕ) → member n (node_copies w) ≡ true → branches_of (rewritten w) (copy_node_of w n) ≡ map (copy_branch_of w) (branches_of w n)
  unfolding branches_of
  branches-copy n m = rw (Reading.node_kind-copy w n m) (go (true-or-false (is_choice w n)))
    where
      go : (is_choice w n ≡ true) ⊎ (is_choice w n ≡ false)
          → pick (is_choice w n) (from (node_first (rewritten w) (copy_node_of w n)) (node_second (rewritten w) (copy_node_of w n))) []
          ≡ map (copy_branch_of w) (pick (is_choice w n) (from (node_first w n) (node_second w n)) [])
      go (inl k) =
          rw (
            k,
            Fields.choice-copy w p n m k,
            Fields.plain_copy w p n m (Inside.choice-not-new w n k)
                (Fields.no_arguments w p n (Inside.choice-not-call w n k)),
          )
          (sym (map-from (copy_branch_of w) (node_first w n) (copy_branch_of w (node_first w n)) (node_second w n)
          (λ i l. omega (arith, run-next (node_first w n) (node_second w n) (branch_copies w) (branches-distinct w) (Fields.branches-run w p n m k) i l))))
      go (inr k) = rw k

  pub arguments-old : (n : ℕ) → n < nodes w → is_call_node w n ≡ true → arguments_of (rewritten w) n ≡ arguments_of w n
  unfolding arguments_of
  arguments-old n l k =
      rw ((Fields.target-old w p n l k).count, Reading.node_second-old w n l)
      (map-there (argument (rewritten w)) (argument w) (from (node_second w n) (formal_count w (node_first w n)))
      (λ a q. Reading.argument-old w a
      (omega (arith, from_member a (node_second w n) (formal_count w (node_first w n)) q, (Inside.call-inside w p.ranges n l k).1))))

  pub arguments-copy : (n : ℕ) → member n (node_copies w) ≡ true → is_call_node w n ≡ true
      → arguments_of (rewritten w) (copy_node_of w n) ≡ map (copy_name_of w) (arguments_of w n)
  unfolding arguments_of from
  arguments-copy n m k = rw (Fields.target-copy w p n m k).count (go (ℕ_discrete (formal_count w (node_first w n)) 0))
    where
      g : argument_count_of w n ≡ formal_count w (node_first w n)
      g = rw k

      go : Dec (formal_count w (node_first w n) ≡ 0)
          → map (argument (rewritten w)) (from (node_second (rewritten w) (copy_node_of w n)) (formal_count w (node_first w n)))
          ≡ map (copy_name_of w) (map (argument w) (from (node_second w n) (formal_count w (node_first w n))))
      go (yes z) = rw z
      go (no z) =
          let r = Fields.arguments-run w p n m k in
          let e : from (copy_argument_of w (node_second w n)) (formal_count w (node_first w n))
          ≡ map (copy_argument_of w) (from (node_second w n) (formal_count w (node_first w n))) =
          sym (map-from (copy_argument_of w) (node_second w n) (copy_argument_of w (node_second w n)) (formal_count w (node_first w n))
          (λ i l. omega (arith, run-next (node_second w n) (argument_count_of w n) (argument_copies w) (arguments-distinct w) r i (omega (arith, g, l))))) in
          rw (Fields.arguments-copy w p n m (Inside.call-not-new w n k) (λ y. z (sym g ∙ y)), e)
          (map-map (argument (rewritten w)) (copy_argument_of w) (from (node_second w n) (formal_count w (node_first w n)))
          ∙ map-there (λ a. argument (rewritten w) (copy_argument_of w a)) (λ a. copy_name_of w (argument w a)) (from (node_second w n) (formal_count w (node_first w n)))
          (λ a q.
          let i = from_member a (node_second w n) (formal_count w (node_first w n)) q in
          Reading.argument-copy w a (Family.argument-copied w p n a m k i.0 (omega (arith, i.1, g))))
          ∙ sym (map-map (copy_name_of w) (argument w) (from (node_second w n) (formal_count w (node_first w n)))))

  -- ---- the nodes: the old ones, then the copies

  pub all-nodes : range (nodes (rewritten w)) ≡ range (nodes w) ++ map (copy_node_of w) (node_copies w)
  all-nodes =
      let z : 0 + nodes w ≡ nodes w = omega arith in
      rw (Reading.nodes-new w) (from-append 0 (nodes w) (length (node_copies w)) ∙ rw (z, copies-range (nodes w) (node_copies w) (nodes-distinct w)))

  -- a copy's child lies above
  pub copy-order : (n m : ℕ) → member n (node_copies w) ≡ true → member m (node_copies w) ≡ true → definition w n ≡ definition w m → n < m
      → copy_node_of w n < copy_node_of w m
  unfolding appended
  copy-order n m a b e l =
      let i = node_of w n a in
      let j = node_of w m b in
      omega (
        arith,
        groups-order (definition w) 0 (nodes w) n m (copied w) l e (member-from n 0 (nodes w) (omega arith) (omega (arith, i.0)))
            (member-from m 0 (nodes w) (omega arith) (omega (arith, j.0))) i.1,
      )
