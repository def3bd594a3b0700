-- Loops over the names of a chain: what is left to write after i of them, and one turn.
use mathlib.Core.Path.{◌≡◌, sym, ap, subst, ◌∙◌}
use mathlib.Core.Bool.{true}
use mathlib.Core.List.{List, [], ◌++◌, map}
use Prim.Native.Nat.{ℕ, suc, ◌+◌, ◌-◌, ◌≤◌, ◌<◌}
use native.Mathlib.Omega.{arith}
use lib.ListN.{length, take, drop}
use lib.Seq.{get_or-take, length-take-le}
use Rattle.lists.specs.Lists.{word, from, member}
use Rattle.lists.proofs.Slices.{drop-step, drop-none}
use Rattle.lists.proofs.Members.{member-get_or, member-map}
use Rattle.lists.proofs.Ranges.{member-from}
use Rattle.scheme.specs.Scheme.{Scheme}
use Rattle.net.specs.Net.{Transition}
use Rattle.places.specs.Values.{Values, values_of}
use Rattle.places.specs.Transitions.{releasing, releases, copying, copies}
use Rattle.builder.specs.Inner.Writing.{Heads, put_all, Inside}
use Rattle.builder.proofs.Writing.{put-append, inside-first}

-- what is left is a first part and a rest
module _ {A : Type 0} (f : A → Transition) (all s : Heads) (xs ys : List A) (left : all ≡ put_all f s (xs ++ ys)) where
  pub part-inside : Inside all → Inside (put_all f s xs)
  part-inside k = inside-first f s xs ys (subst Inside left k)

  pub part-more : (t : Heads) → t ≡ put_all f s xs → all ≡ put_all f t ys
  part-more t e = left ∙ put-append f s xs ys ∙ ap (λ (u : Heads). put_all f u ys) (sym e)

-- the first words of a list
module _ (names : List ℕ) (count i : ℕ) (h : i < count) (room : count ≤ length names) where
  taken-length : length (take count names) ≡ count
  taken-length = length-take-le count names room

  pub taken_at : word (take count names) i ≡ word names i
  taken_at = get_or-take count names i 0 h

  pub taken-member : (x : ℕ) → x ≡ word names i → member x (take count names) ≡ true
  taken-member x e = rw (e, sym taken_at) (member-get_or (take count names) i (omega (arith, taken-length)))

-- an argument among the arguments
pub argument-member : (arg : ℕ → ℕ) (argument count i x : ℕ) → i < count → x ≡ arg (argument + i) → member x (map arg (from argument count)) ≡ true
argument-member arg argument count i x h e =
    rw e (member-map arg (argument + i) (from argument count) (member-from (argument + i) argument count (omega arith) (omega arith)))

module _ (S : Scheme) (U : Values) (n m : ℕ) where
  -- ---- releases

  pub releases-start : (k : ℕ) (zs : List ℕ) → releases S U n m k zs ≡ releases S U n m (k + 0) (drop 0 zs)
  releases-start k zs = let e : k + 0 ≡ k = omega arith in rw e

  pub releases-more : (k : ℕ) (names : List ℕ) (count i z : ℕ) → i < count → count ≤ length names → z ≡ word names i
      → releases S U n m (k + i) (drop i (take count names))
      ≡ map (releasing S U n m (k + i) z) (values_of S U z) ++ releases S U n m (k + (i + 1)) (drop (i + 1) (take count names))
  unfolding releases
  releases-more k names count i z h room e =
      let l : length (take count names) ≡ count = length-take-le count names room in
      let s : suc (k + i) ≡ k + (i + 1) = omega arith in
      rw (drop-step (take count names) i (omega arith), taken_at names count i h room, sym e, s)

  pub releases-done : (k : ℕ) (names : List ℕ) (count i : ℕ) → count ≤ i → count ≤ length names → releases S U n m (k + i) (drop i (take count names)) ≡ []
  unfolding releases
  releases-done k names count i h room =
      let l : length (take count names) ≡ count = length-take-le count names room in
      rw (drop-none (take count names) i (omega arith))

  -- ---- copies

  pub copies-start : (arg : ℕ → ℕ) (k formal argument count : ℕ)
      → copies S U n m k (from formal count) (map arg (from argument count))
      ≡ copies S U n m (k + 0) (from (formal + 0) (count - 0)) (map arg (from (argument + 0) (count - 0)))
  copies-start arg k formal argument count =
      let a : k + 0 ≡ k = omega arith in
      let b : formal + 0 ≡ formal = omega arith in
      let c : argument + 0 ≡ argument = omega arith in
      let d : count - 0 ≡ count = omega arith in
      rw (a, b, c, d)

  pub copies-more : (arg : ℕ → ℕ) (k formal argument count i a : ℕ) → i < count → a ≡ arg (argument + i)
      → copies S U n m (k + i) (from (formal + i) (count - i)) (map arg (from (argument + i) (count - i)))
      ≡ map (copying S U n m (k + i) (formal + i) a) (values_of S U a) ++
      copies S U n m (k + (i + 1)) (from (formal + (i + 1)) (count - (i + 1))) (map arg (from (argument + (i + 1)) (count - (i + 1))))
  unfolding copies from
  copies-more arg k formal argument count i a h e =
      let c : count - i ≡ suc (count - (i + 1)) = omega arith in
      let s : suc (k + i) ≡ k + (i + 1) = omega arith in
      let f : formal + i + 1 ≡ formal + (i + 1) = omega arith in
      let g : argument + i + 1 ≡ argument + (i + 1) = omega arith in
      rw (c, s, f, g, sym e)

  pub copies-done : (arg : ℕ → ℕ) (k formal argument count i : ℕ) → count ≤ i
      → copies S U n m (k + i) (from (formal + i) (count - i)) (map arg (from (argument + i) (count - i))) ≡ []
  unfolding copies from
  copies-done arg k formal argument count i h = let c : count - i ≡ 0 = omega arith in rw c
