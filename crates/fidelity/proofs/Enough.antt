-- The values suffice: the reaches are closed under the flow of names, and there are more private values than names held where a thread is at a New.
use Prim.Native.Nat.{ℕ, suc, ◌+◌, ◌≤◌, ◌<◌}
use mathlib.Core.Path.{◌≡◌, refl, sym, ◌∙◌}
use mathlib.Core.Bool.{true, ◌&&◌}
use mathlib.Core.List.{List, [], ◌∷◌, ◌++◌}
use native.Mathlib.Omega.{arith}
use lib.Dec.{ltb}
use lib.ListN.{length, get_or}
use borrow.Author.Tests.{lt-ltb, ltb-true, leb-true}
use Rattle.lists.specs.Lists.{same, member}
use Rattle.lists.proofs.Tests.{and_intro, and_left, and_right, same_true}
use Rattle.lists.proofs.Members.{member-get_or}
use Rattle.scheme.specs.Scheme.{Scheme, Node, stop, choice, new, call, send, receive}
use Rattle.table.specs.Accepted.{Accepted}
use Rattle.places.specs.Values.{Values}
use Rattle.places.specs.Places.{controls, common}
use Rattle.places.specs.Held.{most_held}
use Rattle.places.specs.Reach.{values_for}
use Rattle.places.specs.Inner.Holding.{count}
use Rattle.places.proofs.Tallies.{sum_lt, count-le}
use Rattle.places.proofs.Arriving.{privates-are, carried, own, copied}
use Rattle.places.proofs.Arriving as Arriving
use Rattle.places.proofs.Few.{first-place, first-length, held-most, private-sum}
use Rattle.readback.specs.Configurations.{Spot, spot, Configuration, held_here, is_spot}
use Rattle.fidelity.specs.Inner.Marks.{given, is_place, allows, Takes, WellFormed}
use Rattle.fidelity.specs.Inner.Shapes.{EnoughValues}
use Rattle.fidelity.proofs.Tables.{send-present, receive-present}
use Rattle.fidelity.proofs.Counting.{count-member, owned-all}
use Rattle.fidelity.proofs.Listed.{takes-member, bound-values}

module _ (S : Scheme) (A : Accepted S) where
  abbrev U : Values
  U = values_for S

  -- ---- values

  -- what is in the reach of x is in the reach of y: so are the values
  flows : (x y v : ℕ) → S.publics ≤ y → ((o : ℕ) → U.origins x o ≡ true → U.origins y o ≡ true) → Takes S U x v → allows S U y v ≡ true
  flows x y v l flow t = bound-values S U A y v l (carried S x y v l flow (takes-member S U A x v t))

  pub met : (s a z l r e y m i o : ℕ) → S.branch s ≡ send a z l → S.branch r ≡ receive e y m → (S.thread (S.home s) ≡ S.thread (S.home r) → ⊥)
      → member i (common S U a e) ≡ true → U.origins z o ≡ true → U.origins y o ≡ true
  met s a z l r e y m i o hs hr df =
      Arriving.met S A s a z l r e y m i o hs hr df (A.branch-inside s (send-present S A s a z l hs)) (A.branch-inside r (receive-present S A r e y m hr))

  pub makes : (r v : ℕ) → S.restricted r ≡ true → S.publics ≤ v → v < S.publics + U.privates → allows S U r v ≡ true
  unfolding allows
  makes r v h lo hi =
      and_intro (ltb v (S.publics + U.privates)) (U.reach r v) (lt-ltb v (S.publics + U.privates) hi) (Arriving.makes S A r v h lo)

  pub private : (x v : ℕ) → S.restricted x ≡ true → allows S U x v ≡ true → S.publics ≤ v
  unfolding allows
  private x v r h = Arriving.private S A x v r (and_right (ltb v (S.publics + U.privates)) (U.reach x v) h)

  -- ---- N

  place-most : (p : Spot) → is_place S p ≡ true → length (held_here S p) ≤ most_held S (S.thread p.node)
  unfolding controls
  place-most p h =
      held-most S A (S.thread p.node) p.node p.index
      (ltb-true p.node S.nodes (and_left (ltb p.node S.nodes) (is_spot S (S.node p.node) p) h)) refl
      (below (S.node p.node) refl (and_right (ltb p.node S.nodes) (is_spot S (S.node p.node) p) h))
    where
      below : (ν : Node) → S.node p.node ≡ ν → is_spot S (S.node p.node) p ≡ true → p.index < controls S p.node
      below stop e q = rw e (omega (arith, leb-true p.index (length (S.held p.node)) (rw e at q)))
      below (choice f c) e q = rw e (omega (arith, same_true p.index 0 (rw e at q)))
      below (new r l) e q = rw e (omega (arith, same_true p.index 0 (rw e at q)))
      below (call d) e q = rw e (omega (arith, leb-true p.index (length (S.formals d) + length (S.held p.node)) (rw e at q)))

  pub room : (c : Configuration) → WellFormed S U c → (n r l : ℕ) → S.node n ≡ new r l → c.at (S.thread n) ≡ spot n 0
      → count (λ x. given (c.value x)) S.publics S.bounds < U.privates
  room c W n r l h p =
      omega (
        arith,
        privates-are S,
        private-sum S A r (A.new-restricted n r l h),
        owned-all (λ x. given (c.value x)) S.thread_of_name S.publics S.bounds S.threads (λ x a b. A.name-thread x a b),
        sum_lt (λ θ. count (λ x. same (S.thread_of_name x) θ && given (c.value x)) S.publics S.bounds) (most_held S) (S.thread n) S.threads
            (A.thread-inside n) strict each,
      )
    where
      held-count : (θ : ℕ) → count (λ x. same (S.thread_of_name x) θ && given (c.value x)) S.publics S.bounds ≤ length (held_here S (c.at θ))
      held-count θ =
          omega (
            arith,
            count-le (λ x. same (S.thread_of_name x) θ && given (c.value x)) (λ x. member x (held_here S (c.at θ))) S.publics S.bounds one,
            count-member (held_here S (c.at θ)) S.publics S.bounds,
          )
        where
          one : (x : ℕ) → S.publics ≤ x → x < S.publics + S.bounds → (same (S.thread_of_name x) θ && given (c.value x)) ≡ true
              → member x (held_here S (c.at θ)) ≡ true
          one x lo hi q =
              let e : S.thread_of_name x ≡ θ = same_true (S.thread_of_name x) θ (and_left (same (S.thread_of_name x) θ) (given (c.value x)) q) in
              rw e at (sym (W.held x lo) ∙ and_right (same (S.thread_of_name x) θ) (given (c.value x)) q)

      each : (θ : ℕ) → θ < S.threads → count (λ x. same (S.thread_of_name x) θ && given (c.value x)) S.publics S.bounds ≤ most_held S θ
      each θ k =
          let m : length (held_here S (c.at θ)) ≤ most_held S θ = rw (W.stands θ k).0 at (place-most (c.at θ) (W.stands θ k).1) in
          omega (arith, held-count θ)

      strict : count (λ x. same (S.thread_of_name x) (S.thread n) && given (c.value x)) S.publics S.bounds < most_held S (S.thread n)
      strict =
          let a : length (held_here S (c.at (S.thread n))) ≡ length (S.held n) = rw (p, h) in
          let b : length (S.held l) ≡ suc (length (S.held n)) = rw (A.new-held n r l h) (length-snoc (S.held n)) in
          omega (
            arith,
            held-count (S.thread n),
            a,
            b,
            first-length S A l,
            held-most S A (S.thread n) l 0 (A.new-inside n r l h).1 (A.new-thread n r l h) (first-place S A l),
          )
        where
          length-snoc : (xs : List ℕ) → length (xs ++ (r ∷ [])) ≡ suc (length xs)
          length-snoc [] = refl
          length-snoc (x ∷ xs) = rw (length-snoc xs)

  pub enough-values : EnoughValues S (values_for S)
  enough-values = record {
    copies =
        λ n d j v h l tk. flows (get_or (S.arguments n) j 0) (get_or (S.formals d) j 0) v
        (A.formal-name d (get_or (S.formals d) j 0) (member-get_or (S.formals d) j l)).low (λ o. copied S A n d j o h l) tk;
    copied = copied S A;
    meets = λ s a z l r e y m i j hs hr df ic tz. flows z y j (A.receive-name r e y m hr).low (λ o. met s a z l r e y m i o hs hr df ic) tz;
    met = met;
    own = own S A;
    makes = makes;
    private = private;
    room = room;
  }
