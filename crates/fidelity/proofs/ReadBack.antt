-- Reading back the marking of a well-formed configuration gives the words of the state that the configuration shows.
use Prim.Native.Nat.{ℕ, ◌+◌, ◌≤◌, ◌<◌}
use mathlib.Core.Path.{◌≡◌, refl, sym, ap}
use mathlib.Core.Logic.{◌⊎◌, inl, inr}
use mathlib.Core.Bool.{true}
use mathlib.Core.Option.{Option, none, some}
use mathlib.Core.List.{List, [], ◌∷◌, map}
use native.Mathlib.Decide.{dec_le}
use native.Mathlib.Omega.{arith}
use lib.ListN.{length}
use borrow.Author.Tests.{lt-ltb}
use Rattle.lists.specs.Lists.{from, range}
use Rattle.lists.proofs.Ranges.{from_member}
use Rattle.scheme.specs.Scheme.{Scheme, scheme}
use Rattle.table.specs.Accepted.{Accepted}
use Rattle.process.specs.States.{value_of}
use Rattle.process.specs.StateWords.{state_words}
use Rattle.net.specs.Firing.{is_marking}
use Rattle.places.specs.Values.{Values}
use Rattle.places.specs.Reach.{values_for}
use Rattle.places.specs.Places.{places}
use Rattle.readback.specs.Configurations.{Configuration, shown_node_of, state_shown}
use Rattle.readback.specs.Reading.{configuration, reading_back, words}
use Rattle.readback.proofs.Elements.{Element, here, there, element-member}
use Rattle.fidelity.specs.Inner.Marks.{WellFormed}
use Rattle.fidelity.specs.Inner.Shapes.{EnoughValues}
use Rattle.fidelity.specs.Inner.Standing.{source, shown, marking_of}
use Rattle.fidelity.proofs.Tables.{no-thread}
use Rattle.fidelity.proofs.Shown.{source-own}
use Rattle.fidelity.proofs.Listed.{range-below}
use Rattle.fidelity.proofs.Readings.{marked_by, marked-is}
use Rattle.fidelity.proofs.Enough.{enough-values}
use Rattle.fidelity.proofs.StandsFor.{stands-for, read_at, read-value}

map_on : {A B : Type 0} (f g : A → B) (xs : List A) → ((x : A) → Element x xs → f x ≡ g x) → map f xs ≡ map g xs
map_on f g [] h = refl
map_on f g (x ∷ xs) h = rw (h x here, map_on f g xs (λ y e. h y (there e)))

module _ (S : Scheme) (U : Values) (A : Accepted S) (E : EnoughValues S U) (c : Configuration) (W : WellFormed S U c) where
  abbrev read : Configuration
  read = configuration S U (marked_by S U A c)

  -- a name of a thread is below the end of the names
  named-below : (x : ℕ) → S.thread_of_name x < S.threads → x < S.publics + S.bounds
  named-below x l = go (dec_le (S.publics + S.bounds) x)
    where
      go : Dec (S.publics + S.bounds ≤ x) → x < S.publics + S.bounds
      go (yes h) = let a : S.threads ≤ S.thread_of_name x = no-thread S A x (inr h) in absurd (omega arith)
      go (no h) = omega arith

  value_read : (x : ℕ) → S.publics ≤ x → x < S.publics + S.bounds → shown S read x ≡ shown S c x
  value_read x lo hi =
      let l : S.thread_of_name x < S.threads = A.name-thread x lo hi in
      rw (lt-ltb (S.thread_of_name x) S.threads l, read_at S U A E c W (S.thread_of_name x) l) (go l (source S (c.at (S.thread_of_name x)) x) refl)
    where
      below : S.thread_of_name x < S.threads → (u : ℕ) → (u < S.publics) ⊎ (S.thread_of_name u ≡ S.thread (c.at (S.thread_of_name x)).node)
          → u < S.publics + S.bounds
      below l u (inl p) = omega arith
      below l u (inr q) = named-below u (rw (q, (W.stands (S.thread_of_name x) l).0) l)

      go : S.thread_of_name x < S.threads → (o : Option ℕ) → source S (c.at (S.thread_of_name x)) x ≡ o → value_of read.value o ≡ value_of c.value o
      go l none e = refl
      go l (some u) e =
          read-value S U A E c W u (below l u (source-own S U A (c.at (S.thread_of_name x)) x u (sym (W.stands (S.thread_of_name x) l).0) e))

  words-read : (counter : ℕ) → state_words S (state_shown S counter read) ≡ state_words S (state_shown S counter c)
  unfolding state_words state_shown
  words-read counter =
      rw (
        map_on (λ t. shown_node_of S (read.at t)) (λ t. shown_node_of S (c.at t)) (range S.threads)
            (λ t e. rw (read_at S U A E c W t (range-below t S.threads (element-member (range S.threads) e)))),
        map_on (shown S read) (shown S c) (from S.publics S.bounds)
            (λ x e. let (lo, hi) = from_member x S.publics S.bounds (element-member (from S.publics S.bounds) e) in value_read x lo hi),
      )

pub reads-back : (w : List ℕ) (A : Accepted (scheme w)) (c : Configuration) → WellFormed (scheme w) (values_for (scheme w)) c
    → is_marking (length (places (scheme w) (values_for (scheme w)))) (marking_of (scheme w) (values_for (scheme w)) c) ≡ true
    → reading_back w (marking_of (scheme w) (values_for (scheme w)) c)
    ≡ words (state_words (scheme w) (state_shown (scheme w) ((scheme w).publics + (values_for (scheme w)).privates) c))
unfolding reading_back
reads-back w A c W h =
    rw (h, marked-is (scheme w) (values_for (scheme w)) A c, stands-for (scheme w) (values_for (scheme w)) A (enough-values (scheme w) A) c W)
    (ap words (words-read (scheme w) (values_for (scheme w)) A (enough-values (scheme w) A) c W ((scheme w).publics + (values_for (scheme w)).privates)))
