-- A marking of a table that is laid out: the tests in the code's order decide whether it stands for a state.
use mathlib.Core.Path.{◌≡◌, refl, sym, ap, ◌∙◌}
use mathlib.Core.Bool.{Bool, true, false, ◌&&◌, false≢true}
use mathlib.Core.List.{List}
use Prim.Native.Nat.{ℕ, zero, suc}
use native.Mathlib.Omega.{arith}
use lib.ListN.{length, replicate}
use Rattle.lists.specs.Lists.{word, member}
use Rattle.lists.proofs.Tests.{and_left, and_assoc, bit-small, same_true}
use Rattle.lists.proofs.Ranges.{every-at}
use Rattle.scheme.specs.Words.{names}
use Rattle.scheme.specs.Scheme.{Scheme, scheme}
use Rattle.net.specs.Firing.{is_marking, put}
use Rattle.places.specs.Places
use Rattle.places.specs.Plan.{places_at, Laid}
use Rattle.places.specs.Inner.Plan.{today, control_of}
use Rattle.places.proofs.Rows.{places-length}
use Rattle.table.proofs.Accepted.{accepted}
use Rattle.places.proofs.Controls.{publics-are, bounds-are, nodes-are}
use Rattle.places.proofs.Plans.{places-are}
use Rattle.readback.specs.Configurations.{held_here}
use Rattle.readback.specs.Inner.Standing.{first_of, spots_at, values_at, spots_right, value_right, values_right, held_bit, opposed_all, freed_all}
use Rattle.readback.specs.Inner.Noting.{Seeking, SpotsFound}
use Rattle.readback.specs.Inner.Showing.{AtNodes}
use Rattle.readback.specs.Inner.Holding.{held_all, ValuesBelow}
use Rattle.readback.specs.Inner.Freeing.{ValuesOnce}
use Rattle.readback.specs.Inner.Settling.{stands_in, Settles}
use Rattle.readback.proofs.Stands.{stands-is}
use Rattle.readback.proofs.Owning.{at-nodes, held-bits}

clear-word : (n t : ℕ) → word (replicate n 0) t ≡ 0
clear-word zero t = refl
clear-word (suc n) zero = refl
clear-word (suc n) (suc t) = clear-word n t

module _ (w index : List ℕ) (L : Laid w index) where
  pub clear-seeking : Seeking w index (replicate 8 0) (replicate 8 0) (replicate 8 0)
  clear-seeking = record {
    laid = L;
    room = record { counts-enough = omega arith; places-enough = omega arith; indexes-enough = omega arith };
    counts-clear = λ t l. clear-word 8 t;
    places-clear = λ t l. clear-word 8 t;
    indexes-clear = λ t l. clear-word 8 t;
  }

  pub count-is : (n : ℕ) → n ≡ word index places_at → n ≡ length (Places.places (scheme w) (today w))
  count-is n e = e ∙ places-are w index L ∙ ap (control_of w) (sym (nodes-are w)) ∙ sym (places-length (scheme w) (today w))

  module _ (m : List ℕ) (h : is_marking (word index places_at) m ≡ true) where
    abbrev S : Scheme
    S = scheme w

    pub here : is_marking (length (Places.places S (today w))) m ≡ true
    here = rw (← count-is (word index places_at) refl) h

    tests : stands_in w m ≡ (spots_right S m && (values_right S m (held_bit S m) && (opposed_all S m && freed_all S m)))
    tests = stands-is S (accepted w L.accepted) m here

    pub no-spots : (places indexes values : List ℕ) → spots_right S m ≡ false → Settles w m false places indexes values
    no-spots places indexes values e = (sym (tests ∙ rw e), λ q. absurd (false≢true q))

    module _ (places indexes : List ℕ) (e : spots_right S m ≡ true) (f : SpotsFound w m places indexes) where
      pub stand-at : AtNodes w places
      stand-at = at-nodes w m places indexes L.accepted e f

      module _ (held : List ℕ) (marks : held ≡ put 1 (replicate 64 0) (held_all w places indexes)) where
        values-right : values_right S m (held_bit S m) ≡ values_right S m (word held)
        values-right = sym (held-bits w m places indexes L.accepted e f held marks)

        -- the tests of bound names, b
        module _ (values : List ℕ) (b : Bool) (q : b ≡ (values_right S m (word held) && opposed_all S m)) where
          told : stands_in w m ≡ (b && freed_all S m)
          told = tests ∙ rw (e, values-right, q, and_assoc (values_right S m (word held)) (opposed_all S m) (freed_all S m))

          pub no-values : b ≡ false → Settles w m b places indexes values
          no-values z = (z ∙ sym (told ∙ rw z), λ t. absurd (false≢true (sym z ∙ t)))

          module _ (z : b ≡ true) (v : ValuesBelow w m values (names w)) where
            -- no bound name has two values
            pub values-once : ValuesOnce w m values
            unfolding values_right
            values-once = record {
              are = v;
              once = λ x nm.
                  let r = every-at (value_right S m (held_bit S m)) S.publics S.bounds (values-right ∙ and_left (values_right S m (word held)) (opposed_all S m) (sym q ∙ z)) x
                  (omega (arith, nm.0, publics-are w)) (omega (arith, nm.1, publics-are w, bounds-are w)) in
                  omega (
                    arith,
                    same_true (length (values_at S m x)) (held_bit S m x) r,
                    bit-small (member x (held_here S (first_of (spots_at S m (S.thread_of_name x))))),
                  );
            }

            pub settles : (d : Bool) → d ≡ freed_all S m → Settles w m d places indexes values
            settles d s = (s ∙ sym (told ∙ rw z), λ t. record { at-nodes = stand-at; spots-found = f; values-found = v })
