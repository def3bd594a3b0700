-- Values of names in state words, and the words of the starting state.
use mathlib.Core.Path.{◌≡◌, refl, ◌∙◌}
use mathlib.Core.Option.{some}
use mathlib.Core.List.{List, [], ◌++◌, map}
use Prim.Native.Nat.{ℕ, zero, suc, ◌+◌, ◌-◌, ◌≤◌, ◌<◌}
use native.Mathlib.Omega.{arith}
use lib.ListN.{length, replicate, length-append, length-map, length-replicate}
use lib.Seq.{sets}
use borrow.Author.Tests.{lt-ltb, le-ltb}
use Rattle.lists.specs.Lists.{same, word, from, range}
use Rattle.lists.proofs.Tests.{same-no, same_self}
use Rattle.lists.proofs.Ranges.{from-length}
use Rattle.lists.proofs.Stores.{sets-append}
use Rattle.scheme.specs.Words.{publics, bounds, threads, root, entry}
use Rattle.table.specs.Causes.{cause}
use Rattle.scheme.specs.Scheme.{scheme}
use Rattle.process.specs.States.{start}
use Rattle.process.specs.StateWords.{state_of, state_words, value_words}
use Rattle.process.specs.Outcomes.{answered, start_outcome, refusal}
use Rattle.process.specs.Inner.Values.{Valued}
use Rattle.process.proofs.Sets.{sets-whole}

-- ---- values

module _ (w ws : List ℕ) (x : ℕ) where
  pub value-public : x < publics w → publics w < 65536 → Valued ((state_of (scheme w) ws).value x) x
  unfolding state_of scheme
  value-public h k = record { is = rw (lt-ltb x (publics w) h, same-no x 65535 (λ e. omega arith)); small = omega arith }

  pub value-bound : (r : ℕ) → publics w ≤ x → x < publics w + bounds w → r ≡ word ws (threads w + (x - publics w)) → r < 65536
      → Valued ((state_of (scheme w) ws).value x) r
  unfolding state_of scheme
  value-bound r h k e u = record { is = rw (le-ltb x (publics w) h, lt-ltb x (publics w + bounds w) k, e); small = u }

  pub value-outside : publics w ≤ x → publics w + bounds w ≤ x → Valued ((state_of (scheme w) ws).value x) 65535
  unfolding state_of scheme same
  value-outside h k = record { is = rw (le-ltb x (publics w) h, le-ltb x (publics w + bounds w) k); small = omega arith }

-- ---- the starting state

unheld-words : (w seen : List ℕ) (a n : ℕ) → publics w ≤ a → value_words (publics w) seen (map (start (scheme w)).value (from a n)) ≡ replicate n 65535
unfolding value_words start scheme from
unheld-words w seen a zero h = refl
unheld-words w seen a (suc n) h = rw (le-ltb a (publics w) h, unheld-words w seen (a + 1) n (omega arith))

pub start-words : (w : List ℕ) → state_words (scheme w) (start (scheme w)) ≡ map (λ t. root w (entry w t)) (range (threads w)) ++ replicate (bounds w) 65535
unfolding state_words start scheme
start-words w = rw (unheld-words w [] (publics w) (bounds w) (omega arith))

start-length : (w : List ℕ) → length (state_words (scheme w) (start (scheme w))) ≡ threads w + bounds w
start-length w =
    rw (start-words w, length-append, length-map (range (threads w)) (λ t. root w (entry w t)), from-length 0 (threads w), length-replicate {A = ℕ} (bounds w) 65535)

module _ (w lent : List ℕ) where
  module _ (e : cause w ≡ 0) where
    pub start-short : length lent < threads w + bounds w → refusal 10 lent ≡ start_outcome w lent
    unfolding start_outcome answered
    start-short l = let k : length lent < length (state_words (scheme w) (start (scheme w))) = omega (arith, start-length w) in rw (e, same_self 0, lt-ltb _ _ k)

    pub start-written : (r : ℕ) (middle left : List ℕ) → threads w + bounds w ≤ length lent → r ≡ threads w + bounds w
        → middle ≡ sets lent 0 (map (λ t. root w (entry w t)) (range (threads w)))
        → left ≡ sets middle (threads w) (replicate (bounds w) 65535)
        → record { number = 0; value = some r; left = left } ≡ start_outcome w lent
    unfolding start_outcome answered scheme
    start-written r middle left l q f g =
        let ws = state_words (scheme w) (start (scheme w)) in
        let k : length ws ≤ length lent = omega (arith, start-length w) in
        let roots = map (λ t. root w (entry w t)) (range (threads w)) in
        let m : 0 + length roots ≡ threads w = rw (length-map (range (threads w)) (λ t. root w (entry w t)), from-length 0 (threads w)) (omega arith) in
        let o : sets lent 0 ws ≡ left = rw (start-words w) (sets-append lent 0 roots (replicate (bounds w) 65535) ∙ rw (m, ← f, ← g)) in
        rw (e, same_self 0, le-ltb (length lent) (length ws) k, q, ← sets-whole lent ws k, o)
