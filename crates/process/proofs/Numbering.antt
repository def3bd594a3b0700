-- Numbering by first appearance: where a value stands among those seen, and state words that are numbered so.
use mathlib.Core.Path.{◌≡◌, refl, sym, ap, ◌∙◌}
use mathlib.Core.Bool.{Bool, true, false, false≢true}
use mathlib.Core.Option.{Option}
use mathlib.Core.List.{List, [], ◌∷◌, ◌++◌, map}
use Prim.Native.Nat.{ℕ, zero, suc, ◌+◌, ◌-◌, ◌≤◌, ◌<◌}
use mathlib.Core.Logic.{◌⊎◌, inl, inr}
use native.Mathlib.Decide.{ℕ_discrete, dec_lt}
use native.Mathlib.Nat.{add-zero, sub-zero}
use native.Mathlib.Numerals.{add-one}
use native.Mathlib.Omega.{arith}
use lib.Dec.{eqb}
use lib.ListN.{length, take, drop, set, length-set}
use borrow.Author.Tests.{lt-ltb, le-ltb, le-leb, lt-leb}
use Rattle.std.specs.Prelude
use Rattle.std.specs.Prelude.{Some, None, unwrap_or}
use Rattle.std.specs.List.{position_from}
use Rattle.std.proofs.lemmas.Grind.{common_steps}
use Rattle.lists.specs.Lists.{same, word, from, member}
use Rattle.lists.proofs.Tests.{same-yes, same-no, same_self, same-sym, not-true-false, not-false-true, true-or-false}
use Rattle.lists.proofs.Members.{not-member, map-append}
use Rattle.lists.proofs.Ranges.{from-length, from-snoc, member-from, from_member}
use lib.Seq.{sets, slice, length-slice, take-suc-set}
use Rattle.lists.proofs.Slices.{drop-step, drop-none, slice-step, slice-none}
use Rattle.scheme.specs.Scheme.{Scheme, scheme}
use Rattle.scheme.specs.Words.{publics, bounds, threads}
use Rattle.process.specs.StateWords.{place, noted, value_at, value_words, state_of, state_words, same_list, Numbered}
use Rattle.process.specs.Inner.Values.{next_seen_of, Numberable, Turned}
use Rattle.process.proofs.NameValues.{value-bound}

pub place-last : (v : ℕ) (us : List ℕ) → member v us ≡ false → place v (us ++ (v ∷ [])) ≡ length us
unfolding place
place-last v [] h = rw (same_self v, place)
place-last v (u ∷ us) h = let k = not-member v u us h in rw (same-no v u k.0, place) (ap suc (place-last v us k.1))

pub place_none : (v : ℕ) (us : List ℕ) → member v us ≡ false → place v us ≡ length us
unfolding place
place_none v [] h = refl
place_none v (u ∷ us) h = let k = not-member v u us h in rw (same-no v u k.0, place) (ap suc (place_none v us k.1))

pub place-span : (v a n : ℕ) → a ≤ v → v < a + n → place v (from a n) ≡ v - a
unfolding place from
place-span v a zero h k = absurd (omega arith)
place-span v a (suc n) h k = go (ℕ_discrete v a) (λ l. place-span v (a + 1) n l (omega arith))
  where
    go : Dec (v ≡ a) → (a + 1 ≤ v → place v (from (a + 1) n) ≡ v - (a + 1)) → place v (from a (suc n)) ≡ v - a
    go (yes e) ih = let z : 0 ≡ v - a = omega arith in rw (same-yes v a e, place) z
    go (no d) ih = let z : suc (v - (a + 1)) ≡ v - a = omega arith in rw (same-no v a d, place) (ap suc (ih (omega arith)) ∙ z)

-- what is left of a comparison once a value has been looked at; nothing is right after one that is not numbered by first appearance
abbrev pub after_turn : (ℕ → Bool) → Prelude.Option ℕ → Bool
after_turn rest None = false
after_turn rest (Some seen) = rest seen

module _ (S : Scheme) (P seen v : ℕ) (os : List (Option ℕ)) (vs : List ℕ) where
  -- one word of a numbering
  pub numbered-turn : same_list S (value_words P (from P seen) (value_at v ∷ os)) (v ∷ vs)
      ≡ after_turn (λ n. same_list S (value_words P (from P n) os) vs) (next_seen_of P seen v)
  unfolding value_words same_list next_seen_of noted
  numbered-turn = go (ℕ_discrete v 65535) (dec_lt v P) (dec_lt v (P + seen)) (ℕ_discrete v (P + seen))
    where
      go : Dec (v ≡ 65535) → Dec (v < P) → Dec (v < P + seen) → Dec (v ≡ P + seen)
          → same_list S (value_words P (from P seen) (value_at v ∷ os)) (v ∷ vs)
          ≡ after_turn (λ n. same_list S (value_words P (from P n) os) vs) (next_seen_of P seen v)
      go (yes a) b c d = rw (same-yes v 65535 a, same-yes 65535 v (sym a))
      go (no a) (yes b) c d = rw (same-no v 65535 a, lt-ltb v P b, value_words, same_self v)
      go (no a) (no b) (yes c) d =
          let m : member v (from P seen) ≡ true = member-from v P seen (omega arith) c in
          let q : P + (v - P) ≡ v = omega arith in
          rw (same-no v 65535 a, le-ltb v P (omega arith), value_words, lt-ltb v (P + seen) c, m, place-span v P seen (omega arith) c, q, same_self v)
      go (no a) (no b) (no c) (yes d) =
          let m : member v (from P seen) ≡ false = not-true-false (member v (from P seen)) (λ e. let f = from_member v P seen e in omega arith) in
          let s : from P (seen + 1) ≡ from P seen ++ (v ∷ []) = rw (d, ← from-snoc P seen) (let z : seen + 1 ≡ suc seen = omega arith in rw z) in
          rw (
            same-no v 65535 a,
            le-ltb v P (omega arith),
            value_words,
            le-ltb v (P + seen) (omega arith),
            same-yes v (P + seen) d,
            m,
            place-last v (from P seen) m,
            from-length P seen,
            ← d,
            same_self v,
            s,
          )
      go (no a) (no b) (no c) (no d) =
          let m : member v (from P seen) ≡ false = not-true-false (member v (from P seen)) (λ e. let f = from_member v P seen e in omega arith) in
          rw (
            same-no v 65535 a,
            le-ltb v P (omega arith),
            value_words,
            le-ltb v (P + seen) (omega arith),
            same-no v (P + seen) d,
            m,
            place-last v (from P seen) m,
            from-length P seen,
            same-no (P + seen) v (λ e. d (sym e)),
          )

pub seen-grows : (P seen v n : ℕ) → next_seen_of P seen v ≡ Some n → n ≤ seen + 1
unfolding next_seen_of same
seen-grows P seen v n h = grind (arith, common_steps)

-- ---- the words of a state against themselves

opened : (a n : ℕ) → from a (suc n) ≡ a ∷ from (a + 1) n
unfolding from
opened a n = refl

-- the first words of a list are its own
nodes-same : (S : Scheme) (ws vs : List ℕ) (n i e : ℕ) → i + n ≡ e → e ≤ length ws
    → same_list S (map (λ t. word ws t) (from i n) ++ vs) (drop i ws) ≡ same_list S vs (drop e ws)
unfolding same_list from
nodes-same S ws vs zero i e h k = let q : i ≡ e = omega arith in rw q
nodes-same S ws vs (suc n) i e h k = rw (drop-step ws i (omega arith), same_list, same_self (word ws i)) (nodes-same S ws vs n (i + 1) e (omega arith) k)

-- what is left of the comparison once i values have been looked at
abbrev pub numbered_from : List ℕ → List ℕ → ℕ → ℕ → Bool
numbered_from w ws seen i =
    same_list (scheme w) (value_words (publics w) (from (publics w) seen) (map (state_of (scheme w) ws).value (from (publics w + i) (bounds w - i)))) (drop (threads w + i) ws)

module _ (w ws : List ℕ) (size : length ws ≡ threads w + bounds w) where
  pub numbered-start : same_list (scheme w) (state_words (scheme w) (state_of (scheme w) ws)) ws ≡ numbered_from w ws 0 0
  unfolding state_words state_of scheme from
  numbered-start =
      let a : threads w + 0 ≡ threads w = omega arith in
      let b : publics w + 0 ≡ publics w = omega arith in
      let d : bounds w - 0 ≡ bounds w = omega arith in
      rw (a, b, d) (nodes-same (scheme w) ws _ (threads w) 0 (threads w) (omega arith) (omega arith))

  module _ (seen i v : ℕ) (more : i < bounds w) (is : v ≡ word ws (threads w + i)) (small : v < 65536) where
    pub numbered_more : numbered_from w ws seen i ≡ after_turn (λ n. numbered_from w ws n (i + 1)) (next_seen_of (publics w) seen v)
    numbered_more =
        let q : bounds w - i ≡ suc (bounds w - (i + 1)) = omega arith in
        let x : publics w + i - publics w ≡ i = omega arith in
        let u : (state_of (scheme w) ws).value (publics w + i) ≡ value_at v = (value-bound w ws (publics w + i) v (omega arith) (omega arith) (rw x is) small).is in
        let y : publics w + i + 1 ≡ publics w + (i + 1) = omega arith in
        let z : threads w + i + 1 ≡ threads w + (i + 1) = omega arith in
        let l : from (publics w + i) (bounds w - i) ≡ (publics w + i) ∷ from (publics w + (i + 1)) (bounds w - (i + 1)) = rw (q, ← y) (opened (publics w + i) (bounds w - (i + 1))) in
        rw (l, u, drop-step ws (threads w + i) (omega arith), ← is, z)
        (numbered-turn (scheme w) (publics w) seen v (map (state_of (scheme w) ws).value (from (publics w + (i + 1)) (bounds w - (i + 1)))) (drop (threads w + (i + 1)) ws))

  pub numbered-end : (seen i : ℕ) → bounds w ≤ i → numbered_from w ws seen i ≡ true
  unfolding value_words same_list from
  numbered-end seen i h =
      let q : bounds w - i ≡ 0 = omega arith in
      rw (q, drop-none ws (threads w + i) (omega arith))

-- ---- where a value stands in a list, as a search for it tells

place_from : (v k : ℕ) (us : List ℕ) (n : ℕ) → k + length us ≡ n → unwrap_or (position_from (λ u. eqb u v) k us) n ≡ k + place v us
unfolding place same
place_from v k [] n e = omega arith
place_from v k (u ∷ us) n e = go (eqb u v) refl (place_from v (k + 1) us n (omega arith))
  where
    go : (b : Bool) → eqb u v ≡ b → unwrap_or (position_from (λ u. eqb u v) (k + 1) us) n ≡ k + 1 + place v us
        → unwrap_or (position_from (λ u. eqb u v) k (u ∷ us)) n ≡ k + place v (u ∷ us)
    go true q ih = rw (q, place, same-sym v u, q) (omega arith)
    go false q ih = rw (q, place, same-sym v u, q) (ih ∙ omega arith)

pub place_first : (v : ℕ) (us : List ℕ) (n : ℕ) → length us ≡ n → unwrap_or (position_from (λ u. eqb u v) 0 us) n ≡ place v us
place_first v us n e = place_from v 0 us n (omega arith) ∙ omega arith

-- ---- one word more

place_found : (v : ℕ) (us : List ℕ) → (place v us ≡ length us → ⊥) → member v us ≡ true
place_found v us d = not-false-true (member v us) (λ h. d (place_none v us h))

found-place : (v : ℕ) (us : List ℕ) → member v us ≡ true → place v us < length us
unfolding place member
found-place v [] h = absurd (false≢true h)
found-place v (u ∷ us) h = go (same v u) refl (found-place v us)
  where
    go : (d : Bool) → same v u ≡ d → (member v us ≡ true → place v us < length us) → place v (u ∷ us) < length (u ∷ us)
    go true e ih = rw (e, place) (omega arith)
    go false e ih = let k : member v us ≡ true = rw e at h in let j = ih k in rw (e, place) (omega arith)

module _ (P : ℕ) (seen : List ℕ) (count v : ℕ) (N : Numberable P seen count v) where
  seen-length : length (slice 0 count seen) ≡ count
  seen-length = length-slice 0 count seen (omega (arith, N.room)) ∙ sub-zero count

  pub turn-missing : v ≡ 65535 → Turned P seen count v seen 65535 count
  unfolding value_words
  turn-missing h = record { words = λ os. rw (same-yes v 65535 h); grows = omega arith; same_length = refl; small = omega arith }

  module _ (d : v ≡ 65535 → ⊥) where
    pub turn-public : v < P → Turned P seen count v seen v count
    unfolding value_words
    turn-public h = record { words = λ os. rw (same-no v 65535 d, lt-ltb v P h, value_words); grows = omega arith; same_length = refl; small = N.small }

    module _ (p : ℕ) (l : P ≤ v) (e : p ≡ place v (slice 0 count seen)) where
      pub turn-old : (p ≡ count → ⊥) → Turned P seen count v seen (P + p) count
      unfolding value_words noted
      turn-old q =
          let m : member v (slice 0 count seen) ≡ true = place_found v (slice 0 count seen) (λ r. q (e ∙ r ∙ seen-length)) in
          let u : p < count = omega (arith, found-place v (slice 0 count seen) m, seen-length) in
          record { words = λ os. rw (same-no v 65535 d, le-ltb v P l, value_words, m, ← e); grows = omega arith; same_length = refl; small = omega (arith, N.few, N.few-seen) }

      pub turn-new : p ≡ count → Turned P seen count v (set seen count v) (P + p) (count + 1)
      unfolding value_words noted
      turn-new q =
          let m : member v (slice 0 count seen) ≡ false =
          not-true-false (member v (slice 0 count seen)) (λ t. let k = found-place v (slice 0 count seen) t in omega (arith, seen-length)) in
          let z : place v (slice 0 count seen ++ (v ∷ [])) ≡ p = place-last v (slice 0 count seen) m ∙ seen-length ∙ sym q in
          let a : slice 0 (count + 1) (set seen count v) ≡ slice 0 count seen ++ (v ∷ []) = rw add-one (take-suc-set seen count v N.room) in
          record { words = λ os. rw (same-no v 65535 d, le-ltb v P l, value_words, m, z, a); grows = omega arith; same_length = length-set seen count v; small = omega (arith, N.few, N.few-seen) }

      pub place-few : p ≤ count
      place-few = go (true-or-false (member v (slice 0 count seen)))
        where
          go : (member v (slice 0 count seen) ≡ true) ⊎ (member v (slice 0 count seen) ≡ false) → p ≤ count
          go (inl m) = omega (arith, found-place v (slice 0 count seen) m, seen-length)
          go (inr m) = omega (arith, place_none v (slice 0 count seen) m, seen-length)

-- ---- all values written

module _ (vs : List ℕ) (P T B i count : ℕ) (out seen : List ℕ) where
  -- what is left to write once i values are written
  abbrev pub values_left : List ℕ
  values_left = sets out (T + i) (value_words P (slice 0 count seen) (map value_at (slice i B vs)))

  pub values-done : B ≤ i → values_left ≡ out
  unfolding value_words
  values-done h = rw (slice-none vs i B h)

  pub values-turn : (v : ℕ) (after : List ℕ) (word_of next : ℕ) → i < B → B ≤ length vs → v ≡ word vs i → Turned P seen count v after word_of next
      → values_left ≡ sets (set out (T + i) word_of) (T + (i + 1)) (value_words P (slice 0 next after) (map value_at (slice (i + 1) B vs)))
  values-turn v after word_of next h k e N =
      let z : suc (T + i) ≡ T + (i + 1) = omega arith in
      rw (slice-step vs i B h k, ← e, N.words (map value_at (slice (i + 1) B vs)), ← z)

-- nothing is seen and nothing written
pub values-start : (vs : List ℕ) (P T B : ℕ) (out : List ℕ)
    → sets out T (value_words P [] (map value_at (take B vs))) ≡ sets out (T + 0) (value_words P [] (map value_at (slice 0 B vs)))
values-start vs P T B out = rw (add-zero T)

-- ---- values filled in one by one

pub fill_none : (f : ℕ → Option ℕ) (P : ℕ) → [] ≡ map f (from P 0)
unfolding from
fill_none f P = refl

pub fill_more : (f : ℕ → Option ℕ) (P i v : ℕ) (vs : List ℕ) → i < length vs → f (P + i) ≡ value_at v
    → map value_at (slice 0 i vs) ≡ map f (from P i) → map value_at (slice 0 (i + 1) (set vs i v)) ≡ map f (from P (i + 1))
fill_more f P i v vs h e q =
    let a : slice 0 (i + 1) (set vs i v) ≡ slice 0 i vs ++ (v ∷ []) = rw add-one (take-suc-set vs i v h) in
    let b : from P (i + 1) ≡ from P i ++ ((P + i) ∷ []) = rw add-one (from-snoc P i) in
    rw (a, b) (map-append value_at (slice 0 i vs) (v ∷ []) ∙ rw (q, ← e) (sym (map-append f (from P i) ((P + i) ∷ []))))

-- ---- whether values can be numbered

module _ (P : ℕ) (vs : List ℕ) (n i : ℕ) (before : List ℕ) where
  pub many-publics : 32 < P → Numbered P vs n i before false before
  many-publics h = record { answer = rw (lt-leb P 32 h); words = rw (lt-leb P 32 h) }

  module _ (p : P ≤ 32) where
    pub many-values : 32 < n → Numbered P vs n i before false before
    many-values h = record { answer = rw (le-leb P 32 p, lt-leb n 32 h); words = rw (le-leb P 32 p, lt-leb n 32 h) }

    module _ (q : n ≤ 32) where
      pub few-lent : length vs < n → Numbered P vs n i before false before
      few-lent h = record {
        answer = rw (le-leb P 32 p, le-leb n 32 q, lt-leb n (length vs) h);
        words = rw (le-leb P 32 p, le-leb n 32 q, lt-leb n (length vs) h);
      }

      pub all-numbered : n ≤ length vs → (after : List ℕ) → after ≡ sets before i (value_words P [] (map value_at (take n vs)))
          → Numbered P vs n i before true after
      all-numbered h after e = record {
        answer = rw (le-leb P 32 p, le-leb n 32 q, le-leb n (length vs) h);
        words = e ∙ rw (le-leb P 32 p, le-leb n 32 q, le-leb n (length vs) h);
      }
