-- Private values as sets: those whose [*≠n] is marked, the one that a restricted name has, and both, in which each private value comes once.
use mathlib.Core.Path.{◌≡◌, refl, sym, ap, ◌∙◌}
use mathlib.Core.Logic.{◌⊎◌, inl, inr}
use mathlib.Core.Bool.{Bool, true, false, ◌&&◌, ◌||◌}
use mathlib.Core.Option.{Option, get_or}
use mathlib.Core.List.{List, [], ◌∷◌, map}
use Prim.Native.Nat.{ℕ, suc, ◌+◌, ◌-◌, ◌^◌, ◌≤◌, ◌<◌}
use native.Mathlib.Decide.{ℕ_discrete, dec_lt}
use native.Mathlib.Omega.{arith}
use lib.Bits.{bit_or}
use lib.Dec.{eqb, ltb}
use lib.ListN.{length, length-map}
use borrow.Author.Tests.{lt-ltb, le-ltb, ltb-true}
use Rattle.lists.specs.Lists.{pick, bit, same, word, from, range, every, keep, member}
use Rattle.lists.proofs.Tests.{false-true, not-true-false, and_left, and_right, and-true, and-false, or_cases, or-false}
use Rattle.lists.proofs.Tests.{same-yes, same_self, same-no, same_true, same-sym}
use Rattle.lists.proofs.Ranges.{from_more, from-done, from-length, from-get_or, from_member, member-from, every-below, every-same}
use Rattle.lists.proofs.Members.{member-here, member-one, member-keep, keep-yes, keep-no, keep-length}
use Rattle.scheme.specs.Words.{publics, bounds}
use Rattle.scheme.specs.Scheme.{Scheme, scheme}
use Rattle.table.specs.Causes.{cause}
use Rattle.table.proofs.Accepted.{accepted}
use Rattle.process.specs.Inner.Values.{value_at}
use Rattle.places.specs.Values.{values_of}
use Rattle.places.specs.Sets.{bit_at}
use Rattle.places.specs.Rows.{free_start_of}
use Rattle.places.specs.Plan.{privates_at, free_at, Laid}
use Rattle.places.specs.Inner.Plan.{today, privates_word, row_of}
use Rattle.places.proofs.Bits.{bit-zero, bit-one, bit-or}
use Rattle.places.proofs.Controls.{publics-are, few-publics, few-privates}
use Rattle.places.proofs.Plans.{privates-are, free-is}
use Rattle.places.proofs.ReachRows.{values-are, restricted-alone, restricted-yes}
use Rattle.readback.specs.Inner.Hits.{token, hits}
use Rattle.readback.specs.Inner.Standing.{value_of, values_at, holds_at, holders_at, freed_for, freed_all}
use Rattle.readback.specs.Inner.Holding.{IsName}
use Rattle.readback.specs.Inner.Freeing.{ValuesOnce, PrivateWord, taken_by, With, MarkedSet}
use Rattle.readback.proofs.Valuing.{from_first}

-- ---- one number more in a set

pub with_number : (set n : ℕ) → n < 64 → With set n (bit_or set (2 ^ n))
with_number set n l k = bit-or set (2 ^ n) k ∙ rw (bit-one n k, lt-ltb n 64 l)

pub with_none : (set n : ℕ) → 64 ≤ n → With set n set
with_none set n l k = rw (le-ltb n 64 l) (sym (or-false (bit_at set k)))

-- ---- the set of marked places, one place more at a time

below_more : (t : ℕ → Bool) (n k : ℕ) → (ltb k (n + 1) && t k) ≡ ((ltb k n && t k) || (t n && same n k))
below_more t n k = go (dec_lt k n) (ℕ_discrete n k)
  where
    go : Dec (k < n) → Dec (n ≡ k) → (ltb k (n + 1) && t k) ≡ ((ltb k n && t k) || (t n && same n k))
    go (yes l) d = rw (lt-ltb k n l, lt-ltb k (n + 1) (omega arith), same-no n k (λ q. omega arith), and-false (t n)) (sym (or-false (t k)))
    go (no l) (yes q) = rw (q, le-ltb k k (omega arith), lt-ltb k (k + 1) (omega arith), same_self k) (sym (and-true (t k)))
    go (no l) (no d) = rw (le-ltb k n (omega arith), le-ltb k (n + 1) (omega arith), same-no n k d) (sym (and-false (t n)))

module _ (m : List ℕ) (start : ℕ) where
  pub marks-none : MarkedSet m start 0 0
  marks-none k = rw (bit-zero k, le-ltb k 0 (omega arith))

  module _ (n set : ℕ) (M : MarkedSet m start n set) where
    pub marks-more : (next : ℕ) → n < 64 → token m (start + n) ≡ true → With set n next → MarkedSet m start (n + 1) next
    marks-more next l e W k = W k ∙ rw (M k, lt-ltb n 64 l, below_more (λ i. token m (start + i)) n k, e)

    pub marks-skip : token m (start + n) ≡ false → MarkedSet m start (n + 1) set
    marks-skip e k = rw (M k, below_more (λ i. token m (start + i)) n k, e) (sym (or-false (ltb k n && token m (start + k))))

-- ---- the private value of a restricted name

word_of : (v : ℕ) → get_or (value_at v) 65535 ≡ v
word_of v = go (ℕ_discrete v 65535)
  where
    go : Dec (v ≡ 65535) → get_or (value_at v) 65535 ≡ v
    go (yes p) = rw (same-yes v 65535 p) (sym p)
    go (no d) = rw (same-no v 65535 d)

-- of N private values those of the list are marked, one at most, and v is its word
record Alone (P N v : ℕ) (hs : List ℕ) : Type 0 where
  above : P ≤ v
  is : (n : ℕ) → n < N → member n hs ≡ same (v - P) n
  inside : v - P < 64 → v - P < N

one_hit : (P N v : ℕ) (hs : List ℕ) → P ≤ 32 → N ≤ 32 → length hs ≤ 1 → ((n : ℕ) → member n hs ≡ true → n < N)
    → value_of (map (word (from P N)) hs) ≡ value_at v → Alone P N v hs
unfolding member
one_hit P N v [] p n few below e =
    let q : 65535 ≡ v = ap (λ (o : Option ℕ). get_or o 65535) e ∙ word_of v in
    record { above = omega arith; is = λ k l. sym (same-no (v - P) k (λ z. omega arith)); inside = λ l. absurd (omega arith) }
one_hit P N v (h ∷ []) p n few below e =
    let l : h < N = below h (member-here h []) in
    let q : P + h ≡ v = sym (from-get_or P N h l) ∙ ap (λ (o : Option ℕ). get_or o 65535) e ∙ word_of v in
    let z : v - P ≡ h = omega arith in
    record { above = omega arith; is = λ k m. rw z (member-one k h ∙ same-sym k h); inside = λ m. omega arith }
one_hit P N v (h ∷ i ∷ hs) p n few below e = absurd (omega arith)

module _ (w m values : List ℕ) (ok : cause w ≡ 0) (found : ValuesOnce w m values) (x : ℕ) (nm : IsName w x) where
  abbrev S : Scheme
  S = scheme w

  abbrev hs : List ℕ
  hs = hits m (row_of w x) (privates_word w)

  in-hits : (n : ℕ) → member n hs ≡ (token m (row_of w x + n) && member n (range (privates_word w)))
  unfolding hits
  in-hits n = member-keep (λ i. token m (row_of w x + i)) n (range (privates_word w))

  hits-inside : (n : ℕ) → member n hs ≡ true → n < privates_word w
  hits-inside n h =
      omega (arith, from_member n 0 (privates_word w) (and_right (token m (row_of w x + n)) (member n (range (privates_word w))) (sym (in-hits n) ∙ h)))

  values-private : S.restricted x ≡ true → values_of S (today w) x ≡ from (publics w) (privates_word w)
  values-private r =
      let A = accepted w ok in
      values-are S A x ∙ rw (restricted-alone S A x r, restricted-yes S A x r) (ap (λ (p : ℕ). from p (privates_word w)) (publics-are w))

  row-marks : S.restricted x ≡ true → values_at S m x ≡ map (word (from (publics w) (privates_word w))) hs
  unfolding values_at
  row-marks r = rw (values-private r, from-length (publics w) (privates_word w))

  row-alone : S.restricted x ≡ true → Alone (publics w) (privates_word w) (word values x) hs
  row-alone r =
      let e = row-marks r in
      let few : length hs ≤ 1 = omega (arith, found.once x nm, ap (λ (l : List ℕ). length l) e, length-map hs (word (from (publics w) (privates_word w)))) in
      one_hit (publics w) (privates_word w) (word values x) hs (few-publics w ok) (few-privates w ok) few hits-inside
      (ap value_of (sym e) ∙ found.are x nm.0 nm.1)

  pub private-word : PrivateWord w values x
  private-word r = (row-alone r).above

  module _ (n : ℕ) (n-is : n ≡ taken_by w values x) where
    pub taken : (k : ℕ) → k < privates_word w → holds_at S m k x ≡ same n k
    taken k l = rw n-is (go (S.restricted x) refl)
      where
        go : (b : Bool) → S.restricted x ≡ b → (b && token m (row_of w x + k)) ≡ same (pick b (word values x - publics w) 64) k
        go true r =
            sym (in-hits k ∙ rw (member-from k 0 (privates_word w) (omega arith) (omega arith)) (and-true (token m (row_of w x + k)))) ∙ (row-alone r).is k l
        go false r = sym (same-no 64 k (λ q. omega (arith, few-privates w ok)))

    pub taken-inside : n < 64 → n < privates_word w
    taken-inside = rw n-is (go (S.restricted x) refl)
      where
        go : (b : Bool) → S.restricted x ≡ b → pick b (word values x - publics w) 64 < 64 → pick b (word values x - publics w) 64 < privates_word w
        go true r l = (row-alone r).inside l
        go false r l = absurd (omega arith)

-- ---- each private value once

same-suc : (a b : ℕ) → same (suc a) (suc b) ≡ same a b
same-suc a b = go (ℕ_discrete a b)
  where
    go : Dec (a ≡ b) → same (suc a) (suc b) ≡ same a b
    go (yes q) = rw (same-yes a b q) (same-yes (suc a) (suc b) (omega arith))
    go (no d) = rw (same-no a b d) (same-no (suc a) (suc b) (λ q. d (omega arith)))

-- as many pass as there are
all-kept : (p : ℕ → Bool) (xs : List ℕ) → same (length (keep p xs)) (length xs) ≡ every p xs
unfolding keep every
all-kept p [] = same_self 0
all-kept p (x ∷ xs) = go (p x) (all-kept p xs)
  where
    go : (b : Bool) → same (length (keep p xs)) (length xs) ≡ every p xs
        → same (length (pick b (x ∷ keep p xs) (keep p xs))) (suc (length xs)) ≡ (b && every p xs)
    go true h = same-suc (length (keep p xs)) (length xs) ∙ h
    go false h = same-no (length (keep p xs)) (suc (length xs)) (λ q. omega (arith, keep-length p xs))

tested : (a b : ℕ) → eqb a b ≡ same a b
unfolding same
tested a b = refl

-- a private value that n names have, with its mark: both come to one or to none, or to more
once : (a b : Bool) (n : ℕ) → bit a + n ≡ bit b + 0 → same n (pick a 0 1) ≡ b
once true true n h = same-yes n 0 (omega arith)
once true false n h = absurd (omega arith)
once false true n h = same-yes n 1 (omega arith)
once false false n h = same-no n 1 (λ q. omega arith)

twice : (a : Bool) (n c : ℕ) → bit a + n ≡ 1 + suc c → same n (pick a 0 1) ≡ false
twice true n c h = same-no n 0 (λ q. omega arith)
twice false n c h = same-no n 1 (λ q. omega arith)

-- the set has each private value that is marked as free or that a name below x has; the names from x up to e are left
pub record Counting (w m : List ℕ) (set x e : ℕ) : Type 0 where
  pub counted : (k : ℕ) → k < privates_word w
      → bit (token m (free_start_of (scheme w) (today w) + k)) + length (holders_at (scheme w) m k)
      ≡ bit (bit_at set k) + length (keep (holds_at (scheme w) m k) (from x (e - x)))
  pub inside : (k : ℕ) → bit_at set k ≡ true → k < privates_word w

module _ (w index m : List ℕ) (L : Laid w index) where
  pub counting-start : (P B : ℕ) → P ≡ publics w → B ≡ bounds w → (set : ℕ) → MarkedSet m (word index free_at) (word index privates_at) set
      → Counting w m set P (P + B)
  counting-start P B p b set M = record {
    counted = λ k l. rw (M k, lt-ltb k (word index privates_at) (omega (arith, privates-are w index L)), free-is w index L, from_first w m P B p b);
    inside = λ k h.
        let l = ltb-true k (word index privates_at) (and_left (ltb k (word index privates_at)) (token m (word index free_at + k)) (sym (M k) ∙ h)) in
        omega (arith, l, privates-are w index L);
  }

  -- nothing is left
  pub counting-done : (set x e : ℕ) → Counting w m set x e → e ≤ x → (r n : ℕ) → r ≡ length (keep (bit_at set) (range n)) → n ≡ word index privates_at
      → eqb r n ≡ freed_all (scheme w) m
  unfolding freed_all keep
  counting-done set x e C h r n r-is n-is =
      let q : n ≡ privates_word w = n-is ∙ privates-are w index L in
      tested r n
      ∙ rw (r-is, q)
      (ap (same (length (keep (bit_at set) (range (privates_word w))))) (sym (from-length 0 (privates_word w)))
      ∙ all-kept (bit_at set) (range (privates_word w))
      ∙ sym (every-same (freed_for (scheme w) m) (bit_at set) (range (privates_word w))
      (λ k i. once (token m (free_start_of (scheme w) (today w) + k)) (bit_at set k) (length (holders_at (scheme w) m k))
      (rw (from-done x e h) at (C.counted k (omega (arith, from_member k 0 (privates_word w) i)))))))

module _ (w m : List ℕ) (ok : cause w ≡ 0) (set x e : ℕ) (C : Counting w m set x e) (h : x < e) (n : ℕ)
    (is : (k : ℕ) → k < privates_word w → holds_at (scheme w) m k x ≡ same n k) where
  -- the names left that have private value k, past x
  abbrev left : ℕ → List ℕ
  left k = keep (holds_at (scheme w) m k) (from (x + 1) (e - (x + 1)))

  next-has : (k : ℕ) → k < privates_word w → n ≡ k → keep (holds_at (scheme w) m k) (from x (e - x)) ≡ x ∷ left k
  next-has k l q = rw (from_more x e h) (keep-yes (holds_at (scheme w) m k) x (from (x + 1) (e - (x + 1))) (is k l ∙ same-yes n k q))

  next-not : (k : ℕ) → k < privates_word w → (n ≡ k → ⊥) → keep (holds_at (scheme w) m k) (from x (e - x)) ≡ left k
  next-not k l d = rw (from_more x e h) (keep-no (holds_at (scheme w) m k) x (from (x + 1) (e - (x + 1))) (is k l ∙ same-no n k d))

  -- two have the same private value, or one has it though it is marked as free
  pub counting-twice : bit_at set n ≡ true → freed_all (scheme w) m ≡ false
  unfolding freed_all
  counting-twice b =
      let l = C.inside n b in
      not-true-false (every (freed_for (scheme w) m) (range (privates_word w)))
      (λ q. false-true
      (twice (token m (free_start_of (scheme w) (today w) + n)) (length (holders_at (scheme w) m n)) (length (left n))
      (rw (b, next-has n l refl) at (C.counted n l)))
      (every-below (freed_for (scheme w) m) (privates_word w) q n l))

  -- one name more
  counted-more : (next k : ℕ) → bit_at set n ≡ false → With set n next → k < privates_word w
      → bit (bit_at set k) + length (keep (holds_at (scheme w) m k) (from x (e - x))) ≡ bit (bit_at next k) + length (left k)
  counted-more next k b W l = rw (W k) (go (ℕ_discrete n k))
    where
      go : Dec (n ≡ k)
          → bit (bit_at set k) + length (keep (holds_at (scheme w) m k) (from x (e - x))) ≡ bit (bit_at set k || (ltb n 64 && same n k)) + length (left k)
      go (yes q) =
          let z : bit_at set k ≡ false = ap (bit_at set) (sym q) ∙ b in
          rw (next-has k l q, z, lt-ltb n 64 (omega (arith, few-privates w ok)), same-yes n k q) (omega arith)
      go (no d) = rw (next-not k l d, same-no n k d, and-false (ltb n 64), or-false (bit_at set k))

  pub counting_more : (next : ℕ) → bit_at set n ≡ false → (n < 64 → n < privates_word w) → With set n next → Counting w m next (x + 1) e
  counting_more next b i W = record { counted = λ k l. C.counted k l ∙ counted-more next k b W l; inside = within }
    where
      within : (k : ℕ) → bit_at next k ≡ true → k < privates_word w
      within k q = go (or_cases (bit_at set k) (ltb n 64 && same n k) (sym (W k) ∙ q))
        where
          go : (bit_at set k ≡ true) ⊎ ((ltb n 64 && same n k) ≡ true) → k < privates_word w
          go (inl z) = C.inside k z
          go (inr z) =
              let q : n ≡ k = same_true n k (and_right (ltb n 64) (same n k) z) in
              omega (arith, i (ltb-true n 64 (and_left (ltb n 64) (same n k) z)))
