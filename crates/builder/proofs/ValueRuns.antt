-- The values that a name may have, gone through from the first on: the numbers of a set that come first, those behind them, and the private values.
use mathlib.Core.Path.{◌≡◌, refl, sym, ap, subst, ◌∙◌}
use mathlib.Core.Bool.{Bool, true, false, not, true≢false}
use mathlib.Core.List.{List, ◌∷◌, ◌++◌, append_assoc, append-nil}
use mathlib.Core.Logic.{◌⊎◌, inl, inr}
use Prim.Native.Nat.{ℕ, zero, suc, ◌+◌, ◌-◌, ◌*◌, ◌/◌, ◌%◌, ◌^◌, ◌≤◌, ◌<◌}
use native.Mathlib.Decide.{ℕ_discrete, dec_le}
use native.Mathlib.Nat.{mod-eq_of_lt}
use native.Mathlib.Omega.{arith}
use lib.Bits.{bit_and, and_le_l, and_lt}
use lib.Count.{count_trailing_zeros, under}
use lib.ListN.{length, drop}
use lib.Pow.{pow_pos, shl-shr, split}
use lib.Seq.{drop-append_seam}
use Rattle.lists.specs.Lists.{same, word, from, range, keep}
use Rattle.lists.proofs.Tests.{same-yes, same-no, same_true}
use Rattle.lists.proofs.Ranges.{from-append, from_member, from-length, from_more, from-done}
use Rattle.lists.proofs.Members.{keep_append, keep_all, keep-none, keep_same}
use Rattle.scheme.specs.Words.{publics}
use Rattle.scheme.specs.Scheme.{scheme}
use Rattle.places.specs.Sets.{bit_at}
use Rattle.places.specs.Reach.{values_for}
use Rattle.places.specs.Reaches.{common_reach}
use Rattle.places.specs.Plan.{reach_in, Laid}
use Rattle.places.specs.declared.reach.Reach.{Reach}
use Rattle.places.proofs.Plans.{reach-is}
use Rattle.places.specs.Inner.Plan.{reached}
use Rattle.places.proofs.Bits.{bit-first, bit-later, bit_shifted, bit-low, bit-zero, bit_past, low-in, low-none, numbers-past, digits-small, set-small}
use Rattle.places.proofs.Scanning.{lowest-small, lowest-first, numbers-none}
use Rattle.builder.proofs.Counted.{Counted}
use Rattle.builder.specs.Inner.Spans.{values_in, Narrow, Parted, Fits, ByReach, Ones, Run, Behind}
use Rattle.builder.specs.declared.spans.Values.{Values}
use Rattle.builder.specs.declared.spans.Span.{Span}

-- ---- digits from the low end

-- the ones below the lowest zero are the zeros of the number behind
ones_below : (n x k : ℕ) → k < count_trailing_zeros n (x + 1) → bit_at x k ≡ true
unfolding count_trailing_zeros
ones_below zero x k h = absurd (omega arith)
ones_below (suc n) x k h = go (x % 2) refl k h (λ j l. ones_below n (x / 2) j l)
  where
    go : (d : ℕ) → x % 2 ≡ d → (k : ℕ) → k < under ((x + 1) % 2) (count_trailing_zeros n ((x + 1) / 2))
        → ((j : ℕ) → j < count_trailing_zeros n (x / 2 + 1) → bit_at (x / 2) j ≡ true) → bit_at x k ≡ true
    go zero e k l ih = let q : (x + 1) % 2 ≡ 1 = omega arith in absurd (none (rw q at l))
      where
        none : k < 0 → ⊥
        none m = omega arith
    go (suc d) e zero l ih = bit-first x ∙ same-yes (x % 2) 1 (omega arith)
    go (suc d) e (suc k) l ih =
        let q : (x + 1) % 2 ≡ 0 = omega arith in
        let r : (x + 1) / 2 ≡ x / 2 + 1 = omega arith in
        bit-later x k ∙ ih k (less (rw (q, r) at l))
      where
        less : suc k < suc (count_trailing_zeros n (x / 2 + 1)) → k < count_trailing_zeros n (x / 2 + 1)
        less m = omega arith

ones-some : (n x : ℕ) → bit_at x 0 ≡ true → 0 < count_trailing_zeros (suc n) (x + 1)
unfolding count_trailing_zeros
ones-some n x h =
    let d : x % 2 ≡ 1 = same_true (x % 2) 1 (sym (bit-first x) ∙ h) in
    let q : (x + 1) % 2 ≡ 0 = omega arith in
    rw q (omega arith)

-- the public names in a reach are names
reach-small : (w i : List ℕ) → Laid w i → (z : ℕ) (r : Reach) → r ≡ reach_in i z → r.publics < 2 ^ publics w
reach-small w i L z r e =
    subst (λ (n : ℕ). n < 2 ^ publics w) (sym (ap (λ (q : Reach). q.publics) (e ∙ reach-is w i L z)))
    (set-small ((values_for (scheme w)).origins z) (publics w))

common-small : (w i : List ℕ) → Laid w i → (a b : ℕ) (x y r : Reach) → x ≡ reach_in i a → y ≡ reach_in i b → r ≡ common_reach x y
    → r.publics < 2 ^ publics w
unfolding common_reach
common-small w i L a b x y r f g h =
    subst (λ (n : ℕ). n < 2 ^ publics w) (sym (ap (λ (q : Reach). q.publics) h))
    (and_lt (publics w) x.publics y.publics (reach-small w i L a x f) (reach-small w i L b y g))

fits : (w : List ℕ) (ps ns : ℕ) (r : Reach) → Counted w ps ns → r.publics < 2 ^ publics w → Fits ps ns r
fits w ps ns r k s = record {
  few-publics = omega (arith, k.publics-are, k.few-publics);
  few-privates = omega (arith, k.privates-are, k.few-privates);
  small = subst (λ (n : ℕ). r.publics < 2 ^ n) (sym k.publics-are) s;
}

pub reach-fits : (w i : List ℕ) → Laid w i → (ps ns : ℕ) → Counted w ps ns → (z : ℕ) (r : Reach) → r ≡ reach_in i z → Fits ps ns r
reach-fits w i L ps ns k z r e = fits w ps ns r k (reach-small w i L z r e)

pub common-fits : (w i : List ℕ) → Laid w i → (ps ns : ℕ) → Counted w ps ns → (a b : ℕ) (x y r : Reach) → x ≡ reach_in i a → y ≡ reach_in i b
    → r ≡ common_reach x y → Fits ps ns r
common-fits w i L ps ns k a b x y r f g h = fits w ps ns r k (common-small w i L a b x y r f g h)

-- ---- the first numbers of a set

pub first_run : (set low count : ℕ) → (set ≡ 0 → ⊥) → set < 4294967296 → low ≡ count_trailing_zeros 64 set → count ≡ count_trailing_zeros 64 (set / 2 ^ low + 1)
    → (0 < count) × Ones set low count
first_run set low count d small e f = (
  omega (arith, f, ones-some 63 (set / 2 ^ low) (bit_shifted set low 0 ∙ ap (bit_at set) z ∙ rw e (low-in 64 set (omega (arith, d)) (omega arith)).1)),
  record {
    none = λ k h. low-none 64 set k (omega arith);
    all = λ k h l.
        let q : low + (k - low) ≡ k = omega arith in
        ap (bit_at set) (sym q) ∙ sym (bit_shifted set low (k - low)) ∙ ones_below 64 (set / 2 ^ low) (k - low) (omega arith);
  },
)
  where
    z : low + 0 ≡ low
    z = omega arith

-- they are among the digits
ones-end : (p set low count : ℕ) → Ones set low count → 0 < count → set < 2 ^ p → low + count ≤ p
ones-end p set low count o h s = go (dec_le (low + count) p)
  where
    go : Dec (low + count ≤ p) → low + count ≤ p
    go (yes l) = l
    go (no l) =
        let k = low + count - 1 in
        absurd (true≢false (sym (o.all k (omega arith) (omega arith)) ∙ bit_past p set k s (omega arith)))

-- `rest` has what is behind them
record Rest (set low count rest : ℕ) : Type 0 where
  first : (k : ℕ) → k < low + count → bit_at rest k ≡ false
  later : (k : ℕ) → low + count ≤ k → bit_at rest k ≡ bit_at set k

keep_run : (set low count rest : ℕ) → low + count ≤ 64 → Ones set low count → Rest set low count rest
    → keep (bit_at set) (range 64) ≡ from low count ++ keep (bit_at rest) (range 64)
keep_run set low count rest h o r =
    parts (bit_at set)
    ∙ rw (
      keep-none (bit_at set) (range low) (λ k m. o.none k (omega (arith, (from_member k 0 low m).1))),
      keep_all (bit_at set) (from low count) (λ k m. let q = from_member k low count m in o.all k q.0 q.1),
      keep_same (bit_at set) (bit_at rest) (from (low + count) (64 - (low + count))) (λ k m. sym (r.later k (from_member k _ _ m).0)),
    )
    (sym (ap (λ (l : List ℕ). from low count ++ l) (parts (bit_at rest) ∙ rw (
      keep-none (bit_at rest) (range low) (λ k m. r.first k (omega (arith, (from_member k 0 low m).1))),
      keep-none (bit_at rest) (from low count) (λ k m. r.first k (from_member k low count m).1),
    ))))
  where
    whole : range 64 ≡ range low ++ (from low count ++ from (low + count) (64 - (low + count)))
    whole =
        let a : 64 ≡ low + (count + (64 - (low + count))) = omega arith in
        let z : 0 + low ≡ low = omega arith in
        ap (from 0) a ∙ from-append 0 low (count + (64 - (low + count))) ∙ rw (z, from-append low count (64 - (low + count)))

    parts : (b : ℕ → Bool) → keep b (range 64) ≡ keep b (range low) ++ (keep b (from low count) ++ keep b (from (low + count) (64 - (low + count))))
    parts b =
        ap (keep b) whole
        ∙ keep_append b (range low) (from low count ++ from (low + count) (64 - (low + count)))
        ∙ ap (λ (l : List ℕ). keep b (range low) ++ l) (keep_append b (from low count) (from (low + count) (64 - (low + count))))

-- without the first digits
rest-cut : (set low count rest : ℕ) → rest ≡ set / 2 ^ (low + count) * 2 ^ (low + count) → Rest set low count rest
rest-cut set low count rest e = record {
  first = λ k h. rw e (sym (bit-low t k (set / 2 ^ t * 2 ^ t) h) ∙ rw none (bit-zero k));
  later = λ k h.
      let q : k ≡ t + (k - t) = omega arith in
      rw e (ap (bit_at (set / 2 ^ t * 2 ^ t)) q ∙ sym (bit_shifted (set / 2 ^ t * 2 ^ t) t (k - t)) ∙ rw (shl-shr (set / 2 ^ t) t) (bit_shifted set t (k - t))
      ∙ ap (bit_at set) (sym q));
}
  where
    t : ℕ
    t = low + count

    none : set / 2 ^ t * 2 ^ t % 2 ^ t ≡ 0
    none = let z : set / 2 ^ t * 2 ^ t ≡ set / 2 ^ t * 2 ^ t + 0 = omega arith in rw z (lib.Pow.low (set / 2 ^ t) t (pow_pos t))

cut_small : (set t : ℕ) → set / 2 ^ t * 2 ^ t ≤ set
cut_small set t = below (set / 2 ^ t * 2 ^ t) (set % 2 ^ t) set (split set t)
  where
    below : (a b n : ℕ) → a + b ≡ n → a ≤ n
    below a b n e = omega arith

-- ---- the values

-- a list in two parts, and without the first
behind-part : (xs ys zs : List ℕ) (n : ℕ) → length xs ≡ n → zs ≡ xs ++ ys → ys ≡ drop n zs
behind-part xs ys zs n e f = sym (rw (f, ← e) (drop-append_seam xs ys))

module _ (x : Values) (n : Narrow x) where
  publicly : (low count : ℕ) (y : Values) → low + count ≤ 64 → Ones x.set low count → Rest x.set low count y.set → y.low ≡ x.low
      → y.end ≡ x.end → values_in x ≡ from low count ++ values_in y
  unfolding values_in
  publicly low count y h o r e f =
      rw (e, f, keep_run x.set low count y.set h o r) (append_assoc (from low count) (keep (bit_at y.set) (range 64)) (from x.low (x.end - x.low)))

  pub privately : x.set ≡ 0 → values_in x ≡ from x.low (x.end - x.low)
  unfolding values_in
  privately e = rw (e, numbers-none)

  abbrev one : Values
  one = record { set = bit_and x.set (x.set - 1); low = x.low; end = x.end }

  abbrev high : ℕ → Values
  high low = record { set = 0; low = low; end = x.end }

  values-first : (x.set ≡ 0 → ⊥) → values_in x ≡ count_trailing_zeros 64 x.set ∷ values_in one
  unfolding values_in
  values-first d = rw (lowest-first x.set d (omega (arith, n.small)))

  values_low : x.set ≡ 0 → x.low < x.end → values_in x ≡ x.low ∷ values_in (high (x.low + 1))
  unfolding values_in
  values_low e h = privately e ∙ rw (numbers-none) (from_more x.low x.end h)

  some-low : x.set ≡ 0 → 0 < length (values_in x) → x.low < x.end
  some-low e h = omega (arith, ap (λ (l : List ℕ). length l) (privately e), from-length x.low (x.end - x.low))

  -- ---- whether there are any, and the first

  pub none-not : (x.set ≡ 0 → ⊥) → false ≡ same (length (values_in x)) 0
  none-not d = sym (same-no (length (values_in x)) 0 (λ e. omega (arith, ap (λ (l : List ℕ). length l) (values-first d))))

  pub none_is : x.set ≡ 0 → same x.low x.end ≡ same (length (values_in x)) 0
  none_is e = rw (privately e, from-length x.low (x.end - x.low)) (go (ℕ_discrete x.low x.end))
    where
      go : Dec (x.low ≡ x.end) → same x.low x.end ≡ same (x.end - x.low) 0
      go (yes q) = same-yes x.low x.end q ∙ sym (same-yes (x.end - x.low) 0 (omega arith))
      go (no q) = same-no x.low x.end q ∙ sym (same-no (x.end - x.low) 0 (λ z. q (omega (arith, n.rises))))

  pub first_small : (x.set ≡ 0 → ⊥) → count_trailing_zeros 64 x.set < 64
  first_small d = lowest-small x.set d (omega (arith, n.small))

  pub first-public : (x.set ≡ 0 → ⊥) → count_trailing_zeros 64 x.set ≡ word (values_in x) 0
  first-public d = rw (values-first d)

  pub first-private : x.set ≡ 0 → 0 < length (values_in x) → x.low ≡ word (values_in x) 0
  first-private e h = rw (values_low e (some-low e h))

  pub behind-public : (x.set ≡ 0 → ⊥) → Behind x 1 one
  behind-public d = record {
    narrow = record { small = omega (arith, n.small, and_le_l x.set (x.set - 1)); rises = n.rises; few = n.few };
    parted = λ p q. record { small = omega (arith, q.small, and_le_l x.set (x.set - 1)); above = q.above };
    is = sym (ap (drop 1) (values-first d));
  }

  pub behind-private : x.set ≡ 0 → 0 < length (values_in x) → Behind x 1 (high (x.low + 1))
  behind-private e h = record {
    narrow = record { small = omega arith; rises = omega (arith, some-low e h); few = n.few };
    parted = λ p q. record { small = pow_pos p; above = omega (arith, q.above) };
    is = sym (ap (drop 1) (values_low e (some-low e h)));
  }

  -- ---- the first run, and those behind

  pub run-public : (low count : ℕ) → (x.set ≡ 0 → ⊥) → low ≡ count_trailing_zeros 64 x.set → count ≡ count_trailing_zeros 64 (x.set / 2 ^ low + 1)
      → Run x (record { low = low; count = count })
  run-public low count d e f =
      let r = first_run x.set low count d n.small e f in
      record { some = r.0; public = λ q. r.1; private = λ q. absurd (d q) }

  pub run-private : x.set ≡ 0 → 0 < length (values_in x) → Run x (record { low = x.low; count = x.end - x.low })
  run-private e h = record { some = omega (arith, some-low e h); public = λ q. absurd (q e); private = λ q. (refl, refl) }

  module _ (s : Span) (r : Run x s) where
    -- the digits of a run
    pub run_end : (x.set ≡ 0 → ⊥) → s.low + s.count ≤ 32
    run_end d = ones-end 32 x.set s.low s.count (r.public d) r.some (omega (arith, n.small))

    pub run-few : s.low + s.count ≤ 64
    run-few = go (ℕ_discrete x.set 0)
      where
        go : Dec (x.set ≡ 0) → s.low + s.count ≤ 64
        go (yes e) = omega (arith, (r.private e).0, (r.private e).1, n.rises, n.few)
        go (no d) = omega (arith, run_end d)

    pub run-kind : (p : ℕ) → Parted p x → (s.low + s.count ≤ p) ⊎ (p ≤ s.low)
    run-kind p q = go (ℕ_discrete x.set 0)
      where
        go : Dec (x.set ≡ 0) → (s.low + s.count ≤ p) ⊎ (p ≤ s.low)
        go (yes e) = inr (omega (arith, (r.private e).0, q.above))
        go (no d) = inl (ones-end p x.set s.low s.count (r.public d) r.some q.small)

    abbrev cut : Values
    cut = record { set = x.set / 2 ^ (s.low + s.count) * 2 ^ (s.low + s.count); low = x.low; end = x.end }

    split-public : (x.set ≡ 0 → ⊥) → values_in x ≡ from s.low s.count ++ values_in cut
    split-public d =
        publicly s.low s.count cut (omega (arith, run_end d)) (r.public d) (rest-cut x.set s.low s.count _ refl) refl refl

    split-private : x.set ≡ 0 → values_in x ≡ from s.low s.count ++ values_in (high x.end)
    unfolding values_in
    split-private e =
        privately e
        ∙ rw ((r.private e).0, (r.private e).1, numbers-none, from-done x.end x.end (omega arith))
        (sym (append-nil (from x.low (x.end - x.low))))

    behind-run : (y : Values) → values_in x ≡ from s.low s.count ++ values_in y → values_in y ≡ drop s.count (values_in x)
    behind-run y e = behind-part (from s.low s.count) (values_in y) (values_in x) s.count (from-length s.low s.count) e

    pub run_is : values_in x ≡ from s.low s.count ++ drop s.count (values_in x)
    run_is = go (ℕ_discrete x.set 0)
      where
        by : (y : Values) → values_in x ≡ from s.low s.count ++ values_in y → values_in x ≡ from s.low s.count ++ drop s.count (values_in x)
        by y e = e ∙ ap (λ (l : List ℕ). from s.low s.count ++ l) (behind-run y e)

        go : Dec (x.set ≡ 0) → values_in x ≡ from s.low s.count ++ drop s.count (values_in x)
        go (yes e) = by (high x.end) (split-private e)
        go (no d) = by cut (split-public d)

    pub cut-public : (x.set ≡ 0 → ⊥) → (k : ℕ) → k ≡ cut.set % 18446744073709551616 → Behind x s.count (record { set = k; low = x.low; end = x.end })
    cut-public d k e =
        let l = cut_small x.set (s.low + s.count) in
        let m : cut.set < 18446744073709551616 = omega (arith, n.small, l) in
        rw (e ∙ mod-eq_of_lt m) (record {
          narrow = record { small = omega (arith, n.small, l); rises = n.rises; few = n.few };
          parted = λ p q. record { small = omega (arith, q.small, l); above = q.above };
          is = behind-run cut (split-public d);
        })

    pub cut-private : x.set ≡ 0 → Behind x s.count (high x.end)
    cut-private e = record {
      narrow = record { small = omega arith; rises = omega arith; few = n.few };
      parted = λ p q. record { small = pow_pos p; above = omega (arith, q.above, n.rises) };
      is = behind-run (high x.end) (split-private e);
    }

-- one value
pub single : length (values_in (record { set = 1; low = 0; end = 0 })) ≡ 1
single =
    let x : Values = record { set = 1; low = 0; end = 0 } in
    let n : Narrow x = record { small = omega arith; rises = omega arith; few = omega arith } in
    let y : Values = record { set = bit_and 1 (1 - 1); low = 0; end = 0 } in
    let m : Narrow y = record { small = omega (arith, and_le_l 1 (1 - 1)); rises = omega arith; few = omega arith } in
    let a : length (values_in x) ≡ suc (length (values_in y)) = ap (λ (l : List ℕ). length l) (values-first x n (λ e. omega arith)) in
    let b : length (values_in y) ≡ length (from 0 (0 - 0)) = ap (λ (l : List ℕ). length l) (privately y m refl) in
    omega (arith, a, b, from-length 0 (0 - 0))

-- ---- the values by a reach

module _ (p n : ℕ) (r : Reach) (f : Fits p n r) where
  named : keep (bit_at r.publics) (range 64) ≡ keep (bit_at r.publics) (range p)
  named = numbers-past r.publics p 64 f.small (omega (arith, f.few-publics))

  abbrev up_to : ℕ → Values
  up_to end = record { set = r.publics; low = p; end = end }

  small_word : r.publics < 4294967296
  small_word = omega (arith, digits-small r.publics p f.few-publics, mod-eq_of_lt f.small)

  by_values : (end : ℕ) → p ≤ end → end ≤ p + n → values_in (up_to end) ≡ reached p n r → ByReach p n r (up_to end)
  by_values end h k e = record {
    narrow = record { small = small_word; rises = h; few = omega (arith, f.few-publics, f.few-privates) };
    parted = record { small = f.small; above = omega arith };
    is = e;
  }

  pub by_all : not (same r.restricted 0) ≡ true → ByReach p n r (up_to (p + n))
  unfolding values_in reached
  by_all h =
      let a : p + n - p ≡ n = omega arith in
      by_values (p + n) (omega arith) (omega arith) (rw (named, a, h))

  pub by-publics : not (same r.restricted 0) ≡ false → ByReach p n r (up_to p)
  unfolding values_in reached
  by-publics h = by_values p (omega arith) (omega arith) (rw (named, from-done p p (omega arith), h))
