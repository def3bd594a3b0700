-- Loops over the numbers of a set, the lowest first.
use Rattle.std.proofs.Common.{◌≡◌, ℕ, ◌+◌, ◌-◌, ◌^◌, ◌<◌, Bool, true, false, not, ◌&&◌, ◌||◌, ◌⊎◌, List, [], ◌∷◌, sym, refl, ap, ◌∙◌, inl, inr, arith}
use mathlib.Core.Bool.{false≢true}
use native.Mathlib.Decide.{ℕ_discrete}
use lib.Bits.{bit_and, bit_or, and_le_l, and_le_r}
use lib.Count.{count_trailing_zeros}
use Rattle.lists.specs.Lists.{same, word, from, range, some, keep, member}
use Rattle.lists.proofs.Tests.{both_ways, and_intro, and_left, and_right, and-true}
use Rattle.lists.proofs.Tests.{or_cases, or_left, or_right, or-false, or_assoc, not-true-false, same_self, same-no}
use Rattle.lists.proofs.Ranges.{from-append, from_more, member-from, from_member}
use Rattle.lists.proofs.Members.{keep_append, keep-none, keep_same, keep-yes, keep-no}
use Rattle.places.specs.Sets.{bit_at}
use Rattle.places.specs.Inner.Sets.{in_set, Gathers, Joined}
use Rattle.places.proofs.Tallies.{some-intro, some-elim}
use Rattle.places.proofs.Bits.{bit-or, bit-zero, low-in, low-none, low-left}
use Rattle.places.proofs.Growing.{joined-none, joined-then, joined_same}

pub lower : (left : ℕ) → (left ≡ 0 → ⊥) → bit_and left (left - 1) < left
lower left d = omega (arith, d, and_le_r left (left - 1))

-- the numbers kept of those below n, where none below z is
keep-above : (p : ℕ → Bool) (z n : ℕ) → z < n → ((k : ℕ) → k < z → p k ≡ false) → keep p (range n) ≡ keep p (z ∷ from (z + 1) (n - (z + 1)))
keep-above p z n h f =
    let e : n ≡ z + (n - z) = omega arith in
    let o : 0 + z ≡ z = omega arith in
    ap (λ (k : ℕ). keep p (range k)) e
    ∙ rw (
      from-append 0 z (n - z),
      o,
      keep_append p (range z) (from z (n - z)),
      keep-none p (range z) (λ k m. f k (omega (arith, (from_member k 0 z m).1))),
      from_more z n h,
    )

-- the lowest number of a set
module _ (left : ℕ) (d : left ≡ 0 → ⊥) (small : left < 2 ^ 64) where
  pub lowest-small : count_trailing_zeros 64 left < 64
  lowest-small = (low-in 64 left (omega (arith, d)) small).0

  lowest-in : bit_at left (count_trailing_zeros 64 left) ≡ true
  lowest-in = (low-in 64 left (omega (arith, d)) small).1

  without : (k : ℕ) → bit_at (bit_and left (left - 1)) k ≡ (bit_at left k && not (same k (count_trailing_zeros 64 left)))
  without k = low-left 64 left k (omega (arith, d)) small

  rest-small : bit_and left (left - 1) < 2 ^ 64
  rest-small = omega (arith, small, and_le_l left (left - 1))

  below : (k : ℕ) → k < count_trailing_zeros 64 left → bit_at (bit_and left (left - 1)) k ≡ false
  below k l = without k ∙ rw (low-none 64 left k l)

  -- the numbers of a set as a list: the lowest, then those of the set without it
  pub lowest-first : keep (bit_at left) (range 64) ≡ count_trailing_zeros 64 left ∷ keep (bit_at (bit_and left (left - 1))) (range 64)
  lowest-first =
      let z = count_trailing_zeros 64 left in
      let next = bit_and left (left - 1) in
      let above = from (z + 1) (64 - (z + 1)) in
      keep-above (bit_at left) z 64 lowest-small (low-none 64 left) ∙ keep-yes (bit_at left) z above lowest-in
      ∙ ap (λ (xs : List ℕ). z ∷ xs)
      (keep_same (bit_at left) (bit_at next) above
      (λ k m. sym (without k ∙ rw (same-no k z (λ e. omega (arith, (from_member k (z + 1) (64 - (z + 1)) m).0))) (and-true (bit_at left k))))
      ∙ sym (keep-above (bit_at next) z 64 lowest-small below ∙ keep-no (bit_at next) z above (without z ∙ rw (lowest-in, same_self z))))

pub numbers-none : keep (bit_at 0) (range 64) ≡ []
numbers-none = keep-none (bit_at 0) (range 64) (λ k m. bit-zero k)

-- what is left of a set
abbrev pub Left : ℕ → ℕ → Type 0
Left set left = ((k : ℕ) → bit_at left k ≡ true → bit_at set k ≡ true) × (left < 2 ^ 64)

pub left-start : (set : ℕ) → set < 2 ^ 64 → Left set set
left-start set h = (λ k q. q, h)

module _ (set left : ℕ) (d : left ≡ 0 → ⊥) (L : Left set left) where
  pub left-next : Left set (bit_and left (left - 1))
  left-next = (
    λ k q. L.0 k (and_left (bit_at left k) (not (same k (count_trailing_zeros 64 left))) (sym (without left d L.1 k) ∙ q)),
    rest-small left d L.1,
  )

  -- the lowest number that is left is in the set
  pub left_in : bit_at set (count_trailing_zeros 64 left) ≡ true
  left_in = L.0 (count_trailing_zeros 64 left) (lowest-in left d L.1)

-- ---- sets gathered

abbrev pub Gathering : List ℕ → ℕ → ℕ → ℕ → Type 0
Gathering ws set all left =
    ((o : ℕ) → some (λ k. bit_at set k && in_set ws k o) (range 64) ≡ (bit_at all o || some (λ k. bit_at left k && in_set ws k o) (range 64))) × (left < 2 ^ 64)

pub gather-start : (ws : List ℕ) (set : ℕ) → set < 2 ^ 64 → Gathering ws set 0 set
gather-start ws set h = (λ o. rw (bit-zero o), h)

pub gather-next : (ws : List ℕ) (set all left v : ℕ) → (left ≡ 0 → ⊥) → v ≡ word ws (count_trailing_zeros 64 left) → Gathering ws set all left
    → Gathering ws set (bit_or all v) (bit_and left (left - 1))
gather-next ws set all left v d e (f, small) = (
  λ o. f o ∙ rw (bit-or all v o, e, or_assoc (bit_at all o) (in_set ws z o) (some (λ k. bit_at next k && in_set ws k o) (range 64)), step o),
  rest-small left d small,
)
  where
    z : ℕ
    z = count_trailing_zeros 64 left

    next : ℕ
    next = bit_and left (left - 1)

    step : (o : ℕ) → some (λ k. bit_at left k && in_set ws k o) (range 64) ≡ (in_set ws z o || some (λ k. bit_at next k && in_set ws k o) (range 64))
    step o =
        both_ways (some (λ k. bit_at left k && in_set ws k o) (range 64)) (in_set ws z o || some (λ k. bit_at next k && in_set ws k o) (range 64))
        (λ h. let (k, m, q) = some-elim (λ k. bit_at left k && in_set ws k o) (range 64) h in forth k m q (ℕ_discrete k z))
        (λ h. back (or_cases (in_set ws z o) (some (λ k. bit_at next k && in_set ws k o) (range 64)) h))
      where
        forth : (k : ℕ) → member k (range 64) ≡ true → (bit_at left k && in_set ws k o) ≡ true → Dec (k ≡ z)
            → (in_set ws z o || some (λ k. bit_at next k && in_set ws k o) (range 64)) ≡ true
        forth k m q (yes p) =
            or_left (in_set ws z o) (some (λ k. bit_at next k && in_set ws k o) (range 64)) (rw p at (and_right (bit_at left k) (in_set ws k o) q))
        forth k m q (no p) =
            or_right (in_set ws z o) (some (λ k. bit_at next k && in_set ws k o) (range 64))
            (some-intro (λ k. bit_at next k && in_set ws k o) k (range 64) m
            (and_intro (bit_at next k) (in_set ws k o) (without left d small k ∙ rw (and_left (bit_at left k) (in_set ws k o) q, same-no k z p))
            (and_right (bit_at left k) (in_set ws k o) q)))

        back : (in_set ws z o ≡ true) ⊎ (some (λ k. bit_at next k && in_set ws k o) (range 64) ≡ true)
            → some (λ k. bit_at left k && in_set ws k o) (range 64) ≡ true
        back (inl h) =
            some-intro (λ k. bit_at left k && in_set ws k o) z (range 64) (member-from z 0 64 (omega arith) (omega (arith, lowest-small left d small)))
            (and_intro (bit_at left z) (in_set ws z o) (lowest-in left d small) h)
        back (inr h) =
            let (k, m, q) = some-elim (λ k. bit_at next k && in_set ws k o) (range 64) h in
            let p : (bit_at left k && not (same k z)) ≡ true = sym (without left d small k) ∙ and_left (bit_at next k) (in_set ws k o) q in
            some-intro (λ k. bit_at left k && in_set ws k o) k (range 64) m
            (and_intro (bit_at left k) (in_set ws k o) (and_left (bit_at left k) (not (same k z)) p) (and_right (bit_at next k) (in_set ws k o) q))

pub gather-end : (ws : List ℕ) (set all left : ℕ) → left ≡ 0 → Gathering ws set all left → Gathers ws set all
gather-end ws set all left e (f, small) o = sym (f o ∙ rw (e, none o) (or-false (bit_at all o)))
  where
    none : (o : ℕ) → some (λ k. bit_at 0 k && in_set ws k o) (range 64) ≡ false
    none o =
        not-true-false (some (λ k. bit_at 0 k && in_set ws k o) (range 64))
        (λ h. let (k, m, q) = some-elim (λ k. bit_at 0 k && in_set ws k o) (range 64) h in
        false≢true (sym (bit-zero k) ∙ and_left (bit_at 0 k) (in_set ws k o) q))

-- ---- a set joined to many

abbrev pub Spreading : ℕ → ℕ → List ℕ → List ℕ → Bool → ℕ → Type 0
Spreading set a before ws grew left =
    Joined before ws grew (λ y o. (bit_at set y && not (bit_at left y)) && bit_at a o) × ((y : ℕ) → bit_at left y ≡ true → bit_at set y ≡ true) × (left < 2 ^ 64)

pub spread-start : (set a : ℕ) (ws : List ℕ) → set < 2 ^ 64 → Spreading set a ws ws false set
spread-start set a ws h = (joined-none ws (λ y o. (bit_at set y && not (bit_at set y)) && bit_at a o) (λ y o. go (bit_at set y) (bit_at a o)), λ y q. q, h)
  where
    go : (b c : Bool) → ((b && not b) && c) ≡ false
    go true c = refl
    go false c = refl

pub spread-next : (set a : ℕ) (before ws after : List ℕ) (g h : Bool) (left : ℕ) → (left ≡ 0 → ⊥) → Spreading set a before ws g left
    → Joined ws after h (λ y o. same (count_trailing_zeros 64 left) y && bit_at a o) → Spreading set a before after (g || h) (bit_and left (left - 1))
spread-next set a before ws after g h left d (J, inc, small) K = (
  joined-then before ws after g h (λ y o. (bit_at set y && not (bit_at left y)) && bit_at a o) (λ y o. same z y && bit_at a o)
      (λ y o. (bit_at set y && not (bit_at next y)) && bit_at a o) (λ y o. split y o (ℕ_discrete z y)) J K,
  λ y q. inc y (and_left (bit_at left y) (not (same y z)) (sym (without left d small y) ∙ q)),
  rest-small left d small,
)
  where
    z : ℕ
    z = count_trailing_zeros 64 left

    next : ℕ
    next = bit_and left (left - 1)

    split : (y o : ℕ) → Dec (z ≡ y) → (((bit_at set y && not (bit_at left y)) && bit_at a o) || (same z y && bit_at a o))
        ≡ ((bit_at set y && not (bit_at next y)) && bit_at a o)
    split y o (yes p) =
        let b : bit_at left y ≡ true = rw p at (lowest-in left d small) in
        rw (without left d small y, inc y b, b, ← p, same_self z)
    split y o (no q) =
        rw (without left d small y, same-no z y q, same-no y z (λ e. q (sym e)), and-true (bit_at left y))
        (or-false ((bit_at set y && not (bit_at left y)) && bit_at a o))

pub spread_end : (set a : ℕ) (before ws : List ℕ) (g : Bool) (left : ℕ) → left ≡ 0 → Spreading set a before ws g left
    → Joined before ws g (λ y o. bit_at set y && bit_at a o)
spread_end set a before ws g left e (J, inc, small) =
    joined_same before ws g (λ y o. (bit_at set y && not (bit_at left y)) && bit_at a o) (λ y o. bit_at set y && bit_at a o)
    (λ y o. rw (e, bit-zero y, and-true (bit_at set y))) J
