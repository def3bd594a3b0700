-- What a right header and a right record tell of an image.
use mathlib.Core.Path.{◌≡◌, refl, ap, ◌∙◌}
use mathlib.Core.Bool.{Bool, true, false, ◌&&◌}
use mathlib.Core.List.{List}
use Prim.Native.Nat.{ℕ, ◌+◌, ◌-◌, ◌≤◌, ◌<◌}
use native.Mathlib.Omega.{arith}
use lib.Dec.{leb}
use lib.ListN.{length, take, drop}
use lib.Seq.{slice}
use borrow.Author.Tests.{le-leb, lt-leb, leb-true}
use Rattle.lists.specs.Lists.{same, word, from, every, ascends}
use Rattle.lists.proofs.Tests.{and_left, and_right, same-yes, same-no, same_true}
use Rattle.lists.proofs.Slices.{lent-part}
use Rattle.lists.proofs.Ranges.{every-start, every-below}
use Rattle.net.specs.Image.{place_count_of, transition_count, records_start, arcs_offset, given_length, initial_places, is_header_right}
use Rattle.net.specs.Image.{inputs_start, outputs_start, outputs_end, inputs_at, outputs_at, record_right, are_records_right}
use Rattle.net.specs.Inner.Arcs.{Header, Offsets, ArcsOf}

-- ---- the header, test by test

module _ (w : List ℕ) where
  pub header-short : length w < 8 → is_header_right w ≡ false
  unfolding is_header_right
  header-short h = rw (lt-leb 8 (length w))

  module _ (a : 8 ≤ length w) where
    pub header-first : (word w 5 ≡ 8 → ⊥) → is_header_right w ≡ false
    unfolding is_header_right
    header-first h = rw (le-leb 8 (length w), same-no (word w 5) 8)

    module _ (b : word w 5 ≡ 8) where
      pub header-second : (word w 6 ≡ records_start w → ⊥) → is_header_right w ≡ false
      unfolding is_header_right
      header-second h = rw (le-leb 8 (length w), same-yes (word w 5) 8, same-no (word w 6) (records_start w))

      module _ (c : word w 6 ≡ records_start w) where
        pub header-third : (word w 7 ≡ arcs_offset w → ⊥) → is_header_right w ≡ false
        unfolding is_header_right
        header-third h = rw (le-leb 8 (length w), same-yes (word w 5) 8, same-yes (word w 6) (records_start w), same-no (word w 7) (arcs_offset w))

        module _ (d : word w 7 ≡ arcs_offset w) where
          pub header-length : (length w ≡ given_length w → ⊥) → is_header_right w ≡ false
          unfolding is_header_right
          header-length h = rw (
            le-leb 8 (length w),
            same-yes (word w 5) 8,
            same-yes (word w 6) (records_start w),
            same-yes (word w 7) (arcs_offset w),
            same-no
                (length w) (given_length w),
          )

          pub header-list : length w ≡ given_length w → is_header_right w ≡ ascends (place_count_of w) 0 (initial_places w)
          unfolding is_header_right
          header-list h = rw (
            le-leb 8 (length w),
            same-yes (word w 5) 8,
            same-yes (word w 6) (records_start w),
            same-yes (word w 7) (arcs_offset w),
            same-yes
                (length w) (given_length w),
          )

-- ---- a right header

module _ (w : List ℕ) (h : is_header_right w ≡ true) where
  after-length : (same (word w 5) 8 &&
      (same (word w 6) (records_start w) &&
      (same (word w 7) (arcs_offset w) && (same (length w) (given_length w) && ascends (place_count_of w) 0 (initial_places w))))) ≡ true
  unfolding is_header_right
  after-length = and_right (leb 8 (length w))
      (same (word w 5) 8 && (same (word w 6) (records_start w) &&
      (same (word w 7) (arcs_offset w) && (same (length w) (given_length w) && ascends (place_count_of w) 0 (initial_places w))))) h

  after-offsets : (same (length w) (given_length w) && ascends (place_count_of w) 0 (initial_places w)) ≡ true
  after-offsets =
      and_right (same (word w 7) (arcs_offset w)) (same (length w) (given_length w) && ascends (place_count_of w) 0 (initial_places w))
      (and_right (same (word w 6) (records_start w))
      (same (word w 7) (arcs_offset w) && (same (length w) (given_length w) && ascends (place_count_of w) 0 (initial_places w)))
      (and_right (same (word w 5) 8) (same (word w 6) (records_start w) &&
      (same (word w 7) (arcs_offset w) && (same (length w) (given_length w) && ascends (place_count_of w) 0 (initial_places w)))) after-length))

  pub header : Header w
  unfolding is_header_right
  header =
      record {
        long = leb-true 8 (length w) (and_left (leb 8 (length w))
            (same (word w 5) 8 && (same (word w 6) (records_start w) &&
            (same (word w 7) (arcs_offset w) && (same (length w) (given_length w) && ascends (place_count_of w) 0 (initial_places w))))) h);
        exact = same_true (length w) (given_length w) (and_left (same (length w) (given_length w)) (ascends (place_count_of w) 0 (initial_places w)) after-offsets);
      }

  -- the initial places lie within the image, and ascend
  pub initial-ascend : ascends (place_count_of w) 0 (initial_places w) ≡ true
  initial-ascend = and_right (same (length w) (given_length w)) (ascends (place_count_of w) 0 (initial_places w)) after-offsets

-- ---- a record

-- a part as it is lent
pub part : (w : List ℕ) (a e : ℕ) → a ≤ e → take (e - a) (drop a w) ≡ slice a e w
part w a e h = let q : a + (e - a) ≡ e = omega arith in lent-part w a (e - a) ∙ ap (λ (k : ℕ). slice a k w) q

pub slices : (w : List ℕ) (a b i e : ℕ) → a ≡ i → b ≡ e → slice a b w ≡ slice i e w
slices w a b i e p q = cc

module _ (w : List ℕ) (t f c e : ℕ) (o : Offsets w t f c e) where
  pub inputs_are : slice f c w ≡ inputs_at w t
  inputs_are = slices w f c (inputs_start w t) (outputs_start w t) o.inputs_are o.outputs-are

  pub outputs-are : slice c e w ≡ outputs_at w t
  outputs-are = slices w c e (outputs_start w t) (outputs_end w t) o.outputs-are o.end_is

  pub before-arcs : f < arcs_offset w → record_right w t ≡ false
  unfolding record_right
  before-arcs p = let q : inputs_start w t < arcs_offset w = omega arith in rw (lt-leb (arcs_offset w) (inputs_start w t))

  module _ (p : arcs_offset w ≤ f) where
    from-arcs : leb (arcs_offset w) (inputs_start w t) ≡ true
    from-arcs = le-leb (arcs_offset w) (inputs_start w t) (omega arith)

    pub past_end : length w < e → record_right w t ≡ false
    unfolding record_right
    past_end q = rw (from-arcs, lt-leb (outputs_end w t) (length w) (omega arith))

    module _ (q : e ≤ length w) where
      to_end : leb (outputs_end w t) (length w) ≡ true
      to_end = le-leb (outputs_end w t) (length w) (omega arith)

      pub all_right : ascends (place_count_of w) 0 (slice f c w) ≡ true → ascends (place_count_of w) 0 (slice c e w) ≡ true → record_right w t ≡ true
      unfolding record_right
      all_right a b = rw (from-arcs, to_end, ← inputs_are, a, ← outputs-are, b)

      -- by what the two lists tell as they are lent
      pub lists_right : (a b : Bool) → a ≡ ascends (place_count_of w) 0 (take (c - f) (drop f w)) → b ≡ ascends (place_count_of w) 0 (take (e - c) (drop c w))
          → (a && b) ≡ record_right w t
      unfolding record_right
      lists_right a b x y =
          let i : take (c - f) (drop f w) ≡ inputs_at w t = part w f c (omega (arith, o.inputs_are, o.outputs-are)) ∙ inputs_are in
          let u : take (e - c) (drop c w) ≡ outputs_at w t = part w c e (omega (arith, o.outputs-are, o.end_is)) ∙ outputs-are in
          rw (x, y, from-arcs, to_end, i, u) refl

-- ---- a right record

module _ (w : List ℕ) (t : ℕ) (p : record_right w t ≡ true) where
  after-start : (leb (outputs_end w t) (length w) && (ascends (place_count_of w) 0 (inputs_at w t) && ascends (place_count_of w) 0 (outputs_at w t))) ≡ true
  unfolding record_right
  after-start = and_right (leb (arcs_offset w) (inputs_start w t))
      (leb (outputs_end w t) (length w) && (ascends (place_count_of w) 0 (inputs_at w t) && ascends (place_count_of w) 0 (outputs_at w t))) p

  lists : (ascends (place_count_of w) 0 (inputs_at w t) && ascends (place_count_of w) 0 (outputs_at w t)) ≡ true
  lists = and_right (leb (outputs_end w t) (length w)) (ascends (place_count_of w) 0 (inputs_at w t) && ascends (place_count_of w) 0 (outputs_at w t)) after-start

  pub arcs_within : outputs_end w t ≤ length w
  arcs_within = leb-true (outputs_end w t) (length w)
      (and_left (leb (outputs_end w t) (length w)) (ascends (place_count_of w) 0 (inputs_at w t) && ascends (place_count_of w) 0 (outputs_at w t)) after-start)

  pub inputs_ascend : ascends (place_count_of w) 0 (inputs_at w t) ≡ true
  inputs_ascend = and_left (ascends (place_count_of w) 0 (inputs_at w t)) (ascends (place_count_of w) 0 (outputs_at w t)) lists

  pub outputs_ascend : ascends (place_count_of w) 0 (outputs_at w t) ≡ true
  outputs_ascend = and_right (ascends (place_count_of w) 0 (inputs_at w t)) (ascends (place_count_of w) 0 (outputs_at w t)) lists

-- both lists of its arcs, for a marking of the places
pub both_ascend : (w : List ℕ) (t : ℕ) (ins outs : List ℕ) (k : ℕ) → ArcsOf w t ins outs → k ≡ place_count_of w → (ascends k 0 ins ≡ true) × (ascends k 0 outs ≡ true)
both_ascend w t ins outs k a e =
    (rw (e, a.inputs-are) (inputs_ascend w t a.right), rw (e, a.outputs-are) (outputs_ascend w t a.right))

-- the arcs that the offsets of a right record give
pub arcs-at : (w : List ℕ) (t f c e : ℕ) → (record_right w t ≡ true) × Offsets w t f c e → ArcsOf w t (slice f c w) (slice c e w)
arcs-at w t f c e p = record { right = p.0; inputs-are = inputs_are w t f c e p.1; outputs-are = outputs-are w t f c e p.1 }

-- its inputs lie within the image
pub inputs-within : (w : List ℕ) (t f c e : ℕ) → (record_right w t ≡ true) × Offsets w t f c e → c ≤ length w
inputs-within w t f c e p = omega (arith, arcs_within w t p.0, p.1.outputs-are)

-- ---- all records

pub all-records : (w : List ℕ) → are_records_right w ≡ every (record_right w) (from 0 (transition_count w - 0))
unfolding are_records_right
all-records w = every-start (record_right w) (transition_count w)

pub record_of : (w : List ℕ) → are_records_right w ≡ true → (t : ℕ) → t < transition_count w → record_right w t ≡ true
unfolding are_records_right
record_of w h t l = every-below (record_right w) (transition_count w) h t l
