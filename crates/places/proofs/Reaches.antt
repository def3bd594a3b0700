-- The two sets of a name's reach list its values, and those of two reaches together the common values.
use Rattle.std.proofs.Common.{◌≡◌, ℕ, ◌+◌, ◌-◌, ◌<◌, ◌≤◌, Bool, true, false, not, ◌&&◌, List, sym, refl, ◌∙◌, arith}
use lib.Bits.{bit_and, and_le_l}
use Rattle.lists.specs.Lists.{same, from, range, some, keep}
use Rattle.lists.proofs.Tests.{both_ways, and_left}
use Rattle.lists.proofs.Ranges.{member-from, from_member}
use Rattle.lists.proofs.Members.{keep_same}
use Rattle.scheme.specs.Words.{publics, bounds}
use Rattle.scheme.specs.Scheme.{Scheme, scheme}
use Rattle.table.specs.Causes.{cause}
use Rattle.table.specs.Accepted.{Accepted}
use Rattle.table.proofs.Accepted.{accepted}
use Rattle.places.specs.Values.{Values, shares}
use Rattle.places.specs.Reach.{has_private_values}
use Rattle.places.specs.Sets.{bit_at}
use Rattle.places.specs.Places.{common}
use Rattle.places.specs.Reaches.{public_set_word, restricted_set_word, reach_for, common_reach}
use Rattle.places.specs.Inner.Plan.{today, privates_word, values, reached, Lists}
use Rattle.places.proofs.Tallies.{some-intro, some-elim}
use Rattle.places.proofs.Bits.{bit-and, bit-set, set-small, set-some}
use Rattle.places.proofs.Arriving.{restricted-in}
use Rattle.places.proofs.ReachRows.{values-are, common-are}

-- a test of numbers counted from p
some-from : (f g : ℕ → Bool) (p n : ℕ) → ((k : ℕ) → k < n → f k ≡ g (p + k)) → some f (range n) ≡ some g (from p n)
some-from f g p n h = both_ways (some f (range n)) (some g (from p n)) forth back
  where
    forth : some f (range n) ≡ true → some g (from p n) ≡ true
    forth q =
        let (k, m, e) = some-elim f (range n) q in
        let l : k < n = omega (arith, from_member k 0 n m) in
        some-intro g (p + k) (from p n) (member-from (p + k) p n (omega arith) (omega arith)) (sym (h k l) ∙ e)

    back : some g (from p n) ≡ true → some f (range n) ≡ true
    back q =
        let (o, m, e) = some-elim g (from p n) q in
        let (lo, hi) = from_member o p n m in
        let z : p + (o - p) ≡ o = omega arith in
        some-intro f (o - p) (range n) (member-from (o - p) 0 n (omega arith) (omega arith)) (h (o - p) (omega arith) ∙ rw z e)

-- what implies a test is not changed by it
implied : (r b : Bool) → (b ≡ true → r ≡ true) → b ≡ (r && b)
implied true b h = refl
implied false true h = sym (h refl)
implied false false h = refl

module _ (w : List ℕ) (h : cause w ≡ 0) where
  abbrev S : Scheme
  S = scheme w

  abbrev U : Values
  U = today w

  abbrev A : Accepted S
  A = accepted w h

  pub public-bit : (x v : ℕ) → v < publics w → bit_at (public_set_word w x) v ≡ U.origins x v
  public-bit x v l = bit-set (U.origins x) (publics w) v l

  pub restricted-bit : (x k : ℕ) → k < bounds w → bit_at (restricted_set_word w x) k ≡ U.origins x (publics w + k)
  restricted-bit x k l = bit-set (λ k. U.origins x (publics w + k)) (bounds w) k l

  -- the publics below v in a reach
  pub publics-kept : (x v : ℕ) → v ≤ publics w → keep (bit_at (public_set_word w x)) (range v) ≡ keep (U.origins x) (range v)
  publics-kept x v l =
      keep_same (bit_at (public_set_word w x)) (U.origins x) (range v) (λ z m. public-bit x z (omega (arith, from_member z 0 v m)))

  is-restricted : (x k : ℕ) → U.origins x (publics w + k) ≡ true → S.restricted (publics w + k) ≡ true
  unfolding scheme
  is-restricted x k e = restricted-in S A x (publics w + k) (omega arith) e

  -- a restricted name is in the reach
  pub privates-told : (x : ℕ) → not (same (restricted_set_word w x) 0) ≡ has_private_values S x
  unfolding has_private_values scheme
  privates-told x =
      set-some (bounds w) (restricted_set_word w x) (set-small (λ k. U.origins x (publics w + k)) (bounds w))
      ∙ some-from (bit_at (restricted_set_word w x)) (λ o. S.restricted o && U.origins x o) (publics w) (bounds w)
      (λ k l. restricted-bit x k l ∙ implied (S.restricted (publics w + k)) (U.origins x (publics w + k)) (is-restricted x k))

  -- it is in both
  pub shares-told : (a e : ℕ) → not (same (bit_and (restricted_set_word w a) (restricted_set_word w e)) 0) ≡ shares S U a e
  unfolding shares scheme
  shares-told a e =
      set-some (bounds w) (bit_and (restricted_set_word w a) (restricted_set_word w e))
      (omega (arith, and_le_l (restricted_set_word w a) (restricted_set_word w e), set-small (λ k. U.origins a (publics w + k)) (bounds w)))
      ∙ some-from (bit_at (bit_and (restricted_set_word w a) (restricted_set_word w e))) (λ o. S.restricted o && (U.origins a o && U.origins e o)) (publics w)
      (bounds w)
      (λ k l. bit-and (restricted_set_word w a) (restricted_set_word w e) k ∙ rw (restricted-bit a k l, restricted-bit e k l)
      (implied (S.restricted (publics w + k)) (U.origins a (publics w + k) && U.origins e (publics w + k))
      (λ b. is-restricted a k (and_left (U.origins a (publics w + k)) (U.origins e (publics w + k)) b))))

  -- ---- lists of values

  pub reach-lists : (x : ℕ) → Lists (publics w) (privates_word w) (reach_for w x) (values w x)
  unfolding reached scheme
  reach-lists x = record { is = rw (publics-kept x (publics w) (omega arith), privates-told x) (sym (values-are S A x)) }

  both-bit : (a e v : ℕ) → v < publics w → bit_at (bit_and (public_set_word w a) (public_set_word w e)) v ≡ (U.origins e v && U.origins a v)
  both-bit a e v l = bit-and (public_set_word w a) (public_set_word w e) v ∙ rw (public-bit a v l, public-bit e v l) (turned (U.origins a v) (U.origins e v))
    where
      turned : (a b : Bool) → (a && b) ≡ (b && a)
      turned true true = refl
      turned true false = refl
      turned false true = refl
      turned false false = refl

  pub common-lists : (a e : ℕ) → Lists (publics w) (privates_word w) (common_reach (reach_for w a) (reach_for w e)) (common S U a e)
  unfolding reached common_reach scheme
  common-lists a e = record {
    is = rw (
      keep_same (bit_at (bit_and (public_set_word w a) (public_set_word w e))) (λ v. U.origins e v && U.origins a v) (range (publics w))
          (λ v m. both-bit a e v (omega (arith, from_member v 0 (publics w) m))),
      shares-told a e,
    )
        (sym (common-are S A a e));
  }
