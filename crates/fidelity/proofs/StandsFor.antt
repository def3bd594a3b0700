-- The marking of a well-formed configuration stands for a state, by the test of readback.
use Prim.Native.Nat.{ℕ, ◌+◌, ◌≤◌, ◌<◌}
use mathlib.Core.Path.{◌≡◌, refl, sym, ap, ◌∙◌}
use mathlib.Core.Logic.{◌≢◌}
use mathlib.Core.Bool.{Bool, true, false, not, ◌&&◌, ◌||◌, true≢false}
use mathlib.Core.Option.{Option, none, some}
use mathlib.Core.List.{List, [], ◌∷◌}
use native.Mathlib.Decide.{dec_le}
use native.Mathlib.Omega.{arith}
use borrow.Author.Tests.{lt-ltb, le-ltb}
use lib.ListN.{length}
use Rattle.lists.specs.Lists.{pick, bit, same, from, every, flat}
use Rattle.lists.proofs.Tests.{and_left, and_right, not-true-false, same_self}
use Rattle.lists.proofs.Ranges.{member-every, every-all, below-every, member-from}
use Rattle.lists.proofs.Members.{distinct_from}
use Rattle.lists.proofs.Counts.{flat-keep-length}
use Rattle.scheme.specs.Scheme.{Scheme}
use Rattle.table.specs.Accepted.{Accepted}
use Rattle.places.specs.Values.{Values, private_values_of}
use Rattle.places.specs.Places.{Place, equals, differs, free}
use Rattle.readback.specs.Configurations.{Configuration}
use Rattle.readback.specs.Reading.{has, configuration, first_value_of, has_one_spot, is_one_value, opposite, free_right, stands_for_state}
use Rattle.fidelity.specs.Inner.Marks.{holds, given, used, allows, WellFormed, exists-equals, exists-differs, exists-free}
use Rattle.fidelity.specs.Inner.Shapes.{EnoughValues}
use Rattle.fidelity.proofs.Basics.{holds-eq, holds-some}
use Rattle.readback.proofs.Elements.{member-element}
use Rattle.readback.proofs.Sifted.{flat-none, flat-only}
use Rattle.fidelity.proofs.Firing.{used-of, used-true}
use Rattle.fidelity.proofs.Places.{private-member}
use Rattle.fidelity.proofs.Readings.{marked_by, value_list, values-read, spots-read}
use Rattle.fidelity.proofs.Having.{has-mark}

module _ (S : Scheme) (U : Values) (A : Accepted S) (E : EnoughValues S U) (c : Configuration) (W : WellFormed S U c) where
  abbrev ms : List Place
  ms = marked_by S U A c

  one_spot : (θ : ℕ) → θ < S.threads → has_one_spot S U ms θ ≡ true
  one_spot θ l = rw (spots-read S U A c W θ l) (same_self 1)

  pub read_at : (θ : ℕ) → θ < S.threads → (configuration S U ms).at θ ≡ c.at θ
  unfolding configuration
  read_at θ l = rw (spots-read S U A c W θ l)

  one_value : (x : ℕ) → S.publics ≤ x → x < S.publics + S.bounds → is_one_value S U ms x ≡ true
  one_value x lo hi =
      rw (values-read S U A c W x lo hi, read_at (S.thread_of_name x) (A.name-thread x lo hi), ← W.held x lo) (go (c.value x))
    where
      go : (o : Option ℕ) → same (length (value_list S U A c W x lo hi o)) (bit (given o)) ≡ true
      go none = same_self 0
      go (some v) = same_self 1

  pair-test : (h : Bool) → pick (not h) (not h) h ≡ true
  pair-test true = refl
  pair-test false = refl

  opposites : (x v : ℕ) → S.publics ≤ x → x < S.publics + S.bounds → S.restricted x ≡ false → S.publics ≤ v → allows S U x v ≡ true
      → opposite S U ms x v ≡ true
  opposites x v lo hi r pv al =
      rw (
        has-mark S U A c (differs x v) (exists-differs lo hi r pv al),
        has-mark S U A c (equals x v) (exists-equals lo hi al),
      )
      (pair-test (holds (c.value x) v))

  -- ---- free values

  module _ (v : ℕ) (pv : S.publics ≤ v) (vv : v < S.publics + U.privates) where
    abbrev takers : ℕ → Bool
    takers x = S.restricted x && has ms (equals x v)

    taker-holds : (x : ℕ) → takers x ≡ true → (S.restricted x ≡ true) × (c.value x ≡ some v)
    taker-holds x h =
        let r : S.restricted x ≡ true = and_left (S.restricted x) (has ms (equals x v)) h in
        let (lo, hi) = A.restricted-bound x r in
        let e : has ms (equals x v) ≡ holds (c.value x) v = has-mark S U A c (equals x v) (exists-equals lo hi (E.makes x v r pv vv)) in
        (r, holds-eq (c.value x) v (sym e ∙ and_right (S.restricted x) (has ms (equals x v)) h))

    holds-taker : (x : ℕ) → S.restricted x ≡ true → c.value x ≡ some v → takers x ≡ true
    holds-taker x r q =
        let (lo, hi) = A.restricted-bound x r in
        rw (r, has-mark S U A c (equals x v) (exists-equals lo hi (E.makes x v r pv vv))) (holds-some (c.value x) v q)

    abbrev each : ℕ → List ℕ
    each x = pick (takers x) (x ∷ []) []

    takers-count : (b : Bool) → used S c.value v (S.publics + S.bounds) ≡ b → length (flat each (from S.publics S.bounds)) ≡ pick (not b) 0 1
    takers-count true u = go (used-true S U c.value v (S.publics + S.bounds) u)
      where
        go : (r : ℕ) × (r < S.publics + S.bounds) × (S.restricted r ≡ true) × (c.value r ≡ some v) → length (flat each (from S.publics S.bounds)) ≡ 1
        go (r, hi, rr, q) =
            let lo : S.publics ≤ r = (A.restricted-bound r rr).0 in
            let only : flat each (from S.publics S.bounds) ≡ each r
            = flat-only each r (from S.publics S.bounds) (distinct_from S.publics S.bounds)
            (member-element r (from S.publics S.bounds) (member-from r S.publics S.bounds lo hi)) (λ x n. rw (other x n)) in
            rw (only, holds-taker r rr q)
          where
            other : (x : ℕ) → x ≢ r → takers x ≡ false
            other x n = not-true-false (takers x) (λ h. let (rx, qx) = taker-holds x h in n (W.apart x r v rx rr qx q))
    takers-count false u = ap length (flat-none each (from S.publics S.bounds) (λ x i. rw (never x)))
      where
        never : (x : ℕ) → takers x ≡ false
        never x =
            not-true-false (takers x)
            (λ h. let (rx, qx) = taker-holds x h in
            true≢false (sym (used-of S U c.value v x (S.publics + S.bounds) (A.restricted-bound x rx).1 rx qx) ∙ u))

    free-right : free_right S U ms v ≡ true
    free-right =
        rw (
          has-mark S U A c (free v) (exists-free pv vv),
          ← flat-keep-length takers (λ x. x) (from S.publics S.bounds),
          takers-count (used S c.value v (S.publics + S.bounds)) refl,
        )
        (same_self (pick (not (used S c.value v (S.publics + S.bounds))) 0 1))

  -- ---- the whole test

  all-opposite : (x : ℕ) → S.publics ≤ x → x < S.publics + S.bounds → (S.restricted x || every (opposite S U ms x) (private_values_of S U x)) ≡ true
  all-opposite x lo hi = go (S.restricted x) refl
    where
      go : (b : Bool) → S.restricted x ≡ b → (b || every (opposite S U ms x) (private_values_of S U x)) ≡ true
      go true r = refl
      go false r = member-every (opposite S U ms x) (private_values_of S U x) (λ v m. let (pv, _, al) = private-member S U A x v m in opposites x v lo hi r pv al)

  pub stands-for : stands_for_state S U ms ≡ true
  unfolding stands_for_state
  stands-for =
      rw (
        below-every (has_one_spot S U ms) S.threads one_spot,
        every-all (is_one_value S U ms) S.publics S.bounds one_value,
        every-all (λ x. S.restricted x || every (opposite S U ms x) (private_values_of S U x)) S.publics S.bounds all-opposite,
      )
      (every-all (free_right S U ms) S.publics U.privates free-right)

  -- ---- the configuration read

  pub read-value : (x : ℕ) → x < S.publics + S.bounds → (configuration S U ms).value x ≡ c.value x
  unfolding configuration
  read-value x hi = go (dec_le S.publics x)
    where
      first : (o : Option ℕ) (lo : S.publics ≤ x) → first_value_of S U ms (value_list S U A c W x lo hi o) ≡ o
      first none lo = refl
      first (some v) lo = refl

      go : Dec (S.publics ≤ x) → (configuration S U ms).value x ≡ c.value x
      go (yes lo) = rw (le-ltb x S.publics lo, values-read S U A c W x lo hi) (first (c.value x) lo)
      go (no n) = rw (lt-ltb x S.publics (omega arith)) (sym (W.publics x (omega arith)))
