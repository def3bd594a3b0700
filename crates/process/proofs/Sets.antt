-- Laws of a run of stores: one run after another, a run that fits, and runs of a list's images or of one value, store by store.
use mathlib.Core.Path.{◌≡◌, ◌∙◌}
use mathlib.Core.List.{List, ◌++◌, map}
use Prim.Native.Nat.{ℕ, suc, ◌+◌, ◌-◌, ◌≤◌, ◌<◌}
use native.Mathlib.Numerals.{add-one}
use native.Mathlib.Omega.{arith}
use lib.ListN.{length, set, drop, replicate}
use lib.Seq.{sets, sets-eq}
use Rattle.lists.specs.Lists.{from}
use Rattle.lists.proofs.Ranges.{from_more, from-done}

-- a run from the start that fits
pub sets-whole : (l ws : List ℕ) → length ws ≤ length l → sets l 0 ws ≡ ws ++ drop (length ws) l
sets-whole l ws h = let h' : 0 + length ws ≤ length l = omega arith in sets-eq ws l 0 h' ∙ (let e : 0 + length ws ≡ length ws = omega arith in rw e)

module _ (f : ℕ → ℕ) (out : List ℕ) where
  -- the images of the numbers from i up to e, written from place k on
  pub sets-map-more : (k i e : ℕ) → i < e → sets out k (map f (from i (e - i))) ≡ sets (set out k (f i)) (k + 1) (map f (from (i + 1) (e - (i + 1))))
  sets-map-more k i e h = rw (from_more i e h, add-one k)

  pub sets-map-done : (k i e : ℕ) → e ≤ i → sets out k (map f (from i (e - i))) ≡ out
  sets-map-done k i e h = rw (from-done i e h)

-- one value, n times
pub sets-fill-more : (out : List ℕ) (v k i e : ℕ) → i < e → sets out k (replicate (e - i) v) ≡ sets (set out k v) (k + 1) (replicate (e - (i + 1)) v)
sets-fill-more out v k i e h = let q : e - i ≡ suc (e - (i + 1)) = omega arith in rw (q, add-one k)

pub sets-fill-done : (out : List ℕ) (v k i e : ℕ) → e ≤ i → sets out k (replicate (e - i) v) ≡ out
sets-fill-done out v k i e h = let q : e - i ≡ 0 = omega arith in rw q
