-- The first number of a range that passes a test.
use mathlib.Core.Path.{◌≡◌, refl, sym, ◌∙◌}
use mathlib.Core.Bool.{Bool, true, false, ◌&&◌}
use mathlib.Core.List.{List, [], ◌∷◌}
use mathlib.Core.Logic.{◌⊎◌, inl, inr}
use Prim.Native.Nat.{ℕ, zero, suc, ◌+◌, ◌-◌, ◌≤◌, ◌<◌}
use native.Mathlib.Decide.{ℕ_discrete}
use native.Mathlib.Omega.{arith}
use Rattle.lists.specs.Lists.{pick, same, range, flat, member, times, first_from}
use Rattle.lists.proofs.Tests.{false-true, not-true-false, same-sym}
use Rattle.lists.proofs.Ranges.{member-from, from_member}
use Rattle.lists.proofs.Members.{member-one, member-flat, flat-member}
use Rattle.lists.proofs.Counts.{member-times, times-member, flat-unique}

-- r is the first of the n numbers from a on that passes
pub record First (p : ℕ → Bool) (a n r : ℕ) : Type 0 where
  pub low : a ≤ r
  pub high : r < a + n
  pub passes : p r ≡ true
  pub least : (i : ℕ) → a ≤ i → i < r → p i ≡ false

module _ (p : ℕ → Bool) (d : ℕ) where
  -- ---- a search that stands at i

  pub first-here : (i e : ℕ) → i < e → p i ≡ true → first_from (e - i) p i d ≡ i
  unfolding first_from
  first-here i e h q = let k : e - i ≡ suc (e - (i + 1)) = omega arith in rw (k, q)

  pub first_more : (i e : ℕ) → i < e → p i ≡ false → first_from (e - i) p i d ≡ first_from (e - (i + 1)) p (i + 1) d
  unfolding first_from
  first_more i e h q = let k : e - i ≡ suc (e - (i + 1)) = omega arith in rw (k, q)

  pub first_done : (i e : ℕ) → e ≤ i → first_from (e - i) p i d ≡ d
  unfolding first_from
  first_done i e h = let k : e - i ≡ 0 = omega arith in rw k

  -- ---- what the search finds

  -- it finds a first number, or nothing passes
  abbrev pub Looked : ℕ → ℕ → Type 0
  Looked n a = First p a n (first_from n p a d) ⊎ ((first_from n p a d ≡ d) × ((i : ℕ) → a ≤ i → i < a + n → p i ≡ false))

  none_here : (a m : ℕ) → p a ≡ false → ((i : ℕ) → a + 1 ≤ i → i < m → p i ≡ false) → (i : ℕ) → a ≤ i → i < m → p i ≡ false
  none_here a m h f i l u = go (ℕ_discrete i a)
    where
      go : Dec (i ≡ a) → p i ≡ false
      go (yes e) = rw e h
      go (no e) = f i (omega arith) u

  first_step : (n a : ℕ) (b : Bool) → p a ≡ b → Looked n (a + 1) → Looked (suc n) a
  unfolding first_from
  first_step n a true h r = inl (rw h (record { low = omega arith; high = omega arith; passes = h; least = λ i l u. absurd (omega arith) }))
  first_step n a false h (inl f) =
      let below = none_here a (first_from n p (a + 1) d) h f.least in
      inl (rw h (record { low = omega arith; high = omega arith; passes = f.passes; least = below }))
  first_step n a false h (inr (e, f)) = inr (rw h (e, λ i l u. none_here a (a + 1 + n) h f i l (omega arith)))

  pub first-cases : (n a : ℕ) → Looked n a
  unfolding first_from
  first-cases zero a = inr (refl, λ i l u. absurd (omega arith))
  first-cases (suc n) a = first_step n a (p a) refl (first-cases n (a + 1))

  -- something passes
  pub first_found : (n a i : ℕ) → a ≤ i → i < a + n → p i ≡ true → First p a n (first_from n p a d)
  first_found n a i l u q = go (first-cases n a)
    where
      go : Looked n a → First p a n (first_from n p a d)
      go (inl f) = f
      go (inr r) = false-true (r.1 i l u) q

  -- nothing passes
  pub first-none : (n a : ℕ) → ((i : ℕ) → a ≤ i → i < a + n → p i ≡ false) → first_from n p a d ≡ d
  first-none n a h = go (first-cases n a)
    where
      go : Looked n a → first_from n p a d ≡ d
      go (inl f) = false-true (h (first_from n p a d) f.low f.high) f.passes
      go (inr r) = r.0

  -- i alone passes
  pub first-only : (n a i : ℕ) → a ≤ i → i < a + n → p i ≡ true → ((j : ℕ) → a ≤ j → j < a + n → p j ≡ true → j ≡ i) → first_from n p a d ≡ i
  first-only n a i l u q f = let r = first_found n a i l u q in f (first_from n p a d) r.low r.high r.passes

pub first-same : (p q : ℕ → Bool) (d n a : ℕ) → ((i : ℕ) → a ≤ i → i < a + n → p i ≡ q i) → first_from n p a d ≡ first_from n q a d
unfolding first_from
first-same p q d zero a h = refl
first-same p q d (suc n) a h = rw (h a (omega arith) (omega arith), first-same p q d n (a + 1) (λ i l u. h i (omega arith) (omega arith)))

-- ---- which of several lists a number stands in

-- a test that tells in which of `count` lists k stands
pub record Search (k : ℕ) : Type 0 where
  pub count : ℕ
  pub lists : ℕ → List ℕ
  pub test : ℕ → Bool
  pub tells : (i : ℕ) → test i ≡ member k (lists i)

-- how often k stands in them all, and the first one in which it stands
abbrev pub hits : {k : ℕ} → Search k → ℕ
hits {k} s = times k (flat s.lists (range s.count))

abbrev pub found : {k : ℕ} → Search k → ℕ
found s = first_from s.count s.test 0 s.count

pub hit-member : {k : ℕ} (s : Search k) (i : ℕ) → i < s.count → s.test i ≡ true → member k (flat s.lists (range s.count)) ≡ true
hit-member {k} s i u m =
    member-flat s.lists k i (range s.count) (member-from i 0 s.count (omega arith) (omega arith)) (sym (s.tells i) ∙ m)

pub some-hit : {k : ℕ} (s : Search k) (i : ℕ) → i < s.count → s.test i ≡ true → 1 ≤ hits s
some-hit {k} s i u m = member-times k (flat s.lists (range s.count)) (hit-member s i u m)

pub hit-some : {k : ℕ} (s : Search k) → 1 ≤ hits s → (i : ℕ) × (i < s.count) × (s.test i ≡ true)
hit-some {k} s h =
    let q = flat-member s.lists k (range s.count) (times-member k (flat s.lists (range s.count)) h) in
    (q.source, omega (arith, from_member q.source 0 s.count q.stands), s.tells q.source ∙ q.gives)

pub found_nowhere : {k : ℕ} (s : Search k) → ((i : ℕ) → i < s.count → s.test i ≡ true → ⊥) → found s ≡ s.count
found_nowhere s f = first-none s.test s.count s.count 0 (λ i l u. not-true-false (s.test i) (f i (omega arith)))

pub found_none : {k : ℕ} (s : Search k) → hits s ≡ 0 → found s ≡ s.count
found_none s h = found_nowhere s (λ i l m. omega (arith, h, some-hit s i l m))

pub found-one : {k : ℕ} (s : Search k) (i : ℕ) → hits s ≤ 1 → i < s.count → s.test i ≡ true → found s ≡ i
found-one {k} s i h u m = first-only s.test s.count s.count 0 i (omega arith) (omega arith) m other
  where
    stands : (j : ℕ) → j < s.count → member j (range s.count) ≡ true
    stands j v = member-from j 0 s.count (omega arith) (omega arith)

    other : (j : ℕ) → 0 ≤ j → j < 0 + s.count → s.test j ≡ true → j ≡ i
    other j l v q =
        flat-unique s.lists k j i (range s.count) h (stands j (omega arith)) (stands i u) (sym (s.tells j) ∙ q) (sym (s.tells i) ∙ m)

-- k is the one number of a list, or of a list that may be empty
pub tells-one : (k x : ℕ) → same x k ≡ member k (x ∷ [])
tells-one k x = same-sym x k ∙ sym (member-one k x)

pub tells-some : (k x : ℕ) (b : Bool) → (b && same x k) ≡ member k (pick b (x ∷ []) [])
unfolding member
tells-some k x true = tells-one k x
tells-some k x false = refl
