-- Consecutive ranges and their copies, runs of numbers that are copied together, and entries of a fixed number of words.
use mathlib.Core.Path.{◌≡◌, refl, sym, ap, ◌∙◌}
use mathlib.Core.Bool.{Bool, true, false}
use mathlib.Core.List.{List, [], ◌∷◌, ◌++◌, map, append_assoc, append-nil}
use mathlib.Core.Logic.{◌⊎◌, inl, inr}
use Prim.Native.Nat.{ℕ, zero, suc, ◌+◌, ◌-◌, ◌*◌, ◌≤◌, ◌<◌}
use native.Mathlib.Decide.{ℕ_discrete}
use native.Mathlib.Nat.{mul-suc, mul-zero}
use native.Mathlib.Omega.{arith}
use lib.ListN.{length, length-append, get_or-append}
use lib.Seq.{get_or-append-add}
use Rattle.lists.specs.Lists.{same, word, from, keep, flat, member, Distinct}
use Rattle.lists.proofs.Tests.{false-true, not-true-false, and_both, same-yes, same-no, same_true}
use Rattle.lists.proofs.Ranges.{from-length, from-append, from_member}
use Rattle.lists.proofs.Members.{member-here, member-there, member-cases, member-nil, append-distinct, keep_append, keep_all}
use Rattle.table.specs.Causes.{consecutive}
use Rattle.process.specs.StateWords.{place}
use Rattle.rewriting.proofs.Appended.{place_at, group}

-- ---- consecutive ranges

module _ (w : List ℕ) (first size : ℕ → ℕ) where
  abbrev pub span_of : ℕ → List ℕ
  span_of n = from (first n) (size n)

  pub data Split (end a n : ℕ) (ns : List ℕ) : Type 0 where
    empty : size n ≡ 0 → consecutive w first size end a ns ≡ true → Split end a n ns
    next : (size n ≡ 0 → ⊥) → first n ≡ a → consecutive w first size end (a + size n) ns ≡ true → Split end a n ns

  split : (end a n : ℕ) (ns : List ℕ) → consecutive w first size end a (n ∷ ns) ≡ true → Split end a n ns
  unfolding consecutive
  split end a n ns h = go (ℕ_discrete (size n) 0)
    where
      go : Dec (size n ≡ 0) → Split end a n ns
      go (yes e) = empty e (rw (same-yes (size n) 0 e) at h)
      go (no d) =
          let t = and_both (same (first n) a) (consecutive w first size end (a + size n) ns) (rw (same-no (size n) 0 d) at h) in
          next d (same_true (first n) a t.0) t.1

  pub consecutive-empty : (end a n : ℕ) (ns : List ℕ) → size n ≡ 0 → consecutive w first size end a (n ∷ ns) ≡ consecutive w first size end a ns
  unfolding consecutive
  consecutive-empty end a n ns e = rw (same-yes (size n) 0 e)

  pub consecutive-next : (end a n : ℕ) (ns : List ℕ) → (size n ≡ 0 → ⊥) → first n ≡ a
      → consecutive w first size end a (n ∷ ns) ≡ consecutive w first size end (a + size n) ns
  unfolding consecutive
  consecutive-next end a n ns d e = rw (same-no (size n) 0 d, same-yes (first n) a e)

  -- they are all the numbers from the first to the end
  pub consecutive-flat : (end a : ℕ) (ns : List ℕ) → consecutive w first size end a ns ≡ true → (a ≤ end) × (flat span_of ns ≡ from a (end - a))
  unfolding consecutive flat from
  consecutive-flat end a [] h = let e = same_true a end h in (omega arith, let z : end - a ≡ 0 = omega arith in rw z)
  consecutive-flat end a (n ∷ ns) h = go (split end a n ns h) (λ c. consecutive-flat end c ns)
    where
      go : Split end a n ns → ((c : ℕ) → consecutive w first size end c ns ≡ true → (c ≤ end) × (flat span_of ns ≡ from c (end - c)))
          → (a ≤ end) × (from (first n) (size n) ++ flat span_of ns ≡ from a (end - a))
      go (empty e g) ih = let r = ih a g in (r.0, rw e r.1)
      go (next d e g) ih =
          let r = ih (a + size n) g in
          let k : end - a ≡ size n + (end - (a + size n)) = omega (arith, r.0) in
          (omega (arith, r.0), rw (e, r.1, k) (sym (from-append a (size n) (end - (a + size n)))))

  pub consecutive-append : (mid end a : ℕ) (ns ms : List ℕ) → consecutive w first size mid a ns ≡ true
      → consecutive w first size end a (ns ++ ms) ≡ consecutive w first size end mid ms
  unfolding consecutive
  consecutive-append mid end a [] ms h = rw (same_true a mid h)
  consecutive-append mid end a (n ∷ ns) ms h = go (split mid a n ns h) (λ c. consecutive-append mid end c ns ms)
    where
      go : Split mid a n ns
          → ((c : ℕ) → consecutive w first size mid c ns ≡ true → consecutive w first size end c (ns ++ ms) ≡ consecutive w first size end mid ms)
          → consecutive w first size end a (n ∷ (ns ++ ms)) ≡ consecutive w first size end mid ms
      go (empty e g) ih = consecutive-empty end a n (ns ++ ms) e ∙ ih a g
      go (next d e g) ih = consecutive-next end a n (ns ++ ms) d e ∙ ih (a + size n) g

-- the same ranges, in another table
pub consecutive-same : (w v : List ℕ) (first size first' size' : ℕ → ℕ) (end a : ℕ) (ns : List ℕ)
    → ((n : ℕ) → member n ns ≡ true → size' n ≡ size n) → ((n : ℕ) → member n ns ≡ true → (size n ≡ 0 → ⊥) → first' n ≡ first n)
    → consecutive w first size end a ns ≡ true → consecutive v first' size' end a ns ≡ true
unfolding consecutive
consecutive-same w v first size first' size' end a [] f g h = h
consecutive-same w v first size first' size' end a (n ∷ ns) f g h =
    go (split w first size end a n ns h)
    (λ c. consecutive-same w v first size first' size' end c ns (λ m k. f m (member-there m n ns k)) (λ m k. g m (member-there m n ns k)))
  where
    go : Split w first size end a n ns → ((c : ℕ) → consecutive w first size end c ns ≡ true → consecutive v first' size' end c ns ≡ true)
        → consecutive v first' size' end a (n ∷ ns) ≡ true
    go (empty e k) ih = consecutive-empty v first' size' end a n ns (f n (member-here n ns) ∙ e) ∙ ih a k
    go (next d e k) ih =
        let q = f n (member-here n ns) in
        consecutive-next v first' size' end a n ns (λ z. d (sym q ∙ z)) (g n (member-here n ns) d ∙ e) ∙ rw q (ih (a + size n) k)

-- the ranges of copies: `all` has the numbers copied, in the order of the nodes
module _ (v : List ℕ) (first size first' size' copy : ℕ → ℕ) (base : ℕ) (all : List ℕ) (d : Distinct all) where
  pub consecutive-copies : (pre ns : List ℕ) → all ≡ pre ++ flat (span_of [] first size) ns
      → ((n : ℕ) → member n ns ≡ true → size' (copy n) ≡ size n)
      → ((n : ℕ) → member n ns ≡ true → (size n ≡ 0 → ⊥) → first' (copy n) ≡ base + place (first n) all)
      → consecutive v first' size' (base + length all) (base + length pre) (map copy ns) ≡ true
  unfolding consecutive flat from
  consecutive-copies pre [] e f g = same-yes (base + length pre) (base + length all) (let k : all ≡ pre = e ∙ append-nil pre in rw k)
  consecutive-copies pre (n ∷ ns) e f g =
      go (size n) refl (λ p x. consecutive-copies p ns x (λ m k. f m (member-there m n ns k)) (λ m k. g m (member-there m n ns k)))
    where
      q : size' (copy n) ≡ size n
      q = f n (member-here n ns)

      go : (c : ℕ) → size n ≡ c
          → ((p : List ℕ) → all ≡ p ++ flat (span_of [] first size) ns → consecutive v first' size' (base + length all) (base + length p) (map copy ns) ≡ true)
          → consecutive v first' size' (base + length all) (base + length pre) (copy n ∷ map copy ns) ≡ true
      go zero z ih =
          consecutive-empty v first' size' (base + length all) (base + length pre) (copy n) (map copy ns) (q ∙ z)
          ∙ ih pre (e ∙ rw z)
      go (suc c) z ih =
          let s : flat (span_of [] first size) (n ∷ ns) ≡ first n ∷ (from (first n + 1) c ++ flat (span_of [] first size) ns) = rw z in
          let e' : all ≡ pre ++ (first n ∷ (from (first n + 1) c ++ flat (span_of [] first size) ns)) = e ∙ ap (λ (l : List ℕ). pre ++ l) s in
          let x : Distinct (pre ++ (first n ∷ (from (first n + 1) c ++ flat (span_of [] first size) ns))) = rw e' at d in
          let out : member (first n) pre ≡ false =
          not-true-false (member (first n) pre)
          (λ m. false-true ((append-distinct pre (first n ∷ (from (first n + 1) c ++ flat (span_of [] first size) ns)) x).2 (first n) m)
          (member-here (first n) (from (first n + 1) c ++ flat (span_of [] first size) ns))) in
          let p : place (first n) all ≡ length pre = ap (place (first n)) e'
          ∙ place_at pre (first n) (from (first n + 1) c ++ flat (span_of [] first size) ns) out in
          let nz : size n ≡ 0 → ⊥ = λ y. omega (arith, z, y) in
          let l : base + length pre + size' (copy n) ≡ base + length (pre ++ from (first n) (size n)) =
          omega (arith, q, length-append pre (from (first n) (size n)), from-length (first n) (size n)) in
          consecutive-next v first' size' (base + length all) (base + length pre) (copy n) (map copy ns) (λ y. nz (sym q ∙ y))
          (g n (member-here n ns) nz ∙ rw p)
          ∙ rw l
          (ih (pre ++ from (first n) (size n)) (e ∙ sym (append_assoc pre (from (first n) (size n)) (flat (span_of [] first size) ns))))

-- ---- a run of numbers in a list

pub record Run (f c : ℕ) (all : List ℕ) : Type 0 where
  pub pre : List ℕ
  pub post : List ℕ
  pub is : all ≡ pre ++ (from f c ++ post)

keep_run : (p : ℕ → Bool) (a n f c : ℕ) → a ≤ f → f + c ≤ a + n → ((i : ℕ) → f ≤ i → i < f + c → p i ≡ true) → Run f c (keep p (from a n))
keep_run p a n f c l u h = record { pre = keep p (from a (f - a)); post = keep p (from (f + c) (a + n - (f + c))); is = eq }
  where
    e : n ≡ (f - a) + (c + (a + n - (f + c)))
    e = omega arith

    g : a + (f - a) ≡ f
    g = omega arith

    eq : keep p (from a n) ≡ keep p (from a (f - a)) ++ (from f c ++ keep p (from (f + c) (a + n - (f + c))))
    eq =
        ap (λ (k : ℕ). keep p (from a k)) e
        ∙ ap (keep p) (from-append a (f - a) (c + (a + n - (f + c))))
        ∙ keep_append p (from a (f - a)) (from (a + (f - a)) (c + (a + n - (f + c))))
        ∙ rw (
          g,
          from-append f c (a + n - (f + c)),
          keep_append p (from f c) (from (f + c) (a + n - (f + c))),
          keep_all p (from f c) (λ i m. let r = from_member i f c m in h i r.0 r.1),
        )

-- numbers of one group that follow one another are copied one after the other
pub groups-run : (of : ℕ → ℕ) (a n f c k : ℕ) (ds : List ℕ) → member k ds ≡ true → a ≤ f → f + c ≤ a + n
    → ((i : ℕ) → f ≤ i → i < f + c → of i ≡ k) → Run f c (flat (group of (from a n)) ds)
unfolding flat
groups-run of a n f c k [] m l u h = member-nil k m
groups-run of a n f c k (b ∷ ds) m l u h = go (ℕ_discrete b k) (λ q. groups-run of a n f c k ds q l u h)
  where
    go : Dec (b ≡ k) → (member k ds ≡ true → Run f c (flat (group of (from a n)) ds)) → Run f c (group of (from a n) b ++ flat (group of (from a n)) ds)
    go (yes e) ih =
        let r = keep_run (λ i. same (of i) b) a n f c l u (λ i p q. same-yes (of i) b (h i p q ∙ sym e)) in
        record {
          pre = r.pre;
          post = r.post ++ flat (group of (from a n)) ds;
          is =
              ap (λ (x : List ℕ). x ++ flat (group of (from a n)) ds) r.is
              ∙ append_assoc r.pre (from f c ++ r.post) (flat (group of (from a n)) ds)
              ∙ ap (λ (x : List ℕ). r.pre ++ x) (append_assoc (from f c) r.post (flat (group of (from a n)) ds));
        }
    go (no d) ih =
        let r = ih (tail (member-cases k b ds m)) in
        record {
          pre = group of (from a n) b ++ r.pre;
          post = r.post;
          is = ap (λ (x : List ℕ). group of (from a n) b ++ x) r.is ∙ sym (append_assoc (group of (from a n) b) r.pre (from f c ++ r.post));
        }
      where
        tail : (k ≡ b) ⊎ (member k ds ≡ true) → member k ds ≡ true
        tail (inl p) = absurd (d (sym p))
        tail (inr p) = p

module _ (f c : ℕ) (all : List ℕ) (d : Distinct all) (r : Run f c all) where
  pub run-place : (i : ℕ) → i < c → place (f + i) all ≡ length r.pre + i
  unfolding from
  run-place i l = ap (place (f + i)) e ∙ place_at (r.pre ++ from f i) (f + i) rest out ∙ length-append r.pre (from f i) ∙ rw (from-length f i)
    where
      rest : List ℕ
      rest = from (f + i + 1) (c - (i + 1)) ++ r.post

      e : all ≡ (r.pre ++ from f i) ++ ((f + i) ∷ (from (f + i + 1) (c - (i + 1)) ++ r.post))
      e =
          let k : c ≡ i + suc (c - (i + 1)) = omega arith in
          r.is
          ∙ ap (λ (n : ℕ). r.pre ++ (from f n ++ r.post)) k
          ∙ ap (λ (x : List ℕ). r.pre ++ (x ++ r.post)) (from-append f i (suc (c - (i + 1))))
          ∙ ap (λ (x : List ℕ). r.pre ++ x) (append_assoc (from f i) (from (f + i) (suc (c - (i + 1)))) r.post)
          ∙ sym (append_assoc r.pre (from f i) (from (f + i) (suc (c - (i + 1))) ++ r.post))

      out : member (f + i) (r.pre ++ from f i) ≡ false
      out =
          not-true-false (member (f + i) (r.pre ++ from f i))
          (λ m. false-true ((append-distinct (r.pre ++ from f i) ((f + i) ∷ (from (f + i + 1) (c - (i + 1)) ++ r.post)) (rw e at d)).2 (f + i) m)
          (member-here (f + i) (from (f + i + 1) (c - (i + 1)) ++ r.post)))

  -- a run's copies follow one another
  pub run-next : (i : ℕ) → i < c → place (f + i) all ≡ place f all + i
  run-next i l =
      let z : f + 0 ≡ f = omega arith in
      let p : place (f + 0) all ≡ length r.pre + 0 = run-place 0 (omega arith) in
      let q : place f all ≡ length r.pre + 0 = rw z at p in
      omega (arith, run-place i l, q)

pub map-from : (g : ℕ → ℕ) (f h c : ℕ) → ((i : ℕ) → i < c → g (f + i) ≡ h + i) → map g (from f c) ≡ from h c
unfolding from
map-from g f h zero e = refl
map-from g f h (suc c) e =
    let z : g f ≡ h = let a : f + 0 ≡ f = omega arith in let b : h + 0 ≡ h = omega arith in rw (a, b) at (e 0 (omega arith)) in
    rw (z, map-from g (f + 1) (h + 1) c (λ i l. let a : f + 1 + i ≡ f + suc i = omega arith in rw a (e (suc i) (omega arith) ∙ omega arith)))

-- ---- entries of k words each

module _ (f : ℕ → List ℕ) (k : ℕ) (len : (x : ℕ) → length (f x) ≡ k) where
  pub flat-words : (xs : List ℕ) → length (flat f xs) ≡ k * length xs
  unfolding flat
  flat-words [] = sym (mul-zero k)
  flat-words (x ∷ xs) = length-append (f x) (flat f xs) ∙ omega (arith, len x, flat-words xs, mul-suc k (length xs))

  pub flat_word : (xs : List ℕ) (i j : ℕ) → i < length xs → j < k → word (flat f xs) (k * i + j) ≡ word (f (word xs i)) j
  unfolding flat
  flat_word [] i j l u = absurd (omega arith)
  flat_word (x ∷ xs) zero j l u =
      let e : k * 0 + j ≡ j = omega (arith, mul-zero k) in
      rw e (get_or-append (f x) (flat f xs) 0 j (rw (len x) u))
  flat_word (x ∷ xs) (suc i) j l u =
      let e : k * suc i + j ≡ length (f x) + (k * i + j) = omega (arith, len x, mul-suc k i) in
      rw e (get_or-append-add (f x) (flat f xs) (k * i + j) 0 ∙ flat_word xs i j (omega arith) u)

-- a run lies within the list
pub run_inside : (f c : ℕ) (all : List ℕ) → Distinct all → Run f c all → 1 ≤ c → place f all + c ≤ length all
run_inside f c all d r l =
    let z : f + 0 ≡ f = omega arith in
    let q : place f all ≡ length r.pre + 0 = rw z at (run-place f c all d r 0 (omega arith)) in
    let s : length all ≡ length (r.pre ++ (from f c ++ r.post)) = ap length r.is in
    omega (arith, q, s, length-append r.pre (from f c ++ r.post), length-append (from f c) r.post, from-length f c)
