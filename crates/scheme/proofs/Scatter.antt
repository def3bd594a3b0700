-- Laws of scattered numbers: what a pass of stores leaves in a buffer, and hence that owners, homes and binders stand in theirs.
use mathlib.Core.Path.{◌≡◌, refl, sym, ap, ◌∙◌}
use mathlib.Core.Bool.{Bool, true, false, ◌&&◌}
use mathlib.Core.List.{List, [], ◌∷◌, map}
use mathlib.Core.Logic.{◌⊎◌, inl, inr}
use Prim.Native.Nat.{ℕ, zero, suc, ◌+◌, ◌-◌, ◌≤◌, ◌<◌}
use native.Mathlib.Decide.{ℕ_discrete}
use native.Mathlib.Omega.{arith}
use lib.Dec.{ltb}
use lib.ListN.{length, set, replicate, length-set, length-map, length-replicate, get_or-replicate}
use lib.Seq.{get_or-set_same, get_or-set_other, ext_get_or}
use borrow.Author.Tests.{lt-ltb, le-ltb}
use Rattle.lists.specs.Lists.{pick, bit, same, word, from, range, member, first_from}
use Rattle.lists.proofs.Tests.{same_self, same-no, false-true}
use Rattle.lists.proofs.Ranges.{from_more, from-done, from-length}
use Rattle.lists.proofs.First.{First, first-cases, tells-one}
use Rattle.lists.proofs.Stores.{word-range}
use Rattle.scheme.specs.Words.{definitions, nodes, branches, root, node_first, node_second, is_choice, is_new}
use Rattle.scheme.specs.Words.{is_receive, branch_name, formals, branches_of, next}
use Rattle.scheme.specs.Owners.{root_of, child_of, next_of, nobody, home, pick_owner, owner}
use Rattle.scheme.specs.Scheme.{by_new, by_receive, by_formal, unbound, pick_binder, binder_of}
use Rattle.scheme.specs.Index.{owner_number, binder_number}
use Rattle.scheme.specs.Spans.{span_of}
use Rattle.scheme.specs.Inner.Scatter.{put_all, scatter}
use Rattle.scheme.specs.declared.spans.Source.TheVariants.{Roots, Formals, NewChildren, NewNames, NextNodes, ReceivedNames, Branches}

-- a list of values at the numbers below n
pub map_range : (g : ℕ → ℕ) (l : List ℕ) (n : ℕ) → length l ≡ n → ((k : ℕ) → k < n → word l k ≡ g k) → l ≡ map g (range n)
map_range g l n e h =
    ext_get_or 0 l (map g (range n)) (e ∙ sym (length-map (range n) g ∙ from-length 0 n)) (λ i u. let v : i < n = omega arith in h i v ∙ sym (word-range g n i v))

-- ---- the same value at several numbers

pub put-more : (v : ℕ) (out : List ℕ) (i e : ℕ) → i < e → put_all v (from i (e - i)) out ≡ put_all v (from (i + 1) (e - (i + 1))) (set out i v)
unfolding put_all
put-more v out i e h = rw (from_more i e h)

pub put-done : (v : ℕ) (out : List ℕ) (i e : ℕ) → e ≤ i → put_all v (from i (e - i)) out ≡ out
unfolding put_all
put-done v out i e h = rw (from-done i e h)

length-put : (v : ℕ) (xs out : List ℕ) → length (put_all v xs out) ≡ length out
unfolding put_all
length-put v [] out = refl
length-put v (x ∷ xs) out = length-put v xs (set out x v) ∙ length-set out x v

put-kept : (v : ℕ) (xs out : List ℕ) (k : ℕ) → word out k ≡ v → k < length out → word (put_all v xs out) k ≡ v
unfolding put_all
put-kept v [] out k e h = e
put-kept v (x ∷ xs) out k e h = put-kept v xs (set out x v) k (go (ℕ_discrete k x)) (rw (length-set out x v) h)
  where
    go : Dec (k ≡ x) → word (set out x v) k ≡ v
    go (yes p) = rw (← p) (get_or-set_same out k v 0 h)
    go (no d) = get_or-set_other out x k v 0 d ∙ e

put_in : (v : ℕ) (xs out : List ℕ) (k : ℕ) → member k xs ≡ true → k < length out → word (put_all v xs out) k ≡ v
unfolding put_all member
put_in v [] out k m h = false-true refl m
put_in v (x ∷ xs) out k m h = go (ℕ_discrete k x) (put_in v xs (set out x v) k)
  where
    go : Dec (k ≡ x) → (member k xs ≡ true → k < length (set out x v) → word (put_all v xs (set out x v)) k ≡ v) → word (put_all v xs (set out x v)) k ≡ v
    go (yes p) f = put-kept v xs (set out x v) k (rw (← p) (get_or-set_same out k v 0 h)) (rw (length-set out x v) h)
    go (no d) f = f (rw (same-no k x d) at m) (rw (length-set out x v) h)

put-out : (v : ℕ) (xs out : List ℕ) (k : ℕ) → member k xs ≡ false → word (put_all v xs out) k ≡ word out k
unfolding put_all member
put-out v [] out k m = refl
put-out v (x ∷ xs) out k m = go (ℕ_discrete k x) (put-out v xs (set out x v) k)
  where
    go : Dec (k ≡ x) → (member k xs ≡ false → word (put_all v xs (set out x v)) k ≡ word (set out x v) k) → word (put_all v xs (set out x v)) k ≡ word out k
    go (yes p) f = false-true m (rw (← p, same_self k))
    go (no d) f = f (rw (same-no k x d) at m) ∙ get_or-set_other out x k v 0 d

-- ---- each entry's number at the numbers that it names

module _ (f : ℕ → List ℕ) (tag : ℕ) where
  pub scatter-more : (i : ℕ) (out : List ℕ) → 0 < i → scatter f tag i out ≡ scatter f tag (i - 1) (put_all (tag + (i - 1)) (f (i - 1)) out)
  unfolding scatter
  scatter-more i out h = let q : i ≡ suc (i - 1) = omega arith in ap (λ (j : ℕ). scatter f tag j out) q

  pub scatter-done : (i : ℕ) (out : List ℕ) → i ≤ 0 → scatter f tag i out ≡ out
  unfolding scatter
  scatter-done i out h = let q : i ≡ 0 = omega arith in rw q

  length-scatter : (n : ℕ) (out : List ℕ) → length (scatter f tag n out) ≡ length out
  unfolding scatter
  length-scatter zero out = refl
  length-scatter (suc i) out = length-scatter i (put_all (tag + i) (f i) out) ∙ length-put (tag + i) (f i) out

  -- p tells in which entries k stands
  module _ (k : ℕ) (p : ℕ → Bool) (tells : (i : ℕ) → p i ≡ member k (f i)) where
    scatter-none : (n : ℕ) (out : List ℕ) → ((i : ℕ) → i < n → p i ≡ false) → word (scatter f tag n out) k ≡ word out k
    unfolding scatter
    scatter-none zero out h = refl
    scatter-none (suc i) out h =
        scatter-none i (put_all (tag + i) (f i) out) (λ j u. h j (omega arith)) ∙ put-out (tag + i) (f i) out k (sym (tells i) ∙ h i (omega arith))

    scatter-found : (n j : ℕ) (out : List ℕ) → k < length out → First p 0 n j → word (scatter f tag n out) k ≡ tag + j
    unfolding scatter
    scatter-found zero j out h r = absurd (omega (arith, r.high))
    scatter-found (suc i) j out h r = go (ℕ_discrete j i) (scatter-found i j (put_all (tag + i) (f i) out))
      where
        go : Dec (j ≡ i) → (k < length (put_all (tag + i) (f i) out) → First p 0 i j → word (scatter f tag i (put_all (tag + i) (f i) out)) k ≡ tag + j)
            → word (scatter f tag i (put_all (tag + i) (f i) out)) k ≡ tag + j
        go (yes e) ih =
            scatter-none i (put_all (tag + i) (f i) out) (λ a u. r.least a (omega arith) (omega arith)) ∙
            rw e (put_in (tag + i) (f i) out k (sym (tells i) ∙ rw (← e) r.passes) h)
        go (no d) ih =
            ih (rw (length-put (tag + i) (f i) out) h) (record { low = r.low; high = omega (arith, r.high); passes = r.passes; least = r.least })

    -- the first entry's number, else what was there
    scatter-first : (n : ℕ) (out : List ℕ) → k < length out
        → word (scatter f tag n out) k ≡ pick (ltb (first_from n p 0 n) n) (tag + first_from n p 0 n) (word out k)
    scatter-first n out h = go (first-cases p n n 0)
      where
        go : First p 0 n (first_from n p 0 n) ⊎ ((first_from n p 0 n ≡ n) × ((i : ℕ) → 0 ≤ i → i < 0 + n → p i ≡ false))
            → word (scatter f tag n out) k ≡ pick (ltb (first_from n p 0 n) n) (tag + first_from n p 0 n) (word out k)
        go (inl r) = rw (lt-ltb (first_from n p 0 n) n (omega (arith, r.high))) (scatter-found n (first_from n p 0 n) out h r)
        go (inr r) = rw (le-ltb (first_from n p 0 n) n (omega (arith, r.0))) (scatter-none n out (λ i u. r.1 i (omega arith) (omega arith)))

-- numbers without a tag, over zeros
scatter-home : (f : ℕ → List ℕ) (k : ℕ) (p : ℕ → Bool) → ((i : ℕ) → p i ≡ member k (f i)) → (n : ℕ) (out : List ℕ) → k < length out → word out k ≡ 0
    → word (scatter f 0 n out) k ≡ first_from n p 0 0
scatter-home f k p tells n out h z = go (first-cases p 0 n 0)
  where
    go : First p 0 n (first_from n p 0 0) ⊎ ((first_from n p 0 0 ≡ 0) × ((i : ℕ) → 0 ≤ i → i < 0 + n → p i ≡ false))
        → word (scatter f 0 n out) k ≡ first_from n p 0 0
    go (inl r) = scatter-found f 0 k p tells n (first_from n p 0 0) out h r ∙ omega arith
    go (inr r) = scatter-none f 0 k p tells n out (λ i u. r.1 i (omega arith) (omega arith)) ∙ z ∙ sym r.0

-- ---- spans

one_from : (x : ℕ) → from x 1 ≡ x ∷ []
unfolding from
one_from x = refl

tells-span : (k x : ℕ) → same x k ≡ member k (from x 1)
tells-span k x = rw (one_from x) (tells-one k x)

tells-bit : (k x : ℕ) (b : Bool) → (b && same x k) ≡ member k (from x (bit b))
unfolding from member
tells-bit k x true = tells-span k x
tells-bit k x false = refl

tells-count : (k x m : ℕ) (b : Bool) → member k (pick b (from x m) []) ≡ member k (from x (pick b m 0))
unfolding from
tells-count k x m true = refl
tells-count k x m false = refl

-- ---- owners and homes

module _ (w : List ℕ) where
  owner-number : (d n b : ℕ) → owner_number (pick_owner w d n b)
      ≡ pick (ltb d (definitions w)) (65536 + d) (pick (ltb n (nodes w)) (131072 + n) (pick (ltb b (branches w)) (196608 + b) 0))
  unfolding pick_owner
  owner-number d n b = go (ltb d (definitions w)) (ltb n (nodes w)) (ltb b (branches w))
    where
      go : (x y z : Bool) → owner_number (pick x (root_of d) (pick y (child_of n) (pick z (next_of b) nobody)))
          ≡ pick x (65536 + d) (pick y (131072 + n) (pick z (196608 + b) 0))
      go true y z = refl
      go false true z = refl
      go false false true = refl
      go false false false = refl

  -- owners by three passes over zeros
  pub owners-scattered : (n : ℕ)
      → scatter (span_of w Roots) 65536 (definitions w)
      (scatter (span_of w NewChildren) 131072 (nodes w) (scatter (span_of w NextNodes) 196608 (branches w) (replicate n 0)))
      ≡ map (λ k. owner_number (owner w k)) (range n)
  unfolding owner
  owners-scattered n = map_range (λ k. owner_number (owner w k)) (scatter (span_of w Roots) 65536 (definitions w) news) n
      (length-scatter (span_of w Roots) 65536 (definitions w) news ∙ news-length) at
    where
      nexts : List ℕ
      nexts = scatter (span_of w NextNodes) 196608 (branches w) (replicate n 0)

      news : List ℕ
      news = scatter (span_of w NewChildren) 131072 (nodes w) nexts

      nexts-length : length nexts ≡ n
      nexts-length = length-scatter (span_of w NextNodes) 196608 (branches w) (replicate n 0) ∙ length-replicate {A = ℕ} n 0

      news-length : length news ≡ n
      news-length = length-scatter (span_of w NewChildren) 131072 (nodes w) nexts ∙ nexts-length

      at : (k : ℕ) → k < n → word (scatter (span_of w Roots) 65536 (definitions w) news) k ≡ owner_number (owner w k)
      at k h =
          let d = first_from (definitions w) (λ d. same (root w d) k) 0 (definitions w) in
          let m = first_from (nodes w) (λ n. is_new w n && same (node_second w n) k) 0 (nodes w) in
          let b = first_from (branches w) (λ b. same (next w b) k) 0 (branches w) in
          scatter-first (span_of w Roots) 65536 k (λ d. same (root w d) k) (λ d. tells-span k (root w d)) (definitions w) news (rw news-length h) ∙
          ap (pick (ltb d (definitions w)) (65536 + d))
          (scatter-first (span_of w NewChildren) 131072 k (λ n. is_new w n && same (node_second w n) k) (λ n. tells-bit k (node_second w n) (is_new w n)) (nodes w) nexts (rw nexts-length h) ∙
          ap (pick (ltb m (nodes w)) (131072 + m))
          (scatter-first (span_of w NextNodes) 196608 k (λ b. same (next w b) k) (λ b. tells-span k (next w b)) (branches w) (replicate n 0) (rw (length-replicate {A = ℕ} n 0) h) ∙
          ap (pick (ltb b (branches w)) (196608 + b)) (get_or-replicate n k 0 0 h))) ∙
          sym (owner-number d m b)

  -- homes by one
  pub homes-scattered : (n : ℕ) → scatter (span_of w Branches) 0 (nodes w) (replicate n 0) ≡ map (home w) (range n)
  unfolding home branches_of
  homes-scattered n = map_range (home w) (scatter (span_of w Branches) 0 (nodes w) (replicate n 0)) n
      (length-scatter (span_of w Branches) 0 (nodes w) (replicate n 0) ∙ length-replicate {A = ℕ} n 0) at
    where
      at : (k : ℕ) → k < n → word (scatter (span_of w Branches) 0 (nodes w) (replicate n 0)) k ≡ home w k
      at k h =
          scatter-home (span_of w Branches) k (λ n. member k (branches_of w n)) (λ n. tells-count k (node_first w n) (node_second w n) (is_choice w n)) (nodes w) (replicate n 0)
          (rw (length-replicate {A = ℕ} n 0) h) (get_or-replicate n k 0 0 h)

  -- ---- binders

  binder-number : (n b d : ℕ) → binder_number (pick_binder w n b d)
      ≡ pick (ltb n (nodes w)) (65536 + n) (pick (ltb b (branches w)) (131072 + b) (pick (ltb d (definitions w)) (196608 + d) 0))
  unfolding pick_binder
  binder-number n b d = go (ltb n (nodes w)) (ltb b (branches w)) (ltb d (definitions w))
    where
      go : (x y z : Bool) → binder_number (pick x (by_new n) (pick y (by_receive b) (pick z (by_formal d) unbound)))
          ≡ pick x (65536 + n) (pick y (131072 + b) (pick z (196608 + d) 0))
      go true y z = refl
      go false true z = refl
      go false false true = refl
      go false false false = refl

  tells-formals : (k d : ℕ) → member k (formals w d) ≡ member k (span_of w Formals d)
  unfolding formals
  tells-formals k d = refl

  -- binders by three passes over zeros
  pub binders-scattered : (n : ℕ)
      → scatter (span_of w NewNames) 65536 (nodes w)
      (scatter (span_of w ReceivedNames) 131072 (branches w) (scatter (span_of w Formals) 196608 (definitions w) (replicate n 0)))
      ≡ map (λ x. binder_number (binder_of w x)) (range n)
  unfolding binder_of
  binders-scattered n = map_range (λ x. binder_number (binder_of w x)) (scatter (span_of w NewNames) 65536 (nodes w) received) n
      (length-scatter (span_of w NewNames) 65536 (nodes w) received ∙ received-length) at
    where
      given : List ℕ
      given = scatter (span_of w Formals) 196608 (definitions w) (replicate n 0)

      received : List ℕ
      received = scatter (span_of w ReceivedNames) 131072 (branches w) given

      given-length : length given ≡ n
      given-length = length-scatter (span_of w Formals) 196608 (definitions w) (replicate n 0) ∙ length-replicate {A = ℕ} n 0

      received-length : length received ≡ n
      received-length = length-scatter (span_of w ReceivedNames) 131072 (branches w) given ∙ given-length

      at : (k : ℕ) → k < n → word (scatter (span_of w NewNames) 65536 (nodes w) received) k ≡ binder_number (binder_of w k)
      at k h =
          let m = first_from (nodes w) (λ n. is_new w n && same (node_first w n) k) 0 (nodes w) in
          let b = first_from (branches w) (λ b. is_receive w b && same (branch_name w b) k) 0 (branches w) in
          let d = first_from (definitions w) (λ d. member k (formals w d)) 0 (definitions w) in
          scatter-first (span_of w NewNames) 65536 k (λ n. is_new w n && same (node_first w n) k) (λ n. tells-bit k (node_first w n) (is_new w n)) (nodes w) received (rw received-length h) ∙
          ap (pick (ltb m (nodes w)) (65536 + m))
          (scatter-first (span_of w ReceivedNames) 131072 k (λ b. is_receive w b && same (branch_name w b) k) (λ b. tells-bit k (branch_name w b) (is_receive w b)) (branches w) given (rw given-length h) ∙
          ap (pick (ltb b (branches w)) (131072 + b))
          (scatter-first (span_of w Formals) 196608 k (λ d. member k (formals w d)) (tells-formals k) (definitions w) (replicate n 0) (rw (length-replicate {A = ℕ} n 0) h) ∙
          ap (pick (ltb d (definitions w)) (196608 + d)) (get_or-replicate n k 0 0 h))) ∙
          sym (binder-number m b d)
