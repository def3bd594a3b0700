-- Numbers that are appended to a section as copies: where they stand, what they are copies of, and how often something is counted among them.
use mathlib.Core.Path.{◌≡◌, refl, sym, ap, ◌∙◌}
use mathlib.Core.Bool.{Bool, true, false}
use mathlib.Core.List.{List, [], ◌∷◌, ◌++◌, map, append_assoc}
use mathlib.Core.Logic.{◌⊎◌, inl, inr}
use Prim.Native.Nat.{ℕ, zero, suc, ◌+◌, ◌-◌, ◌≤◌, ◌<◌}
use native.Mathlib.Decide.{ℕ_discrete, dec_lt}
use native.Mathlib.Nat.{add-zero}
use native.Mathlib.Omega.{arith}
use lib.ListN.{length, length-append, get_or-append}
use lib.Seq.{get_or-append-add}
use Rattle.lists.specs.Lists.{pick, same, word, from, range, keep, flat, member, times, Distinct, none}
use Rattle.lists.proofs.Tests.{false-true, true-or-false, not-true-false, and_intro, and_both, same-yes, same-no, same_true, same_false}
use Rattle.lists.proofs.Ranges.{from-length, from-get_or, from-append, from_member, flat_append}
use Rattle.lists.proofs.Members.{member-here, member-there, member-cases, member-nil, member-get_or, member-keep, member-flat, flat-member, distinct_head}
use Rattle.lists.proofs.Members.{distinct_tail, distinct_append, append-distinct, distinct-keep, distinct-place, flat-same, keep_append, keep_all}
use Rattle.lists.proofs.Counts.{times-append, times_none, times-other}
use Rattle.process.specs.StateWords.{place}

-- ---- where a number stands

pub place-hit : (x y : ℕ) (ys : List ℕ) → x ≡ y → place x (y ∷ ys) ≡ 0
unfolding place
place-hit x y ys e = rw (same-yes x y e, place)

pub place-miss : (x y : ℕ) (ys : List ℕ) → (x ≡ y → ⊥) → place x (y ∷ ys) ≡ suc (place x ys)
unfolding place
place-miss x y ys d = rw (same-no x y d, place)

pub place_inside : (x : ℕ) (xs : List ℕ) → member x xs ≡ true → place x xs < length xs
place_inside x [] m = member-nil x m
place_inside x (y ∷ ys) m = go (ℕ_discrete x y) (place_inside x ys)
  where
    go : Dec (x ≡ y) → (member x ys ≡ true → place x ys < length ys) → place x (y ∷ ys) < suc (length ys)
    go (yes e) ih = rw (place-hit x y ys e) (omega arith)
    go (no d) ih = rw (place-miss x y ys d) (omega (arith, ih (tail (member-cases x y ys m))))
      where
        tail : (x ≡ y) ⊎ (member x ys ≡ true) → member x ys ≡ true
        tail (inl e) = absurd (d e)
        tail (inr k) = k

pub place-most : (x : ℕ) (xs : List ℕ) → place x xs ≤ length xs
unfolding place
place-most x [] = omega arith
place-most x (y ∷ ys) = go (ℕ_discrete x y) (place-most x ys)
  where
    go : Dec (x ≡ y) → place x ys ≤ length ys → place x (y ∷ ys) ≤ suc (length ys)
    go (yes e) ih = rw (place-hit x y ys e) (omega arith)
    go (no d) ih = rw (place-miss x y ys d) (omega arith)

pub place-absent : (x : ℕ) (xs : List ℕ) → member x xs ≡ false → place x xs ≡ length xs
unfolding place
place-absent x [] m = refl
place-absent x (y ∷ ys) m =
    let n = Rattle.lists.proofs.Members.not-member x y ys m in
    place-miss x y ys n.0 ∙ ap suc (place-absent x ys n.1)

pub place-holds : (x : ℕ) (xs : List ℕ) → member x xs ≡ true → word xs (place x xs) ≡ x
place-holds x [] m = member-nil x m
place-holds x (y ∷ ys) m = go (ℕ_discrete x y) (place-holds x ys)
  where
    go : Dec (x ≡ y) → (member x ys ≡ true → word ys (place x ys) ≡ x) → word (y ∷ ys) (place x (y ∷ ys)) ≡ x
    go (yes e) ih = rw (place-hit x y ys e) (sym e)
    go (no d) ih = rw (place-miss x y ys d) (ih (tail (member-cases x y ys m)))
      where
        tail : (x ≡ y) ⊎ (member x ys ≡ true) → member x ys ≡ true
        tail (inl e) = absurd (d e)
        tail (inr k) = k

pub place-word : (xs : List ℕ) (i : ℕ) → Distinct xs → i < length xs → place (word xs i) xs ≡ i
place-word xs i d l =
    let m = member-get_or xs i l in
    distinct-place xs (place (word xs i) xs) i d (place_inside (word xs i) xs m) l (place-holds (word xs i) xs m)

pub place_at : (pre : List ℕ) (x : ℕ) (post : List ℕ) → member x pre ≡ false → place x (pre ++ (x ∷ post)) ≡ length pre
place_at [] x post m = place-hit x x post refl
place_at (y ∷ pre) x post m =
    let n = Rattle.lists.proofs.Members.not-member x y pre m in
    place-miss x y (pre ++ (x ∷ post)) n.0 ∙ ap suc (place_at pre x post n.1)

-- ---- a section of n entries with copies of the entries of xs

module _ (n : ℕ) (xs : List ℕ) (d : Distinct xs) where
  abbrev pub copy_at : ℕ → ℕ
  copy_at x = n + place x xs

  pub data NewNumber (i : ℕ) : Type 0 where
    old : i < n → NewNumber i
    copy : (x : ℕ) → member x xs ≡ true → i ≡ copy_at x → NewNumber i

  pub new-number : (i : ℕ) → i < n + length xs → NewNumber i
  new-number i l = go (dec_lt i n)
    where
      go : Dec (i < n) → NewNumber i
      go (yes u) = old u
      go (no u) =
          let v : i - n < length xs = omega arith in
          copy (word xs (i - n)) (member-get_or xs (i - n) v) (let e = place-word xs (i - n) d v in omega (arith, e))

  pub copy-high : (x : ℕ) → member x xs ≡ true → copy_at x < n + length xs
  copy-high x m = omega (arith, place_inside x xs m)

  pub copy-one : (x y : ℕ) → member x xs ≡ true → member y xs ≡ true → copy_at x ≡ copy_at y → x ≡ y
  copy-one x y m k e =
      let p : place x xs ≡ place y xs = omega arith in
      sym (place-holds x xs m) ∙ ap (word xs) p ∙ place-holds y xs k

  abbrev pub origins : List ℕ
  origins = range n ++ xs

  pub origin-old : (i : ℕ) → i < n → word (range n ++ xs) i ≡ i
  origin-old i l = get_or-append (range n) xs 0 i (rw (from-length 0 n) l) ∙ from-get_or 0 n i l ∙ omega arith

  pub origin_copy : (x : ℕ) → member x xs ≡ true → word (range n ++ xs) (copy_at x) ≡ x
  origin_copy x m =
      ap (λ (k : ℕ). word (range n ++ xs) (k + place x xs)) (sym (from-length 0 n)) ∙ get_or-append-add (range n) xs (place x xs) 0 ∙ place-holds x xs m

-- the numbers past the section are those of the copies, in order
pub copies-from : (n : ℕ) (pre xs all : List ℕ) → Distinct all → all ≡ pre ++ xs → map (λ x. n + place x all) xs ≡ from (n + length pre) (length xs)
unfolding from
copies-from n pre [] all d e = refl
copies-from n pre (x ∷ xs) all d e =
    let f : Distinct (pre ++ (x ∷ xs)) = rw e at d in
    let out : member x pre ≡ false = not-true-false (member x pre) (λ m. false-true ((append-distinct pre (x ∷ xs) f).2 x m) (member-here x xs)) in
    let p : place x all ≡ length pre = rw e (place_at pre x xs out) in
    let g : all ≡ (pre ++ (x ∷ [])) ++ xs = e ∙ sym (append_assoc pre (x ∷ []) xs) in
    let k : n + length (pre ++ (x ∷ [])) ≡ n + length pre + 1 = omega (arith, length-append pre (x ∷ [])) in
    rw (p, copies-from n (pre ++ (x ∷ [])) xs all d g, k)

pub copies-range : (n : ℕ) (xs : List ℕ) → Distinct xs → map (λ x. n + place x xs) xs ≡ from n (length xs)
copies-range n xs d = copies-from n [] xs xs d refl ∙ rw (add-zero n)

-- ---- lists of lists

pub flat_map : {A : Type 0} (f : ℕ → List A) (g : ℕ → ℕ) (xs : List ℕ) → flat f (map g xs) ≡ flat (λ x. f (g x)) xs
unfolding flat
flat_map f g [] = refl
flat_map f g (x ∷ xs) = rw (flat_map f g xs)

pub flat-flat : {A : Type 0} (f : ℕ → List A) (g : ℕ → List ℕ) (xs : List ℕ) → flat f (flat g xs) ≡ flat (λ x. flat f (g x)) xs
unfolding flat
flat-flat f g [] = refl
flat-flat f g (x ∷ xs) = flat_append f (g x) (flat g xs) ∙ rw (flat-flat f g xs)

pub map-out : (c : ℕ → ℕ) (f : ℕ → List ℕ) (xs : List ℕ) → flat (λ x. map c (f x)) xs ≡ map c (flat f xs)
unfolding flat
map-out c f [] = refl
map-out c f (x ∷ xs) = rw (map-out c f xs) (sym (Rattle.lists.proofs.Members.map-append c (f x) (flat f xs)))

pub keep-flat : (p q : ℕ → Bool) (f : ℕ → List ℕ) (xs : List ℕ) → ((x y : ℕ) → member x xs ≡ true → member y (f x) ≡ true → p y ≡ q x)
    → keep p (flat f xs) ≡ flat f (keep q xs)
unfolding flat keep
keep-flat p q f [] h = refl
keep-flat p q f (x ∷ xs) h =
    keep_append p (f x) (flat f xs) ∙ go (true-or-false (q x)) (keep-flat p q f xs (λ z y m. h z y (member-there z x xs m)))
  where
    go : (q x ≡ true) ⊎ (q x ≡ false) → keep p (flat f xs) ≡ flat f (keep q xs)
        → keep p (f x) ++ keep p (flat f xs) ≡ flat f (pick (q x) (x ∷ keep q xs) (keep q xs))
    go (inl e) ih = rw (e, ih, keep_all p (f x) (λ y m. h x y (member-here x xs) m ∙ e))
    go (inr e) ih = rw (e, ih, Rattle.lists.proofs.Members.keep-none p (f x) (λ y m. h x y (member-here x xs) m ∙ e))

-- a section's lists: those of the old entries, then those of the copies
pub flat-copies : (n : ℕ) (xs : List ℕ) → Distinct xs → (f g : ℕ → List ℕ) (c : ℕ → ℕ) → ((i : ℕ) → i < n → g i ≡ f i)
    → ((x : ℕ) → member x xs ≡ true → g (n + place x xs) ≡ map c (f x))
    → flat g (range (n + length xs)) ≡ flat f (range n) ++ map c (flat f xs)
flat-copies n xs d f g c h k =
    ap (flat g) (from-append 0 n (length xs))
    ∙ flat_append g (range n) (from (0 + n) (length xs))
    ∙ rw (
      flat-same g f (range n) (λ i m. h i (omega (arith, from_member i 0 n m))),
      first,
      ← copies-range n xs d,
      flat_map g (λ x. n + place x xs) xs,
      flat-same (λ x. g (n + place x xs)) (λ x. map c (f x)) xs k,
      map-out c f xs,
    )
  where
    first : 0 + n ≡ n
    first = omega arith

-- ---- counting

pub times-map : (c : ℕ → ℕ) (k : ℕ) (xs : List ℕ) → ((y : ℕ) → member y xs ≡ true → c k ≡ c y → k ≡ y) → times (c k) (map c xs) ≡ times k xs
unfolding times
times-map c k [] h = refl
times-map c k (y ∷ ys) h = go (ℕ_discrete k y) (times-map c k ys (λ z m. h z (member-there z y ys m)))
  where
    go : Dec (k ≡ y) → times (c k) (map c ys) ≡ times k ys → times (c k) (map c (y ∷ ys)) ≡ times k (y ∷ ys)
    go (yes e) ih = rw (same-yes k y e, same-yes (c k) (c y) (ap c e), ih)
    go (no e) ih = rw (same-no k y e, same-no (c k) (c y) (λ p. e (h y (member-here y ys) p)), ih)

pub times-map-none : (c : ℕ → ℕ) (k : ℕ) (xs : List ℕ) → ((y : ℕ) → member y xs ≡ true → k ≡ c y → ⊥) → times k (map c xs) ≡ 0
unfolding times
times-map-none c k [] h = refl
times-map-none c k (y ∷ ys) h = times-other k (c y) (map c ys) (h y (member-here y ys)) ∙ times-map-none c k ys (λ z m. h z (member-there z y ys m))

-- ---- numbers grouped by what they belong to

module _ (of : ℕ → ℕ) (xs : List ℕ) where
  abbrev pub group : ℕ → List ℕ
  group e = keep (λ i. same (of i) e) xs

  pub group-in : (i e : ℕ) → member i (group e) ≡ true → (member i xs ≡ true) × (of i ≡ e)
  group-in i e m =
      let t = and_both (same (of i) e) (member i xs) (sym (member-keep (λ i. same (of i) e) i xs) ∙ m) in
      (t.1, same_true (of i) e t.0)

  pub in_group : (i e : ℕ) → member i xs ≡ true → of i ≡ e → member i (group e) ≡ true
  in_group i e m p = member-keep (λ i. same (of i) e) i xs ∙ and_intro (same (of i) e) (member i xs) (same-yes (of i) e p) m

  pub in-groups : (ds : List ℕ) (i : ℕ) → member i xs ≡ true → member (of i) ds ≡ true → member i (flat group ds) ≡ true
  in-groups ds i m k = member-flat group i (of i) ds k (in_group i (of i) m refl)

  pub groups-in : (ds : List ℕ) (i : ℕ) → member i (flat group ds) ≡ true → (member i xs ≡ true) × (member (of i) ds ≡ true)
  groups-in ds i m =
      let s = flat-member group i ds m in
      let t = group-in i s.source s.gives in
      (t.0, rw t.1 s.stands)

  pub groups-distinct : (ds : List ℕ) → Distinct xs → Distinct ds → Distinct (flat group ds)
  unfolding flat
  groups-distinct [] d e = none
  groups-distinct (a ∷ ds) d e =
      distinct_append (group a) (flat group ds) (distinct-keep (λ i. same (of i) a) xs d) (groups-distinct ds d (distinct_tail e))
      (λ i m.
      not-true-false (member i (flat group ds))
      (λ k. false-true (distinct_head e) (rw (← (group-in i a m).1) (groups-in ds i k).1)))

  -- what is counted among the numbers of one group is counted there alone
  module _ (f : ℕ → List ℕ) (k a : ℕ) (h : (i : ℕ) → member i xs ≡ true → member k (f i) ≡ true → of i ≡ a) where
    only : (e : ℕ) → (e ≡ a → ⊥) → (ys : List ℕ) → ((i : ℕ) → member i ys ≡ true → (member i xs ≡ true) × (of i ≡ e)) → times k (flat f ys) ≡ 0
    unfolding flat times
    only e d [] g = refl
    only e d (y ∷ ys) g =
        let q = g y (member-here y ys) in
        let z : times k (f y) ≡ 0 = times_none k (f y) (not-true-false (member k (f y)) (λ m. d (sym q.1 ∙ h y q.0 m))) in
        omega (arith, times-append k (f y) (flat f ys), z, only e d ys (λ i m. g i (member-there i y ys m)))

    all_there : (ys : List ℕ) → ((i : ℕ) → member i ys ≡ true → member i xs ≡ true) → times k (flat f (keep (λ i. same (of i) a) ys)) ≡ times k (flat f ys)
    unfolding flat keep times
    all_there [] g = refl
    all_there (y ∷ ys) g = go (true-or-false (same (of y) a)) (all_there ys (λ i m. g i (member-there i y ys m)))
      where
        go : (same (of y) a ≡ true) ⊎ (same (of y) a ≡ false) → times k (flat f (keep (λ i. same (of i) a) ys)) ≡ times k (flat f ys)
            → times k (flat f (pick (same (of y) a) (y ∷ keep (λ i. same (of i) a) ys) (keep (λ i. same (of i) a) ys))) ≡ times k (f y ++ flat f ys)
        go (inl e) ih = rw e (omega (arith, times-append k (f y) (flat f ys), times-append k (f y) (flat f (keep (λ i. same (of i) a) ys)), ih))
        go (inr e) ih =
            let z : times k (f y) ≡ 0 =
            times_none k (f y) (not-true-false (member k (f y)) (λ m. same_false (of y) a e (h y (g y (member-here y ys)) m))) in
            rw e (omega (arith, times-append k (f y) (flat f ys), ih, z))

    pub count-group : (ds : List ℕ) → Distinct ds → member a ds ≡ true → times k (flat f (flat group ds)) ≡ times k (flat f xs)
    unfolding flat times
    count-group [] d m = member-nil a m
    count-group (b ∷ ds) d m = go (ℕ_discrete b a) (count-group ds (distinct_tail d))
      where
        sum : times k (flat f (group b ++ flat group ds)) ≡ times k (flat f (group b)) + times k (flat f (flat group ds))
        sum = ap (times k) (flat_append f (group b) (flat group ds)) ∙ times-append k (flat f (group b)) (flat f (flat group ds))

        rest : (es : List ℕ) → member a es ≡ false → times k (flat f (flat group es)) ≡ 0
        rest [] n = refl
        rest (e ∷ es) n =
            let q = Rattle.lists.proofs.Members.not-member a e es n in
            ap (times k) (flat_append f (group e) (flat group es))
            ∙ times-append k (flat f (group e)) (flat f (flat group es))
            ∙ omega (arith, only e (λ p. q.0 (sym p)) (group e) (λ i m. group-in i e m), rest es q.1)

        go : Dec (b ≡ a) → (member a ds ≡ true → times k (flat f (flat group ds)) ≡ times k (flat f xs))
            → times k (flat f (group b ++ flat group ds)) ≡ times k (flat f xs)
        go (yes e) ih = sum ∙ omega (arith, rest ds (rw e at (distinct_head d)), all_there xs (λ i m. m), same-group)
          where
            same-group : times k (flat f (group b)) ≡ times k (flat f (group a))
            same-group = ap (λ (c : ℕ). times k (flat f (group c))) e
        go (no e) ih = sum ∙ omega (arith, only b e (group b) (λ i m. group-in i b m), ih (tail (member-cases a b ds m)))
          where
            tail : (a ≡ b) ⊎ (member a ds ≡ true) → member a ds ≡ true
            tail (inl p) = absurd (e (sym p))
            tail (inr p) = p

-- ---- copies keep the order of their originals

pub place-left : (x : ℕ) (xs ys : List ℕ) → member x xs ≡ true → place x (xs ++ ys) ≡ place x xs
place-left x [] ys m = member-nil x m
place-left x (z ∷ xs) ys m = go (ℕ_discrete x z) (place-left x xs ys)
  where
    go : Dec (x ≡ z) → (member x xs ≡ true → place x (xs ++ ys) ≡ place x xs) → place x (z ∷ (xs ++ ys)) ≡ place x (z ∷ xs)
    go (yes e) ih = place-hit x z (xs ++ ys) e ∙ sym (place-hit x z xs e)
    go (no d) ih = place-miss x z (xs ++ ys) d ∙ ap suc (ih (tail (member-cases x z xs m))) ∙ sym (place-miss x z xs d)
      where
        tail : (x ≡ z) ⊎ (member x xs ≡ true) → member x xs ≡ true
        tail (inl e) = absurd (d e)
        tail (inr k) = k

pub place-right : (x : ℕ) (xs ys : List ℕ) → member x xs ≡ false → place x (xs ++ ys) ≡ length xs + place x ys
place-right x [] ys m = omega arith
place-right x (z ∷ xs) ys m =
    let n = Rattle.lists.proofs.Members.not-member x z xs m in
    place-miss x z (xs ++ ys) n.0 ∙ ap suc (place-right x xs ys n.1) ∙ omega arith

keep-order : (p : ℕ → Bool) (a n x y : ℕ) → x < y → member x (keep p (from a n)) ≡ true → member y (keep p (from a n)) ≡ true
    → place x (keep p (from a n)) < place y (keep p (from a n))
unfolding from keep
keep-order p a zero x y l m k = member-nil x m
keep-order p a (suc n) x y l m k = go (true-or-false (p a)) (keep-order p (a + 1) n x y l)
  where
    low : (z : ℕ) → member z (keep p (from (a + 1) n)) ≡ true → a + 1 ≤ z
    low z q = (from_member z (a + 1) n (and_both (p z) (member z (from (a + 1) n)) (sym (member-keep p z (from (a + 1) n)) ∙ q)).1).0

    go : (p a ≡ true) ⊎ (p a ≡ false)
        → (member x (keep p (from (a + 1) n)) ≡ true → member y (keep p (from (a + 1) n)) ≡ true
        → place x (keep p (from (a + 1) n)) < place y (keep p (from (a + 1) n)))
        → place x (pick (p a) (a ∷ keep p (from (a + 1) n)) (keep p (from (a + 1) n))) < place y
        (pick (p a) (a ∷ keep p (from (a + 1) n)) (keep p (from (a + 1) n)))
    go (inr e) ih = rw e (ih (rw e at m) (rw e at k))
    go (inl e) ih = rw e (at (member-cases x a (keep p (from (a + 1) n)) (rw e at m)) (member-cases y a (keep p (from (a + 1) n)) (rw e at k)))
      where
        at : (x ≡ a) ⊎ (member x (keep p (from (a + 1) n)) ≡ true) → (y ≡ a) ⊎ (member y (keep p (from (a + 1) n)) ≡ true)
            → place x (a ∷ keep p (from (a + 1) n)) < place y (a ∷ keep p (from (a + 1) n))
        at (inl f) (inl g) = absurd (omega arith)
        at (inl f) (inr g) = rw (place-hit x a (keep p (from (a + 1) n)) f, place-miss y a (keep p (from (a + 1) n)) (λ h. omega arith)) (omega arith)
        at (inr f) (inl g) = absurd (omega (arith, low x f))
        at (inr f) (inr g) =
            rw (place-miss x a (keep p (from (a + 1) n)) (λ h. omega (arith, low x f)), place-miss y a (keep p (from (a + 1) n)) (λ h. omega (arith, low y g)))
            (omega (arith, ih f g))

pub groups-order : (of : ℕ → ℕ) (a n x y : ℕ) (ds : List ℕ) → x < y → of x ≡ of y → member x (from a n) ≡ true → member y (from a n) ≡ true
    → member (of x) ds ≡ true → place x (flat (group of (from a n)) ds) < place y (flat (group of (from a n)) ds)
unfolding flat
groups-order of a n x y [] l e mx my k = member-nil (of x) k
groups-order of a n x y (b ∷ ds) l e mx my k = go (ℕ_discrete (of x) b) (groups-order of a n x y ds l e mx my)
  where
    go : Dec (of x ≡ b) → (member (of x) ds ≡ true → place x (flat (group of (from a n)) ds) < place y (flat (group of (from a n)) ds))
        → place x (group of (from a n) b ++ flat (group of (from a n)) ds) < place y (group of (from a n) b ++ flat (group of (from a n)) ds)
    go (yes f) ih =
        let gx = in_group of (from a n) x b mx f in
        let gy = in_group of (from a n) y b my (sym e ∙ f) in
        rw (place-left x (group of (from a n) b) (flat (group of (from a n)) ds) gx, place-left y (group of (from a n) b) (flat (group of (from a n)) ds) gy)
        (keep-order (λ i. same (of i) b) a n x y l gx gy)
    go (no f) ih =
        let gx = not-true-false (member x (group of (from a n) b)) (λ m. f (group-in of (from a n) x b m).1) in
        let gy = not-true-false (member y (group of (from a n) b)) (λ m. f (e ∙ (group-in of (from a n) y b m).1)) in
        rw (place-right x (group of (from a n) b) (flat (group of (from a n)) ds) gx, place-right y (group of (from a n) b) (flat (group of (from a n)) ds) gy)
        (omega (arith, ih (tail (member-cases (of x) b ds k))))
      where
        tail : (of x ≡ b) ⊎ (member (of x) ds ≡ true) → member (of x) ds ≡ true
        tail (inl g) = absurd (f g)
        tail (inr g) = g

-- what is counted among elements that pass is counted among those alone
pub count-keep : (q : ℕ → Bool) (f : ℕ → List ℕ) (k : ℕ) (xs : List ℕ) → ((i : ℕ) → member i xs ≡ true → member k (f i) ≡ true → q i ≡ true)
    → times k (flat f (keep q xs)) ≡ times k (flat f xs)
unfolding flat keep times
count-keep q f k [] h = refl
count-keep q f k (y ∷ ys) h = go (true-or-false (q y)) (count-keep q f k ys (λ i m. h i (member-there i y ys m)))
  where
    go : (q y ≡ true) ⊎ (q y ≡ false) → times k (flat f (keep q ys)) ≡ times k (flat f ys)
        → times k (flat f (pick (q y) (y ∷ keep q ys) (keep q ys))) ≡ times k (f y ++ flat f ys)
    go (inl e) ih = rw e (omega (arith, times-append k (f y) (flat f ys), times-append k (f y) (flat f (keep q ys)), ih))
    go (inr e) ih =
        let z : times k (f y) ≡ 0 = times_none k (f y) (not-true-false (member k (f y)) (λ m. false-true e (h y (member-here y ys) m))) in
        rw e (omega (arith, times-append k (f y) (flat f ys), ih, z))
