-- The arcs of a New, place by place as the code puts them in.
use mathlib.Core.Path.{◌≡◌, refl, sym, ap, ◌∙◌}
use mathlib.Core.Bool.{Bool, true, false, not, ◌&&◌}
use mathlib.Core.List.{List, [], ◌∷◌, ◌++◌, map}
use Prim.Native.Nat.{ℕ, zero, suc, ◌+◌, ◌-◌, ◌≤◌, ◌<◌}
use native.Mathlib.Decide.{ℕ_discrete, dec_lt}
use native.Mathlib.Omega.{arith}
use lib.Dec.{leb, ltb}
use lib.ListN
use lib.ListN.{length, get_or, take, length-map}
use lib.Seq.{get_or-take, length-take-le, ext_get_or}
use borrow.Author.Tests.{lt-ltb, le-ltb, le-leb, leb-true}
use Rattle.lists.specs.Lists.{pick, same, from, ascends}
use Rattle.lists.proofs.Tests.{same-yes, same-no, same_true, and_left, and_right, and-false}
use Rattle.lists.proofs.Ranges.{from-length, from-snoc, member-from}
use Rattle.lists.proofs.Members.{map-append}
use Rattle.scheme.specs.Words.{publics, bounds, names, nodes, node_kind, node_first, node_second, is_new}
use Rattle.scheme.specs.Scheme.{Scheme, new, scheme}
use Rattle.table.specs.Causes.{cause}
use Rattle.table.proofs.Accepted.{accepted}
use Rattle.places.specs.Values.{Values}
use Rattle.places.specs.Places.{Place, equals, differs, free, control}
use Rattle.places.specs.Rows.{number_of}
use Rattle.places.specs.Reach.{has_private_values}
use Rattle.places.specs.Inner.Arcs.{insert, all_differ, exists, numbers_for}
use Rattle.places.specs.Inner.Plan.{today, privates_word, Holds, Differs}
use Rattle.builder.specs.Inner.Parts.{Inserted, Filled, of_table, made, arrow}
use Rattle.places.proofs.Names.{values-restricted}
use Rattle.places.proofs.Arcs.{inputs-named, outputs-named}
use Rattle.places.proofs.ByKind.{differs-restricted}
use Rattle.places.proofs.Numbers.{exists-has}
use Rattle.places.proofs.Split.{numbers-none, numbers-yes, numbers-no, numbers-ascend}
use Rattle.places.proofs.ReachRows.{private-reach, differs-private}
use Rattle.places.proofs.Controls.{nodes-are, publics-are, bounds-are, few-bounds}
use Rattle.lists.proofs.Ascending.{element-below}
use Rattle.builder.proofs.Chains.{has-difference}
use Rattle.builder.proofs.Filling.{numbers-last, number_small, fill_none, fill-same, fill-with, fill-without, fill-few}
use Rattle.places.proofs.ByWords.{new-node}

-- every [y≠v] of the bound names below x
abbrev pub differs_below : List ℕ → ℕ → ℕ → List Place
differs_below w v x = map (λ y. differs y v) (from (publics w) (x - publics w))

module _ (w : List ℕ) (v : ℕ) where
  abbrev S : Scheme
  S = scheme w

  abbrev U : Values
  U = today w

  below_more : (x : ℕ) → publics w ≤ x → differs_below w v (x + 1) ≡ differs_below w v x ++ (differs x v ∷ [])
  below_more x l =
      let e : x + 1 - publics w ≡ suc (x - publics w) = omega arith in
      let f : publics w + (x - publics w) ≡ x = omega arith in
      ap (λ (k : ℕ). map (λ y. differs y v) (from (publics w) k)) e
      ∙ ap (map (λ y. differs y v)) (from-snoc (publics w) (x - publics w))
      ∙ map-append (λ y. differs y v) (from (publics w) (x - publics w)) ((publics w + (x - publics w)) ∷ [])
      ∙ ap (λ (k : ℕ). differs_below w v x ++ (differs k v ∷ [])) f

  pub below_length : (x : ℕ) → length (differs_below w v x) ≡ x - publics w
  below_length x = length-map (from (publics w) (x - publics w)) (λ y. differs y v) ∙ from-length (publics w) (x - publics w)

  pub below_all : (x : ℕ) → x ≡ names w → differs_below w v x ≡ all_differ S v
  below_all x e =
      let b : x - publics w ≡ bounds w = omega (arith, e) in
      rw (b, publics-are w, bounds-are w)

  pub all-length : length (all_differ S v) ≡ bounds w
  all-length = ap (λ (l : List Place). length l) (sym (below_all (names w) refl)) ∙ below_length (names w) ∙ omega arith

  pub below-start : (list : List ℕ) (p : ℕ) → p ≡ publics w → Filled w list 0 (differs_below w v p)
  unfolding from
  below-start list p e = let z : p - publics w ≡ 0 = omega (arith, e) in rw z (fill_none w list)

  -- one name more
  pub below-with : (list after : List ℕ) (count r k x : ℕ) → Differs w x v → k ≡ number_of S U (differs x v) → Inserted k count list r after
      → Filled w list count (differs_below w v x) → Filled w after r (differs_below w v (x + 1))
  below-with list after count r k x d e i f =
      let g = fill-with w list after count r k (differs x v) (differs_below w v x) (has-difference w x v d) e i f in
      fill-same w after r (differs x v ∷ differs_below w v x) (differs_below w v (x + 1))
      (sym (numbers-last S U (differs x v) (differs_below w v x)) ∙ ap (numbers_for S U) (sym (below_more x d.low))) g

  pub read-free : (x : ℕ) → (not (S.restricted x) && has_private_values S x) ≡ true → S.restricted x ≡ false
  read-free x h = go (S.restricted x) (and_left (not (S.restricted x)) (has_private_values S x) h)
    where
      go : (b : Bool) → not b ≡ true → b ≡ false
      go true e = sym e
      go false e = refl

  pub read-private : (x : ℕ) → (not (S.restricted x) && has_private_values S x) ≡ true → has_private_values S x ≡ true
  read-private x h = and_right (not (S.restricted x)) (has_private_values S x) h

  -- a name without [x≠v]
  unread : (x : ℕ) → publics w ≤ v → (not (S.restricted x) && has_private_values S x) ≡ false → exists S U (differs x v) ≡ false
  unread x l r = go (S.restricted x) refl
    where
      go : (b : Bool) → S.restricted x ≡ b → exists S U (differs x v) ≡ false
      go true e = differs-restricted S U x v e
      go false e =
          let n : has_private_values S x ≡ false = rw e at r in
          let m : U.reach x v ≡ false = private-reach S x v (omega (arith, publics-are w)) ∙ n in
          rw (
            m,
            and-false (ltb v (S.publics + U.privates)),
            and-false (leb S.publics v),
            and-false (not (S.restricted x)),
            and-false (ltb x (S.publics + S.bounds)),
            and-false (leb S.publics x),
          )

  pub below-without : (list : List ℕ) (count x : ℕ) → publics w ≤ v → publics w ≤ x → (not (S.restricted x) && has_private_values S x) ≡ false
      → Filled w list count (differs_below w v x) → Filled w list count (differs_below w v (x + 1))
  below-without list count x lv l r f =
      let g = fill-without w list count (differs x v) (differs_below w v x) (unread x lv r) f in
      fill-same w list count (differs x v ∷ differs_below w v x) (differs_below w v (x + 1))
      (sym (numbers-last S U (differs x v) (differs_below w v x)) ∙ ap (numbers_for S U) (sym (below_more x l))) g

-- ---- from one private value to the next

get_d_map : (f : ℕ → ℕ) (l : List ℕ) (i : ℕ) → i < length l → get_or (map f l) i 0 ≡ f (get_or l i 0)
get_d_map f [] i h = absurd (omega arith)
get_d_map f (x ∷ xs) zero h = refl
get_d_map f (x ∷ xs) (suc i) h = get_d_map f xs i (omega arith)

ltb-up : (a x k : ℕ) → ltb (a + k) (x + k) ≡ ltb a x
ltb-up a x k = go (dec_lt a x)
  where
    go : Dec (a < x) → ltb (a + k) (x + k) ≡ ltb a x
    go (yes l) = lt-ltb (a + k) (x + k) (omega arith) ∙ sym (lt-ltb a x l)
    go (no l) = le-ltb (a + k) (x + k) (omega arith) ∙ sym (le-ltb a x (omega arith))

same_up : (a x k : ℕ) → same (a + k) (x + k) ≡ same a x
same_up a x k = go (ℕ_discrete a x)
  where
    go : Dec (a ≡ x) → same (a + k) (x + k) ≡ same a x
    go (yes e) = same-yes (a + k) (x + k) (omega arith) ∙ sym (same-yes a x e)
    go (no d) = same-no (a + k) (x + k) (λ q. d (omega arith)) ∙ sym (same-no a x d)

insert-up : (k a : ℕ) (l : List ℕ) → insert (a + k) (map (λ n. n + k) l) ≡ map (λ n. n + k) (insert a l)
unfolding insert
insert-up k a [] = refl
insert-up k a (x ∷ xs) = rw (ltb-up a x k, same_up a x k) (go (ltb a x) (same a x) (insert-up k a xs))
  where
    go : (b c : Bool) → insert (a + k) (map (λ n. n + k) xs) ≡ map (λ n. n + k) (insert a xs)
        → pick b ((a + k) ∷ (x + k) ∷ map (λ n. n + k) xs) (pick c ((x + k) ∷ map (λ n. n + k) xs) ((x + k) ∷ insert (a + k) (map (λ n. n + k) xs)))
        ≡ map (λ n. n + k) (pick b (a ∷ x ∷ xs) (pick c (x ∷ xs) (x ∷ insert a xs)))
    go true c ih = refl
    go false true ih = refl
    go false false ih = rw ih

module _ (w : List ℕ) (v : ℕ) (l : publics w ≤ v) (u : v < publics w + privates_word w) where
  abbrev S' : Scheme
  S' = scheme w

  abbrev U' : Values
  U' = today w

  differs-there : (x y : ℕ) → publics w ≤ y → y < publics w + privates_word w → exists S' U' (differs x y)
      ≡ (leb S'.publics x && (ltb x (S'.publics + S'.bounds) && (not (S'.restricted x) && has_private_values S' x)))
  differs-there x y h k =
      rw (
        le-leb S'.publics y (omega (arith, publics-are w)),
        lt-ltb y (S'.publics + U'.privates) (omega (arith, publics-are w)),
        private-reach S' x y (omega (arith, publics-are w)),
      )

  number_up : (x : ℕ) → exists S' U' (differs x v) ≡ true → number_of S' U' (differs x v) ≡ number_of S' U' (differs x (publics w)) + (v - publics w)
  number_up x e =
      let t : (leb S'.publics x && (ltb x (S'.publics + S'.bounds) && (not (S'.restricted x) && has_private_values S' x))) ≡ true =
      sym (differs-there x v l u) ∙ e in
      let a : S'.publics ≤ x = leb-true S'.publics x (and_left (leb S'.publics x) _ t) in
      let r : has_private_values S' x ≡ true =
      and_right (not (S'.restricted x)) (has_private_values S' x) (and_right (ltb x (S'.publics + S'.bounds)) _ (and_right (leb S'.publics x) _ t)) in
      omega (arith, publics-are w, differs-private S' x v a r, differs-private S' x (publics w) a r)

  pub numbers_up : (ys : List ℕ)
      → numbers_for S' U' (map (λ y. differs y v) ys) ≡ map (λ n. n + (v - publics w)) (numbers_for S' U' (map (λ y. differs y (publics w)) ys))
  numbers_up [] = rw (numbers-none S' U')
  numbers_up (y ∷ ys) = go (exists S' U' (differs y v)) refl (numbers_up ys)
    where
      same_place : exists S' U' (differs y (publics w)) ≡ exists S' U' (differs y v)
      same_place = differs-there y (publics w) (omega arith) (omega arith) ∙ sym (differs-there y v l u)

      go : (b : Bool) → exists S' U' (differs y v) ≡ b
          → numbers_for S' U' (map (λ y. differs y v) ys) ≡ map (λ n. n + (v - publics w)) (numbers_for S' U' (map (λ y. differs y (publics w)) ys))
          → numbers_for S' U' (differs y v ∷ map (λ y. differs y v) ys)
          ≡ map (λ n. n + (v - publics w)) (numbers_for S' U' (differs y (publics w) ∷ map (λ y. differs y (publics w)) ys))
      go true e ih =
          numbers-yes S' U' (differs y v) (map (λ y. differs y v) ys) (exists-has S' U' (differs y v) e)
          ∙ rw (ih, number_up y e)
          (insert-up (v - publics w) (number_of S' U' (differs y (publics w))) (numbers_for S' U' (map (λ y. differs y (publics w)) ys)))
          ∙ ap (map (λ n. n + (v - publics w))) (sym (numbers-yes S' U' (differs y (publics w)) (map (λ y. differs y (publics w)) ys)
          (exists-has S' U' (differs y (publics w)) (same_place ∙ e))))
      go false e ih =
          numbers-no S' U' (differs y v) (map (λ y. differs y v) ys) e ∙ ih
          ∙ ap (map (λ n. n + (v - publics w)))
          (sym (numbers-no S' U' (differs y (publics w)) (map (λ y. differs y (publics w)) ys) (same_place ∙ e)))

  -- the numbers of the first private value, each raised
  module _ (h : cause w ≡ 0) (first : List ℕ) (count : ℕ) (f : Filled w first count (all_differ S' (publics w))) where
    all_up : numbers_for S' U' (all_differ S' v) ≡ map (λ n. n + (v - publics w)) (take count first)
    all_up = numbers_up (from S'.publics S'.bounds) ∙ ap (map (λ n. n + (v - publics w))) (sym f.holds)

    pub up-count : count ≡ length (numbers_for S' U' (all_differ S' v))
    up-count = f.size ∙ sym (ap (λ (l : List ℕ). length l) (numbers_up (from S'.publics S'.bounds))
        ∙ length-map (numbers_for S' U' (all_differ S' (publics w))) (λ n. n + (v - publics w)))

    pub up-few : count ≤ 32
    up-few = omega (arith, fill-few w first count (all_differ S' (publics w)) f, all-length w (publics w), few-bounds w h)

    up_word : (i : ℕ) → i < count → count ≤ length first → get_or (numbers_for S' U' (all_differ S' v)) i 0 ≡ get_or first i 0 + (v - publics w)
    up_word i k m =
        ap (λ (l : List ℕ). get_or l i 0) all_up
        ∙ get_d_map (λ n. n + (v - publics w)) (take count first) i (omega (arith, length-take-le count first m))
        ∙ ap (λ (n : ℕ). n + (v - publics w)) (get_or-take count first i 0 k)

    -- no number grows too large
    pub up_small : (i : ℕ) → i < count → count ≤ length first → get_or first i 0 + (v - publics w) < 4294967296
    up_small i k m =
        let n = numbers_for S' U' (all_differ S' v) in
        let a : ascends 4294967296 0 n ≡ true = numbers-ascend S' U' 0 4294967296 (all_differ S' v) (λ p q e. (omega arith, number_small w h p e)) in
        omega (arith, up_word i k m, element-below 4294967296 0 n a i (omega (arith, up-count)))

    -- all are written
    pub up_done : (list : List ℕ) → count ≤ length first → count ≤ length list → ((j : ℕ) → j < count → get_or list j 0 ≡ get_or first j 0 + (v - publics w))
        → take count list ≡ numbers_for S' U' (all_differ S' v)
    up_done list m o e =
        let s : length (take count list) ≡ count = length-take-le count list o in
        ext_get_or 0 (take count list) (numbers_for S' U' (all_differ S' v)) (s ∙ up-count)
        (λ j k. get_or-take count list j 0 (omega (arith, s)) ∙ e j (omega (arith, s)) ∙ sym (up_word j (omega (arith, s)) m))

-- ---- "New r=n: take [*≠n], read [x≠n] for every input and formal; give [r=n]; on."

module _ (w : List ℕ) (h : cause w ≡ 0) (n : ℕ) (l : n < nodes w) (k : is_new w n ≡ true) where
  is-new : (scheme w).node n ≡ new (node_first w n) (node_second w n)
  is-new = new-node w h n l (same_true (node_kind w n) 2 k)

  pub made-restricted : (scheme w).restricted (node_first w n) ≡ true
  made-restricted = (accepted w h).new-restricted n (node_first w n) (node_second w n) is-new

  pub made-low : publics w ≤ node_first w n
  made-low = omega (arith, ((accepted w h).new-name n (node_first w n) (node_second w n) is-new).low, publics-are w)

  pub made-high : node_first w n < names w
  made-high = omega (arith, ((accepted w h).new-name n (node_first w n) (node_second w n) is-new).high, publics-are w, bounds-are w)

  pub made_inside : node_second w n < nodes w
  made_inside = omega (arith, ((accepted w h).new-inside n (node_first w n) (node_second w n) is-new).1, nodes-are w)

  pub made_holds : (v : ℕ) → publics w ≤ v → v < publics w + privates_word w → Holds w (node_first w n) v
  made_holds v a b = record {
    low = made-low;
    high = made-high;
    value = rw (values-restricted w h (node_first w n) made-restricted) (member-from v (publics w) (privates_word w) a b);
  }

  pub made-arrow : (v name : ℕ) (ins outs : List ℕ) (i o : ℕ) → name ≡ node_first w n → Filled w ins i (control n 0 ∷ free v ∷ all_differ (scheme w) v)
      → Filled w outs o (control (node_second w n) 0 ∷ equals (node_first w n) v ∷ all_differ (scheme w) v)
      → of_table w (made w n v) ≡ arrow 2 n name (ListN.take i ins) (ListN.take o outs)
  made-arrow v name ins outs i o e x y =
      let a : (of_table w (made w n v)).inputs ≡ numbers_for (scheme w) (today w) (control n 0 ∷ free v ∷ all_differ (scheme w) v) =
      inputs-named (scheme w) (today w) (made w n v) ∙ rw made-restricted in
      let b : (of_table w (made w n v)).outputs
      ≡ numbers_for (scheme w) (today w) (control (node_second w n) 0 ∷ equals (node_first w n) v ∷ all_differ (scheme w) v) =
      outputs-named (scheme w) (today w) (made w n v) ∙ rw made-restricted in
      rw (a, b, x.holds, y.holds, e)
