-- Laws of the parts of an index: a word of a part, runs of stores before and behind it, and the definitions as they are filled in.
use mathlib.Core.Path.{◌≡◌, refl, sym, ap, ◌∙◌}
use mathlib.Core.List.{List, ◌++◌, map, map-append, append_assoc}
use Prim.Native.Nat.{ℕ, zero, suc, ◌+◌, ◌-◌, ◌≤◌, ◌<◌, min}
use native.Mathlib.Omega.{arith}
use lib.Dec.{ltb}
use lib.ListN.{length, set, take, drop, replicate, length-append, length-drop, length-map, length-replicate}
use lib.ListN.{get_or-replicate}
use lib.Seq.{sets, sets-eq, set-get_or, length-take-le}
use lib.Seq.{take_at, drop_at}
use borrow.Author.Tests.{lt-ltb, le-ltb}
use Rattle.lists.specs.Lists.{word, from, range}
use Rattle.lists.proofs.Ranges.{from-length, from-append}
use Rattle.scheme.specs.Words.{nodes}
use Rattle.lists.proofs.Slices.{slice-between, slice-word}
use Rattle.lists.proofs.Stores.{word-range, sets-append, word_in, long-map, put_on, take-sets, word-high, store-more}
use Rattle.scheme.specs.Owners.{owner, home}
use Rattle.scheme.specs.Scheme.{binder_of}
use Rattle.scheme.specs.Index.{owner_number, binder_number, owners_in, homes_in, definitions_in}
use Rattle.scheme.specs.Index.{owner_words, home_words, definition_word_of, definition_words, binder_words, body_words}
use Rattle.scheme.specs.Index.{index_words, definitions_offset}
use Rattle.scheme.specs.Inner.Filling.{Standing, node_definition}
use Rattle.scheme.proofs.Indexed.{definition-next-in}

-- ---- the definitions, one by one

-- the word of a node
abbrev pub node_word : List ℕ → ℕ → ℕ
node_word w n = definition_word_of w n (ltb n (nodes w))

module _ (w lent : List ℕ) (S : Standing w lent) (n : ℕ) (h : n < 256) (x : List ℕ) (e : x ≡ sets lent definitions_offset (map (node_word w) (range n))) where
  words-length : length (map (node_word w) (range n)) ≡ n
  words-length = long-map (node_word w) n

  owners-kept : owners_in x ≡ owner_words w
  unfolding owners_in
  owners-kept = ap (take 256) e ∙ take-sets 256 (map (node_word w) (range n)) lent 512 (omega arith) ∙ S.owners-right

  homes-kept : homes_in x ≡ home_words w
  unfolding homes_in
  homes-kept =
      ap (λ (l : List ℕ). drop 256 (take 512 l)) e ∙ ap (drop 256) (take-sets 512 (map (node_word w) (range n)) lent 512 (omega arith)) ∙ S.homes-right

  below : (m : ℕ) → m < n → word (definitions_in x) m ≡ node_word w m
  unfolding definitions_in
  below m l =
      slice-word x 512 768 m (omega arith)
      ∙ ap (λ (r : List ℕ). word r (512 + m)) e
      ∙ word_in lent 512 (map (node_word w) (range n)) m (omega (arith, words-length, S.room)) (omega (arith, words-length))
      ∙ word-range (node_word w) n m l

  pub next-definition : (r : ℕ) → n < nodes w → r ≡ node_definition x n → r ≡ node_word w n
  next-definition r l q =
      q ∙ rw (lt-ltb n (nodes w) l, owners-kept, homes-kept)
      (definition-next-in (owner_words w) (home_words w) (definitions_in x) n (λ m u. below m u ∙ rw (lt-ltb m (nodes w) (omega arith))))

  pub one_more : (v : ℕ) → v ≡ node_word w n → set x (512 + n) v ≡ sets lent definitions_offset (map (node_word w) (range (n + 1)))
  one_more v q = store-more (node_word w) lent 512 n x e v q

-- zeros over zeros
zero-run : (k : ℕ) (l : List ℕ) (i : ℕ) → ((j : ℕ) → j < k → word l (i + j) ≡ 0) → sets l i (replicate k 0) ≡ l
zero-run zero l i h = refl
zero-run (suc k) l i h =
    let e : set l i 0 ≡ l = ap (set l i) (sym (let q : i + 0 ≡ i = omega arith in rw q at (h 0 (omega arith)))) ∙ set-get_or l i 0 in
    ap (λ (r : List ℕ). sets r (suc i) (replicate k 0)) e ∙
    zero-run k l (suc i) (λ j u. let q : suc i + j ≡ i + suc j = omega arith in rw q (h (suc j) (omega arith)))

map-zeros : (g : ℕ → ℕ) (a k : ℕ) → ((n : ℕ) → a ≤ n → n < a + k → g n ≡ 0) → map g (from a k) ≡ replicate k 0
unfolding from
map-zeros g a zero h = refl
map-zeros g a (suc k) h = rw (h a (omega arith) (omega arith), map-zeros g (a + 1) k (λ n l u. h n (omega arith) (omega arith)))

-- the nodes that the table does not have are 0 already
pub rest-clear : (w lent : List ℕ) → Standing w lent → (n : ℕ) → n ≤ 256 → min (nodes w) 256 ≤ n
    → sets lent definitions_offset (map (node_word w) (range n)) ≡ sets lent definitions_offset (definition_words w)
unfolding definition_words definitions_in
rest-clear w lent S n few l =
    let k : 256 ≡ n + (256 - n) = omega arith in
    let z : 0 + n ≡ n = omega arith in
    let m : length (map (node_word w) (range n)) ≡ n = length-map (range n) (node_word w) ∙ from-length 0 n in
    sym (
    ap (λ (j : ℕ). sets lent 512 (map (node_word w) (range j))) k ∙
    ap (λ (us : List ℕ). sets lent 512 us) (ap (map (node_word w)) (from-append 0 n (256 - n)) ∙ map-append (node_word w) (range n) (from (0 + n) (256 - n))) ∙
    sets-append lent 512 (map (node_word w) (range n)) (map (node_word w) (from (0 + n) (256 - n))) ∙
    rw (z, m, map-zeros (node_word w) n (256 - n) (λ j u v. rw (le-ltb j (nodes w) (omega arith))))
    (zero-run (256 - n) (sets lent 512 (map (node_word w) (range n))) (512 + n) (λ j u.
    let q : 512 + n + j ≡ 512 + (n + j) = omega arith in
    word-high lent 512 (map (node_word w) (range n)) (512 + n + j) (omega (arith, m)) ∙
    rw q (sym (slice-word lent 512 768 (n + j) (omega arith)) ∙ ap (λ (d : List ℕ). word d (n + j)) S.clear ∙
    get_or-replicate 256 (n + j) 0 0 (omega arith)))))

-- ---- part after part

module _ (w : List ℕ) where
  pub owners-long : length (owner_words w) ≡ 256
  unfolding owner_words
  owners-long = long-map (λ k. owner_number (owner w k)) 256

  pub homes-long : length (home_words w) ≡ 256
  unfolding home_words
  homes-long = long-map (home w) 256

  pub definitions-long : length (definition_words w) ≡ 256
  unfolding definition_words
  definitions-long = long-map (node_word w) 256

  pub binders-long : length (binder_words w) ≡ 64
  unfolding binder_words
  binders-long = long-map (λ y. binder_number (binder_of w y)) 64

  pub front_long : length (owner_words w ++ home_words w) ≡ 512
  front_long = length-append (owner_words w) (home_words w) ∙ omega (arith, owners-long, homes-long)

  pub most-long : length (owner_words w ++ home_words w ++ definition_words w) ≡ 768
  most-long = length-append (owner_words w ++ home_words w) (definition_words w) ∙ omega (arith, front_long, definitions-long)

  pub bodies-long : length (body_words w) ≡ 768
  unfolding body_words
  bodies-long = most-long

  pub index-long : length (index_words w) ≡ 832
  unfolding index_words
  index-long = length-append (body_words w) (binder_words w) ∙ omega (arith, bodies-long, binders-long)

-- the calls of `fill_bodies` in turn
module _ (w x : List ℕ) (room : 768 ≤ length x) where
  taken : length (take 256 x) ≡ 256
  taken = length-take-le 256 x (omega arith)

  module _ (o h : List ℕ) (o-right : o ≡ map (λ k. owner_number (owner w k)) (range (length (take 256 x))))
      (h-right : h ≡ map (home w) (range (length (take 256 (drop 256 (o ++ drop 256 x)))))) where
    owned : o ≡ owner_words w
    unfolding owner_words
    owned = rw taken at o-right

    middle : length (take 256 (drop 256 (o ++ drop 256 x))) ≡ 256
    middle =
        length-take-le 256 (drop 256 (o ++ drop 256 x))
        (rw (owned, drop_at (owner_words w) (drop 256 x) 256 (owners-long w), length-drop 256 x) (omega arith))

    homed : h ≡ home_words w
    unfolding home_words
    homed = rw middle at h-right

    module _ (y z : List ℕ) (e : y ≡ take 256 (o ++ drop 256 x) ++ (h ++ drop 256 (drop 256 (o ++ drop 256 x))))
        (cleared : z ≡ replicate (length (take 256 (drop 512 y))) 0) where
      -- owners and homes
      two-parts : y ≡ owner_words w ++ home_words w ++ drop 512 x
      two-parts = e ∙ rw (owned, homed) (put_on (owner_words w) (home_words w) x 256 256 (owners-long w))

      two-long : length y ≡ length x
      two-long = rw (two-parts, length-append (owner_words w ++ home_words w) (drop 512 x), front_long w, length-drop 512 x) (omega arith)

      zeros : z ≡ replicate 256 0
      zeros = rw (length-take-le 256 (drop 512 y) (rw (length-drop 512 y, two-long) (omega arith))) at cleared

      -- then zeros
      module _ (v : List ℕ) (f : v ≡ take 512 y ++ (z ++ drop 256 (drop 512 y))) where
        three-parts : v ≡ owner_words w ++ home_words w ++ replicate 256 0 ++ drop 768 x
        three-parts = f ∙ rw (zeros, two-parts) (put_on (owner_words w ++ home_words w) (replicate 256 0) x 512 256 (front_long w))

        zeros-long : length (owner_words w ++ home_words w ++ replicate 256 0) ≡ 768
        zeros-long = length-append (owner_words w ++ home_words w) (replicate 256 0) ∙ omega (arith, front_long w, length-replicate {A = ℕ} 256 0)

        pub ready : Standing w v
        unfolding owners_in homes_in definitions_in
        ready = record {
          room = rw (three-parts, length-append (owner_words w ++ home_words w ++ replicate 256 0) (drop 768 x), zeros-long, length-drop 768 x) (omega arith);
          owners-right =
              rw (
                three-parts,
                append_assoc (owner_words w ++ home_words w) (replicate 256 0) (drop 768 x),
                append_assoc (owner_words w) (home_words w) (replicate 256 0 ++ drop 768 x),
              )
              (take_at (owner_words w) (home_words w ++ (replicate 256 0 ++ drop 768 x)) 256 (owners-long w));
          homes-right =
              rw (
                three-parts,
                append_assoc (owner_words w ++ home_words w) (replicate 256 0) (drop 768 x),
                append_assoc (owner_words w) (home_words w) (replicate 256 0 ++ drop 768 x),
              )
              (slice-between (owner_words w) (home_words w) (replicate 256 0 ++ drop 768 x) 256 512 (owners-long w) (omega (arith, homes-long w)));
          clear =
              rw (three-parts, append_assoc (owner_words w ++ home_words w) (replicate 256 0) (drop 768 x))
              (slice-between (owner_words w ++ home_words w) (replicate 256 0) (drop 768 x) 512 768 (front_long w)
              (omega (arith, length-replicate {A = ℕ} 256 0)));
        }

        -- and definitions over them
        pub bodies-filled : (u : List ℕ) → u ≡ sets v definitions_offset (definition_words w) → u ≡ body_words w ++ drop 768 x
        unfolding body_words
        bodies-filled u g =
            g ∙ sets-eq (definition_words w) v 512 (omega (arith, definitions-long w, ready.room)) ∙
            rw (
              definitions-long w,
              three-parts,
              append_assoc (owner_words w ++ home_words w) (replicate 256 0) (drop 768 x),
              take_at (owner_words w ++ home_words w) (replicate 256 0 ++ drop 768 x) 512 (front_long w),
              ← append_assoc (owner_words w ++ home_words w) (replicate 256 0) (drop 768 x),
              drop_at (owner_words w ++ home_words w ++ replicate 256 0) (drop 768 x) 768 zeros-long,
            )

-- the binders behind them
pub all-filled : (w x y b : List ℕ) → 832 ≤ length x → y ≡ body_words w ++ drop 768 x
    → b ≡ map (λ z. binder_number (binder_of w z)) (range (length (take 64 (drop 768 y))))
    → take 768 y ++ (b ++ drop 64 (drop 768 y)) ≡ index_words w ++ drop 832 x
unfolding index_words binder_words
all-filled w x y b room e g =
    let l : length y ≡ length x = rw (e, length-append (body_words w) (drop 768 x), bodies-long w, length-drop 768 x) (omega arith) in
    let m : length (take 64 (drop 768 y)) ≡ 64 = length-take-le 64 (drop 768 y) (rw (length-drop 768 y, l) (omega arith)) in
    let c : b ≡ binder_words w = rw m at g in
    rw (c, e) (put_on (body_words w) (binder_words w) x 768 64 (bodies-long w))
