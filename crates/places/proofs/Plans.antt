-- An accepted table with its plan: what the words of the plan tell.
use Rattle.std.proofs.Common.{◌≡◌, ℕ, zero, suc, ◌+◌, ◌-◌, ◌<◌, ◌≤◌, Bool, false, List, [], ◌++◌, map, length, take, drop, set, replicate, sym, refl, ap, ◌∙◌, append_assoc, append-nil, arith, length-append, length-drop, take-append-drop, length-take-le, get_or-take, take-take, drop-drop, take_at, get_or-append-add, drop_at, le-ltb, lt-ltb, le-leb}
use mathlib.Core.List.{map-append}
use native.Mathlib.Decide.{dec_lt}
use lib.ListN.{length-replicate}
use lib.Seq.{sets, sets-eq, length-sets, slice}
use Rattle.lists.specs.Lists.{word, from, range, total}
use Rattle.lists.proofs.Ranges.{from-append}
use Rattle.lists.proofs.Tests.{not-true-false}
use Rattle.lists.proofs.Slices.{slice-between}
use Rattle.lists.proofs.Stores.{word-range, long-map, take-sets, store-on, sets-append}
use Rattle.scheme.specs.Words.{publics, bounds, names, nodes}
use Rattle.scheme.specs.Scheme.{scheme}
use Rattle.scheme.specs.Owners.{branch_thread_of}
use Rattle.scheme.specs.Index.{index_words, homes_in, definitions_in, held_at, thread_at, branch_thread_at, name_thread_at, Filled}
use Rattle.scheme.proofs.Parts.{index-long}
use Rattle.table.specs.Causes.{cause}
use Rattle.table.specs.Known.{Known}
use Rattle.table.proofs.Lookup.{home-right, definition-right, thread-right, branch-thread-right, name-thread-right, held-right}
use Rattle.places.specs.Places.{controls}
use Rattle.places.specs.Rows.{row_start_of, free_start_of}
use Rattle.places.specs.Image.{net_of, net_with}
use Rattle.places.specs.Plan.{publics_at, restricted_at, nodes_offset, privates_at, free_at, places_at, tokens_at, plan_end}
use Rattle.places.specs.Plan.{publics_in, restricted_in, reach_in, nodes_in, public_words, restricted_words, node_word, node_words}
use Rattle.places.specs.Plan.{count_words, reached_words, plan_words, Reached, Laid}
use Rattle.places.specs.Reaches.{reach, public_set_word, restricted_set_word, reach_for}
use Rattle.places.specs.Inner.Arcs.{initial_numbers}
use Rattle.places.specs.Inner.Plan.{today, privates_word, control_of, row_of}
use Rattle.places.proofs.Tallies.{get_d_past}
use Rattle.places.proofs.Bits.{set-none}
use Rattle.places.proofs.Arriving.{inside}
use Rattle.places.proofs.Rows.{places-length}
use Rattle.places.proofs.Order.{row-rises}
use Rattle.places.proofs.Initial.{initial-numbers}
use Rattle.places.proofs.Controls.{nodes-are, publics-are, bounds-are, few-nodes, few-publics, few-bounds, few-privates}
use Rattle.places.proofs.Controls.{free-few, control-few, control-goes-on}
use Rattle.places.proofs.Tokens.{tokens-few}

module _ (w : List ℕ) where
  -- ---- one word

  pub node-inside : (n : ℕ) → n ≤ nodes w → node_word w n ≡ control_of w n
  node-inside n h = go (dec_lt n (nodes w))
    where
      go : Dec (n < nodes w) → node_word w n ≡ control_of w n
      go (yes l) = rw (lt-ltb n (nodes w) l)
      go (no d) = let e : n ≡ nodes w = omega arith in rw (le-ltb n (nodes w) (omega arith)) (ap (control_of w) (sym e))

  pub node-past : (n : ℕ) → nodes w ≤ n → node_word w n ≡ control_of w (nodes w)
  node-past n h = rw (le-ltb n (nodes w) h)

  -- ---- the counts of the net

  pub net-places : (net_of (scheme w)).places ≡ control_of w (nodes w)
  unfolding net_of net_with
  net-places = places-length (scheme w) (today w) ∙ ap (control_of w) (nodes-are w)

  pub net-initial : (net_of (scheme w)).initial ≡ initial_numbers (scheme w) (today w)
  unfolding net_of net_with
  net-initial = initial-numbers (scheme w) (today w)

  -- ---- the parts

  nodes-long : length (node_words w) ≡ 257
  unfolding node_words
  nodes-long = long-map (node_word w) 257

  counts-long : length (count_words w) ≡ 4
  unfolding count_words
  counts-long = refl

  publics-long : length (public_words w) ≡ 64
  unfolding public_words
  publics-long = long-map (public_set_word w) 64

  restricted-long : length (restricted_words w) ≡ 64
  unfolding restricted_words
  restricted-long = long-map (restricted_set_word w) 64

  to-publics : length (index_words w ++ public_words w) ≡ 896
  to-publics = length-append (index_words w) (public_words w) ∙ omega (arith, index-long w, publics-long)

  reached-long : length (reached_words w) ≡ 960
  unfolding reached_words
  reached-long = length-append (index_words w ++ public_words w) (restricted_words w) ∙ omega (arith, to-publics, restricted-long)

  to-nodes : length (reached_words w ++ node_words w) ≡ 1217
  to-nodes = length-append (reached_words w) (node_words w) ∙ omega (arith, reached-long, nodes-long)

  pub plan-long : length (plan_words w) ≡ 1221
  unfolding plan_words
  plan-long = length-append (reached_words w ++ node_words w) (count_words w) ∙ omega (arith, to-nodes, counts-long)

  -- words that begin with the plan, and the plan alone
  pub laid-with : (x rest : List ℕ) → cause w ≡ 0 → x ≡ plan_words w ++ rest → Laid w x
  laid-with x rest h e = record { accepted = h; front = rw e (take_at (plan_words w) rest plan_end plan-long) }

  pub plan-laid : cause w ≡ 0 → Laid w (plan_words w)
  plan-laid h = laid-with (plan_words w) [] h (sym (append-nil (plan_words w)))

  counts-put : (z : List ℕ) (a b c d : ℕ) → a ≡ privates_word w → b ≡ free_start_of (scheme w) (today w) → c ≡ control_of w (nodes w)
      → d ≡ length (initial_numbers (scheme w) (today w)) → set (set (set (set z 1217 a) 1218 b) 1219 c) 1220 d ≡ sets z privates_at (count_words w)
  unfolding count_words
  counts-put z a b c d p q r s = rw (p, q, r, s, net-places, net-initial)

  -- ---- part after part

  -- the reaches behind the index
  module _ (x : List ℕ) (K : Known w x) (room : 1221 ≤ length x) (y : List ℕ)
      (e : y ≡ sets (sets x publics_at (public_words w)) restricted_at (restricted_words w)) where
    known-whole : x ≡ index_words w ++ drop 832 x
    known-whole = sym (ap (λ (l : List ℕ). l ++ drop 832 x) (sym K.right.front) ∙ take-append-drop 832 x)

    with-reaches : y ≡ reached_words w ++ drop 960 x
    unfolding reached_words
    with-reaches =
        e ∙ ap (λ (l : List ℕ). sets (sets l 832 (public_words w)) 896 (restricted_words w)) known-whole
        ∙ ap (λ (l : List ℕ). sets l 896 (restricted_words w)) (store-on (index_words w) (public_words w) x 832 64 (index-long w) publics-long (omega arith))
        ∙ store-on (index_words w ++ public_words w) (restricted_words w) x 896 64 to-publics restricted-long (omega arith)

    pub reached-here : Reached w y
    reached-here =
        record { accepted = K.accepted; front = ap (take 960) with-reaches ∙ take_at (reached_words w) (drop 960 x) 960 reached-long }

    pub reached-size : length y ≡ length x
    reached-size = ap length with-reaches ∙ length-append (reached_words w) (drop 960 x) ∙ omega (arith, reached-long, length-drop 960 x)

    pub reached-rest : drop plan_end y ≡ drop plan_end x
    reached-rest =
        ap (drop 1221) with-reaches ∙ sym (drop-drop 261 960 (reached_words w ++ drop 960 x))
        ∙ ap (drop 261) (drop_at (reached_words w) (drop 960 x) 960 reached-long) ∙ drop-drop 261 960 x

  module _ (x : List ℕ) (K : Reached w x) (room : 1221 ≤ length x) where
    whole : x ≡ reached_words w ++ drop 960 x
    whole = sym (ap (λ (l : List ℕ). l ++ drop 960 x) (sym K.front) ∙ take-append-drop 960 x)

    with-nodes : (z : List ℕ) → z ≡ sets x nodes_offset (node_words w) → z ≡ reached_words w ++ node_words w ++ drop 1217 x
    with-nodes z e =
        e ∙ ap (λ (l : List ℕ). sets l 960 (node_words w)) whole
        ∙ store-on (reached_words w) (node_words w) x 960 257 reached-long nodes-long (omega arith)

    with_all : (z : List ℕ) → z ≡ sets x nodes_offset (node_words w) → sets z privates_at (count_words w) ≡ plan_words w ++ drop plan_end x
    unfolding plan_words
    with_all z e =
        ap (λ (l : List ℕ). sets l 1217 (count_words w)) (with-nodes z e)
        ∙ store-on (reached_words w ++ node_words w) (count_words w) x 1217 4 to-nodes counts-long (omega arith)

    -- the counts are stored one by one
    pub laid_out : (z : List ℕ) → z ≡ sets x nodes_offset (node_words w) → (a b c d : ℕ) → a ≡ privates_word w → b ≡ free_start_of (scheme w) (today w)
        → c ≡ control_of w (nodes w) → d ≡ length (initial_numbers (scheme w) (today w))
        → set (set (set (set z 1217 a) 1218 b) 1219 c) 1220 d ≡ plan_words w ++ drop plan_end x
    laid_out z e a b c d p q r s = counts-put z a b c d p q r s ∙ with_all z e

  -- words stored behind the reaches leave them
  pub reached-kept : (x y : List ℕ) → Reached w x → (a : ℕ) (ws : List ℕ) → 960 ≤ a → y ≡ sets x a ws → Reached w y
  reached-kept x y K a ws h e = record { accepted = K.accepted; front = ap (take 960) e ∙ take-sets 960 ws x a h ∙ K.front }

  -- the index stands before the reaches
  pub reached-known : (x : List ℕ) → Reached w x → Known w x
  unfolding reached_words
  reached-known x K = record {
    accepted = K.accepted;
    right = record {
      front =
          sym (take-take 832 960 x (omega arith)) ∙ ap (take 832) K.front
          ∙ rw (append_assoc (index_words w) (public_words w) (restricted_words w))
          (take_at (index_words w) (public_words w ++ restricted_words w) 832 (index-long w));
    };
  }

-- ---- words that are the same from some number on

map_same : (g : ℕ → ℕ) (a k v : ℕ) → ((j : ℕ) → a ≤ j → g j ≡ v) → map g (from a k) ≡ replicate k v
unfolding from
map_same g a zero v h = refl
map_same g a (suc k) v h = rw (h a (omega arith), map_same g (a + 1) k v (λ j l. h j (omega arith)))

-- the words of the first n numbers are stored, and v in each of the k words behind them
module _ (g : ℕ → ℕ) (lent : List ℕ) (a n k v : ℕ) (same : (j : ℕ) → n ≤ j → g j ≡ v) (room : a + n + k ≤ length lent) where
  words_same : map g (range (n + k)) ≡ map g (range n) ++ replicate k v
  words_same =
      ap (map g) (from-append 0 n k) ∙ map-append g (range n) (from (0 + n) k)
      ∙ (let z : 0 + n ≡ n = omega arith in rw (z, map_same g n k v same))

  pub rest-same : (x z : List ℕ) → x ≡ sets lent a (map g (range n)) → z ≡ replicate (length (take k (drop (a + n) x))) v
      → take (a + n) x ++ (z ++ drop k (drop (a + n) x)) ≡ sets lent a (map g (range (n + k)))
  rest-same x z e f =
      let l : length x ≡ length lent = ap (λ (r : List ℕ). length r) e ∙ length-sets lent a (map g (range n)) in
      let m : length (take k (drop (a + n) x)) ≡ k = length-take-le k (drop (a + n) x) (omega (arith, length-drop (a + n) x, l)) in
      let c : z ≡ replicate k v = rw m at f in
      let o : a + length (map g (range n)) ≡ a + n = rw (long-map g n) in
      rw (c, drop-drop k (a + n) x) (
      sym (append_assoc (take (a + n) x) (replicate k v) (drop (a + n + k) x))
      ∙ (let h : length (replicate k v) ≡ k = length-replicate k v in
      sym (rw h at (sets-eq (replicate k v) x (a + n) (omega (arith, h, l)))))
      ∙ rw (words_same, sets-append lent a (map g (range n)) (replicate k v), o, ← e))

-- what `fill` leaves behind the index
module _ (w lent : List ℕ) (r : Bool) (after : List ℕ) (F : Filled w lent r after) (room : 832 ≤ length lent) where
  filled_is : after ≡ index_words w ++ drop 832 lent
  filled_is = F.words ∙ rw (le-leb 832 (length lent) room)

  pub filled-long : length after ≡ length lent
  filled-long = ap length filled_is ∙ length-append (index_words w) (drop 832 lent) ∙ omega (arith, index-long w, length-drop 832 lent)

  pub filled-rest : drop plan_end after ≡ drop plan_end lent
  filled-rest =
      ap (drop 1221) filled_is ∙ sym (drop-drop 389 832 (index_words w ++ drop 832 lent))
      ∙ ap (drop 389) (drop_at (index_words w) (drop 832 lent) 832 (index-long w)) ∙ drop-drop 389 832 lent

-- ---- from one start to the next

module _ (w : List ℕ) where
  pub row-none : (x : ℕ) → x ≤ publics w → row_of w x ≡ 0
  unfolding row_start_of total from
  row-none x h = let e : x - (scheme w).publics ≡ 0 = omega (arith, publics-are w) in rw e

  pub node-step : (n r : ℕ) → n < nodes w → r ≡ controls (scheme w) n → node_word w (n + 1) ≡ node_word w n + r
  node-step n r l e = omega (arith, node-inside w (n + 1) (omega arith), node-inside w n (omega arith), control-goes-on w n, e)

-- ---- the words of an accepted table stay small

module _ (w : List ℕ) (h : cause w ≡ 0) where
  pub few-names : names w ≤ 64
  few-names = omega (arith, few-publics w h, few-bounds w h)

  pub rows_end : row_of w (names w) ≡ free_start_of (scheme w) (today w)
  unfolding free_start_of
  rows_end = let e : names w ≡ (scheme w).publics + (scheme w).bounds = omega (arith, publics-are w, bounds-are w) in ap (row_of w) e

  pub row_small : (x : ℕ) → x ≤ names w → row_of w x ≤ 3072
  row_small x l = go (dec_lt x (publics w))
    where
      go : Dec (x < publics w) → row_of w x ≤ 3072
      go (yes d) = omega (arith, row-none w x (omega arith))
      go (no d) = omega (arith, row-rises (scheme w) (today w) x (names w) (omega (arith, publics-are w)) l, rows_end, free-few w h)

  pub node-small : (n : ℕ) → node_word w n < 65536
  node-small n = go (dec_lt n (nodes w))
    where
      go : Dec (n < nodes w) → node_word w n < 65536
      go (yes l) = omega (arith, node-inside w n (omega arith), control-few w h n (omega arith))
      go (no l) = omega (arith, node-past w n (omega arith), control-few w h (nodes w) (omega arith))

-- ---- what the reaches tell

module _ (w x : List ℕ) (K : Reached w x) where
  reached-part : (a e : ℕ) → e ≤ 960 → slice a e x ≡ slice a e (reached_words w)
  reached-part a e h = ap (drop a) (sym (take-take e 960 x h) ∙ ap (take e) K.front)

  publics-told : publics_in x ≡ public_words w
  unfolding publics_in reached_words
  publics-told =
      reached-part 832 896 (omega arith) ∙
      rw (append_assoc (index_words w) (public_words w) (restricted_words w))
      (slice-between (index_words w) (public_words w) (restricted_words w) 832 896 (index-long w) (omega (arith, publics-long w)))

  restricted-told : restricted_in x ≡ restricted_words w
  unfolding restricted_in reached_words
  restricted-told =
      reached-part 896 960 (omega arith) ∙
      ap (λ (l : List ℕ). slice 896 960 l) (sym (append-nil (index_words w ++ public_words w ++ restricted_words w))
      ∙ append_assoc (index_words w ++ public_words w) (restricted_words w) [])
      ∙ slice-between (index_words w ++ public_words w) (restricted_words w) [] 896 960 (to-publics w) (omega (arith, restricted-long w))

  -- nothing is in the reach of a number that is no name
  no_name : (y o : ℕ) → 64 ≤ y → (today w).origins y o ≡ false
  no_name y o h =
      not-true-false ((today w).origins y o)
      (λ q. omega (arith, inside (scheme w) y o q, publics-are w, bounds-are w, few-publics w K.accepted, few-bounds w K.accepted))

  pub reach-told : (y : ℕ) → reach_in x y ≡ reach_for w y
  unfolding public_words restricted_words
  reach-told y = rw (publics-told, restricted-told) (go (dec_lt y 64))
    where
      go : Dec (y < 64) → reach (word (map (public_set_word w) (range 64)) y) (word (map (restricted_set_word w) (range 64)) y) ≡ reach_for w y
      go (yes l) = rw (word-range (public_set_word w) 64 y l, word-range (restricted_set_word w) 64 y l)
      go (no l) =
          let h : 64 ≤ y = omega arith in
          rw (
            get_d_past 0 (map (public_set_word w) (range 64)) y (omega (arith, long-map (public_set_word w) 64)),
            get_d_past 0 (map (restricted_set_word w) (range 64)) y (omega (arith, long-map (restricted_set_word w) 64)),
            set-none ((today w).origins y) (publics w) (λ k u. no_name y k h),
            set-none (λ k. (today w).origins y (publics w + k)) (bounds w) (λ k u. no_name y (publics w + k) h),
          )

-- ---- what a plan tells

module _ (w x : List ℕ) (L : Laid w x) where
  part_of : (a e : ℕ) → e ≤ 1221 → slice a e x ≡ slice a e (plan_words w)
  part_of a e h = ap (drop a) (sym (take-take e 1221 x h) ∙ ap (take e) L.front)

  -- the plan begins with the table's index and the reaches
  pub laid-reached : Reached w x
  unfolding plan_words
  laid-reached = record {
    accepted = L.accepted;
    front =
        sym (take-take 960 1221 x (omega arith)) ∙ ap (take 960) L.front ∙
        rw (append_assoc (reached_words w) (node_words w) (count_words w))
        (take_at (reached_words w) (node_words w ++ count_words w) 960 (reached-long w));
  }

  pub known : Known w x
  known = reached-known w x laid-reached

  pub reach-is : (y : ℕ) → reach_in x y ≡ reach_for w y
  reach-is y = reach-told w x laid-reached y

  pub nodes-told : nodes_in x ≡ node_words w
  unfolding nodes_in plan_words
  nodes-told =
      part_of 960 1217 (omega arith) ∙
      rw (append_assoc (reached_words w) (node_words w) (count_words w))
      (slice-between (reached_words w) (node_words w) (count_words w) 960 1217 (reached-long w) (omega (arith, nodes-long w)))

  count_word : (i : ℕ) → i < 4 → word x (1217 + i) ≡ word (count_words w) i
  unfolding plan_words
  count_word i h =
      sym (get_or-take 1221 x (1217 + i) 0 (omega arith)) ∙ ap (λ (l : List ℕ). word l (1217 + i)) L.front ∙
      ap (λ (k : ℕ). word (plan_words w) (k + i)) (sym (to-nodes w)) ∙
      get_or-append-add (reached_words w ++ node_words w) (count_words w) i 0

  -- where the control places of a node start; behind the last node, where they end
  pub node-is : (n : ℕ) → n ≤ nodes w → word (nodes_in x) n ≡ control_of w n
  unfolding node_words
  node-is n h = rw nodes-told (word-range (node_word w) 257 n (omega (arith, few-nodes w L.accepted)) ∙ node-inside w n h)

  pub privates-are : word x privates_at ≡ privates_word w
  unfolding count_words
  privates-are = count_word 0 (omega arith)

  pub free-is : word x free_at ≡ free_start_of (scheme w) (today w)
  unfolding count_words
  free-is = count_word 1 (omega arith)

  pub places-are : word x places_at ≡ control_of w (nodes w)
  unfolding count_words
  places-are = count_word 2 (omega arith) ∙ net-places w

  pub tokens-are : word x tokens_at ≡ length (initial_numbers (scheme w) (today w))
  unfolding count_words
  tokens-are = count_word 3 (omega arith) ∙ ap (λ (xs : List ℕ). length xs) (net-initial w)

  -- ---- how large they are

  pub node-few : (n : ℕ) → n ≤ nodes w → word (nodes_in x) n < 65536
  node-few n h = omega (arith, node-is n h, control-few w L.accepted n h)

  pub few-free : word x free_at ≤ 3072
  few-free = omega (arith, free-is, free-few w L.accepted)

  pub few-counted : word x privates_at ≤ 32
  few-counted = omega (arith, privates-are, few-privates w L.accepted)

  pub few-places : word x places_at < 65536
  few-places = omega (arith, places-are, control-few w L.accepted (nodes w) (omega arith))

  pub few-tokens : word x tokens_at < 65536
  few-tokens = omega (arith, tokens-are, tokens-few w L.accepted)

  -- ---- what its index tells

  pub home-is : (b : ℕ) → word (homes_in x) b ≡ (scheme w).home b
  home-is b = home-right w L.accepted x known.right b

  pub definition-is : (n : ℕ) → word (definitions_in x) n ≡ (scheme w).definition n
  definition-is n = definition-right w L.accepted x known.right n

  pub thread-is : (n : ℕ) → thread_at w x n ≡ (scheme w).thread n
  thread-is n = thread-right w L.accepted x known.right n

  pub branch-thread-is : (b : ℕ) → branch_thread_at w x b ≡ branch_thread_of w b
  unfolding scheme
  branch-thread-is b = branch-thread-right w L.accepted x known.right b

  pub name-thread-is : (y : ℕ) → name_thread_at w x y ≡ (scheme w).thread_of_name y
  name-thread-is y = name-thread-right w L.accepted x known.right y

  pub held-is : (n : ℕ) → n < nodes w → held_at w x n ≡ (scheme w).held n
  held-is n h = held-right w L.accepted x known.right n h
