-- Where rows start, told from the reaches of a plan: each count is that of the name's row.
use Rattle.std.proofs.Common.{◌≡◌, ℕ, ◌+◌, ◌-◌, ◌*◌, ◌%◌, ◌^◌, ◌<◌, ◌≤◌, min, max, Bool, true, false, List, map, length, sym, refl, ap, ◌∙◌, subst, mod-eq_of_lt, arith, take_at, le-ltb, lt-ltb}
use native.Mathlib.Decide.{ℕ_discrete, dec_lt}
use lib.Count.{ones}
use Rattle.lists.specs.Lists.{pick, same, word, from, range, keep, total}
use Rattle.lists.proofs.Tests.{both_ways, same_self, same-yes, same-no}
use Rattle.lists.proofs.Ranges.{from-append, from_member, from_more, from-done}
use Rattle.lists.proofs.Sums.{sum-append}
use Rattle.scheme.specs.Words.{publics, bounds, names}
use Rattle.scheme.specs.Scheme.{scheme}
use Rattle.table.proofs.Accepted.{accepted}
use Rattle.places.specs.Sets.{bit_at}
use Rattle.places.specs.Reaches.{least, most, public_set_word, restricted_set_word}
use Rattle.places.specs.Places.{rows, places, control_places}
use Rattle.places.specs.Rows.{row_length, row_start_of, free_start_of, control_start}
use Rattle.places.specs.Plan.{publics_in, restricted_in, privates_at, plan_words, Reached, Laid}
use Rattle.places.specs.Starts.{places_in, span_in, start_in, start_of, start_after, start_on, Right, RowsFill, EveryTableFilled}
use Rattle.places.specs.Inner.Plan.{today, privates_word, row_of}
use Rattle.places.specs.declared.reach.Reach.{Reach}
use Rattle.places.specs.declared.row.Start.{Start}
use Rattle.places.proofs.Bits.{rank, set-small, bit-zero}
use Rattle.places.proofs.Arriving.{own, restricted-in}
use Rattle.places.proofs.Rows.{row-length, row_next, row-slice, free-slice, rows-length, control-first}
use Rattle.places.proofs.Controls.{publics-are, bounds-are}
use Rattle.places.proofs.Plans.{plan-laid, reach-told, laid-reached, privates-are, row-none, row_small, rows_end}
use Rattle.places.proofs.Reaches.{restricted-bit}
use Rattle.places.proofs.Names.{row-restricted, row-private, row-public}
use Rattle.places.proofs.Totals.{total-same}

-- ---- the smaller and the larger of two

most-up : (a b : ℕ) → a ≤ b → most a b ≡ b
most-up a b h = go (dec_lt a b)
  where
    go : Dec (a < b) → most a b ≡ b
    go (yes l) = rw (lt-ltb a b l)
    go (no l) = rw (le-ltb a b (omega arith)) (omega arith)

least-low : (a b : ℕ) → a ≤ b → least a b ≡ a
least-low a b h = go (dec_lt a b)
  where
    go : Dec (a < b) → least a b ≡ a
    go (yes l) = rw (lt-ltb a b l)
    go (no l) = rw (le-ltb a b (omega arith)) (omega arith)

least-high : (a e b : ℕ) → a ≤ e → a ≤ b → a ≤ least e b
least-high a e b h l = go (dec_lt e b)
  where
    go : Dec (e < b) → a ≤ least e b
    go (yes d) = rw (lt-ltb e b d) h
    go (no d) = rw (le-ltb e b (omega arith)) l

least-min : (a b : ℕ) → least a b ≡ min a b
least-min a b = go (dec_lt a b)
  where
    go : Dec (a < b) → least a b ≡ min a b
    go (yes l) = rw (lt-ltb a b l) (omega arith)
    go (no l) = rw (le-ltb a b (omega arith)) (omega arith)

most-max : (a b : ℕ) → most a b ≡ max a b
most-max a b = go (dec_lt a b)
  where
    go : Dec (a < b) → most a b ≡ max a b
    go (yes l) = rw (lt-ltb a b l) (omega arith)
    go (no l) = rw (le-ltb a b (omega arith)) (omega arith)

pub least-few : (a b : ℕ) → least a b ≤ b
least-few a b = go (dec_lt a b)
  where
    go : Dec (a < b) → least a b ≤ b
    go (yes l) = rw (lt-ltb a b l) (omega arith)
    go (no l) = rw (le-ltb a b (omega arith)) (omega arith)

pub most-low : (a b : ℕ) → b ≤ most a b
most-low a b = go (dec_lt a b)
  where
    go : Dec (a < b) → b ≤ most a b
    go (yes l) = rw (lt-ltb a b l) (omega arith)
    go (no l) = rw (le-ltb a b (omega arith)) (omega arith)

-- ---- a sum over the numbers from x to e

pub total-more : (f : ℕ → ℕ) (x e : ℕ) → x < e → total (map f (from x (e - x))) ≡ f x + total (map f (from (x + 1) (e - (x + 1))))
unfolding total
total-more f x e h = rw (from_more x e h)

pub total-done : (f : ℕ → ℕ) (x e : ℕ) → e ≤ x → total (map f (from x (e - x))) ≡ 0
unfolding total
total-done f x e h = rw (from-done x e h)

total-split : (f : ℕ → ℕ) (x m e : ℕ) → x ≤ m → m ≤ e
    → total (map f (from x (e - x))) ≡ total (map f (from x (m - x))) + total (map f (from m (e - m)))
total-split f x m e h l =
    let p : e - x ≡ m - x + (e - m) = omega arith in
    let q : x + (m - x) ≡ m = omega arith in
    rw (p, from-append x (m - x) (e - m), q) (sum-append f (from x (m - x)) (from m (e - m)))

-- over the numbers from p on, below b and e: those below a, and those from it on
sum-on : (f : ℕ → ℕ) (p b a e : ℕ) → p ≤ b → a ≤ e
    → total (map f (from (most 0 p) (least e b - most 0 p)))
    ≡ total (map f (from (most 0 p) (least a b - most 0 p))) + total (map f (from (most a p) (least e b - most a p)))
sum-on f p b a e k h = rw (most-up 0 p (omega arith)) (go (dec_lt p a) (dec_lt a b))
  where
    go : Dec (p < a) → Dec (a < b)
        → total (map f (from p (least e b - p))) ≡ total (map f (from p (least a b - p))) + total (map f (from (most a p) (least e b - most a p)))
    go (no l) d = rw (most-up a p (omega arith), least-low a b (omega arith), total-done f p a (omega arith)) (omega arith)
    go (yes l) (no d) =
        rw (le-ltb a p (omega arith), le-ltb a b (omega arith), le-ltb e b (omega arith), total-done f a b (omega arith)) (omega arith)
    go (yes l) (yes d) = rw (le-ltb a p (omega arith), lt-ltb a b d) (total-split f p a (least e b) (omega arith) (least-high a e b h (omega arith)))

-- ---- the places of a row, as they are counted

module _ (p n y : ℕ) (x : List ℕ) where
  pub places-public : word (restricted_in x) y ≡ 0 → ones (word (publics_in x) y) ≡ places_in p x n y
  unfolding places_in
  places-public e = rw (e, bit-zero (y - p), same_self 0) (omega arith)

  pub places-own : bit_at (word (restricted_in x) y) (y - p) ≡ true → n ≡ places_in p x n y
  unfolding places_in
  places-own e = rw e

  pub places-more : bit_at (word (restricted_in x) y) (y - p) ≡ false → (word (restricted_in x) y ≡ 0 → ⊥)
      → ones (word (publics_in x) y) + 2 * n ≡ places_in p x n y
  unfolding places_in
  places-more e d = rw (e, same-no (word (restricted_in x) y) 0 d)

-- the rows between two names, as they are counted
pub span-told : (w x : List ℕ) (n first end p b a l : ℕ) → p ≡ publics w → b ≡ bounds w → a ≡ max first p → l ≡ min end (p + b)
    → total (map (places_in p x n) (from a (l - a))) ≡ span_in w x n first end
unfolding span_in
span-told w x n first end p b a l ep eb ea el = rw (ea, el, ← most-max first p, ← least-min end (p + b), ep, eb)

-- the rows below a name and those from it on
span-on : (w x : List ℕ) (n a e : ℕ) → a ≤ e → span_in w x n 0 e ≡ span_in w x n 0 a + span_in w x n a e
unfolding span_in
span-on w x n a e h = sum-on (places_in (publics w) x n) (publics w) (names w) a e (omega arith) h

-- ---- one row

module _ (w x : List ℕ) (K : Reached w x) where
  -- a bound name is in its own reach just if it is restricted
  own-bit : (y : ℕ) → publics w ≤ y → y < names w → bit_at (restricted_set_word w y) (y - publics w) ≡ (scheme w).restricted y
  own-bit y h l =
      let A = accepted w K.accepted in
      let e : publics w + (y - publics w) ≡ y = omega arith in
      restricted-bit w K.accepted y (y - publics w) (omega arith)
      ∙ rw e (both_ways ((today w).origins y y) ((scheme w).restricted y) (restricted-in (scheme w) A y y (omega (arith, publics-are w))) (own (scheme w) A y))

  counted : (y : ℕ) → ones (public_set_word w y) ≡ length (keep (bit_at (public_set_word w y)) (range (publics w)))
  counted y = ap ones (sym (mod-eq_of_lt (set-small ((today w).origins y) (publics w)))) ∙ rank (publics w) (public_set_word w y)

  pub places-are : (n y : ℕ) → n ≡ privates_word w → publics w ≤ y → y < names w → places_in (publics w) x n y ≡ row_length (scheme w) (today w) y
  unfolding places_in
  places-are n y e h l =
      rw (
        ap (λ (z : Reach). z.publics) (reach-told w x K y),
        ap (λ (z : Reach). z.restricted) (reach-told w x K y),
        own-bit y h l,
      ) (go ((scheme w).restricted y) refl (same (restricted_set_word w y) 0) refl)
    where
      go : (b : Bool) → (scheme w).restricted y ≡ b → (c : Bool) → same (restricted_set_word w y) 0 ≡ c
          → pick b n (ones (public_set_word w y) + pick c 0 (2 * n)) ≡ row_length (scheme w) (today w) y
      go true r c q = e ∙ row-restricted w K.accepted y h r
      go false r true q =
          omega (arith, row-public w K.accepted y (ones (public_set_word w y)) h (counted y) (rw q))
      go false r false q = row-private w K.accepted y (ones (public_set_word w y)) n h r (counted y) e (rw q)

  -- ---- rows one after the other

  -- where the row of a name starts, past the names where the last one ends
  pub start-told : (n : ℕ) → n ≡ privates_word w → (e : ℕ) → span_in w x n 0 e ≡ row_of w (least e (names w))
  unfolding span_in row_start_of
  start-told n q e =
      let l = least e (names w) in
      ap (λ (a : ℕ). total (map (places_in (publics w) x n) (from a (l - a)))) (most-up 0 (publics w) (omega arith))
      ∙ total-same (places_in (publics w) x n) (row_length (scheme w) (today w)) (from (publics w) (l - publics w))
      (λ y m.
      let (lo, hi) = from_member y (publics w) (l - publics w) m in
      places-are n y q lo (omega (arith, least-few e (names w))))
      ∙ ap (λ (a : ℕ). total (map (row_length (scheme w) (today w)) (from a (l - a)))) (sym (publics-are w))

  -- where they end
  pub free-told : (n : ℕ) → n ≡ privates_word w → (e : ℕ) → e ≡ names w → span_in w x n 0 e ≡ free_start_of (scheme w) (today w)
  free-told n q e h = start-told n q e ∙ ap (row_of w) (least-low e (names w) (omega arith) ∙ h) ∙ rows_end w K.accepted

  -- from one start to the next
  pub step : (n y : ℕ) → n ≡ privates_word w → publics w ≤ y → y < names w → row_of w (y + 1) ≡ row_of w y + span_in w x n y (y + 1)
  unfolding span_in total from
  step n y q h l =
      let e : y + 1 - y ≡ 1 = omega arith in
      rw (le-ltb y (publics w) h, least-low (y + 1) (names w) (omega arith), e)
      (omega (arith, row_next (scheme w) (today w) y (omega (arith, publics-are w)), places-are n y q h l))

-- ---- from one start to another

module _ (w x : List ℕ) where
  start-goes-on : (a e : ℕ) → a ≤ e → start_in w x e ≡ start_in w x a + span_in w x (word x privates_at) a e
  unfolding start_in
  start-goes-on a e h = span-on w x (word x privates_at) a e h

  module _ (s : Start) (y : ℕ) where
    pub on-known : y ≡ s.name → s ≡ start_on w x s y
    unfolding start_on
    on-known e = rw (same-yes y s.name e)

    module _ (d : y ≡ s.name → ⊥) where
      pub on-public : y < publics w → s ≡ start_on w x s y
      unfolding start_on
      on-public l = rw (same-no y s.name d, lt-ltb y (publics w) l)

      pub on-counted : (f : Start) → f ≡ start_after s y → publics w ≤ y
          → start_of y ((f.row + span_in w x (word x privates_at) f.name y) % 2 ^ 64) ≡ start_on w x s y
      unfolding start_on
      on-counted f e l = rw (e, same-no y s.name d, le-ltb y (publics w) l)

    on-name : publics w ≤ y → (start_on w x s y).name ≡ y
    on-name l = go (ℕ_discrete y s.name)
      where
        go : Dec (y ≡ s.name) → (start_on w x s y).name ≡ y
        go (yes e) = ap (λ (t : Start). t.name) (sym (on-known e)) ∙ sym e
        go (no d) = ap (λ (t : Start). t.name) (sym (on-counted d (start_after s y) refl l))

-- ---- by a plan

module _ (w x : List ℕ) (L : Laid w x) where
  start-at : (y : ℕ) → start_in w x y ≡ row_of w (least y (names w))
  unfolding start_in
  start-at y = start-told w x (laid-reached w x L) (word x privates_at) (privates-are w x L) y

  pub start_is : (y : ℕ) → y ≤ names w → start_in w x y ≡ row_of w y
  start_is y h = start-at y ∙ ap (row_of w) (least-low y (names w) h)

  pub row_is : (y : ℕ) → publics w ≤ y → y < names w → start_in w x y ≡ row_of w y
  row_is y h l = start_is y (omega arith)

  pub start-few : (y : ℕ) → start_in w x y ≤ 3072
  start-few y = omega (arith, start-at y, row_small w L.accepted (least y (names w)) (least-few y (names w)))

  start_none : (y : ℕ) → y ≤ publics w → start_in w x y ≡ 0
  start_none y h = start_is y (omega arith) ∙ row-none w y h

  -- nothing is counted at first
  pub right-first : Right w x (start_of 0 0)
  right-first = sym (start_none 0 (omega arith))

  module _ (s : Start) (r : Right w x s) where
    pub right-few : s.row ≤ 3072
    right-few = omega (arith, r, start-few s.name)

    -- what is counted from is right, and not above
    from-right : (y : ℕ) → Right w x (start_after s y) × ((start_after s y).name ≤ y)
    from-right y = go (dec_lt y s.name)
      where
        go : Dec (y < s.name) → Right w x (start_after s y) × ((start_after s y).name ≤ y)
        go (yes l) = rw (lt-ltb y s.name l) (right-first, omega arith)
        go (no l) = rw (le-ltb y s.name (omega arith)) (r, omega arith)

    right-on : (y : ℕ) → Right w x (start_on w x s y)
    right-on y = go (ℕ_discrete y s.name) (dec_lt y (publics w))
      where
        go : Dec (y ≡ s.name) → Dec (y < publics w) → Right w x (start_on w x s y)
        go (yes e) l = subst (Right w x) (on-known w x s y e) r
        go (no d) (yes l) = subst (Right w x) (on-public w x s y d l) r
        go (no d) (no l) =
            let f = start_after s y in
            let (t, h) = from-right y in
            let e : f.row + span_in w x (word x privates_at) f.name y ≡ start_in w x y = omega (arith, t, start-goes-on w x f.name y h) in
            subst (Right w x) (on-counted w x s y d f refl (omega arith)) (ap (λ (n : ℕ). n % 2 ^ 64) e ∙ mod-eq_of_lt (omega (arith, start-few y)))

    module _ (t : Start) (y : ℕ) (e : t ≡ start_on w x s y) where
      pub counted-on : Right w x t
      counted-on = subst (Right w x) (sym e) (right-on y)

      -- where a bound name's row starts
      pub on_row : publics w ≤ y → y < names w → t.row ≡ row_of w y
      on_row l h = counted-on ∙ ap (λ (k : Start). start_in w x k.name) e ∙ ap (start_in w x) (on-name w x s y l) ∙ row_is y l h

  pub row-goes-on : (y : ℕ) → publics w ≤ y → y < names w → row_of w (y + 1) ≡ row_of w y + span_in w x (word x privates_at) y (y + 1)
  row-goes-on y h l = step w x (laid-reached w x L) (word x privates_at) y (privates-are w x L) h l

  -- the names' rows and, last, [*≠n] fill the numbers below the first control place without gap or overlap
  pub rows_fill : RowsFill w x
  unfolding places
  rows_fill = record {
    first = start_none (publics w) (omega arith);
    next = λ y h l.
        omega (
          arith,
          start_is (y + 1) (omega arith),
          start_is y (omega arith),
          row_next (scheme w) (today w) y (omega (arith, publics-are w)),
          row-length (scheme w) (today w) y,
        );
    filled = λ y h l.
        rw (start_is (y + 1) (omega arith), start_is y (omega arith))
        (row-slice (scheme w) (today w) y (omega (arith, publics-are w), omega (arith, publics-are w, bounds-are w)));
    last = rw (start_is (names w) (omega arith), rows_end w L.accepted) (free-slice (scheme w) (today w));
    end = omega (arith, start_is (names w) (omega arith), rows_end w L.accepted, control-first (scheme w) (today w));
    below = take_at (rows (scheme w) (today w)) (control_places (scheme w)) (control_start (scheme w) (today w) 0) (rows-length (scheme w) (today w));
  }

pub every-table-filled : EveryTableFilled
every-table-filled w ok = rows_fill w (plan_words w) (plan-laid w ok)
