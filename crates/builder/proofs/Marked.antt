-- Writing the places that are marked at first: rows one after the other, entry roots put in order.
use mathlib.Core.Path.{◌≡◌, refl, sym, ap, ◌∙◌, subst}
use mathlib.Core.Bool.{Bool, true, false, not, ◌||◌}
use mathlib.Core.List.{List, [], ◌∷◌, ◌++◌, map}
use mathlib.Core.Logic.{◌⊎◌, inl, inr}
use Prim.Native.Nat.{ℕ, zero, suc, ◌+◌, ◌-◌, ◌*◌, ◌≤◌, ◌<◌}
use native.Mathlib.Omega.{arith}
use lib.ListN.{length, take, length-append}
use lib.Seq.{length-take-le}
use Rattle.lists.specs.Lists.{pick, same, word, from, range, flat, keep, some, member, ascends}
use Rattle.lists.proofs.Tests.{same-yes, same_true, false-true, both_ways, and_left, and_right, or_cases, or-false}
use Rattle.lists.proofs.Ranges.{from_more, from-done, from-length, from_member, member-from, flat-more, flat-done}
use Rattle.lists.proofs.Members.{member-nil, member-one, one-member, member-here, member-there, map-member, member-flat, flat-member, flat-length}
use Rattle.lists.proofs.Ascending.{ascends-cons, ascends-lower}
use Rattle.lists.proofs.Positions.{ascends_same}
use Rattle.lists.proofs.Sums.{sum-few}
use Rattle.lists.proofs.Standing.{some_in, member-in}
use Rattle.scheme.specs.Words.{publics, bounds, names, nodes, threads, root, entry}
use Rattle.scheme.specs.Scheme.{Scheme, scheme}
use Rattle.table.specs.Causes.{cause}
use Rattle.table.proofs.Accepted.{accepted}
use Rattle.places.specs.Values.{private_values_of}
use Rattle.places.specs.Reach.{has_private_values}
use Rattle.places.specs.Sets.{bit_at}
use Rattle.places.specs.Places.{controls}
use Rattle.places.specs.Rows.{free_start_of}
use Rattle.places.specs.Inner.Arcs.{insert, starts_at, initial_numbers}
use Rattle.builder.specs.Inner.Writing.{writes}
use Rattle.places.specs.Inner.Plan.{today, privates_word, values, control_of, row_of}
use Rattle.places.specs.Plan.{privates_at, free_at, nodes_in, reach_in, Laid}
use Rattle.places.proofs.Plans
use Rattle.builder.proofs.Counted.{Counted}
use Rattle.builder.specs.Inner.Parts.{Rising, Inserted, initial_row_places, initial_spot_places}
use Rattle.places.proofs.Rows.{control-next}
use Rattle.places.proofs.Order.{control-rises}
use Rattle.places.proofs.Names.{is_name_read}
use Rattle.places.proofs.ReachRows.{public_list_of, values-count, privates-count}
use Rattle.places.proofs.Reaches.{publics-kept}
use Rattle.places.specs.declared.reach.Reach.{Reach}
use Rattle.places.proofs.Initial.{some-control}
use Rattle.places.proofs.Sorted.{insert-ascends, member-insert, insert-length}
use Rattle.builder.proofs.Writing.{writes-none, writes-append, writes-length}

-- ---- rows

not-false : (b : Bool) → not b ≡ true → b ≡ false
not-false true h = sym h
not-false false h = refl

-- the initial places of a name's row, and of the rows of the names from x to e
unfoldable pub row_marks : List ℕ → ℕ → List ℕ
row_marks w x = pick ((scheme w).restricted x) [] (from (row_of w x + length (values w x)) (length (private_values_of (scheme w) (today w) x)))

unfoldable pub rows_marks : List ℕ → ℕ → ℕ → List ℕ
rows_marks w x e = flat (row_marks w) (from x (e - x))

pub marks-start : (w : List ℕ) (p e : ℕ) → p ≡ publics w → e ≡ p + bounds w → initial_row_places w ≡ rows_marks w p e
unfolding initial_row_places rows_marks row_marks
marks-start w p e h k =
    let d : e - p ≡ bounds w = omega arith in
    rw (d, h)

pub marks-done : (w : List ℕ) (x e : ℕ) → e ≤ x → rows_marks w x e ≡ []
unfolding rows_marks
marks-done w x e h = flat-done (row_marks w) x e h

marks-more : (w : List ℕ) (x e : ℕ) → x < e → rows_marks w x e ≡ row_marks w x ++ rows_marks w (x + 1) e
unfolding rows_marks
marks-more w x e h = flat-more (row_marks w) x e h

pub marks-skip : (w : List ℕ) (x e : ℕ) → x < e → is_name_read w x ≡ false → rows_marks w x e ≡ rows_marks w (x + 1) e
unfolding row_marks from
marks-skip w x e h r = marks-more w x e h ∙ ap (λ (l : List ℕ). l ++ rows_marks w (x + 1) e) (go ((scheme w).restricted x) refl)
  where
    go : (b : Bool) → (scheme w).restricted x ≡ b → row_marks w x ≡ []
    go true q = rw q
    go false q =
        let n : has_private_values (scheme w) x ≡ false = rw q at r in
        let c : length (private_values_of (scheme w) (today w) x) ≡ 0 = privates-count (scheme w) x ∙ rw n in
        rw (q, c)

-- what the code reads of a name that New reads: the publics of its reach, and where [x≠n] starts
pub record Read (w y : List ℕ) (x row c : ℕ) : Type 0 where
  pub reads : is_name_read w x ≡ true
  pub row_is : row ≡ row_of w x
  pub count-is : c ≡ length (keep (bit_at (reach_in y x).publics) (range (publics w)))

module _ (w y : List ℕ) (L : Laid w y) (ps ns : ℕ) (k : Counted w ps ns) where
  row-marks : (x row c : ℕ) → publics w ≤ x → x < names w → Read w y x row c → row_marks w x ≡ from (row + (c + ns)) ns
  unfolding row_marks scheme
  row-marks x row c h l e =
      let S = scheme w in
      let r : S.restricted x ≡ false = not-false (S.restricted x) (and_left (not (S.restricted x)) (has_private_values S x) e.reads) in
      let n : has_private_values S x ≡ true = and_right (not (S.restricted x)) (has_private_values S x) e.reads in
      let v : length (values w x) ≡ length (public_list_of S x) + privates_word w = values-count S x h ∙ rw n in
      let p : length (private_values_of S (today w) x) ≡ privates_word w = privates-count S x ∙ rw n in
      let q : c ≡ length (public_list_of S x) =
      e.count-is ∙ ap (λ (z : Reach). length (keep (bit_at z.publics) (range (publics w)))) (Plans.reach-is w y L x)
      ∙ ap (λ (l : List ℕ). length l) (publics-kept w L.accepted x (publics w) (omega arith)) in
      let b : row_of w x + length (values w x) ≡ row + (c + ns) = omega (arith, e.row_is, v, q, k.privates-are) in
      rw (r, p, b, k.privates-are)

  -- the marks of such a name are written, then those of the names behind it
  pub marks-written : (out : List ℕ) (at x e row c : ℕ) → x < e → publics w ≤ x → x < names w → Read w y x row c
      → writes out at (rows_marks w x e)
      ≡ writes (writes out at (from (row + (c + ns)) ns)) (at + ns) (rows_marks w (x + 1) e)
  marks-written out at x e row c s h l q =
      let f = from (row + (c + ns)) ns in
      let n : length f ≡ ns = from-length (row + (c + ns)) ns in
      rw (marks-more w x e s, row-marks x row c h l q) (writes-append out at f (rows_marks w (x + 1) e) ∙ rw n)

  pub marks-counted : (x e row c : ℕ) → x < e → publics w ≤ x → x < names w → Read w y x row c
      → length (rows_marks w x e) ≡ ns + length (rows_marks w (x + 1) e)
  marks-counted x e row c s h l q =
      let f = from (row + (c + ns)) ns in
      let n : length f ≡ ns = from-length (row + (c + ns)) ns in
      rw (marks-more w x e s, row-marks x row c h l q) (length-append f (rows_marks w (x + 1) e) ∙ rw n)

-- the loop over rows: what is left is still to be written from `at` on
pub record RowsTurn (w begin : List ℕ) (end : ℕ) (out : List ℕ) (at x : ℕ) : Type 0 where
  pub written : writes begin 8 (initial_row_places w) ≡ writes out at (rows_marks w x end)
  pub counted : 8 + length (initial_row_places w) ≡ at + length (rows_marks w x end)
  pub kept : length out ≡ length begin
  pub few : at + 32 * publics w ≤ 8 + 32 * x
  pub low : publics w ≤ x
  pub high : x ≤ names w

module _ (w y : List ℕ) (L : Laid w y) (ps ns bs : ℕ) (k : Counted w ps ns) (bounds-are : bs ≡ bounds w) (begin : List ℕ) where
  abbrev end : ℕ
  end = ps + bs

  end_is : end ≡ names w
  end_is = omega (arith, k.publics-are, bounds-are)

  pub rows-begin : RowsTurn w begin end begin 8 ps
  rows-begin =
      let e = marks-start w ps end k.publics-are (omega (arith, bounds-are)) in
      record {
        written = ap (writes begin 8) e;
        counted = ap (λ (l : List ℕ). 8 + length l) e;
        kept = refl;
        few = omega (arith, k.publics-are);
        low = omega (arith, k.publics-are);
        high = omega (arith, k.publics-are);
      }

  pub rows-skip : (out after : List ℕ) (at to x : ℕ) → RowsTurn w begin end out at x → x < end → is_name_read w x ≡ false → to ≡ at → after ≡ out
      → RowsTurn w begin end after to (x + 1)
  rows-skip out after at to x i l r t a =
      let e = marks-skip w x end l r in
      record {
        written = i.written ∙ ap (writes out at) e ∙ rw (a, t);
        counted = i.counted ∙ ap (λ (l : List ℕ). at + length l) e ∙ rw t;
        kept = rw a i.kept;
        few = omega (arith, i.few);
        low = omega (arith, i.low);
        high = omega (arith, end_is);
      }

  pub rows-put : (out after : List ℕ) (at to x row c : ℕ) → RowsTurn w begin end out at x → x < end → Read w y x row c
      → to ≡ at + ns → after ≡ writes out at (from (row + (c + ns)) ns)
      → RowsTurn w begin end after to (x + 1)
  rows-put out after at to x row c i l q t a =
      let u : x < names w = omega (arith, end_is) in
      let f = from (row + (c + ns)) ns in
      let e = marks-written w y L ps ns k out at x end row c l i.low u q in
      record {
        written = i.written ∙ e ∙ rw (a, t);
        counted = omega (arith, i.counted, marks-counted w y L ps ns k x end row c l i.low u q);
        kept = rw a (writes-length out at f ∙ i.kept);
        few = omega (arith, i.few, k.privates-are, k.few-privates);
        low = omega (arith, i.low);
        high = omega arith;
      }

  -- the sums that the code forms are small
  pub rows-room : (out : List ℕ) (at x row : ℕ) → RowsTurn w begin end out at x → x < end → row ≡ row_of w x
      → (row + (64 + ns) + ns ≤ 4096) × (at ≤ 4096)
  rows-room out at x row i l e =
      let u : x < names w = omega (arith, end_is) in
      let f = Plans.row_small w L.accepted x (omega arith) in (
        omega (arith, e, f, k.privates-are, k.few-privates),
        omega (arith, i.few, i.high, k.few-bounds),
      )

  pub rows-close : (out : List ℕ) (at x : ℕ) → RowsTurn w begin end out at x → end ≤ x
      → (at ≡ 8 + length (initial_row_places w)) × (at < 65536) × (out ≡ writes begin 8 (initial_row_places w))
  rows-close out at x i l =
      let e = marks-done w x end l in
      let c : at + length (rows_marks w x end) ≡ at = rw e (omega arith) in
      (omega (arith, i.counted, c), omega (arith, i.few, i.high, k.few-bounds), sym (i.written ∙ rw e (writes-none out at)))

-- ---- entry roots

-- numbers put in, one after the other
unfoldable pub filled : List ℕ → List ℕ → List ℕ
filled xs [] = xs
filled xs (k ∷ ks) = filled (insert k xs) ks

filled-ascends : (n : ℕ) (xs ks : List ℕ) → ((k : ℕ) → member k ks ≡ true → k < n) → ascends n 0 xs ≡ true → ascends n 0 (filled xs ks) ≡ true
unfolding filled
filled-ascends n xs [] h a = a
filled-ascends n xs (k ∷ ks) h a =
    filled-ascends n (insert k xs) ks (λ z m. h z (member-there z k ks m)) (insert-ascends n 0 k xs (omega arith) (h k (member-here k ks)) a)

filled-member : (z : ℕ) (xs ks : List ℕ) → member z (filled xs ks) ≡ (member z ks || member z xs)
unfolding filled member
filled-member z xs [] = refl
filled-member z xs (k ∷ ks) =
    filled-member z (insert k xs) ks ∙ ap (λ (b : Bool). member z ks || b) (member-insert z k xs) ∙ swap (same z k) (member z ks) (member z xs)
  where
    swap : (a b c : Bool) → (b || (a || c)) ≡ ((a || b) || c)
    swap true true c = refl
    swap true false c = refl
    swap false true c = refl
    swap false false c = refl

-- the first place of a thread's entry root
unfoldable pub place_of_entry : List ℕ → ℕ → ℕ
place_of_entry w t = control_of w (root w (entry w t))

pub entry_place : (w : List ℕ) (t : ℕ) → place_of_entry w t ≡ control_of w (root w (entry w t))
unfolding place_of_entry
entry_place w t = refl

unfoldable pub spots_left : List ℕ → List ℕ → ℕ → ℕ → List ℕ
spots_left w xs t e = filled xs (map (place_of_entry w) (from t (e - t)))

pub spots-more : (w xs : List ℕ) (t e : ℕ) → t < e → spots_left w xs t e ≡ spots_left w (insert (place_of_entry w t) xs) (t + 1) e
unfolding spots_left filled
spots-more w xs t e h = rw (from_more t e h)

pub spots-done : (w xs : List ℕ) (t e : ℕ) → e ≤ t → spots_left w xs t e ≡ xs
unfolding spots_left filled
spots-done w xs t e h = rw (from-done t e h)

module _ (w : List ℕ) (h : cause w ≡ 0) where
  abbrev S : Scheme
  S = scheme w

  -- a node's place, where an entry has its root there
  abbrev marks_at : ℕ → List ℕ
  marks_at n = pick (starts_at S (today w) n) (control_of w n ∷ []) []

  spots-rise : (a n : ℕ) → ascends (control_of w (a + n)) (control_of w a) (flat marks_at (from a n)) ≡ true
  unfolding flat from ascends
  spots-rise a zero = refl
  spots-rise a (suc n) =
      subst (λ (h : ℕ). ascends (control_of w h) (control_of w a) (flat marks_at (from a (suc n))) ≡ true) (sym sum)
      (go (starts_at S (today w) a) (spots-rise (a + 1) n))
    where
      sum : a + suc n ≡ a + 1 + n
      sum = omega arith

      next : control_of w (a + 1) ≡ control_of w a + suc (controls S a - 1)
      next = omega (arith, control-next S (today w) a, some-control S (today w) a)

      top : control_of w (a + 1) ≤ control_of w (a + 1 + n)
      top = control-rises S (today w) (a + 1) (a + 1 + n) (omega arith)

      go : (b : Bool) → ascends (control_of w (a + 1 + n)) (control_of w (a + 1)) (flat marks_at (from (a + 1) n)) ≡ true
          → ascends (control_of w (a + 1 + n)) (control_of w a) (pick b (control_of w a ∷ []) [] ++ flat marks_at (from (a + 1) n)) ≡ true
      go true ih =
          (ascends-cons (control_of w (a + 1 + n)) (control_of w a) (control_of w a) (flat marks_at (from (a + 1) n)) (omega arith)
          (omega (arith, next, top))
          ∙ ascends-lower (control_of w (a + 1 + n)) (control_of w (a + 1)) (control_of w a + 1) (flat marks_at (from (a + 1) n)) (omega (arith, next)) ih)
      go false ih =
          (ascends-lower (control_of w (a + 1 + n)) (control_of w (a + 1)) (control_of w a) (flat marks_at (from (a + 1) n)) (omega (arith, next)) ih)

  root-inside : (t : ℕ) → t < threads w → root w (entry w t) < nodes w
  unfolding scheme
  root-inside t l = (accepted w h).root-inside (entry w t) ((accepted w h).entry-inside t l)

  pub few-threads : threads w ≤ 8
  unfolding scheme
  few-threads = (accepted w h).few-threads

  starts-some : (t n : ℕ) → t < threads w → n ≡ root w (entry w t) → starts_at S (today w) n ≡ true
  unfolding scheme
  starts-some t n l e =
      some_in (λ s. same n (root w (entry w s))) t (range (threads w)) (member-in t (range (threads w))
      (member-from t 0 (threads w) (omega arith) (omega arith)))
      (same-yes n (root w (entry w t)) e)

  some-starts : (n : ℕ) (ts : List ℕ) → some (λ s. same n (root w (entry w s))) ts ≡ true → member (control_of w n) (map (place_of_entry w) ts) ≡ true
  unfolding some place_of_entry
  some-starts n [] q = false-true refl q
  some-starts n (t ∷ ts) q = go (or_cases (same n (root w (entry w t))) (some (λ s. same n (root w (entry w s))) ts) q) (some-starts n ts)
    where
      go : (same n (root w (entry w t)) ≡ true) ⊎ (some (λ s. same n (root w (entry w s))) ts ≡ true)
          → (some (λ s. same n (root w (entry w s))) ts ≡ true → member (control_of w n) (map (place_of_entry w) ts) ≡ true)
          → member (control_of w n) (place_of_entry w t ∷ map (place_of_entry w) ts) ≡ true
      go (inl e) ih = rw (same_true n (root w (entry w t)) e) (member-here (place_of_entry w t) (map (place_of_entry w) ts))
      go (inr e) ih = member-there (control_of w n) (place_of_entry w t) (map (place_of_entry w) ts) (ih e)

  starts-are : (n : ℕ) → starts_at S (today w) n ≡ some (λ s. same n (root w (entry w s))) (range (threads w))
  unfolding scheme
  starts-are n = refl

  mark-tells : (z n : ℕ) → member z (marks_at n) ≡ true → (starts_at S (today w) n ≡ true) × (z ≡ control_of w n)
  mark-tells z n m = go (starts_at S (today w) n) refl m
    where
      go : (b : Bool) → starts_at S (today w) n ≡ b → member z (pick b (control_of w n ∷ []) []) ≡ true → (starts_at S (today w) n ≡ true) × (z ≡ control_of w n)
      go true e k = (e, one-member z (control_of w n) k)
      go false e k = member-nil z k

  marked-entry : (z : ℕ) → member z (flat marks_at (range (nodes w))) ≡ true → member z (map (place_of_entry w) (range (threads w))) ≡ true
  marked-entry z m =
      let f = flat-member marks_at z (range (nodes w)) m in
      let g = mark-tells z f.source f.gives in
      rw g.1 (some-starts f.source (range (threads w)) (sym (starts-are f.source) ∙ g.0))

  entry-marked : (z : ℕ) → member z (map (place_of_entry w) (range (threads w))) ≡ true → member z (flat marks_at (range (nodes w))) ≡ true
  entry-marked z m =
      let f = map-member (place_of_entry w) z (range (threads w)) m in
      let t = f.source in
      let l : t < threads w = omega (arith, from_member t 0 (threads w) f.stands) in
      let n = root w (entry w t) in
      let i : n < nodes w = root-inside t l in
      let e : z ≡ control_of w n = f.gives ∙ entry_place w t in
      let y : marks_at n ≡ control_of w n ∷ [] = rw (starts-some t n l refl) in
      member-flat marks_at z n (range (nodes w)) (member-from n 0 (nodes w) (omega arith) (omega arith))
      (ap (member z) y ∙ member-one z (control_of w n) ∙ same-yes z (control_of w n) e)

  entry-below : (z : ℕ) → member z (map (place_of_entry w) (range (threads w))) ≡ true → z < control_of w (nodes w)
  entry-below z m =
      let f = map-member (place_of_entry w) z (range (threads w)) m in
      let t = f.source in
      let l : t < threads w = omega (arith, from_member t 0 (threads w) f.stands) in
      let n = root w (entry w t) in
      let i : n < nodes w = root-inside t l in
      omega (
        arith,
        f.gives,
        entry_place w t,
        control-next S (today w) n,
        some-control S (today w) n,
        control-rises S (today w) (n + 1) (nodes w) (omega arith),
      )

  pub spots-are : (e : ℕ) → e ≡ threads w → spots_left w [] 0 e ≡ initial_spot_places w
  unfolding spots_left initial_spot_places member ascends
  spots-are e q =
      let ks = map (place_of_entry w) (range (threads w)) in
      let z : e - 0 ≡ threads w = omega arith in
      let o : 0 + nodes w ≡ nodes w = omega arith in
      ap (λ (k : ℕ). filled [] (map (place_of_entry w) (range k))) z
      ∙ ascends_same (control_of w (nodes w)) 0 (filled [] ks) (flat marks_at (range (nodes w))) (filled-ascends (control_of w (nodes w)) [] ks entry-below refl)
      (ascends-lower (control_of w (nodes w)) (control_of w 0) 0 (flat marks_at (range (nodes w))) (omega arith) (rw o at (spots-rise 0 (nodes w))))
      (λ x. filled-member x [] ks ∙ or-false (member x ks) ∙ both_ways (member x ks) (member x (flat marks_at (range (nodes w)))) (entry-marked x)
      (marked-entry x))

-- the loop over threads: the first words are in order, and what is left is still to be put in
pub record SpotsTurn (w : List ℕ) (end : ℕ) (list : List ℕ) (count t : ℕ) : Type 0 where
  pub placed : spots_left w [] 0 end ≡ spots_left w (take count list) t end
  pub rises : ascends 4294967296 0 (take count list) ≡ true
  pub few : count ≤ t
  pub low : t ≤ end
  pub eight : length list ≡ 8

pub spots-begin : (w list : List ℕ) (end : ℕ) → length list ≡ 8 → SpotsTurn w end list 0 0
unfolding ascends
spots-begin w list end s = record { placed = refl; rises = refl; few = omega arith; low = omega arith; eight = s }

pub spots-put : (w y : List ℕ) (end : ℕ) (list after : List ℕ) (count to t d n x : ℕ) → Laid w y → end ≡ threads w → SpotsTurn w end list count t →
    t < end
    → d ≡ entry w t → n ≡ root w d → x ≡ word (nodes_in y) n → x < 4294967296 → Inserted x count list to after
    → length after ≡ length list → SpotsTurn w end after to (t + 1)
spots-put w y end list after count to t d n x k e i l p q r u a b =
    let s : t < threads w = omega arith in
    let c : count ≤ length list = omega (arith, few-threads w k.accepted, i.eight, i.few) in
    let m : n ≡ root w (entry w t) = q ∙ ap (root w) p in
    let y : x ≡ place_of_entry w t =
    r ∙ ap (word (nodes_in y)) m ∙ Plans.node-is w y k (root w (entry w t)) (omega (arith, root-inside w k.accepted t s)) ∙ sym (entry_place w t) in
    let f : take to after ≡ insert (place_of_entry w t) (take count list) = a.first ∙ ap (λ (v : ℕ). insert v (take count list)) y in
    record {
      placed = i.placed ∙ spots-more w (take count list) t end l ∙ ap (λ (o : List ℕ). spots_left w o (t + 1) end) (sym f);
      rises = rw a.first (insert-ascends 4294967296 0 x (take count list) (omega arith) u i.rises);
      few = omega (arith, a.size, insert-length x (take count list), length-take-le count list c, i.few);
      low = omega arith;
      eight = b ∙ i.eight;
    }

-- room for one more
pub spots-room : (w list : List ℕ) (end count t : ℕ) → cause w ≡ 0 → end ≡ threads w → SpotsTurn w end list count t → t < end → Rising list count
spots-room w list end count t h e i l =
    record { room = omega (arith, few-threads w h, i.eight, i.few); rises = i.rises }

pub spots-few : (w list : List ℕ) (end count t : ℕ) → cause w ≡ 0 → end ≡ threads w → SpotsTurn w end list count t → count ≤ length list
spots-few w list end count t h e i = omega (arith, few-threads w h, i.eight, i.few, i.low)

pub spots-close : (w list : List ℕ) (end count t : ℕ) → cause w ≡ 0 → end ≡ threads w → SpotsTurn w end list count t → end ≤ t → take count list ≡
    initial_spot_places w
spots-close w list end count t h e i l = sym (sym (spots-are w h end e) ∙ i.placed ∙ spots-done w (take count list) t end l)

-- ---- rows, then [*≠n], then entries

pub marks-are : (w : List ℕ) → initial_numbers (scheme w) (today w) ≡ initial_row_places w ++ (from (free_start_of (scheme w) (today w)) (privates_word w) ++ initial_spot_places w)
unfolding initial_numbers initial_row_places initial_spot_places scheme
marks-are w = refl

pub all-marked : (w y : List ℕ) (free ns : ℕ) (begin o1 o2 o3 : List ℕ)
    (at next : ℕ) → Laid w y → free ≡ word y free_at → ns ≡ word y privates_at → at ≡ 8 + length (initial_row_places w)
    → o1 ≡ writes begin 8 (initial_row_places w) → next ≡ at + ns → o2 ≡ writes o1 at (from free ns)
    → o3 ≡ writes o2 next (initial_spot_places w) → o3 ≡ writes begin 8 (initial_numbers (scheme w) (today w))
all-marked w y free ns begin o1 o2 o3 at next k ef en a e1 n e2 e3 =
    let xs = initial_row_places w in
    let fs = from (free_start_of (scheme w) (today w)) (privates_word w) in
    let ys = initial_spot_places w in
    let f : from free ns ≡ fs = rw (ef ∙ Plans.free-is w y k, en ∙ Plans.privates-are w y k) in
    let l : length fs ≡ privates_word w = from-length (free_start_of (scheme w) (today w)) (privates_word w) in
    let m : next ≡ at + length fs = omega (arith, l, en, Plans.privates-are w y k) in
    let b : o2 ≡ writes (writes begin 8 xs) (8 + length xs) fs = e2 ∙ rw (f, e1, a) in
    let c : o3 ≡ writes (writes (writes begin 8 xs) (8 + length xs) fs) (8 + length xs + length fs) ys = e3 ∙ rw (b, m, a) in
    c ∙ sym (ap (writes begin 8) (marks-are w) ∙ writes-append begin 8 xs (fs ++ ys) ∙ writes-append (writes begin 8 xs) (8 + length xs) fs ys)

row-few : (w : List ℕ) (x : ℕ) → privates_word w ≤ 32 → length (row_marks w x) ≤ 32
unfolding row_marks
row-few w x h = go ((scheme w).restricted x)
  where
    a : ℕ
    a = row_of w x + length (values w x)

    l : ℕ
    l = length (private_values_of (scheme w) (today w) x)

    picked : (b : Bool) → pick b (privates_word w) 0 ≤ privates_word w
    picked true = omega arith
    picked false = omega arith

    go : (b : Bool) → length (pick b [] (from a l)) ≤ 32
    go true = omega arith
    go false = omega (arith, from-length a l, privates-count (scheme w) x, picked (has_private_values (scheme w) x))

pub rows_few : (w : List ℕ) → privates_word w ≤ 32 → length (initial_row_places w) ≤ bounds w * 32
unfolding initial_row_places row_marks
rows_few w h =
    let xs = from (publics w) (bounds w) in
    let s = sum-few (λ x. length (row_marks w x)) 32 xs (λ x m. row-few w x h) in
    let e = flat-length (row_marks w) xs in
    omega (arith, e, rw (from-length (publics w) (bounds w)) at s)
