use Rattle.std.specs.Prelude.{◌≡◌, ◌<◌, ◌≤◌, ◌+◌, ◌||◌, ℕ, List, false, true, length, drop, get_or, nat_le}
use Rattle.std.proofs.Common.{◌∙◌, ap, sym, arith}
use borrow.Author.Tests.{le-leb, lt-leb}
use Rattle.lists.specs.Lists.{word, some}
use Rattle.lists.proofs.Tests.{or-false}
use Rattle.lists.proofs.Slices.{drop-step, drop-none}
use Rattle.lists.proofs.Ascending.{element-below}
use Rattle.summary.specs.Inner.Marks.{is_touched}
use Rattle.summary.proofs.touched.Goals as goal

-- the place that comes next, and those after it
next : (m p : List ℕ) (i : ℕ) → i < length p → is_touched m (drop i p) ≡ (nat_le 2 (word m (get_or p i 0)) || is_touched m (drop (i + 1) p))
unfolding is_touched some
next m p i h = rw (drop-step p i)

none : (m p : List ℕ) (i : ℕ) → length p ≤ i → is_touched m (drop i p) ≡ false
unfolding is_touched some
none m p i h = rw (drop-none p i)

yes : (m p : List ℕ) (i : ℕ) → i < length p → 2 ≤ word m (get_or p i 0) → is_touched m (drop i p) ≡ true
yes m p i h l = next m p i h ∙ rw (le-leb 2 (word m (get_or p i 0)) l)

no : (m p : List ℕ) (i : ℕ) → i < length p → word m (get_or p i 0) < 2 → is_touched m (drop i p) ≡ is_touched m (drop (i + 1) p)
no m p i h l = next m p i h ∙ rw (lt-leb 2 (word m (get_or p i 0)) l)

pub bounds-bytes-places : goal.bounds-bytes-places
bounds-bytes-places c = element-below _ _ _ c.requires c.loop-i.i (omega arith)

pub bounds-bytes-places-in-loop-i : goal.bounds-bytes-places-in-loop-i
bounds-bytes-places-in-loop-i c = element-below _ _ _ c.requires (c.loop-i.i + 1) (omega arith)

pub bounds-bytes-places-then-i-places : goal.bounds-bytes-places-then-i-places
bounds-bytes-places-then-i-places c = element-below _ _ _ c.requires c.loop-i.i (omega arith)

pub returns-then-bytes-places-ge2 : goal.returns-then-bytes-places-ge2
returns-then-bytes-places-ge2 c =
    sym (c.loop-i.invariant.1 ∙ yes c.args.bytes.now c.args.places.now c.loop-i.i (omega arith) c.if-bytes-places-ge2.true)

pub returns-then-bytes-places-ge2-2 : goal.returns-then-bytes-places-ge2-2
returns-then-bytes-places-ge2-2 c =
    let m = c.args.bytes.now in
    let p = c.args.places.now in
    sym (
    c.loop-i.invariant.1
    ∙ no m p c.loop-i.i (omega arith) c.if-bytes-places-ge2.false
    ∙ yes m p (c.loop-i.i + 1) (omega arith) c.if-bytes-places-ge2-2.true
    )

pub loop-i-preserved : goal.loop-i-preserved
loop-i-preserved c =
    let m = c.args.bytes.now in
    let p = c.args.places.now in (
      omega arith,
      c.loop-i.invariant.1
          ∙ no m p c.loop-i.i (omega arith) c.if-bytes-places-ge2.false
          ∙ no m p (c.loop-i.i + 1) (omega arith) c.if-bytes-places-ge2-2.false
          ∙ ap (λ k. is_touched m (drop k p)) (omega arith),
    )

pub returns-then-i-places : goal.returns-then-i-places
returns-then-i-places c =
    let m = c.args.bytes.now in
    let p = c.args.places.now in
    let i = c.loop-i.i in
    sym (
    c.loop-i.invariant.1
    ∙ next m p i (omega arith)
    ∙ rw (none m p (i + 1) (omega arith)) (or-false (nat_le 2 (word m (get_or p i 0))))
    )

pub returns : goal.returns
returns c = sym (c.loop-i.invariant.1 ∙ none c.args.bytes.now c.args.places.now c.loop-i.i (omega arith))
