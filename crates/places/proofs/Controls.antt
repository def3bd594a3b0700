-- Where the control places of an accepted table's nodes start, and how many there are: each number is below 65536.
use Rattle.std.proofs.Common.{◌≡◌, ℕ, ◌+◌, ◌*◌, ◌<◌, ◌≤◌, Bool, true, false, List, length, refl, arith}
use Rattle.lists.specs.Lists.{pick, from, range}
use Rattle.lists.proofs.Ranges.{from-length, from_member}
use Rattle.lists.proofs.Sums.{sum-few}
use Rattle.scheme.specs.Words.{publics, bounds, nodes}
use Rattle.scheme.specs.Scheme.{Scheme, Node, stop, choice, new, call, scheme}
use Rattle.table.specs.Causes.{cause}
use Rattle.table.specs.Accepted.{Accepted}
use Rattle.table.proofs.Accepted.{accepted}
use Rattle.places.specs.Reach.{values_for, has_private_values}
use Rattle.places.specs.Places.{controls_at, controls}
use Rattle.places.specs.Rows.{row_length, free_start_of, control_start}
use Rattle.places.specs.Inner.Plan.{today, privates_word, control_of}
use Rattle.places.proofs.Rows.{free-start, control-first, control-next}
use Rattle.places.proofs.ReachRows.{publics-few, row-size}
use Rattle.places.proofs.Weights.{held-few}
use Rattle.places.proofs.Few.{private-few}

module _ (S : Scheme) (ok : Accepted S) where
  as_many : (values_for S).privates ≤ S.bounds
  unfolding values_for
  as_many = private-few S ok

  node-few : (n : ℕ) → controls S n ≤ 65
  unfolding controls
  node-few n = go (S.node n)
    where
      held : length (S.held n) ≤ S.bounds
      held = held-few S (values_for S) ok as_many n

      go : (ν : Node) → controls_at S n ν ≤ 65
      go stop = omega (arith, held, ok.few-bounds)
      go (choice f c) = omega arith
      go (new r l) = omega arith
      go (call d) = omega (arith, held, ok.few-formals d, ok.few-bounds)

  row-few : (x : ℕ) → S.publics ≤ x → row_length S (values_for S) x ≤ 96
  row-few x h =
      omega (
        arith,
        row-size S x h,
        publics-few S x,
        picked (has_private_values S x) (S.restricted x),
        as_many,
        ok.few-bounds,
        ok.few-publics,
      )
    where
      picked : (a b : Bool) → pick a (values_for S).privates 0 + pick b 0 (pick a (values_for S).privates 0) ≤ 2 * (values_for S).privates
      picked true true = omega arith
      picked true false = omega arith
      picked false true = omega arith
      picked false false = omega arith

  rows_few : free_start_of S (values_for S) ≤ 3072
  rows_few =
      let a = sum-few (row_length S (values_for S)) 96 (from S.publics S.bounds) (λ x m. row-few x (from_member x S.publics S.bounds m).0) in
      omega (arith, free-start S (values_for S), rw (from-length S.publics S.bounds) at a, ok.few-bounds)

  starts-few : (n : ℕ) → control_start S (values_for S) n ≤ 3104 + n * 65
  unfolding control_start
  starts-few n =
      let a = sum-few (controls S) 65 (range n) (λ k m. node-few k) in
      omega (arith, rows_few, as_many, ok.few-bounds, rw (from-length 0 n) at a)

-- ---- the counts of a table are those of its scheme

module _ (w : List ℕ) where
  pub nodes-are : (scheme w).nodes ≡ nodes w
  unfolding scheme
  nodes-are = refl

  pub publics-are : (scheme w).publics ≡ publics w
  unfolding scheme
  publics-are = refl

  pub bounds-are : (scheme w).bounds ≡ bounds w
  unfolding scheme
  bounds-are = refl

  pub control-begins : control_of w 0 ≡ free_start_of (scheme w) (today w) + privates_word w
  control-begins = control-first (scheme w) (today w)

  pub control-goes-on : (n : ℕ) → control_of w (n + 1) ≡ control_of w n + controls (scheme w) n
  control-goes-on n = control-next (scheme w) (today w) n

module _ (w : List ℕ) (h : cause w ≡ 0) where
  pub few-nodes : nodes w ≤ 256
  few-nodes = omega (arith, nodes-are w, (accepted w h).few-nodes)

  pub few-publics : publics w ≤ 32
  few-publics = omega (arith, publics-are w, (accepted w h).few-publics)

  pub few-bounds : bounds w ≤ 32
  few-bounds = omega (arith, bounds-are w, (accepted w h).few-bounds)

  pub as-many-privates : privates_word w ≤ (scheme w).bounds
  as-many-privates = as_many (scheme w) (accepted w h)

  pub few-privates : privates_word w ≤ 32
  few-privates = omega (arith, as-many-privates, (accepted w h).few-bounds)

  pub free-few : free_start_of (scheme w) (today w) ≤ 3072
  free-few = rows_few (scheme w) (accepted w h)

  pub controls-few : (n : ℕ) → controls (scheme w) n ≤ 65
  controls-few n = node-few (scheme w) (accepted w h) n

  pub control-few : (n : ℕ) → n ≤ nodes w → control_of w n < 65536
  control-few n l = omega (arith, starts-few (scheme w) (accepted w h) n, few-nodes)

  -- the last control place of a node, and one more
  pub control-last : (n : ℕ) → n < nodes w → control_of w n + controls (scheme w) n ≤ 65535
  control-last n l = omega (arith, starts-few (scheme w) (accepted w h) n, few-nodes, controls-few n)
