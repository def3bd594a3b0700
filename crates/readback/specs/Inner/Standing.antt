-- Where threads stand, which values names have, and the tests of a marking, all by the numbers of places.
use Rattle.std.specs.Prelude.{Bool, not, ◌&&◌, ◌||◌, List, [], ◌∷◌, map, ℕ, ◌+◌, length}
use Rattle.std.proofs.Math.Option.{Option, none, some}
use Rattle.lists.specs.Lists.{pick, bit, same, word, from, range, every, keep, flat, member}
use Rattle.scheme.specs.Scheme.{Scheme}
use Rattle.places.specs.Values.{values_of}
use Rattle.places.specs.Reach.{values_for, has_private_values}
use Rattle.places.specs.Places.{controls}
use Rattle.places.specs.Rows.{row_start_of, free_start_of, control_start}
use Rattle.readback.specs.Configurations.{Spot, spot, held_here}
use Rattle.readback.specs.Inner.Hits.{token, hits}

-- the first spot, the first place of all where there is none; the first value
abbrev pub first_of : List Spot → Spot
first_of [] = spot 0 0
first_of (p ∷ ps) = p

abbrev pub value_of : List ℕ → Option ℕ
value_of [] = none
value_of (v ∷ vs) = some v

-- just one of two
abbrev pub is_just_one : Bool → Bool → Bool
is_just_one a b = pick a (not b) b

-- how many public values, and how many private ones, a bound name may hold
abbrev pub public_count : Scheme → ℕ → ℕ
public_count S x = length (keep ((values_for S).origins x) (range S.publics))

abbrev pub private_count : Scheme → ℕ → ℕ
private_count S x = pick (has_private_values S x) (values_for S).privates 0

module _ (S : Scheme) (m : List ℕ) where
  -- the marked control places of a node
  abbrev pub spots_on : ℕ → List Spot
  spots_on n = map (spot n) (hits m (control_start S (values_for S) n) (controls S n))

  -- those of the nodes below n that are of a thread
  unfoldable pub spots_below : ℕ → ℕ → List Spot
  spots_below n t = flat (λ k. pick (same (S.thread k) t) (spots_on k) []) (range n)

  abbrev pub spots_at : ℕ → List Spot
  spots_at t = spots_below S.nodes t

  -- the marked values of a bound name: place i of its row is of value i
  unfoldable pub values_at : ℕ → List ℕ
  values_at x = map (word (values_of S (values_for S) x)) (hits m (row_start_of S (values_for S) x) (length (values_of S (values_for S) x)))

  -- "[x≠n] is marked exactly without [x=n]"
  abbrev pub opposed_at : ℕ → ℕ → Bool
  opposed_at x i =
      is_just_one (token m (row_start_of S (values_for S) x + public_count S x + i)) (token m (row_start_of S (values_for S) x + public_count S x + private_count S x + i))

  abbrev pub is_opposed_for : ℕ → Bool
  is_opposed_for x = S.restricted x || every (opposed_at x) (range (private_count S x))

  unfoldable pub opposed_all : Bool
  opposed_all = every is_opposed_for (from S.publics S.bounds)

  -- "[*≠n] exactly when no restricted name has n; two restricted names never share n"
  abbrev pub holds_at : ℕ → ℕ → Bool
  holds_at n x = S.restricted x && token m (row_start_of S (values_for S) x + n)

  abbrev pub holders_at : ℕ → List ℕ
  holders_at n = keep (holds_at n) (from S.publics S.bounds)

  abbrev pub wanted_at : ℕ → ℕ
  wanted_at n = pick (token m (free_start_of S (values_for S) + n)) 0 1

  abbrev pub freed_for : ℕ → Bool
  freed_for n = same (length (holders_at n)) (wanted_at n)

  unfoldable pub freed_all : Bool
  freed_all = every freed_for (range (values_for S).privates)

  -- "each thread has one marked control place"
  unfoldable pub spots_right : Bool
  spots_right = every (λ t. same (length (spots_at t)) 1) (range S.threads)

  -- "each name held there one marked value and every other name none"; h tells what is held
  abbrev pub value_right : (ℕ → ℕ) → ℕ → Bool
  value_right h x = same (length (values_at x)) (h x)

  unfoldable pub values_right : (ℕ → ℕ) → Bool
  values_right h = every (value_right h) (from S.publics S.bounds)

  -- 1 for a name held where its thread stands
  abbrev pub held_bit : ℕ → ℕ
  held_bit x = bit (member x (held_here S (first_of (spots_at (S.thread_of_name x)))))
