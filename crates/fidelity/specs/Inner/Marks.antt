-- The marking of a configuration, and what one firing does to a configuration: each thread stays or passes to another control place, tested names
-- have their values, and one command changes the value of one name.
use Rattle.std.specs.Prelude.{ℕ, zero, suc, ◌+◌, ◌≤◌, ◌<◌, ◌≡◌, ◌⊎◌, Bool, true, false, not, ◌&&◌, ◌||◌, List, [], ◌∷◌, ltb}
use Rattle.std.proofs.Math.Option.{Option, none, some}
use Rattle.lists.specs.Lists as Lists
use Rattle.lists.specs.Lists.{pick, same, member}
use Rattle.scheme.specs.Scheme.{Scheme}
use Rattle.process.specs.States.{put}
use Rattle.places.specs.Values.{Values, shares}
use Rattle.places.specs.Places.{Place, equals, differs, free, control}
use Rattle.places.specs.Transitions.{Move, Test, Command, skip, take, release, Description, is_input, is_output, is_left, is_reached}
use Rattle.readback.specs.Configurations.{Spot, spot, Configuration, held_here, is_spot}

abbrev pub same_spot : Spot → Spot → Bool
same_spot p q = same p.node q.node && same p.index q.index

-- the value is v
abbrev pub holds : Option ℕ → ℕ → Bool
holds none v = false
holds (some w) v = same v w

abbrev pub given : Option ℕ → Bool
given none = false
given (some v) = true

-- what a thread does in a firing: nothing, or it passes from one control place to another
pub data Motion : Type 0 where
  stay : Motion
  pass : Spot → Spot → Motion

abbrev pub leaves : Motion → Spot → Bool
leaves stay p = false
leaves (pass a b) p = same_spot a p

abbrev pub arrives : Motion → Spot → Bool
arrives stay p = false
arrives (pass a b) p = same_spot b p

abbrev pub ends : Motion → Spot → Spot
ends stay p = p
ends (pass a b) p = b

-- name x is tested for value v
abbrev pub asks : List Test → ℕ → ℕ → Bool
asks ts x v = Lists.some (λ (t : Test). same t.name x && same t.value v) ts

abbrev pub edit : Command → (ℕ → Option ℕ) → ℕ → Option ℕ
edit skip e = e
edit (take y v) e = put e y (some v)
edit (release z v) e = put e z none

-- firing, at one place: an output is marked, an input that is no output is not
abbrev pub fired : Bool → Bool → Bool → Bool
fired i o m = o || (m && not i)

module _ (S : Scheme) where
  abbrev pub thread_of : Spot → ℕ
  thread_of p = S.thread p.node

  -- a control place that the net has
  abbrev pub is_place : Spot → Bool
  is_place p = ltb p.node S.nodes && is_spot S (S.node p.node) p

  abbrev pub is_held : Spot → ℕ → Bool
  is_held p x = member x (held_here S p)

  abbrev pub motion : List Move → ℕ → Motion
  motion [] θ = stay
  motion (m ∷ ms) θ =
      pick (same θ (S.thread m.from_node)) (pass (spot m.from_node m.from_index) (spot m.to_node m.to_index)) (motion ms θ)

  abbrev pub after : Description → Configuration → Configuration
  after d c = record { at = λ θ. ends (motion d.moves θ) (c.at θ); value = edit d.command c.value }

  -- some restricted name below n has v
  unfoldable pub used : (ℕ → Option ℕ) → ℕ → ℕ → Bool
  used e v zero = false
  used e v (suc n) = (S.restricted n && holds (e n) v) || used e v n

  abbrev pub mark : Configuration → Place → Bool
  mark c (equals x v) = holds (c.value x) v
  mark c (differs x v) = not (holds (c.value x) v)
  mark c (free v) = not (used c.value v (S.publics + S.bounds))
  mark c (control n k) = same_spot (c.at (S.thread n)) (spot n k)

  -- what the command asks of the values
  abbrev pub Suits : Command → (ℕ → Option ℕ) → Type 0
  Suits skip e = Unit {0}
  Suits (take y v) e = (e y ≡ none) × (S.restricted y ≡ true → (x : ℕ) → e x ≡ some v → ⊥)
  Suits (release z v) e = e z ≡ some v

  -- the firing is possible in the configuration
  pub record Fits (d : Description) (c : Configuration) : Type 0 where
    pub stands : (θ : ℕ) (a b : Spot) → motion d.moves θ ≡ pass a b → c.at θ ≡ a
    pub tests : (x v : ℕ) → asks d.tests x v ≡ true → c.value x ≡ some v
    pub suits : Suits d.command c.value

  -- the names held before and after
  abbrev pub held_after : Command → ℕ → Bool → Bool
  held_after skip x b = b
  held_after (take y v) x b = same x y || b
  held_after (release z v) x b = not (same x z) && b

  abbrev pub Untouched : Command → ℕ → Type 0
  Untouched skip x = Unit {0}
  Untouched (take y v) x = x ≡ y → ⊥
  Untouched (release z v) x = x ≡ z → ⊥

  abbrev pub Holding : Command → ℕ → Motion → Type 0
  Holding κ x stay = Untouched κ x
  Holding κ x (pass a b) = is_held b x ≡ held_after κ x (is_held a x)

module _ (S : Scheme) (U : Values) where
  -- a value that a bound name may hold
  unfoldable pub allows : ℕ → ℕ → Bool
  allows x v = ltb v (S.publics + U.privates) && U.reach x v

  -- the places that the net has
  pub data Exists : Place → Type 0 where
    exists-equals : {x v : ℕ} → S.publics ≤ x → x < S.publics + S.bounds → allows x v ≡ true → Exists (equals x v)
    exists-differs : {x v : ℕ} → S.publics ≤ x → x < S.publics + S.bounds → S.restricted x ≡ false → S.publics ≤ v → allows x v ≡ true
        → Exists (differs x v)
    exists-free : {v : ℕ} → S.publics ≤ v → v < S.publics + U.privates → Exists (free v)
    exists-control : {n k : ℕ} → is_place S (spot n k) ≡ true → Exists (control n k)

  -- all inputs are marked
  abbrev pub Enabled : Description → (Place → Bool) → Type 0
  Enabled d m = (p : Place) → Exists p → is_input S d p ≡ true → m p ≡ true

  -- no output is marked that is no input (cause 16)
  abbrev pub Safe : Description → (Place → Bool) → Type 0
  Safe d m = (p : Place) → Exists p → is_output S d p ≡ true → is_input S d p ≡ false → m p ≡ false

  -- each thread stands at a place of its own; public names have themselves; the bound names with a value are those held at the places; values are allowed
  -- ones; restricted names have different values
  pub record WellFormed (c : Configuration) : Type 0 where
    pub stands : (θ : ℕ) → θ < S.threads → (thread_of S (c.at θ) ≡ θ) × (is_place S (c.at θ) ≡ true)
    pub publics : (x : ℕ) → x < S.publics → c.value x ≡ some x
    pub held : (x : ℕ) → S.publics ≤ x → given (c.value x) ≡ is_held S (c.at (S.thread_of_name x)) x
    pub allowed : (x v : ℕ) → S.publics ≤ x → c.value x ≡ some v → (x < S.publics + S.bounds) × (allows x v ≡ true)
    pub apart : (r s v : ℕ) → S.restricted r ≡ true → S.restricted s ≡ true → c.value r ≡ some v → c.value s ≡ some v → r ≡ s

  -- a value that both channels of a communication can have
  abbrev pub Meets : ℕ → ℕ → ℕ → Type 0
  Meets a e i = (ltb i S.publics || shares S U a e) ≡ true

  -- every private value in use stems from one restricted name, which is in the reach of all that hold it
  pub record Sourced (c : Configuration) : Type 0 where
    pub origin : ℕ → ℕ
    pub stems : (x v : ℕ) → S.publics ≤ v → c.value x ≡ some v → (U.origins x (origin v) ≡ true) × (S.restricted (origin v) ≡ true)

  -- a value that name x can have, with a place or public
  abbrev pub Takes : ℕ → ℕ → Type 0
  Takes x v = ((S.publics ≤ x) × (x < S.publics + S.bounds) × (allows x v ≡ true)) ⊎ ((x < S.publics) × (v ≡ x))

  abbrev pub Commands : Description → Command → Type 0
  Commands d skip = Unit {0}
  Commands d (take y v) =
      (a b : Spot) × (motion S d.moves (S.thread_of_name y) ≡ pass a b) × (is_held S a y ≡ false) × (S.publics ≤ y) × (y < S.publics + S.bounds)
      × (allows y v ≡ true) × (S.restricted y ≡ true → (S.publics ≤ v) × (v < S.publics + U.privates))
  Commands d (release z v) =
      (S.publics ≤ z) × (z < S.publics + S.bounds) × (allows z v ≡ true) × ((x w : ℕ) → asks d.tests x w ≡ false)
      × (S.restricted z ≡ true → S.publics ≤ v)

  -- what a description of an accepted table satisfies
  pub record Shaped (d : Description) : Type 0 where
    pub left : (n k : ℕ) → is_left S d.moves (control n k) ≡ leaves (motion S d.moves (S.thread n)) (spot n k)
    pub reached : (n k : ℕ) → is_reached S d.moves (control n k) ≡ arrives (motion S d.moves (S.thread n)) (spot n k)
    pub owned : (θ : ℕ) (a b : Spot) → motion S d.moves θ ≡ pass a b
        → (thread_of S a ≡ θ) × (thread_of S b ≡ θ) × (θ < S.threads) × (is_place S a ≡ true) × (is_place S b ≡ true)
    pub holding : (x : ℕ) → S.publics ≤ x → Holding S d.command x (motion S d.moves (S.thread_of_name x))
    pub testing : (x v : ℕ) → asks d.tests x v ≡ true → Takes x v
    pub commands : Commands d d.command
