-- What reading a marking needs of a table, and what it leaves of a marking that stands for a state.
use Rattle.std.specs.Prelude.{◌≡◌, Bool, true, List, ℕ, ◌≤◌, length, replicate}
use Rattle.lists.specs.Lists.{word}
use Rattle.scheme.specs.Words.{names}
use Rattle.scheme.specs.Scheme.{scheme}
use Rattle.net.specs.Firing.{is_marking}
use Rattle.places.specs.Places
use Rattle.places.specs.Plan.{places_at}
use Rattle.places.specs.Inner.Plan.{today}
use Rattle.readback.specs.Reading.{marked, stands_for_state}
use Rattle.readback.specs.Inner.Noting.{Seeking, SpotsFound}
use Rattle.readback.specs.Inner.Showing.{AtNodes}
use Rattle.readback.specs.Inner.Holding.{ValuesBelow}

-- an accepted table with its plan and a marking, with lent words that are clear
pub record Settling (w index m places indexes values : List ℕ) : Type 0 where
  pub seeking : Seeking w index (replicate 8 0) places indexes
  pub room : 64 ≤ length values
  pub marking : is_marking (word index places_at) m ≡ true

-- where threads stand, and the values of bound names
pub record Settled (w m places indexes values : List ℕ) : Type 0 where
  pub at-nodes : AtNodes w places
  pub spots-found : SpotsFound w m places indexes
  pub values-found : ValuesBelow w m values (names w)

-- the marking stands for a state
abbrev pub stands_in : List ℕ → List ℕ → Bool
stands_in w m = stands_for_state (scheme w) (today w) (marked (Places.places (scheme w) (today w)) m)

abbrev pub Settles : List ℕ → List ℕ → Bool → List ℕ → List ℕ → List ℕ → Type 0
Settles w m r places indexes values = (r ≡ stands_in w m) × (r ≡ true → Settled w m places indexes values)
