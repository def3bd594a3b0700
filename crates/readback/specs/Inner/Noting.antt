-- What is noted of the marked control places of each thread: how many there are, and the first.
use Rattle.std.specs.Prelude.{◌≡◌, List, ℕ, ◌≤◌, ◌<◌, length}
use Rattle.lists.specs.Lists.{word}
use Rattle.scheme.specs.Words.{nodes, threads}
use Rattle.scheme.specs.Scheme.{scheme}
use Rattle.places.specs.Plan.{Laid}
use Rattle.readback.specs.Configurations.{spot}
use Rattle.readback.specs.Inner.Standing.{first_of, spots_below, spots_at}

-- there is a word for each thread
pub record Room (counts places indexes : List ℕ) : Type 0 where
  pub counts-enough : 8 ≤ length counts
  pub places-enough : 8 ≤ length places
  pub indexes-enough : 8 ≤ length indexes

-- the marked control places of the nodes below n, for one thread
pub record Noted (w m : List ℕ) (n t : ℕ) (counts places indexes : List ℕ) : Type 0 where
  pub count-is : word counts t ≡ length (spots_below (scheme w) m n t)
  pub first-is : spot (word places t) (word indexes t) ≡ first_of (spots_below (scheme w) m n t)

abbrev pub NotedAll : List ℕ → List ℕ → ℕ → List ℕ → List ℕ → List ℕ → Type 0
NotedAll w m n counts places indexes = (t : ℕ) → t < threads w → Noted w m n t counts places indexes

-- the words of all threads are 0
abbrev pub Clear : List ℕ → Type 0
Clear xs = (t : ℕ) → t < 8 → word xs t ≡ 0

-- the first marked control place of each thread
abbrev pub SpotsFound : List ℕ → List ℕ → List ℕ → List ℕ → Type 0
SpotsFound w m places indexes = (t : ℕ) → t < threads w → spot (word places t) (word indexes t) ≡ first_of (spots_at (scheme w) m t)

-- the nodes below n are noted, and node n is next
pub record Noting (w index m : List ℕ) (n : ℕ) (counts places indexes : List ℕ) : Type 0 where
  pub laid : Laid w index
  pub inside : n < nodes w
  pub room : Room counts places indexes
  pub noted : NotedAll w m n counts places indexes

-- what is needed to find where threads stand; nothing is noted yet
pub record Seeking (w index counts places indexes : List ℕ) : Type 0 where
  pub laid : Laid w index
  pub room : Room counts places indexes
  pub counts-clear : Clear counts
  pub places-clear : Clear places
  pub indexes-clear : Clear indexes
