-- A configuration that stands for a state of the plain process, but for the names of private values.
use Rattle.std.specs.Prelude.{ℕ, ◌<◌, ◌≡◌, List, map}
use Rattle.std.proofs.Math.Option.{Option, some}
use Rattle.lists.specs.Lists.{pick, bit}
use Rattle.scheme.specs.Scheme.{Scheme}
use Rattle.process.specs.States.{State, value_of}
use Rattle.process.specs.Steps as Steps
use Rattle.process.specs.Labels.{step_of}
use Rattle.net.specs.Image.{Label, is_bookkeeping}
use Rattle.places.specs.Values.{Values}
use Rattle.places.specs.Places.{places}
use Rattle.readback.specs.Configurations.{Spot, Configuration, shown_node_of, name_shown_at, shown_name}
use Rattle.fidelity.specs.Inner.Marks.{given, mark, WellFormed, Sourced}

-- the names have values at the same places, and equal ones at the same places. Public names are among the names and have themselves.
pub record Alike (e s : ℕ → Option ℕ) : Type 0 where
  pub both : (x : ℕ) → given (e x) ≡ given (s x)
  pub like : (x y : ℕ) → e x ≡ e y → s x ≡ s y
  pub back : (x y : ℕ) → s x ≡ s y → e x ≡ e y

module _ (S : Scheme) where
  -- the name whose value the state has for x, a name of a thread at this place
  abbrev pub source : Spot → ℕ → Option ℕ
  source p x = name_shown_at S (S.node p.node) p.node p.index x

  -- the values of the state that the configuration shows
  abbrev pub shown : Configuration → ℕ → Option ℕ
  shown c x = value_of c.value (shown_name S c.at x)

  -- what the plain process does at a firing with this label: bookkeeping keeps the state, else it takes the step
  abbrev pub advanced : Label → State → State
  advanced λ' s = pick (is_bookkeeping λ'.kind) s (Steps.take S (step_of S λ'.kind λ'.a λ'.b) s)

module _ (S : Scheme) (U : Values) where
  pub record Shows (c : Configuration) (s : State) : Type 0 where
    pub formed : WellFormed S U c
    pub sourced : Sourced S U c
    pub nodes : (θ : ℕ) → shown_node_of S (c.at θ) ≡ s.node θ
    pub alike : Alike (shown S c) s.value
    pub public : (x : ℕ) → x < S.publics → s.value x ≡ some x
    pub fresh : (x v : ℕ) → s.value x ≡ some v → v < s.counter

  -- the marking of a configuration, a byte per place
  unfoldable pub marking_of : Configuration → List ℕ
  marking_of c = map (λ p. bit (mark S c p)) (places S U)

  -- the marking stands for the state
  pub record Stands (m : List ℕ) (s : State) : Type 0 where
    pub configuration : Configuration
    pub shows : Shows configuration s
    pub is : m ≡ marking_of configuration
