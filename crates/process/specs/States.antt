-- States of a process (document 01, Process rules).
use Rattle.std.specs.Prelude.{◌≡◌, Bool, false, ℕ, ltb}
use Rattle.std.proofs.Math.Option.{Option, none, some}
use Rattle.lists.specs.Lists.{pick, same}
use Rattle.scheme.specs.Scheme.{Scheme}

-- "A state has a node per thread, a value per held name, and a counter that never goes back. Values are public names or private numbers."
-- A value is a number: a public name is itself, private numbers are those from P on. A public name has itself as its value, a name that is not
-- held has none.
pub record State : Type 0 where
  pub node : ℕ → ℕ
  pub value : ℕ → Option ℕ
  pub counter : ℕ

-- the function with a at x
unfoldable pub put : {A : Type 0} → (ℕ → A) → ℕ → A → ℕ → A
put f x a y = pick (same y x) a (f y)

-- the value of a name that may be missing
abbrev pub value_of : (ℕ → Option ℕ) → Option ℕ → Option ℕ
value_of f none = none
value_of f (some x) = f x

-- two values that are there, and are one
abbrev pub is_one_value : Option ℕ → Option ℕ → Bool
is_one_value none w = false
is_one_value (some v) none = false
is_one_value (some v) (some u) = same v u

-- "Each thread starts at its entry's root."
unfoldable pub start : Scheme → State
start S = record { node = λ t. S.root (S.entry t); value = λ x. pick (ltb x S.publics) (some x) none; counter = S.publics }

-- Two states alike but for the names of private values: the same nodes, values at the same names, and equal values at the same names. Public names
-- are among the names and have themselves, so public values are the same.
pub record Renamed (S : Scheme) (s t : State) : Type 0 where
  pub nodes : (θ : ℕ) → s.node θ ≡ t.node θ
  pub given : (x : ℕ) → is_one_value (s.value x) (s.value x) ≡ is_one_value (t.value x) (t.value x)
  pub alike : (x y : ℕ) → s.value x ≡ s.value y → t.value x ≡ t.value y
  pub back : (x y : ℕ) → t.value x ≡ t.value y → s.value x ≡ s.value y
