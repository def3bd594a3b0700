-- The values that names may hold (document 01, Places and Transitions). A value is a number: a public name is itself, private value n is P + n.
-- Everything that ranges over values goes through these definitions.
use Rattle.std.specs.Prelude.{ℕ, ◌+◌, Bool, ◌&&◌, List, [], ◌∷◌, nat_lt}
use Rattle.lists.specs.Lists.{pick, from, range, keep, some}
use Rattle.scheme.specs.Scheme.{Scheme}

-- N, which public and restricted names are in the reach of a name, and which values a bound name may hold
pub record Values : Type 0 where
  pub privates : ℕ
  pub origins : ℕ → ℕ → Bool
  pub reach : ℕ → ℕ → Bool

module _ (S : Scheme) (U : Values) where
  -- the private values, upward
  abbrev pub private_value_list : List ℕ
  private_value_list = from S.publics U.privates

  -- "Values run upward, publics first." The values of a name: "a public over itself"
  unfoldable pub values_of : ℕ → List ℕ
  values_of x = pick (nat_lt x S.publics) (x ∷ []) (keep (U.reach x) (range (S.publics + U.privates)))

  -- the private values of a bound name
  unfoldable pub private_values_of : ℕ → List ℕ
  private_values_of x = keep (U.reach x) private_value_list

  -- "both reaches share a restricted name"
  unfoldable pub shares : ℕ → ℕ → Bool
  shares a e = some (λ o. S.restricted o && (U.origins a o && U.origins e o)) (from S.publics S.bounds)
