-- The reach of a name as two sets: the public names in it, and the restricted ones, counted from the first bound name.
use Rattle.std.specs.Prelude.{ℕ, ◌+◌, Bool, false, List, bit_and, nat_lt}
use Rattle.lists.specs.Lists.{pick, same}
use Rattle.scheme.specs.Words.{publics, bounds}
use Rattle.scheme.specs.Scheme.{scheme}
use Rattle.places.specs.Reach.{values_for}
use Rattle.places.specs.Sets.{set_from}
use Rattle.places.specs.declared.reach.Reach.{Reach}

abbrev pub reach : ℕ → ℕ → Reach
reach publics restricted = record { publics = publics; restricted = restricted }

module _ (w : List ℕ) where
  -- the public names in the reach of a name, and the restricted ones, as sets
  abbrev pub public_set_word : ℕ → ℕ
  public_set_word x = set_from ((values_for (scheme w)).origins x) (publics w)

  abbrev pub restricted_set_word : ℕ → ℕ
  restricted_set_word x = set_from (λ k. (values_for (scheme w)).origins x (publics w + k)) (bounds w)

  abbrev pub reach_for : ℕ → Reach
  reach_for x = reach (public_set_word x) (restricted_set_word x)

-- "common to both": "A channel value is private only if both reaches share a restricted name."
unfoldable pub common_reach : Reach → Reach → Reach
common_reach a b = reach (bit_and a.publics b.publics) (bit_and a.restricted b.restricted)

unfoldable pub is_empty : Reach → Bool
is_empty r = pick (same r.publics 0) (same r.restricted 0) false

abbrev pub least : ℕ → ℕ → ℕ
least a b = pick (nat_lt a b) a b

abbrev pub most : ℕ → ℕ → ℕ
most a b = pick (nat_lt a b) b a
