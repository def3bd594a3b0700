-- The size of the state words of an accepted table.
use Rattle.std.specs.Prelude.{◌≡◌, List, ℕ, ◌+◌, ◌≤◌, length}
use Rattle.scheme.specs.Words.{publics, bounds, threads}

-- as many words as a state has, and few names
pub record Sized (w ws : List ℕ) : Type 0 where
  pub size : length ws ≡ threads w + bounds w
  pub few-publics : publics w ≤ 32
  pub few-bounds : bounds w ≤ 32
