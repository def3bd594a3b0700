-- Values as words: 65535 stands for none.
use Rattle.std.specs.Prelude
use Rattle.std.specs.Prelude.{◌≡◌, List, ◌∷◌, ℕ, ◌+◌, ◌≤◌, ◌<◌, ltb, length, Some, None}
use Rattle.std.proofs.Math.Option.{Option}
use Rattle.std.proofs.Math.Seq.{slice}
use Rattle.lists.specs.Lists.{pick, same}
use Rattle.process.specs.StateWords.{value_words}
pub use Rattle.process.specs.StateWords.{value_at}

-- r is the word of a value that may be missing
pub record Valued (o : Option ℕ) (r : ℕ) : Type 0 where
  pub is : o ≡ value_at r
  pub small : r < 65536

-- how many private values have appeared once v has, where `seen` had before it and were numbered from P on; none where v is numbered otherwise
unfoldable pub next_seen_of : ℕ → ℕ → ℕ → Prelude.Option ℕ
next_seen_of P seen v =
    pick (same v 65535) (Some seen) (pick (ltb v P) (Some seen) (pick (ltb v (P + seen)) (Some seen) (pick (same v (P + seen)) (Some (seen + 1)) None)))

-- there is room to note a value, and all numbers are small
pub record Numberable (P : ℕ) (seen : List ℕ) (count value : ℕ) : Type 0 where
  pub few : P ≤ 32
  pub room : count < length seen
  pub few-seen : count ≤ 32
  pub small : value < 65536

-- after the first `count` values seen the value has this word, whatever follows it
pub record Turned (P : ℕ) (before : List ℕ) (count value : ℕ) (after : List ℕ) (word next : ℕ) : Type 0 where
  pub words : (os : List (Option ℕ)) → value_words P (slice 0 count before) (value_at value ∷ os) ≡ word ∷ value_words P (slice 0 next after) os
  pub grows : next ≤ count + 1
  pub same_length : length after ≡ length before
  pub small : word < 65536
