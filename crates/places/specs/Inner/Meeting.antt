-- Receives noted at the values of their channels and at their threads, as sets in 64-bit words.
use Rattle.std.specs.Prelude.{◌≡◌, ℕ, ◌+◌, ◌*◌, ◌^◌, ◌<◌, Bool, ◌&&◌, ◌||◌, List, nat_lt}
use Rattle.lists.specs.Lists.{same}
use Rattle.places.specs.Sets.{bit_at}
use Rattle.places.specs.Inner.Sets.{in_set}
use Rattle.places.specs.declared.reach.Reach.{Reach}

-- the values of a channel as one set: the public names, and from 32 on the restricted ones
abbrev pub value_set_word : Reach → ℕ
value_set_word r = r.restricted * 2 ^ 32 + r.publics

-- a receive is noted at every value of its channel, and at 64 + its thread
abbrev pub is_noted : Reach → ℕ → ℕ → Bool
is_noted r thread x = bit_at (value_set_word r) x || same (64 + thread) x

-- the receives below a number are noted, by the reaches of their channels and by their threads
pub record Noted (reaches : ℕ → Reach) (threads : ℕ → ℕ) (count : ℕ) (words : List ℕ) : Type 0 where
  pub are : (x k : ℕ) → x < 72 → in_set words x k ≡ (nat_lt k count && is_noted (reaches k) (threads k) x)
