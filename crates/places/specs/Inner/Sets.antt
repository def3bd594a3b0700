-- The reaches as sets in 64-bit words, changed in place: what a step joins to them, and where it brings nothing.
use Rattle.std.specs.Prelude.{◌≡◌, ℕ, ◌+◌, ◌^◌, ◌<◌, ◌≤◌, Bool, true, false, not, ◌&&◌, ◌||◌, List, length, nat_lt}
use Rattle.lists.specs.Lists.{bit, same, word, range, some, total}
use Rattle.scheme.specs.Scheme.{Scheme, Branch, absent, silent, send, receive}
use Rattle.places.specs.Reach.{name_count, is_source_name, is_sent, is_passed, look, reach_table}
use Rattle.places.specs.Sets.{bit_at}

-- number o is in set x
abbrev pub in_set : List ℕ → ℕ → ℕ → Bool
in_set ws x o = bit_at (word ws x) o

-- the sets lie in these reaches
abbrev pub Under : List ℕ → (ℕ → ℕ → Bool) → Type 0
Under ws Q = (x o : ℕ) → in_set ws x o ≡ true → Q x o ≡ true

-- a set is the sets together whose numbers are in set s
abbrev pub Gathers : List ℕ → ℕ → ℕ → Type 0
Gathers ws s v = (o : ℕ) → bit_at v o ≡ some (λ k. bit_at s k && in_set ws k o) (range 64)

-- the sets from number n on are empty
abbrev pub EmptyFrom : ℕ → List ℕ → Type 0
EmptyFrom n ws = (x : ℕ) → n ≤ x → word ws x ≡ 0

-- just this is joined to the sets; the sum of the words rises where that brings something
pub record Adds (before after : List ℕ) (B : ℕ → ℕ → Bool) : Type 0 where
  pub size : length after ≡ length before
  pub bits : (x o : ℕ) → x < length before → in_set after x o ≡ (in_set before x o || B x o)

pub record Joined (before after : List ℕ) (grew : Bool) (B : ℕ → ℕ → Bool) : Type 0 where
  pub adds : Adds before after B
  pub still : grew ≡ false → after ≡ before
  pub rises : total before + bit grew ≤ total after

-- steps in place, by what comes in them (B): they keep what there is; they stay in reaches to which nothing comes; where they bring nothing, the sets are
-- as they were, and nothing comes to them
pub record Grown (before after : List ℕ) (grew : Bool) (B : (ℕ → ℕ → Bool) → ℕ → ℕ → Bool) : Type 0 where
  pub size : length after ≡ length before
  pub keeps : Under before (in_set after)
  pub within : (Q : ℕ → ℕ → Bool) → ((x o : ℕ) → B Q x o ≡ true → Q x o ≡ true) → Under before Q → Under after Q
  pub still : grew ≡ false → (after ≡ before) × ((x o : ℕ) → x < length before → B (in_set before) x o ≡ true → in_set before x o ≡ true)
  pub rises : total before + bit grew ≤ total after

module _ (S : Scheme) where
  -- where the name that a receive binds is noted: at every value of the receive's channel, and at 64 + its thread
  abbrev pub hears_at : (ℕ → ℕ → Bool) → ℕ → ℕ → ℕ → Branch → Bool
  hears_at R k y r absent = false
  hears_at R k y r (silent l) = false
  hears_at R k y r (send a z l) = false
  hears_at R k y r (receive e x l) = (R e k || same (64 + S.thread (S.home r)) k) && same x y

  unfoldable pub hears : (ℕ → ℕ → Bool) → ℕ → ℕ → Bool
  hears R k y = some (λ r. hears_at R k y r (S.branch r)) (range S.branches)

  -- what is sent comes to the names noted at a value of the channel, save those of the send's thread
  abbrev pub said_at : List ℕ → (ℕ → ℕ → Bool) → ℕ → ℕ → ℕ → Branch → Bool
  said_at ears R x o s absent = false
  said_at ears R x o s (silent l) = false
  said_at ears R x o s (send a z l) =
      (some (λ k. R a k && in_set ears k x) (range 64) && not (in_set ears (64 + S.thread (S.home s)) x)) && R z o
  said_at ears R x o s (receive e y l) = false

  unfoldable pub is_said : List ℕ → (ℕ → ℕ → Bool) → ℕ → ℕ → Bool
  is_said ears R x o = some (λ s. said_at ears R x o s (S.branch s)) (range S.branches)

  -- the sets of public and restricted names, and the least reaches
  pub record Start (ws : List ℕ) : Type 0 where
    pub size : length ws ≡ 64
    pub own : (x o : ℕ) → in_set ws x o ≡ (nat_lt x (name_count S) && (is_source_name S x && same x o))

  abbrev pub found : ℕ → ℕ → Bool
  found = look S (reach_table S)

  pub record Found (ws : List ℕ) : Type 0 where
    pub small : (x : ℕ) → word ws x < 2 ^ 64
    pub are : (x o : ℕ) → found x o ≡ in_set ws x o

  -- what is noted: no more than the sets tell, and just that
  pub record Ears (ws ears : List ℕ) : Type 0 where
    pub size : length ears ≡ 72
    pub under : Under ears (hears (in_set ws))

  pub record Heard (ws ears : List ℕ) : Type 0 where
    pub size : length ears ≡ 72
    pub are : (k y : ℕ) → k < 72 → in_set ears k y ≡ hears (in_set ws) k y

  -- one round
  pub record Round (before after : List ℕ) (grew : Bool) : Type 0 where
    pub size : length after ≡ length before
    pub keeps : Under before (in_set after)
    pub within : Under before found → Under after found
    pub still : Under before found → grew ≡ false → (x o : ℕ) → x < 64 → (is_sent S (in_set after) x o || is_passed S (in_set after) x o) ≡ true
        → in_set after x o ≡ true
    pub rises : total before + bit grew ≤ total after
