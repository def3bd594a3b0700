-- Looking before a firing (document 02, Item 2): what the firing would leave, in a second lent buffer.
use Rattle.std.specs.Prelude.{not, List, ◌++◌, ℕ, ltb, length, drop}
use Rattle.lists.specs.Lists.{pick, same}
use Rattle.net.specs.Image.{place_count_of}
use Rattle.net.specs.Firing.{Outcome, fire}

-- the number of the cause, 0 where nothing is refused; the bytes written; the second buffer as the look leaves it
pub record LookOutcome : Type 0 where
  pub cause : ℕ
  pub bytes : ℕ
  pub next : List ℕ

abbrev pub looked : ℕ → ℕ → List ℕ → LookOutcome
looked cause bytes next = record { cause = cause; bytes = bytes; next = next }

-- "Accepted, that buffer equals what firing on a copy leaves; a refusal is the same as there and writes nothing … The second buffer's length is
-- checked last, as 10." (document 02, Item 2), of what the firing gives; "Of a longer output only the answer's part changes." (document 01,
-- Causes of refusal)
unfoldable pub shown : ℕ → Outcome → List ℕ → LookOutcome
shown places fired next =
    pick (not (same fired.cause 0)) (looked fired.cause 0 next)
    (pick (ltb (length next) places) (looked 10 0 next)
    (looked 0 places (fired.marking ++ drop places next)))

-- "Write the resulting marking to a second lent buffer of the place count's length … the marking itself is only read." (document 02, Item 2)
unfoldable pub look : List ℕ → List ℕ → ℕ → List ℕ → LookOutcome
look image marking transition next = shown (place_count_of image) (fire image marking transition) next
