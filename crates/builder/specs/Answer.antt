-- What `build` answers and leaves in the buffer, and what `size` answers (document 01, Causes of refusal, Net image).
use Rattle.std.specs.Prelude.{List, ◌++◌, ℕ, Result, Ok, Err, ltb, length, drop}
use Rattle.lists.specs.Lists.{pick, same}
use Rattle.table.specs.Answer.{cause_number}
use Rattle.table.specs.Causes.{cause}
use Rattle.places.specs.Image.{image_of}
use Rattle.table.specs.declared.Cause.{Cause}
use Rattle.places.specs.declared.Refusal as unplanned
use Rattle.places.specs.declared.Refusal.TheVariants as unplanned_for
use Rattle.builder.specs.declared.Refusal.{Refusal}
use Rattle.builder.specs.declared.Refusal.TheVariants.{Table, NoRoom}

-- what is not planned is not built
abbrev pub unbuilt : unplanned.Refusal → Refusal
unbuilt (unplanned_for.Table cause) = Table cause
unbuilt unplanned_for.NoRoom = NoRoom

-- the number of the cause, 0 for none, the words written, and the lent buffer afterwards
pub record BuildOutcome : Type 0 where
  pub number : ℕ
  pub words : ℕ
  pub buffer : List ℕ

abbrev pub outcome : ℕ → ℕ → List ℕ → BuildOutcome
outcome number words buffer = record { number = number; words = words; buffer = buffer }

-- document 01's number and value of each answer
abbrev pub built_outcome : Result ℕ Refusal → List ℕ → BuildOutcome
built_outcome (Ok n) out = outcome 0 n out
built_outcome (Err (Table cause)) out = outcome (cause_number cause) 0 out
built_outcome (Err NoRoom) out = outcome 10 0 out

-- of an accepted table: the image, or 10: "lent output shorter than the answer"; "Of a longer output only the answer's part changes."
abbrev pub laid_outcome : List ℕ → List ℕ → BuildOutcome
laid_outcome w lent =
    pick (ltb (length lent) (length (image_of w))) (outcome 10 0 lent)
    (outcome 0 (length (image_of w)) (image_of w ++ drop (length (image_of w)) lent))

-- what the rules give for a table and a lent buffer: "Checking a table precedes checking anything else; 10 is checked last in every call"
unfoldable pub build_outcome : List ℕ → List ℕ → BuildOutcome
build_outcome w lent = pick (same (cause w) 0) (laid_outcome w lent) (outcome (cause w) 0 lent)

-- the number of the cause, 0 for none, and the words of the image
pub record SizeOutcome : Type 0 where
  pub number : ℕ
  pub words : ℕ

abbrev pub extent : ℕ → ℕ → SizeOutcome
extent number words = record { number = number; words = words }

-- document 01's number and value of each answer
abbrev pub sized_outcome : Result ℕ Cause → SizeOutcome
sized_outcome (Ok n) = extent 0 n
sized_outcome (Err cause) = extent (cause_number cause) 0

-- the words of an accepted table's image ("the length is exact"), or the table's cause
unfoldable pub size_outcome : List ℕ → SizeOutcome
size_outcome w = pick (same (cause w) 0) (extent 0 (length (image_of w))) (extent (cause w) 0)
