-- What the listing program prints (document 01, Table E and its listing): "The listing program reads it on standard input and prints the first five header
-- words, then per transition its number, label, inputs and outputs. A refusal prints `refused` and the number; an odd last byte is 3 (after 1 and 2), an image
-- above 16,384 words 10." It "rewrites first" (document 02, Item 1).
use Rattle.std.specs.Prelude.{Bool, true, false, ◌||◌, List, [], ◌∷◌, ℕ, ltb, length}
use Rattle.lists.specs.Lists.{pick, same}
use Rattle.table.specs.Causes.{cause_sparing}
use Rattle.rewriting.specs.Rewriting.{rewritten}
use Rattle.rewriting.specs.Outcomes.{rewrite_cause}
use Rattle.places.specs.Image.{image_of}
use Rattle.print.specs.Text.{refusal}
use Rattle.print.specs.Words.{words_of}
use Rattle.print.specs.Listing.{listing}

-- an odd number of bytes
unfoldable pub is_odd : List ℕ → Bool
is_odd [] = false
is_odd (low ∷ []) = true
is_odd (low ∷ high ∷ rest) = is_odd rest

-- "an odd last byte is 3 (after 1 and 2)"
abbrev pub odd_cause : ℕ → ℕ
odd_cause c = pick (same c 1 || same c 2) c 3

-- "Only here and in the listing, which rewrites first, does cause 9 spare self-calls." (document 02, Item 1): 1 and 2, an odd last byte, 3 to 9 with
-- self-calls spared, and last the 2 of a rewritten table beyond a bound
unfoldable pub program_cause : List ℕ → ℕ
program_cause bytes = pick (is_odd bytes) (odd_cause (cause_sparing (words_of bytes) true)) (rewrite_cause (words_of bytes))

-- the listing of an image, or 10
abbrev pub image_text : List ℕ → List ℕ
image_text image = pick (ltb 16384 (length image)) (refusal 10) (listing image)

-- the image is that of the rewritten table
unfoldable pub program_text : List ℕ → List ℕ
program_text bytes = pick (same (program_cause bytes) 0) (image_text (image_of (rewritten (words_of bytes)))) (refusal (program_cause bytes))
