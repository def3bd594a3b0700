-- The words that bytes make.
use Rattle.std.specs.Prelude.{List, [], ◌∷◌, ℕ, ◌+◌, ◌*◌}

-- 16-bit words, the low byte first. "For 1 and 2 an odd last byte is not counted as a word": it is left out.
unfoldable pub words_of : List ℕ → List ℕ
words_of [] = []
words_of (low ∷ []) = []
words_of (low ∷ high ∷ rest) = (low + 256 * high) ∷ words_of rest
