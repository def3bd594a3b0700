-- Numbers and lines as text: a list of bytes in ASCII.
use Rattle.std.specs.Prelude.{true, false, List, [], ◌∷◌, ◌++◌, map, ℕ, zero, suc, ◌+◌, ◌/◌, ◌%◌, ltb}
use Rattle.lists.specs.Lists.{flat}

-- the last digits of n, as many as it has but at most `digits`
unfoldable pub digits_of : ℕ → ℕ → List ℕ
digits_of zero n = []
digits_of (suc digits) n = elim (ltb n 10) [ true ↦ (48 + n) ∷ [] | false ↦ digits_of digits (n / 10) ++ ((48 + n % 10) ∷ []) ]

-- n in decimal, with no zero in front; 0 is `0`. A number has no more digits than one more than itself.
abbrev pub decimal : ℕ → List ℕ
decimal n = digits_of (suc n) n

abbrev pub numbers : List ℕ → List (List ℕ)
numbers ns = map decimal ns

-- a token that does not begin a line: a single space, then the token
abbrev pub spaced : List ℕ → List ℕ
spaced token = 32 ∷ token

-- A line: its tokens, a single space between any two, then a line feed. "Every line ends with a line feed".
unfoldable pub line : List ℕ → List (List ℕ) → List ℕ
line first others = first ++ (flat spaced others ++ (10 ∷ []))

-- `refused`
abbrev pub refused : List ℕ
refused = 114 ∷ 101 ∷ 102 ∷ 117 ∷ 115 ∷ 101 ∷ 100 ∷ []

-- "A refusal prints `refused` and the number" (document 01, Table E and its listing)
unfoldable pub refusal : ℕ → List ℕ
refusal number = line refused (decimal number ∷ [])
