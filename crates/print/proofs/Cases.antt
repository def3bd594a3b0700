-- The definitions computed: table E's listing (document 01, Table E and its listing) character by character, a refusal, words, answers, and edges.
use mathlib.Core.Path.{◌≡◌, refl}
use mathlib.Core.List.{List, [], ◌∷◌}
use Prim.Native.Nat.{ℕ}
use Rattle.lists.specs.Lists.{from, flat}
use Rattle.print.specs.Text.{digits_of, decimal, line, refusal}
use Rattle.print.specs.Listing.{header_line, transition_line, listing}
use Rattle.print.specs.Words.{words_of}
use Rattle.print.specs.Answers.{too_short, done, answered}

-- the image of document 01's listing
abbrev image_e : List ℕ
image_e =
    16 ∷ 9 ∷ 24 ∷ 23 ∷ 6 ∷ 8 ∷ 14 ∷ 68
    ∷ 5 ∷ 6 ∷ 7 ∷ 8 ∷ 9 ∷ 13
    ∷ 2 ∷ 0 ∷ 1 ∷ 68 ∷ 3 ∷ 3
    ∷ 2 ∷ 0 ∷ 1 ∷ 74 ∷ 3 ∷ 3
    ∷ 1 ∷ 2 ∷ 1 ∷ 80 ∷ 2 ∷ 2
    ∷ 1 ∷ 2 ∷ 1 ∷ 84 ∷ 2 ∷ 2
    ∷ 1 ∷ 4 ∷ 2 ∷ 88 ∷ 2 ∷ 1
    ∷ 1 ∷ 4 ∷ 2 ∷ 91 ∷ 2 ∷ 2
    ∷ 1 ∷ 4 ∷ 2 ∷ 95 ∷ 2 ∷ 2
    ∷ 4 ∷ 0 ∷ 1 ∷ 99 ∷ 4 ∷ 4
    ∷ 4 ∷ 0 ∷ 1 ∷ 107 ∷ 4 ∷ 4
    ∷ 5 ∷ 7 ∷ 9 ∷ 0 ∷ 5 ∷ 10
    ∷ 6 ∷ 8 ∷ 9 ∷ 1 ∷ 6 ∷ 10
    ∷ 0 ∷ 11 ∷ 7 ∷ 12
    ∷ 1 ∷ 11 ∷ 8 ∷ 12
    ∷ 2 ∷ 14 ∷ 15
    ∷ 3 ∷ 14 ∷ 5 ∷ 15
    ∷ 4 ∷ 14 ∷ 6 ∷ 15
    ∷ 0 ∷ 5 ∷ 10 ∷ 13 ∷ 0 ∷ 3 ∷ 11 ∷ 14
    ∷ 1 ∷ 6 ∷ 10 ∷ 13 ∷ 1 ∷ 4 ∷ 11 ∷ 14
    ∷ []

-- document 01's text, a comment above each line
listing_e : List ℕ
listing_e =
    -- 16 9 24 23 6
    49 ∷ 54 ∷ 32 ∷ 57 ∷ 32 ∷ 50 ∷ 52 ∷ 32 ∷ 50 ∷ 51 ∷ 32 ∷ 54 ∷ 10
    -- 0 2 0 1 : 5 7 9 > 0 5 10
    ∷ 48 ∷ 32 ∷ 50 ∷ 32 ∷ 48 ∷ 32 ∷ 49 ∷ 32 ∷ 58 ∷ 32 ∷ 53 ∷ 32 ∷ 55 ∷ 32 ∷ 57 ∷ 32 ∷ 62 ∷ 32 ∷ 48 ∷ 32 ∷ 53 ∷ 32 ∷ 49 ∷ 48 ∷ 10
    -- 1 2 0 1 : 6 8 9 > 1 6 10
    ∷ 49 ∷ 32 ∷ 50 ∷ 32 ∷ 48 ∷ 32 ∷ 49 ∷ 32 ∷ 58 ∷ 32 ∷ 54 ∷ 32 ∷ 56 ∷ 32 ∷ 57 ∷ 32 ∷ 62 ∷ 32 ∷ 49 ∷ 32 ∷ 54 ∷ 32 ∷ 49 ∷ 48 ∷ 10
    -- 2 1 2 1 : 0 11 > 7 12
    ∷ 50 ∷ 32 ∷ 49 ∷ 32 ∷ 50 ∷ 32 ∷ 49 ∷ 32 ∷ 58 ∷ 32 ∷ 48 ∷ 32 ∷ 49 ∷ 49 ∷ 32 ∷ 62 ∷ 32 ∷ 55 ∷ 32 ∷ 49 ∷ 50 ∷ 10
    -- 3 1 2 1 : 1 11 > 8 12
    ∷ 51 ∷ 32 ∷ 49 ∷ 32 ∷ 50 ∷ 32 ∷ 49 ∷ 32 ∷ 58 ∷ 32 ∷ 49 ∷ 32 ∷ 49 ∷ 49 ∷ 32 ∷ 62 ∷ 32 ∷ 56 ∷ 32 ∷ 49 ∷ 50 ∷ 10
    -- 4 1 4 2 : 2 14 > 15
    ∷ 52 ∷ 32 ∷ 49 ∷ 32 ∷ 52 ∷ 32 ∷ 50 ∷ 32 ∷ 58 ∷ 32 ∷ 50 ∷ 32 ∷ 49 ∷ 52 ∷ 32 ∷ 62 ∷ 32 ∷ 49 ∷ 53 ∷ 10
    -- 5 1 4 2 : 3 14 > 5 15
    ∷ 53 ∷ 32 ∷ 49 ∷ 32 ∷ 52 ∷ 32 ∷ 50 ∷ 32 ∷ 58 ∷ 32 ∷ 51 ∷ 32 ∷ 49 ∷ 52 ∷ 32 ∷ 62 ∷ 32 ∷ 53 ∷ 32 ∷ 49 ∷ 53 ∷ 10
    -- 6 1 4 2 : 4 14 > 6 15
    ∷ 54 ∷ 32 ∷ 49 ∷ 32 ∷ 52 ∷ 32 ∷ 50 ∷ 32 ∷ 58 ∷ 32 ∷ 52 ∷ 32 ∷ 49 ∷ 52 ∷ 32 ∷ 62 ∷ 32 ∷ 54 ∷ 32 ∷ 49 ∷ 53 ∷ 10
    -- 7 4 0 1 : 0 5 10 13 > 0 3 11 14
    ∷ 55 ∷ 32 ∷ 52 ∷ 32 ∷ 48 ∷ 32 ∷ 49 ∷ 32 ∷ 58 ∷ 32 ∷ 48 ∷ 32 ∷ 53 ∷ 32 ∷ 49 ∷ 48 ∷ 32 ∷ 49 ∷ 51 ∷ 32
    ∷ 62 ∷ 32 ∷ 48 ∷ 32 ∷ 51 ∷ 32 ∷ 49 ∷ 49 ∷ 32 ∷ 49 ∷ 52 ∷ 10
    -- 8 4 0 1 : 1 6 10 13 > 1 4 11 14
    ∷ 56 ∷ 32 ∷ 52 ∷ 32 ∷ 48 ∷ 32 ∷ 49 ∷ 32 ∷ 58 ∷ 32 ∷ 49 ∷ 32 ∷ 54 ∷ 32 ∷ 49 ∷ 48 ∷ 32 ∷ 49 ∷ 51 ∷ 32
    ∷ 62 ∷ 32 ∷ 49 ∷ 32 ∷ 52 ∷ 32 ∷ 49 ∷ 49 ∷ 32 ∷ 49 ∷ 52 ∷ 10
    ∷ []

listed : listing image_e ≡ listing_e
unfolding listing_e listing header_line transition_line line digits_of flat from
listed = refl

-- `refused 10`
refused-ten : refusal 10 ≡ 114 ∷ 101 ∷ 102 ∷ 117 ∷ 115 ∷ 101 ∷ 100 ∷ 32 ∷ 49 ∷ 48 ∷ 10 ∷ []
unfolding refusal line digits_of flat
refused-ten = refl

-- `0`, and the largest 32-bit word
zero-alone : decimal 0 ≡ 48 ∷ []
unfolding digits_of
zero-alone = refl

largest : decimal 4294967295 ≡ 52 ∷ 50 ∷ 57 ∷ 52 ∷ 57 ∷ 54 ∷ 55 ∷ 50 ∷ 57 ∷ 53 ∷ []
unfolding digits_of
largest = refl

-- `0 7 8 9 : >` for a transition without arcs
no-arcs : transition_line (1 ∷ 1 ∷ 0 ∷ 0 ∷ 0 ∷ 8 ∷ 8 ∷ 14 ∷ 7 ∷ 8 ∷ 9 ∷ 14 ∷ 0 ∷ 0 ∷ []) 0 ≡ 48 ∷ 32 ∷ 55 ∷ 32 ∷ 56 ∷ 32 ∷ 57 ∷ 32 ∷ 58 ∷ 32 ∷ 62 ∷ 10 ∷ []
unfolding transition_line line digits_of flat
no-arcs = refl

-- low byte first; an odd last byte is left out
low_first : words_of (1 ∷ 2 ∷ 255 ∷ 255 ∷ 7 ∷ []) ≡ 513 ∷ 65535 ∷ []
unfolding words_of
low_first = refl

-- a text that just fits, one that is a byte too long, and one in longer output
just-fits : answered (1 ∷ 2 ∷ []) (7 ∷ 8 ∷ []) ≡ done 2 (1 ∷ 2 ∷ [])
unfolding answered
just-fits = refl

a-byte-too-long : answered (1 ∷ 2 ∷ []) (7 ∷ []) ≡ too_short (7 ∷ [])
unfolding answered
a-byte-too-long = refl

rest-left : answered (1 ∷ 2 ∷ []) (7 ∷ 8 ∷ 9 ∷ []) ≡ done 2 (1 ∷ 2 ∷ 9 ∷ [])
unfolding answered
rest-left = refl
