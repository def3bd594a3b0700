-- Table E's calls, computed.
use mathlib.Core.Path.{◌≡◌, refl}
use mathlib.Core.List.{List, [], ◌∷◌}
use Prim.Native.Nat.{ℕ}
use Rattle.scheme.specs.Scheme.{scheme}
use Rattle.places.specs.Image.{image_of}
use Rattle.process.specs.StateWords.{state_words}
use Rattle.readback.specs.Reading.{reading_back, words, refused}
use Rattle.fidelity.specs.Calls.{Call, fire, run, replay, world}
use Rattle.fidelity.proofs.Computing.{everything}

abbrev table_e : List ℕ
table_e =
    1 ∷ 2 ∷ 2 ∷ 2 ∷ 5 ∷ 2 ∷ 0 ∷ 13 ∷ 15 ∷ 23 ∷ 25 ∷ 40 ∷ 48 ∷ 0 ∷ 1 ∷ 0 ∷ 0 ∷ 0 ∷ 0 ∷ 1 ∷ 3 ∷ 0 ∷ 0 ∷ 0 ∷ 1 ∷
    2 ∷ 1 ∷ 1 ∷ 1 ∷ 0 ∷ 1 ∷ 0 ∷ 0 ∷ 0 ∷ 1 ∷ 1 ∷ 1 ∷ 0 ∷ 0 ∷ 0 ∷ 1 ∷ 0 ∷ 1 ∷ 2 ∷ 2 ∷ 0 ∷ 2 ∷ 4 ∷ []

-- the image, of 106 words
abbrev image_e : List ℕ
image_e =
    15 ∷ 8 ∷ 22 ∷ 22 ∷ 6 ∷ 8 ∷ 14 ∷ 62 ∷ 4 ∷ 5 ∷ 6 ∷ 7 ∷ 8 ∷ 12 ∷ 2 ∷ 0 ∷ 1 ∷ 62 ∷ 3 ∷ 3 ∷ 2 ∷ 0 ∷ 1 ∷ 68 ∷ 3 ∷ 3 ∷ 1 ∷ 2 ∷ 1 ∷ 74 ∷ 2 ∷ 2 ∷ 1 ∷ 2 ∷
    1 ∷ 78 ∷ 2 ∷ 2 ∷ 1 ∷ 4 ∷ 2 ∷ 82 ∷ 2 ∷ 2 ∷ 1 ∷ 4 ∷ 2 ∷ 86 ∷ 2 ∷ 2 ∷ 4 ∷ 0 ∷ 1 ∷ 90 ∷ 4 ∷ 4 ∷ 4 ∷ 0 ∷ 1 ∷ 98 ∷ 4 ∷ 4 ∷ 4 ∷ 6 ∷ 8 ∷ 0 ∷ 4 ∷ 9 ∷ 5 ∷
    7 ∷ 8 ∷ 1 ∷ 5 ∷ 9 ∷ 0 ∷ 10 ∷ 6 ∷ 11 ∷ 1 ∷ 10 ∷ 7 ∷ 11 ∷ 2 ∷ 13 ∷ 4 ∷ 14 ∷ 3 ∷ 13 ∷ 5 ∷ 14 ∷ 0 ∷ 4 ∷ 9 ∷ 12 ∷ 0 ∷ 2 ∷ 10 ∷ 13 ∷ 1 ∷ 5 ∷ 9 ∷ 12 ∷
    1 ∷ 3 ∷ 10 ∷ 13 ∷ []

built : image_of table_e ≡ image_e
unfolding everything
built = refl

abbrev calls : List Call
calls = fire 1 ∷ fire 6 ∷ replay (0 ∷ 8 ∷ []) ∷ run 2 9 ∷ []

read : reading_back table_e (world table_e image_e (fire 1 ∷ [])).marking ≡ words (1 ∷ 3 ∷ 1 ∷ 65535 ∷ [])
unfolding everything
read = refl

-- after the calls the marking reads as the plain process's state
reads : reading_back table_e (world table_e image_e calls).marking ≡ words (2 ∷ 4 ∷ 65535 ∷ 65535 ∷ [])
unfolding everything
reads = refl

holds : state_words (scheme table_e) (world table_e image_e calls).plain.state ≡ 2 ∷ 4 ∷ 65535 ∷ 65535 ∷ []
unfolding everything
holds = refl

none : reading_back table_e (1 ∷ 0 ∷ 0 ∷ 0 ∷ 1 ∷ 1 ∷ 1 ∷ 1 ∷ 1 ∷ 0 ∷ 0 ∷ 0 ∷ 1 ∷ 0 ∷ 0 ∷ []) ≡ refused 17
unfolding everything
none = refl
