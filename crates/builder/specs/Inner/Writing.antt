-- A buffer that is written at two heads: records at one, arcs at the other.
use Rattle.std.specs.Prelude.{◌≡◌, List, [], ◌∷◌, ℕ, ◌+◌, ◌<◌, ◌≤◌, length, set}
use Rattle.std.specs.Int.Bits.{bit_and}
use Rattle.lists.specs.Lists.{pick, word, member}
use Rattle.net.specs.Net.{Transition, arc_words, record_words}

-- the words, one after the other, from place i on
unfoldable pub writes : List ℕ → ℕ → List ℕ → List ℕ
writes out i [] = out
writes out i (v ∷ vs) = writes (set out i v) (i + 1) vs

-- the buffer, where the next record goes, and where the next arc goes
pub record Heads : Type 0 where
  pub out : List ℕ
  pub place : ℕ
  pub arc : ℕ

abbrev pub heads : List ℕ → ℕ → ℕ → Heads
heads out place arc = record { out = out; place = place; arc = arc }

-- the record of a transition and its arcs
abbrev pub put_one_transition : Heads → Transition → Heads
put_one_transition s t = heads (writes (writes s.out s.place (record_words s.arc t)) s.arc (arc_words t)) (s.place + 6) (s.arc + length (arc_words t))

-- those of all elements of a list, each of which is a transition
unfoldable pub put_all : {A : Type 0} → (A → Transition) → Heads → List A → Heads
put_all f s [] = s
put_all f s (x ∷ xs) = put_all f (put_one_transition s (f x)) xs

-- both heads are within the buffer and an image of 32-bit offsets
pub record Inside (s : Heads) : Type 0 where
  pub place-small : s.place < 4294967296
  pub arc-small : s.arc < 4294967296
  pub place-fits : s.place ≤ length s.out
  pub arc-fits : s.arc ≤ length s.out

-- ---- transitions that follow one another: from one to the next some numbers of arcs rise by 1

-- all 32 bits for a number that rises, none for another
unfoldable pub mask_of : List ℕ → ℕ → ℕ
mask_of ms x = pick (member x ms) 4294967295 0

-- a number after t steps
unfoldable pub rise : List ℕ → ℕ → ℕ → ℕ
rise ms t x = x + pick (member x ms) t 0

-- numbers after t steps, each with its mask beside it
unfoldable pub sums : ℕ → List ℕ → List ℕ → List ℕ
sums t [] ms = []
sums t (x ∷ xs) [] = []
sums t (x ∷ xs) (m ∷ ms) = (x + bit_and m t) ∷ sums t xs ms

-- small numbers with masks beside them
pub record Steady (list masks : List ℕ) (count : ℕ) : Type 0 where
  pub enough : count ≤ length list
  pub beside : length list ≡ length masks
  pub small : (i : ℕ) → i < count → word list i < 65536
