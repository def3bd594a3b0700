-- A free value at every New (document 02, Item 3): one claim about every marking that stands for a state, whether calls lead to it or not.
use Rattle.std.specs.Prelude.{◌≡◌, List, [], ◌∷◌, ℕ}
use Rattle.lists.specs.Lists.{word}
use Rattle.scheme.specs.Scheme.{scheme, new}
use Rattle.net.specs.Firing as Firing
use Rattle.places.specs.Reach.{values_for}
use Rattle.places.specs.Places.{control}
use Rattle.places.specs.Rows.{number_of}
use Rattle.places.specs.Image.{image_of}
use Rattle.readback.specs.Reading.{reading_back, words}
use Rattle.fidelity.specs.Calls.{label_words}

module _ (w : List ℕ) where
  -- the marking stands for a state: reading back refuses it by no cause
  pub record StandsForState (marking : List ℕ) : Type 0 where
    pub state : List ℕ
    pub reads : reading_back w marking ≡ words state

  -- a thread stands at node n: the node's first place has its token
  abbrev pub StandsAt : List ℕ → ℕ → Type 0
  StandsAt marking n = word marking (number_of (scheme w) (values_for (scheme w)) (control n 0)) ≡ 1

  -- some transition with the label of a New, "2 new, node, name", is accepted
  pub record CanMake (marking : List ℕ) (n name : ℕ) : Type 0 where
    pub number : ℕ
    pub label : label_words w (image_of w) number ≡ 2 ∷ n ∷ name ∷ []
    pub accepted : (Firing.fire (image_of w) marking number).cause ≡ 0

  -- "In any marking that stands for a state, a thread at a New must find a free value, whoever acted before."
  abbrev pub FreeAtNew : Type 0
  FreeAtNew =
      (marking : List ℕ) → StandsForState marking → (n name child : ℕ) → (scheme w).node n ≡ new name child → StandsAt marking n → CanMake marking n name
