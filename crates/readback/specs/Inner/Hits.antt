-- The marked ones of some places, counted from the first of them, and what is found of them.
use Rattle.std.specs.Prelude.{◌≡◌, Bool, List, [], ◌∷◌, ◌++◌, ℕ, ◌+◌, length}
use Rattle.lists.specs.Lists.{pick, same, word, range, keep}
use Rattle.readback.specs.declared.found.Found.{Found}

-- place p has a token
abbrev pub token : List ℕ → ℕ → Bool
token m p = same (word m p) 1

-- the marked ones of `count` places from `start` on
unfoldable pub hits : List ℕ → ℕ → ℕ → List ℕ
hits m start count = keep (λ i. token m (start + i)) (range count)

-- how many they are, and the first
pub record FoundOf (hs : List ℕ) (r : Found) : Type 0 where
  pub count-is : r.count ≡ length hs
  pub first-is : r.first ≡ word hs 0

-- one place more, which is the next after those looked at
abbrev pub OneMore : Found → ℕ → Bool → Found → Type 0
OneMore f i marked r = (hs : List ℕ) → FoundOf hs f → FoundOf (pick marked (hs ++ (i ∷ [])) hs) r
