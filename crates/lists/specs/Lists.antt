-- What the definitions of every crate share: choices, words, ranges, tests over lists, counts and positions.
-- Everything computes. Laws of these stand in proofs/.
use Rattle.std.specs.Prelude.{◌≡◌, Bool, true, false, ◌&&◌, ◌||◌, List, [], ◌∷◌, ◌++◌, ℕ, zero, suc, ◌+◌, ◌<◌, eqb, ltb, leb, get_or}

-- the first where the test holds, else the second
abbrev pub pick {ℓ} : {A : Type ℓ} → Bool → A → A → A
pick true a b = a
pick false a b = b

-- 1 where the test holds, else 0
abbrev pub bit : Bool → ℕ
bit true = 1
bit false = 0

-- equality of numbers
unfoldable pub same : ℕ → ℕ → Bool
same m n = eqb m n

-- word i of a list, 0 past its end
abbrev pub word : List ℕ → ℕ → ℕ
word w i = get_or w i 0

-- r is word i of the list, and below the limit of its type
pub record Word (limit : ℕ) (w : List ℕ) (i r : ℕ) : Type 0 where
  pub is : r ≡ word w i
  pub small : r < limit

-- n numbers from a upward
unfoldable pub from : ℕ → ℕ → List ℕ
from a zero = []
from a (suc n) = a ∷ from (a + 1) n

-- the numbers below n
abbrev pub range : ℕ → List ℕ
range n = from 0 n

-- every element passes the test
unfoldable pub every : {A : Type 0} → (A → Bool) → List A → Bool
every p [] = true
every p (x ∷ xs) = p x && every p xs

-- some element passes the test
unfoldable pub some : {A : Type 0} → (A → Bool) → List A → Bool
some p [] = false
some p (x ∷ xs) = p x || some p xs

-- the elements that pass the test, in order
unfoldable pub keep : {A : Type 0} → (A → Bool) → List A → List A
keep p [] = []
keep p (x ∷ xs) = pick (p x) (x ∷ keep p xs) (keep p xs)

-- the lists of all elements, one after the other
unfoldable pub flat : {A B : Type 0} → (A → List B) → List A → List B
flat f [] = []
flat f (x ∷ xs) = f x ++ flat f xs

-- x stands in the list
unfoldable pub member : ℕ → List ℕ → Bool
member x [] = false
member x (y ∷ ys) = same x y || member x ys

-- how often x stands in the list
unfoldable pub times : ℕ → List ℕ → ℕ
times x [] = 0
times x (y ∷ ys) = bit (same x y) + times x ys

-- the first of n numbers from a on that passes the test, else d
unfoldable pub first_from : ℕ → (ℕ → Bool) → ℕ → ℕ → ℕ
first_from zero p a d = d
first_from (suc n) p a d = pick (p a) a (first_from n p (a + 1) d)

-- no number stands in the list twice
pub data Distinct : List ℕ → Type 0 where
  none : Distinct []
  more : {x : ℕ} {xs : List ℕ} → member x xs ≡ false → Distinct xs → Distinct (x ∷ xs)

-- the positions at which the test holds, the first element at position i
unfoldable pub positions_from : {A : Type 0} → (A → Bool) → ℕ → List A → List ℕ
positions_from p i [] = []
positions_from p i (x ∷ xs) = pick (p x) (i ∷ positions_from p (i + 1) xs) (positions_from p (i + 1) xs)

abbrev pub positions : {A : Type 0} → (A → Bool) → List A → List ℕ
positions p xs = positions_from p 0 xs

-- the list ascends strictly from lo on and stays below n
unfoldable pub ascends : ℕ → ℕ → List ℕ → Bool
ascends n lo [] = true
ascends n lo (x ∷ xs) = leb lo x && (ltb x n && ascends n (x + 1) xs)

-- the sum of a list
unfoldable pub total : List ℕ → ℕ
total [] = 0
total (x ∷ xs) = x + total xs
