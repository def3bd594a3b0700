-- Short names for where rows and control places start and for the values of a name, and what is known of names and values while a net is built.
use Rattle.std.specs.Prelude.{◌≡◌, ℕ, ◌+◌, ◌*◌, ◌<◌, ◌≤◌, true, false, not, ◌&&◌, List, [], ◌∷◌, ◌++◌, length}
use Rattle.lists.specs.Lists.{pick, same, from, range, keep, member}
use Rattle.scheme.specs.Words.{publics, bounds, names, argument}
use Rattle.scheme.specs.Scheme.{scheme}
use Rattle.places.specs.Values.{Values, values_of}
use Rattle.places.specs.Reach.{values_for, has_private_values}
use Rattle.places.specs.Sets.{bit_at}
use Rattle.places.specs.Rows.{row_start_of, control_start}
use Rattle.places.specs.declared.reach.Reach.{Reach}

-- the values in force
abbrev pub today : List ℕ → Values
today w = values_for (scheme w)

-- how many private values there are
abbrev pub privates_word : List ℕ → ℕ
privates_word w = (today w).privates

abbrev pub values : List ℕ → ℕ → List ℕ
values w x = values_of (scheme w) (today w) x

abbrev pub control_of : List ℕ → ℕ → ℕ
control_of w n = control_start (scheme w) (today w) n

abbrev pub row_of : List ℕ → ℕ → ℕ
row_of w x = row_start_of (scheme w) (today w) x

-- the bound names that are not restricted
abbrev pub free_names_word : List ℕ → ℕ
free_names_word w = length (keep (λ x. not ((scheme w).restricted x)) (from (publics w) (bounds w)))

-- those of them that may hold private values: New reads their rows
abbrev pub read_names_word : List ℕ → ℕ
read_names_word w = length (keep (λ x. not ((scheme w).restricted x) && has_private_values (scheme w) x) (from (publics w) (bounds w)))

-- ---- values of a name, as a reach with p public and n private values

unfoldable pub reached : ℕ → ℕ → Reach → List ℕ
reached p n r = keep (bit_at r.publics) (range p) ++ pick (not (same r.restricted 0)) (from p n) []

pub record Lists (p n : ℕ) (r : Reach) (vs : List ℕ) : Type 0 where
  pub is : reached p n r ≡ vs

-- bound name x may hold v
pub record Holds (w : List ℕ) (x v : ℕ) : Type 0 where
  pub low : publics w ≤ x
  pub high : x < names w
  pub value : member v (values w x) ≡ true

-- public name x is v, or bound name x may hold v
pub record Reads (w : List ℕ) (x v : ℕ) : Type 0 where
  pub high : x < names w
  pub value : member v (values w x) ≡ true

-- bound name x has a place [x≠v]
pub record Differs (w : List ℕ) (x v : ℕ) : Type 0 where
  pub low : publics w ≤ x
  pub high : x < names w
  pub free : (scheme w).restricted x ≡ false
  pub reads : has_private_values (scheme w) x ≡ true
  pub private : publics w ≤ v
  pub value : v < publics w + privates_word w

-- the words of a header
abbrev pub header_of : ℕ → ℕ → ℕ → ℕ → ℕ → List ℕ
header_of count transitions inputs outputs tokens =
    count ∷ transitions ∷ inputs ∷ outputs ∷ tokens ∷ 8 ∷ (8 + tokens) ∷ (8 + tokens + 6 * transitions) ∷ []

-- every number of the list is a name
abbrev pub Named : List ℕ → List ℕ → Type 0
Named w xs = (x : ℕ) → member x xs ≡ true → x < names w

-- every number of the list is a bound name; a bound name that is not restricted
abbrev pub Bounded : List ℕ → List ℕ → Type 0
Bounded w xs = (x : ℕ) → member x xs ≡ true → (publics w ≤ x) × (x < names w)

abbrev pub Frees : List ℕ → List ℕ → Type 0
Frees w xs = (x : ℕ) → member x xs ≡ true → (publics w ≤ x) × (x < names w) × ((scheme w).restricted x ≡ false)

abbrev pub argument_name : List ℕ → ℕ → ℕ
argument_name w a = argument w a
