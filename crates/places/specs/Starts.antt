-- Where a name's row starts, told from a table and its plan (document 02, Item 7): the number of row places of the names below, by each name's reach. No table
-- of starts is kept; what is told holds on any words.
use Rattle.std.specs.Prelude.{◌≡◌, ℕ, ◌+◌, ◌-◌, ◌*◌, ◌%◌, ◌^◌, ◌<◌, ◌≤◌, List, map, length, take, count_ones, nat_lt}
use Rattle.std.proofs.Math.Seq.{slice}
use Rattle.lists.specs.Lists.{pick, same, word, from, total}
use Rattle.scheme.specs.Words.{publics, names}
use Rattle.scheme.specs.Scheme.{scheme}
use Rattle.table.specs.Causes.{cause}
use Rattle.places.specs.Sets.{bit_at}
use Rattle.places.specs.Values.{private_value_list}
use Rattle.places.specs.Reach.{values_for}
use Rattle.places.specs.Reaches.{least, most}
use Rattle.places.specs.Places.{free, row, rows, places}
use Rattle.places.specs.Rows.{control_start}
use Rattle.places.specs.Plan.{publics_in, restricted_in, privates_at, plan_words}
use Rattle.places.specs.declared.row.Start.{Start}

-- How many places the row of name y has, by P, the words of the reaches and N. A name in its own reach is restricted: "restricted r has [r=n] for N". Any other
-- has the publics in its reach and, if a restricted name is in it, N places twice: "[x=v] …, then [x≠n] for N".
unfoldable pub places_in : ℕ → List ℕ → ℕ → ℕ → ℕ
places_in p x n y =
    let r = word (restricted_in x) y in
    pick (bit_at r (y - p)) n (count_ones (word (publics_in x) y) + pick (same r 0) 0 (2 * n))

-- how many the bound names from the first on and below the end have
unfoldable pub span_in : List ℕ → List ℕ → ℕ → ℕ → ℕ → ℕ
span_in w x n first end = total (map (places_in (publics w) x n) (from (most first (publics w)) (least end (names w) - most first (publics w))))

-- "it is the number of row places of the names below"
unfoldable pub start_in : List ℕ → List ℕ → ℕ → ℕ
start_in w x name = span_in w x (word x privates_at) 0 name

abbrev pub start_of : ℕ → ℕ → Start
start_of name row = record { name = name; row = row }

-- what the start of a name is counted from: the known one, or the first one where the name is below
abbrev pub start_after : Start → ℕ → Start
start_after s y = pick (nat_lt y s.name) (start_of 0 0) s

-- from there on to a bound name, over the rows between them; for a public name what is known stays
unfoldable pub start_on : List ℕ → List ℕ → Start → ℕ → Start
start_on w x s y =
    pick (same y s.name) s
    (pick (nat_lt y (publics w)) s (start_of y (((start_after s y).row + span_in w x (word x privates_at) (start_after s y).name y) % 2 ^ 64)))

-- a name with where its row starts
abbrev pub Right : List ℕ → List ℕ → Start → Type 0
Right w x s = s.row ≡ start_in w x s.name

-- "the names' rows and, last, [*≠n] fill the numbers below the first control place without gap or overlap": the first row starts at 0, each ends where the next
-- one starts, and holds just the places of its name; [*≠n] starts where the last row ends, and ends where the control places start
pub record RowsFill (w x : List ℕ) : Type 0 where
  pub first : start_in w x (publics w) ≡ 0
  pub next : (y : ℕ) → publics w ≤ y → y < names w → start_in w x (y + 1) ≡ start_in w x y + length (row (scheme w) (values_for (scheme w)) y)
  pub filled : (y : ℕ) → publics w ≤ y → y < names w
      → slice (start_in w x y) (start_in w x (y + 1)) (places (scheme w) (values_for (scheme w))) ≡ row (scheme w) (values_for (scheme w)) y
  pub last : slice (start_in w x (names w)) (control_start (scheme w) (values_for (scheme w)) 0) (places (scheme w) (values_for (scheme w)))
      ≡ map free (private_value_list (scheme w) (values_for (scheme w)))
  pub end : control_start (scheme w) (values_for (scheme w)) 0 ≡ start_in w x (names w) + (values_for (scheme w)).privates
  pub below : take (control_start (scheme w) (values_for (scheme w)) 0) (places (scheme w) (values_for (scheme w))) ≡ rows (scheme w) (values_for (scheme w))

-- "For every table": by the starts that the words of its plan tell
abbrev pub EveryTableFilled : Type 0
EveryTableFilled = (w : List ℕ) → cause w ≡ 0 → RowsFill w (plan_words w)
