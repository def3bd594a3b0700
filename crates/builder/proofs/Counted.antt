-- The counts of names of an accepted table, as the code reads them from the table and its plan.
use mathlib.Core.Path.{◌≡◌, refl, ◌∙◌}
use mathlib.Core.List.{List}
use Prim.Native.Nat.{ℕ, ◌≤◌}
use Rattle.lists.specs.Lists.{word}
use Rattle.scheme.specs.Words.{publics, bounds}
use Rattle.table.specs.Causes.{cause}
use Rattle.places.specs.Plan.{privates_at, Laid}
use Rattle.places.specs.Inner.Plan.{privates_word}
use Rattle.places.proofs.Controls
use Rattle.places.proofs.Plans

-- ps public names and ns private values
pub record Counted (w : List ℕ) (ps ns : ℕ) : Type 0 where
  pub accepted : cause w ≡ 0
  pub few-publics : publics w ≤ 32
  pub few-bounds : bounds w ≤ 32
  pub few-privates : privates_word w ≤ 32
  pub publics-are : ps ≡ publics w
  pub privates-are : ns ≡ privates_word w

pub counted : (w x : List ℕ) (ps ns : ℕ) → Laid w x → ps ≡ publics w → ns ≡ word x privates_at → Counted w ps ns
counted w x ps ns L p n = record {
  accepted = L.accepted;
  few-publics = Controls.few-publics w L.accepted;
  few-bounds = Controls.few-bounds w L.accepted;
  few-privates = Controls.few-privates w L.accepted;
  publics-are = p;
  privates-are = n ∙ Plans.privates-are w x L;
}

-- by the numbers themselves
pub counts : (w x : List ℕ) → Laid w x → Counted w (publics w) (word x privates_at)
counts w x L = counted w x (publics w) (word x privates_at) L refl refl
