-- Other counts of private values are not N: for each a table that no cause refuses and for which it is too small. So a program that finds one of them breaks
-- the promise of its plan.
use mathlib.Core.Path.{◌≡◌, refl}
use mathlib.Core.Bool.{Bool, false, ◌&&◌, ◌||◌}
use mathlib.Core.List.{map}
use Prim.Native.Nat.{ℕ}
use lib.ListN.{length}
use Rattle.lists.specs.Lists.{same, range, some, keep, flat, total}
use Rattle.scheme.specs.Scheme.{Scheme, Node, stop, choice, new, call, scheme}
use Rattle.table.specs.Causes.{cause}
use Rattle.places.specs.Held.{largest, held_counts, most_held}
use Rattle.places.specs.Reach.{values_for}
use Rattle.cases.specs.Cases.{table_e, handed_on, never_called}
use Rattle.cases.proofs.Computing.{everything}

module _ (S : Scheme) where
  -- the chain of a Call not counted: the held names of nodes alone
  abbrev without_chains : ℕ
  without_chains = total (map (λ t. largest (map (λ n. length (S.held n)) (keep (λ n. same (S.thread n) t) (range S.nodes)))) (range S.threads))

  abbrev calls : ℕ → Node → Bool
  calls d stop = false
  calls d (choice f c) = false
  calls d (new r l) = false
  calls d (call e) = same d e

  -- a thread starts with the definition, or a Call names it
  abbrev is_called : ℕ → Bool
  is_called d = some (λ t. same (S.entry t) d) (range S.threads) || some (λ n. calls d (S.node n)) (range S.nodes)

  -- called definitions only
  abbrev called_only : ℕ
  called_only =
      total (map (λ t. largest (flat (held_counts S) (keep (λ n. same (S.thread n) t && is_called (S.definition n)) (range S.nodes)))) (range S.threads))

  -- the most that any one place holds
  abbrev largest_of_all : ℕ
  largest_of_all = largest (map (most_held S) (range S.threads))

pub without-chains : (cause handed_on ≡ 0) × (without_chains (scheme handed_on) ≡ 1) × ((values_for (scheme handed_on)).privates ≡ 2)
unfolding everything
without-chains = (refl, refl, refl)

pub called-only : (cause never_called ≡ 0) × (called_only (scheme never_called) ≡ 1) × ((values_for (scheme never_called)).privates ≡ 2)
unfolding everything
called-only = (refl, refl, refl)

pub largest-of-all : (cause table_e ≡ 0) × (largest_of_all (scheme table_e) ≡ 1) × ((values_for (scheme table_e)).privates ≡ 2)
unfolding everything
largest-of-all = (refl, refl, refl)
