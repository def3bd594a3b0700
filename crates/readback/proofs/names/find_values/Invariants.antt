use mathlib.Core.Path.{◌≡◌}
use mathlib.Core.Bool.{◌&&◌}
use Prim.Native.Nat.{◌-◌}
use Rattle.lists.specs.Lists.{word, from, every}
use Rattle.scheme.specs.Scheme.{scheme}
use Rattle.readback.specs.Inner.Standing.{value_right, values_right, is_opposed_for, opposed_all}
use Rattle.readback.specs.Inner.Holding.{ValuesBelow}
use Rattle.places.specs.Inner.Plan.{row_of}
use Rattle.readback.proofs.names.find_values.Given as goal

abbrev pub invariant-loop-x : goal.invariant-loop-x
invariant-loop-x l = record {
  tests :
      (values_right (scheme l.table) l.marking (word l.held) && opposed_all (scheme l.table) l.marking)
      ≡ (every (value_right (scheme l.table) l.marking (word l.held)) (from l.x (l.end - l.x)) && every (is_opposed_for (scheme l.table) l.marking) (from l.x (l.end - l.x)));
  values : ValuesBelow l.table l.marking l.values l.x;
  row : l.row ≡ row_of l.table l.x;
}
