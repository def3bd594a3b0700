-- What `check` answers, as document 01's numbers: 0 for an accepted table.
use Rattle.std.specs.Prelude.{ℕ, Result, Ok, Err, ⊤}
use Rattle.table.specs.declared.Cause.{Cause}
use Rattle.table.specs.declared.Cause.TheVariants.{Short, Counts, Layout, Kinds, Ranges, Shape, Binding, Scope, Calls}

abbrev pub cause_number : Cause → ℕ
cause_number Short = 1
cause_number Counts = 2
cause_number Layout = 3
cause_number Kinds = 4
cause_number Ranges = 5
cause_number Shape = 6
cause_number Binding = 7
cause_number Scope = 8
cause_number Calls = 9

abbrev pub cause_of : Result ⊤ Cause → ℕ
cause_of (Ok _) = 0
cause_of (Err cause) = cause_number cause
