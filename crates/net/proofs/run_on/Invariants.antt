-- Loop: the numbers made stand in front of the history, whose rest is as it was, and with them what is left of the run is the run; the records
-- below `seen` are right.
use Rattle.std.proofs.Common.{◌≡◌, ℕ, ◌-◌, ◌<◌, true, length, take, drop}
use Rattle.net.specs.Image.{record_right}
use Rattle.net.specs.Firing.{preceded, run_by}
use Rattle.net.specs.Inner.Passes.{rule_of}
use Rattle.net.proofs.run_on.Given as goal

abbrev pub invariant-loop-made : goal.invariant-loop-made
invariant-loop-made l =
    (drop l.made l.history ≡ drop l.made l.initial.history)
    × ((k : ℕ) → k < l.seen → record_right l.image k ≡ true)
    × (run_by l.image (rule_of l.settle l.image) l.limit (length l.initial.history) l.initial.marking
    ≡ preceded (take l.made l.history) (run_by l.image (rule_of l.settle l.image) (l.limit - l.made) (length l.initial.history - l.made) l.marking))
