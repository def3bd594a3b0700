use native.Mathlib.Omega.{arith}
use Rattle.lists.specs.Lists.{same}
use Rattle.lists.proofs.Tests.{same-no}
use Rattle.process.specs.Labels.{step_of, meaning_of}
use Rattle.process.proofs.labels.named_by.Goals as goal

pub returns-in-0 : goal.returns-in-0
unfolding meaning_of same
returns-in-0 c = rw c.in-0.is c.copy_named.ensures

pub returns-in-1 : goal.returns-in-1
unfolding meaning_of same
returns-in-1 c = rw c.in-1.is c.release_named.ensures

pub returns-in-2 : goal.returns-in-2
unfolding meaning_of step_of same
returns-in-2 c = rw c.in-2.is c.new_named.ensures

pub returns-in-3 : goal.returns-in-3
unfolding meaning_of step_of same
returns-in-3 c = rw c.in-3.is c.silent_named.ensures

pub returns-in-4 : goal.returns-in-4
unfolding meaning_of step_of same
returns-in-4 c = rw c.in-4.is c.communication_named.ensures

pub returns-in-5 : goal.returns-in-5
unfolding meaning_of step_of same
returns-in-5 c = rw c.in-5.is c.call_named.ensures

pub returns-in_default : goal.returns-in_default
unfolding meaning_of step_of
returns-in_default c =
    let k = c.args.kind in
    rw (
      same-no k 0 (λ e. omega arith),
      same-no k 1 (λ e. omega arith),
      same-no k 2 (λ e. omega arith),
      same-no k 3 (λ e. omega arith),
      same-no k 4 (λ e. omega arith),
      same-no k 5 (λ e. omega arith),
    )
