use native.Mathlib.Omega.{arith}
use Rattle.places.proofs.Outcomes.{plan-ready}
use Rattle.readback.proofs.Answering.{read-refused, read-laid-out}
use Rattle.readback.proofs.read.Goals as goal

pub returns-in_err-plan : goal.returns-in_err-plan
returns-in_err-plan c =
    read-refused c.args.table.now c.args.marking.now c.args.state.now _ _ c.plan.result c.plan.ensures (omega arith) _ c.in_err-plan.was _ c.from_residual.ensures.1

pub read_laid-requires : goal.read_laid-requires
read_laid-requires c =
    plan-ready c.args.table.now _ _ c.plan.result c.plan.ensures _ c.in_ok-plan.was

pub returns : goal.returns
returns c =
    read-laid-out c.args.table.now c.args.marking.now c.args.state.now _
    (plan-ready c.args.table.now _ _ c.plan.result c.plan.ensures _ c.in_ok-plan.was).accepted
    c.read_laid.ensures
