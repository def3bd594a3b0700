use Rattle.process.proofs.Stepping.{state-written}
use Rattle.process.proofs.next.write_state.Goals as goal

pub returns : goal.returns
returns c = state-written _ _ _ _ _ c.write_nodes.ensures c.write_values.ensures
