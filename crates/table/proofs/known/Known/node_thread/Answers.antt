use Rattle.table.proofs.Lookup.{thread-same}
use Rattle.table.proofs.known.Known.node_thread.Goals as goal

pub returns : goal.returns
returns c = thread-same _ _ c.args.self.now.known _ _ c.node_thread.ensures
