use Rattle.table.proofs.Lookup.{branch-thread-same}
use Rattle.table.proofs.known.Known.branch_thread.Goals as goal

pub returns : goal.returns
returns c = branch-thread-same _ _ c.args.self.now.known _ _ c.branch_thread.ensures
