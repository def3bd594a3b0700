use Rattle.table.proofs.Lookup.{name-thread-same}
use Rattle.table.proofs.known.Known.name_thread.Goals as goal

pub returns : goal.returns
returns c = name-thread-same _ _ c.args.self.now.known _ _ c.name_thread.ensures
