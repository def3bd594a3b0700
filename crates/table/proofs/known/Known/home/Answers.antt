use Rattle.table.proofs.Lookup.{home_same}
use Rattle.table.proofs.known.Known.home.Goals as goal

pub returns : goal.returns
returns c = home_same _ _ c.args.self.now.known _ _ c.home.ensures.is
