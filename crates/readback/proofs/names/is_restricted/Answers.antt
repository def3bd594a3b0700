use Rattle.places.proofs.Names.{kind-tells}
use Rattle.readback.proofs.names.is_restricted.Goals as goal

pub returns : goal.returns
returns c =
    kind-tells c.args.table.now c.args.name c.name_kind.result c.requires.0 c.requires.1 c.name_kind.ensures.is
