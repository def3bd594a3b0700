use Rattle.readback.proofs.Noting.{noted-none}
use Rattle.readback.proofs.spots.note_all.Goals as goal

pub loop-n-init : goal.loop-n-init
loop-n-init c = noted-none _ _ c.args.marking.now _ _ _ c.requires
