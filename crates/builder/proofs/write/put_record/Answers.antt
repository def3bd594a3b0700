use Rattle.builder.proofs.Loops.{six}
use Rattle.builder.proofs.write.put_record.Goals as goal

pub returns : goal.returns
returns c = six _ _ _ _ _ _ _ _
