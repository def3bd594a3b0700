use mathlib.Core.Path.{sym}
use native.Mathlib.Omega.{arith}
use Rattle.print.proofs.Writing.{put-more, write-stopped}
use Rattle.print.proofs.put.Goals as goal

pub returns-then-at : goal.returns-then-at
returns-then-at c =
    let a = c.args in
    rw c.store.ensures (put-more a.out.now a.at.place a.at.stop a.byte (omega arith))

pub returns : goal.returns
returns c = sym (write-stopped _ _ c.if-at.false)
