use Rattle.places.proofs.Bits.{one_shifted}
use Rattle.readback.proofs.Freeing.{with_number}
use Rattle.readback.proofs.names.with_number.Goals as goal

pub returns-then-n-lt64 : goal.returns-then-n-lt64
returns-then-n-lt64 c =
    let a = c.args in
    rw (one_shifted a.n c.if-n-lt64.true) (with_number a.set a.n c.if-n-lt64.true)
