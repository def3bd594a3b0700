use mathlib.Core.Path.{refl}
use native.Mathlib.Omega.{arith}
use Rattle.readback.specs.Inner.Hits.{hits}
use Rattle.readback.proofs.Finding.{hits-none, hits_more, hits_few}
use Rattle.readback.proofs.found.find.Goals as goal

pub loop-i-init : goal.loop-i-init
loop-i-init c = let a = c.args in rw (hits-none a.marking.now a.start) (record { count-is = refl; first-is = refl })

pub one_more-found-requires : goal.one_more-found-requires
one_more-found-requires c =
    let a = c.args in
    let l = c.loop-i in
    omega (arith, l.invariant.count-is, l.auto.i-end, hits_few a.marking.now a.start l.i, c.requires)

pub loop-i-preserved : goal.loop-i-preserved
loop-i-preserved c =
    let a = c.args in
    let l = c.loop-i in
    rw (hits_more a.marking.now a.start l.i, ← c.is_marked.ensures)
    (c.one_more-found.ensures (hits a.marking.now a.start l.i) l.invariant)
