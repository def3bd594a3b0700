use mathlib.Core.Path.{◌≡◌, sym, ◌∙◌}
use Rattle.scheme.specs.Words.{root, entry}
use Rattle.process.proofs.Sets.{sets-map-more, sets-map-done}
use Rattle.process.proofs.write_roots.Goals as goal

pub loop-t-preserved : goal.loop-t-preserved
loop-t-preserved c =
    let l = c.loop-t in
    let a = c.args in
    let v : c.field4.result ≡ root a.table.now (entry a.table.now l.t) = c.field4.ensures.is ∙ rw c.field1.ensures.is in
    l.invariant ∙ sets-map-more (λ t. root a.table.now (entry a.table.now t)) l.out l.t l.t _ c.loop-t-test.true ∙ rw (c.store.ensures, v)

pub returns : goal.returns
returns c = let l = c.loop-t in let a = c.args in sym (l.invariant ∙ sets-map-done (λ t. root a.table.now (entry a.table.now t)) l.out l.t l.t _ c.loop-t-test.false)
