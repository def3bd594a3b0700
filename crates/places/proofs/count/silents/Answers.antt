use Rattle.std.proofs.Common.{◌-◌, sym, ap, ◌∙◌, subst}
use Rattle.lists.specs.Lists.{from}
use Rattle.places.specs.Answers.{sums_of}
use Rattle.places.specs.Inner.Counting.{Few, over, silent_sums}
use Rattle.places.proofs.Adding.{silent-grows, silent-yes, silent-no, range-few, range-on, range-done}
use Rattle.places.proofs.count.silents.Goals.{then-field4-eq0, else-field4-eq0}
use Rattle.places.proofs.count.silents.Goals as goal

pub more-r-requires : goal.more-r-requires
more-r-requires c =
    let a = c.args in
    let w = a.table.now in
    let l = c.loop-b in
    subst Few (silent-yes w (sums_of l.r) l.b (sym c.field4.ensures.is ∙ c.if-field4-eq0.true))
    (range-few (silent_sums w) (silent-grows w) (over (silent_sums w) (sums_of a.t) (from a.first (a.end - a.first))) (sums_of l.r) l.b a.end
    l.invariant c.loop-b-test.true c.requires.1)

pub loop-b-preserved : goal.loop-b-preserved
loop-b-preserved c =
    let a = c.args in
    let w = a.table.now in
    let l = c.loop-b in
    let f = c.field4.ensures.is in
    range-on (silent_sums w) (over (silent_sums w) (sums_of a.t) (from a.first (a.end - a.first))) (sums_of l.r) (sums_of c.if-field4-eq0.r) l.b a.end
    l.invariant c.loop-b-test.true
    (elim c.if-field4-eq0.branch [
      | then-field4-eq0 u ↦ ap sums_of u.r-is ∙ u.more-r.ensures ∙ sym (silent-yes w (sums_of l.r) l.b (sym f ∙ u.if-field4-eq0.true))
      | else-field4-eq0 u ↦ ap sums_of u.r-is ∙ sym (silent-no w (sums_of l.r) l.b (λ e. u.if-field4-eq0.false (f ∙ e)))
    ])

pub returns : goal.returns
returns c =
    let a = c.args in
    let l = c.loop-b in
    sym (l.invariant ∙ range-done (silent_sums a.table.now) (sums_of l.r) l.b a.end c.loop-b-test.false)
