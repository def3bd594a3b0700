use Rattle.std.proofs.Common.{sym, ap, ◌∙◌, subst}
use Rattle.places.specs.Answers.{Sums, sums_of}
use Rattle.places.specs.Inner.Counting.{Few, add_times}
use Rattle.places.proofs.Adding.{few-part, grows-times}
use Rattle.places.proofs.count.more_of_both.Goals as goal

pub more-requires : goal.more-requires
more-requires c =
    let a = c.args in
    let t = add_times (sums_of a.t) a.publics a.inputs a.outputs in
    few-part t _ (grows-times t a.privates a.arcs a.arcs) c.requires

pub more-requires-2 : goal.more-requires-2
more-requires-2 c = let a = c.args in subst (λ (u : Sums). Few (add_times u a.privates a.arcs a.arcs)) (sym c.more.ensures) c.requires

pub returns : goal.returns
returns c = let a = c.args in c.more-2.ensures ∙ ap (λ (u : Sums). add_times u a.privates a.arcs a.arcs) c.more.ensures
