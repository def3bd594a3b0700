use Rattle.std.proofs.Common.{◌≡◌, sym, ◌∙◌, subst}
use Rattle.places.specs.Answers.{sums_of}
use Rattle.places.specs.Inner.Counting.{Few, add_both, value_sums}
use Rattle.places.proofs.NodeCounts.{values-read_of}
use Rattle.places.proofs.count.for_values.Goals.{After-privates_of-privates}
use Rattle.places.proofs.count.for_values.Goals as goal

-- the values, as they are counted
read : (c : After-privates_of-privates) →
    let a = c.args in
    value_sums a.table.now (sums_of a.t) a.name a.inputs a.outputs a.arcs
    ≡ add_both (sums_of a.t) c.publics_of-publics.result a.inputs a.outputs c.privates_of-privates.result a.arcs
read c =
    let a = c.args in
    values-read_of a.table.now c.requires.0.accepted a.index.now c.requires.0 a.name c.reach_of-values.result c.publics_of-publics.result
    c.privates_of-privates.result c.reach_of-values.ensures c.publics_of-publics.ensures.0 c.privates_of-privates.ensures (sums_of a.t) a.inputs a.outputs a.arcs

pub more_of_both-requires : goal.more_of_both-requires
more_of_both-requires c = subst Few (read (goal.at.more_of_both-requires c).After-privates_of-privates) c.requires.1

pub returns : goal.returns
returns c = c.more_of_both.ensures ∙ sym (read (goal.at.returns c).After-privates_of-privates)
