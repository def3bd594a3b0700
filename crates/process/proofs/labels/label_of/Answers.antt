use Rattle.scheme.specs.Scheme.{scheme}
use Rattle.process.specs.declared.labels.Step.TheVariants.{New}
use Rattle.process.proofs.Labelling.{labelled-as, new-made}
use Rattle.process.proofs.labels.label_of.Goals as goal

pub returns-in-New : goal.returns-in-New
returns-in-New c =
    let w = c.args.table.now in
    let f = labelled-as (scheme w) _ (New c.in-New.n) c.in-New.is c.requires in
    rw (c.in-New.is, new-made w c.in-New.n f.0, ← c.field3.ensures.is)
