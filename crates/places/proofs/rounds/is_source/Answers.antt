use Rattle.std.proofs.Common.{sym, ◌∙◌, arith, lt-ltb}
use Rattle.places.proofs.Filling.{source-public, source-kind}
use Rattle.places.proofs.rounds.is_source.Goals as goal

pub returns-then-name-word : goal.returns-then-name-word
returns-then-name-word c =
    lt-ltb c.args.name c.word.result c.if-name-word.true ∙ sym (source-public c.args.table.now c.args.name (omega (arith, c.word.ensures.is)))

pub returns-else-name-word : goal.returns-else-name-word
returns-else-name-word c =
    let a = c.args in
    source-kind a.table.now a.name c.name_kind.result (omega (arith, c.word.ensures.is, c.if-name-word.false))
    c.requires c.name_kind.ensures.is
