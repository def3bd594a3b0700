use mathlib.Core.Path.{sym, ◌∙◌}
use Rattle.builder.proofs.ValueRuns.{by_all, by-publics}
use Rattle.builder.proofs.spans.values_of.Goals as goal

pub returns-then-has_privates : goal.returns-then-has_privates
returns-then-has_privates c =
    by_all c.args.publics c.args.privates c.args.reach c.requires (sym c.has_privates.ensures ∙ c.if-has_privates.true)

pub returns-else-has_privates : goal.returns-else-has_privates
returns-else-has_privates c =
    by-publics c.args.publics c.args.privates c.args.reach c.requires (sym c.has_privates.ensures ∙ c.if-has_privates.false)
