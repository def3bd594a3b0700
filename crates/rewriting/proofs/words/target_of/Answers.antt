use mathlib.Core.Path.{sym, ◌∙◌}
use Rattle.rewriting.specs.Inner.Writing.{target_in}
use Rattle.rewriting.proofs.words.target_of.Goals as goal

pub returns-then-copy : goal.returns-then-copy
unfolding target_in
returns-then-copy c = let f = c.field3-first.ensures in rw c.if-copy.true record { is = f.is; small = f.small }

pub returns-then-calls_itself : goal.returns-then-calls_itself
unfolding target_in
returns-then-calls_itself c =
    rw (c.if-copy.false, sym c.calls_itself.ensures ∙ c.if-calls_itself.true, ← c.field3-first.ensures.is)
    c.copied.ensures

pub returns : goal.returns
unfolding target_in
returns c =
    let f = c.field3-first.ensures in
    rw (c.if-copy.false, sym c.calls_itself.ensures ∙ c.if-calls_itself.false) record { is = f.is; small = f.small }
