-- As the arcs tell.
use Rattle.std.specs.Prelude.{⊤}
use Rattle.std.proofs.Common.{Result, sym, ap, ◌∙◌}
use Rattle.net.specs.Firing.{outcome}
use Rattle.net.specs.declared.Cause.{Cause}
use Rattle.net.specs.Answers.{firing_outcome}
use Rattle.net.proofs.Images.{both_ascend}
use Rattle.net.proofs.Steps.{turn-refused, turn_last}
use Rattle.net.proofs.Lent.{exit}
use Rattle.net.proofs.fire_one.Goals as goal

pub returns-in_err-arcs : goal.returns-in_err-arcs
returns-in_err-arcs c =
    exit (λ (r : Result ⊤ Cause). firing_outcome r c.args.marking.now) _ _ _ c.from_residual.ensures.1 (sym (turn-refused _ _ _ _ _ c.in_err-arcs.ensures))

pub move_tokens-requires : goal.move_tokens-requires
move_tokens-requires c = both_ascend _ _ _ _ _ c.in_ok-arcs.ensures.0 c.requires.1

pub returns : goal.returns
returns c = ap (outcome 0 1) c.move_tokens.ensures ∙ sym (turn_last _ _ _ _ c.in_ok-arcs.ensures.1)
