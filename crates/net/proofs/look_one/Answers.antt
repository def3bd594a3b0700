-- As the arcs tell, 10, then the marking copied to the front of the buffer and its tokens moved there.
use Rattle.std.proofs.Common.{List, ◌++◌, length, drop, ℕ, Result, ap, ◌∙◌, arith}
use lib.Seq.{take_at}
use Rattle.net.specs.declared.Refusal.{Refusal}
use Rattle.net.specs.Answers.{look_outcome}
use Rattle.net.proofs.Images.{both_ascend}
use Rattle.net.proofs.Looks.{look-refused, look-short, look-moved}
use Rattle.net.proofs.Lent.{exit}
use Rattle.net.proofs.look_one.Goals as goal

pub returns-in_err-arcs : goal.returns-in_err-arcs
returns-in_err-arcs c =
    exit (λ (r : Result ℕ Refusal). look_outcome r c.args.next.now) _ _ _ c.from_residual.ensures.1 (look-refused _ _ _ _ _ c.in_err-arcs.ensures)

pub returns-then-next-places : goal.returns-then-next-places
returns-then-next-places c = look-short _ _ _ _ _ c.in_ok-arcs.ensures.1 (omega (arith, c.if-next-places.true, c.requires.1))

pub move_tokens-requires : goal.move_tokens-requires
move_tokens-requires c =
    let front = take_at c.copy.new.to (drop (length c.args.marking.now) c.args.next.now) (length c.args.marking.now) (ap length c.copy.ensures) in
    both_ascend _ _ _ _ _ c.in_ok-arcs.ensures.0 (ap length (front ∙ c.copy.ensures) ∙ c.requires.1)

pub returns : goal.returns
returns c =
    let behind = drop (length c.args.marking.now) c.args.next.now in
    look-moved _ _ _ _ _ _ _ _ c.in_ok-arcs.ensures.1 c.requires.1 c.if-next-places.false
    (ap (λ (x : List ℕ). x ++ behind) c.copy.ensures) c.move_tokens.ensures
