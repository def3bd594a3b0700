use Rattle.std.proofs.Common.{◌≡◌, false, get_or, drop, sym, ◌∙◌, arith}
use Rattle.lists.specs.Lists.{member}
use Rattle.net.proofs.Marks.{later_up, first_below, contact-less, contact-both, contact-here, contact-free, contact-none, no-input-above, no-input-left}
use Rattle.net.proofs.arcs.contact.Goals as goal
use Rattle.net.proofs.arcs.contact.Goals.{then-next_input-inputs+else-input-output+else-input-output-2, else-next_input-inputs}

pub loop-next_output-preserved-then-input-output : goal.loop-next_output-preserved-then-input-output
loop-next_output-preserved-then-input-output c =
    let l = c.loop-next_output.invariant in
    let h = c.if-next_input-inputs.true in (
      later_up _ c.args.marking.now _ _ h l.0,
      l.1,
      l.2 ∙ contact-less _ _ _ _ c.loop-next_output-test.true l.1 _ _ h c.if-input-output.true,
    )

pub loop-next_output-preserved-then-input-output-2 : goal.loop-next_output-preserved-then-input-output-2
loop-next_output-preserved-then-input-output-2 c =
    let l = c.loop-next_output.invariant in
    let h = c.if-next_input-inputs.true in
    let t = c.loop-next_output-test.true in (
      later_up _ c.args.marking.now _ _ h l.0,
      later_up _ c.args.marking.now _ _ t l.1,
      l.2 ∙ contact-both _ _ _ _ t l.1 _ _ h c.if-input-output-2.true,
    )

pub bounds-marking-output : goal.bounds-marking-output
bounds-marking-output c = first_below _ c.args.marking.now _ _ c.loop-next_output-test.true c.loop-next_output.invariant.1

-- where the output is no input, its token is a contact, and without its token it is passed
pub returns-then-marking-output-eq1 : goal.returns-then-marking-output-eq1
returns-then-marking-output-eq1 c =
    let l = c.loop-next_output.invariant in
    let free : member (get_or c.args.outputs.now c.loop-next_output.next_output 0) (drop c.loop-next_output.next_input c.args.inputs.now) ≡ false =
    elim c.if-next_input-inputs.branch [
      | then-next_input-inputs+else-input-output+else-input-output-2 w ↦
          no-input-above _ _ _ _ w.if-next_input-inputs.true l.0 (omega (arith, w.if-input-output.false, w.if-input-output-2.false))
      | else-next_input-inputs w ↦ no-input-left _ _ _ w.if-next_input-inputs.false
    ] in
    sym (l.2 ∙ contact-here _ _ _ _ c.loop-next_output-test.true l.1 _ free c.if-marking-output-eq1.true)

pub loop-next_output-preserved : goal.loop-next_output-preserved
loop-next_output-preserved c =
    let l = c.loop-next_output.invariant in
    let t = c.loop-next_output-test.true in
    let free : member (get_or c.args.outputs.now c.loop-next_output.next_output 0) (drop c.loop-next_output.next_input c.args.inputs.now) ≡ false =
    elim c.if-next_input-inputs.branch [
      | then-next_input-inputs+else-input-output+else-input-output-2 w ↦
          no-input-above _ _ _ _ w.if-next_input-inputs.true l.0 (omega (arith, w.if-input-output.false, w.if-input-output-2.false))
      | else-next_input-inputs w ↦ no-input-left _ _ _ w.if-next_input-inputs.false
    ] in (
      l.0,
      later_up _ c.args.marking.now _ _ t l.1,
      l.2 ∙ contact-free _ _ _ _ t l.1 _ free c.if-marking-output-eq1.false,
    )

pub returns : goal.returns
returns c = sym (c.loop-next_output.invariant.2 ∙ contact-none _ _ _ _ c.loop-next_output-test.false)
