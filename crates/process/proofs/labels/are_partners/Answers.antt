use mathlib.Core.Path.{sym, ◌∙◌}
use native.Mathlib.Omega.{arith}
use Rattle.std.proofs.lemmas.Grind.{common_steps}
use Rattle.lists.specs.Lists.{same}
use Rattle.process.proofs.Decoding.{send-there, receive-there}
use Rattle.process.proofs.labels.are_partners.Goals as goal

pub returns-then-not-branch_is : goal.returns-then-not-branch_is
returns-then-not-branch_is c = grind (arith, common_steps, send-there, receive-there)

pub returns : goal.returns
unfolding same
returns c =
    let a = c.args in
    rw (
      send-there a.known.now.table.now a.send ∙ sym c.branch_is.ensures ∙ c.if-not-branch_is.false,
      receive-there a.known.now.table.now a.receive ∙ sym c.branch_is-else-not-branch_is.ensures ∙ c.if-not-branch_is-2.false,
      ← c.branch_thread-sender.ensures.is,
      ← c.branch_thread-receiver.ensures.is,
    )
