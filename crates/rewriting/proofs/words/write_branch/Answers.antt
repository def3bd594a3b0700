use Rattle.rewriting.specs.Rewriting.{branch_copy}
use Rattle.rewriting.specs.Inner.Writing.{copied_use_of}
use Rattle.rewriting.proofs.words.write_branch.Goals as goal

pub returns : goal.returns
unfolding branch_copy copied_use_of
returns c =
    rw (
      ← c.field4.ensures.is,
      ← c.copied_use-channel.ensures.is,
      ← c.field4-2.ensures.is,
      ← c.copied_use-name.ensures.is,
      ← c.field4-3.ensures.is,
      ← c.copied-next.ensures.is,
      ← c.field4-4.ensures.is,
    ) c.write_all.ensures
