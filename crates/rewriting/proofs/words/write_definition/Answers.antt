use Rattle.rewriting.specs.Rewriting.{definition_copy}
use Rattle.rewriting.specs.Inner.Writing.{copied_formal_of}
use Rattle.rewriting.proofs.words.write_definition.Goals as goal

pub returns : goal.returns
unfolding definition_copy copied_formal_of
returns c =
    rw (
      ← c.copied_formal-formal.ensures.is,
      ← c.field4.ensures.is,
      ← c.copied-root.ensures.is,
      ← c.field4-thread.ensures.is,
      ← c.field4-2.ensures.is,
    ) c.write_all.ensures
