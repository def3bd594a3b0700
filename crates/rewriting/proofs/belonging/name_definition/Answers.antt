use borrow.Author.Tests.{lt-ltb, le-ltb}
use Rattle.rewriting.specs.Inner.Belonging.{binder_definition_in}
use Rattle.rewriting.proofs.belonging.name_definition.Goals as goal

pub returns-then-binder-lt65536 : goal.returns-then-binder-lt65536
unfolding binder_definition_in
returns-then-binder-lt65536 c = rw (← c.binder-binder.ensures.is, lt-ltb _ _ c.if-binder-lt65536.true) c.word.ensures.is

pub returns-then-binder-lt131072 : goal.returns-then-binder-lt131072
unfolding binder_definition_in
returns-then-binder-lt131072 c =
    rw (← c.binder-binder.ensures.is, le-ltb _ _ c.if-binder-lt65536.false, lt-ltb _ _ c.if-binder-lt131072.true) c.definition.ensures.is

pub returns-then-binder-lt196608 : goal.returns-then-binder-lt196608
unfolding binder_definition_in
returns-then-binder-lt196608 c =
    rw (← c.binder-binder.ensures.is, le-ltb _ _ c.if-binder-lt65536.false, le-ltb _ _ c.if-binder-lt131072.false, lt-ltb _ _ c.if-binder-lt196608.true, ← c.home.ensures.is)
    c.definition-then-binder-lt196608.ensures.is

pub returns : goal.returns
unfolding binder_definition_in
returns c =
    rw (← c.binder-binder.ensures.is, le-ltb _ _ c.if-binder-lt65536.false, le-ltb _ _ c.if-binder-lt131072.false, le-ltb _ _ c.if-binder-lt196608.false)
