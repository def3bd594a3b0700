use Rattle.readback.proofs.Showing.{stands, name-valued}
use Rattle.readback.proofs.shown.name_value.Goals as goal

pub name_shown-shown-requires : goal.name_shown-shown-requires
name_shown-shown-requires c =
    let a = c.args in
    stands a.table.now a.index.now a.nodes.now a.indexes.now a.name c.requires.0 c.requires.1 c.requires.2.0 c.requires.2.1 _
    c.name_thread-t.ensures.is _ c.word.ensures.is

pub returns : goal.returns
returns c =
    let a = c.args in
    name-valued a.table.now a.index.now a.nodes.now a.indexes.now a.name
    c.requires.0 c.requires.1 c.requires.2.0 c.requires.2.1
    c.name_thread-t.result c.name_thread-t.ensures.is a.values.now
    c.word.result c.word-2.result c.name_shown-shown.result c.value_of.result
    c.word.ensures.is c.word-2.ensures.is c.name_shown-shown.ensures c.value_of.ensures
