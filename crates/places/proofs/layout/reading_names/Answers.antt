use Rattle.std.proofs.Common.{◌≡◌, ◌+◌, rules, tests, ◌∙◌, arith}
use Rattle.std.proofs.lemmas.Iterator.{YieldsList-from_range}
use Rattle.std.proofs.lemmas.Iterator.Consumers.{count_from_yields_List, YieldsList-from_filter}
use Rattle.places.specs.Inner.Plan.{read_names_word}
use Rattle.places.proofs.Chains.{kept_count}
use Rattle.places.proofs.Names.{is_name_read, read-tells}
use Rattle.places.proofs.Tokens.{read-few}
use Rattle.places.proofs.layout.reading_names.Goals as goal

pub returns : goal.returns
returns c =
    let w = c.args.table.now in
    let p = c.word-publics.result in
    let b = c.word.result in
    let k = count_from_yields_List c.filter.result c.count.result c.count.ensures.ran (YieldsList-from_filter _ (is_name_read w) (YieldsList-from_range p (p + b) b c.filter.ensures.source (omega arith)) c.filter.ensures.closure (λ x r q k. search (rules, tests, read-tells w c.requires.accepted c.args.index.now c.requires))) in
    let e : c.count.result ≡ read_names_word w = k ∙ kept_count (is_name_read w) p b ∙ rw (c.word-publics.ensures.is, c.word.ensures.is) in
    (e, omega (arith, e, read-few w c.requires.accepted))
