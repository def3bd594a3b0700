use Rattle.std.proofs.Common.{◌≡◌, ◌+◌, rules, tests, not, eqb, ◌∙◌, arith}
use Rattle.std.proofs.lemmas.Iterator.{YieldsList-from_range}
use Rattle.std.proofs.lemmas.Iterator.Consumers.{count_from_yields_List, YieldsList-from_filter}
use Rattle.lists.specs.Lists.{from}
use Rattle.lists.proofs.Members.{keep-length}
use Rattle.lists.proofs.Ranges.{from-length}
use Rattle.scheme.specs.Words.{publics, bounds, name_kind_of}
use Rattle.places.specs.Inner.Plan.{free_names_word}
use Rattle.places.proofs.Chains.{kept_count}
use Rattle.places.proofs.Names.{is_free, free-kinds}
use Rattle.places.proofs.layout.free_names.Goals as goal

pub returns : goal.returns
returns c =
    let w = c.args.table.now in
    let p = c.word-publics.result in
    let b = c.word.result in
    let k =
    count_from_yields_List c.filter.result c.count.result c.count.ensures.ran
    (YieldsList-from_filter _ (λ x. not (eqb (name_kind_of w x) 0)) (YieldsList-from_range p (p + b) b c.filter.ensures.source (omega arith))
    c.filter.ensures.closure (λ x r q k. search (rules, tests))) in
    let e : c.count.result ≡ free_names_word w =
    k ∙ kept_count (λ x. not (eqb (name_kind_of w x) 0)) p b ∙ rw (c.word-publics.ensures.is, c.word.ensures.is) (free-kinds w) in
    (e, omega (arith, e, keep-length (is_free w) (from (publics w) (bounds w)), from-length (publics w) (bounds w)))
