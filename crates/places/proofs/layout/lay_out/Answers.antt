use Rattle.std.proofs.Common.{◌≡◌, ℕ, ◌+◌, ◌*◌, List, ◌++◌, length, set, ap, ◌∙◌, arith}
use Rattle.scheme.specs.Words.{nodes}
use Rattle.scheme.specs.Scheme.{scheme}
use Rattle.places.specs.Rows.{free_start_of}
use Rattle.places.specs.Plan.{node_words, plan_words}
use Rattle.places.specs.Inner.Arcs.{initial_numbers}
use Rattle.places.specs.Inner.Plan.{today, privates_word, read_names_word}
use Rattle.places.proofs.Controls.{control-begins, control-few, free-few}
use Rattle.places.proofs.Tokens.{tokens-are, tokens-few}
use Rattle.places.proofs.Starts.{free-told}
use Rattle.places.proofs.Plans.{reached-here, reached-size, reached-rest, reached-kept, laid_out}
use Rattle.places.proofs.layout.lay_out.Goals.{After-places_with-free, After-word-3}
use Rattle.places.proofs.layout.lay_out.Goals as goal

-- where the rows end
free : (c : After-places_with-free) →
    let w = c.args.table.now in
    c.places_with-free.result ≡ free_start_of (scheme w) (today w)
free c =
    let w = c.args.table.now in
    c.places_with-free.ensures
    ∙ free-told w _ (reached-here w c.args.index.now c.requires.0 c.requires.1 _ c.fill_reaches.ensures) c.private_values-privates.result
    c.private_values-privates.ensures.0 (c.word.result + c.word-2.result) (omega (arith, c.word.ensures.is, c.word-2.ensures.is))

counted : (c : After-word-3) →
    let n = c.private_values-privates.result in
    let w = c.args.table.now in
    c.reading_names.result * n + n + c.word-3.result ≡ length (initial_numbers (scheme w) (today w))
counted c =
    let f = c.reading_names in
    let n = c.private_values-privates in
    let w = c.args.table.now in
    let t : f.result * n.result ≡ read_names_word w * privates_word w = rw (f.ensures.0, n.ensures.0) in
    omega (arith, t, n.ensures.0, c.word-3.ensures.is, tokens-are w c.requires.0.accepted)

pub overflow_add-free : goal.overflow_add-free
overflow_add-free c =
    omega (
      arith,
      (free (goal.at.overflow_add-free c).After-places_with-free),
      free-few c.args.table.now c.requires.0.accepted,
      c.private_values-privates.ensures.1,
    )

pub fill_nodes-places-requires : goal.fill_nodes-places-requires
fill_nodes-places-requires c =
    let w = c.args.table.now in
    let e = c.fill_reaches in (
      c.requires.0.accepted,
      c.hold_all.ensures,
      omega (
        arith,
        (free (goal.at.fill_nodes-places-requires c).After-places_with-free),
        c.private_values-privates.ensures.0,
        control-begins w,
      ),
      omega (arith, reached-size w c.args.index.now c.requires.0 c.requires.1 _ e.ensures, c.requires.1),
    )

pub reading_names-requires : goal.reading_names-requires
reading_names-requires c =
    let w = c.args.table.now in
    let K = reached-here w c.args.index.now c.requires.0 c.requires.1 _ c.fill_reaches.ensures in
    reached-kept w _ _ K 960 (node_words w) (omega arith) c.fill_nodes-places.ensures.1

pub overflow_cast-free : goal.overflow_cast-free
overflow_cast-free c =
    omega (
      arith,
      (free (goal.at.overflow_cast-free c).After-places_with-free),
      free-few c.args.table.now c.requires.0.accepted,
    )

pub overflow_cast-places : goal.overflow_cast-places
overflow_cast-places c =
    let w = c.args.table.now in omega (arith, c.fill_nodes-places.ensures.0, control-few w c.requires.0.accepted (nodes w) (omega arith))

pub overflow_cast-tokens : goal.overflow_cast-tokens
overflow_cast-tokens c =
    omega (
      arith,
      (counted (goal.at.overflow_cast-tokens c).After-word-3),
      tokens-few c.args.table.now c.requires.0.accepted,
    )

pub returns : goal.returns
returns c =
    let w = c.args.table.now in
    let x = c.args.index.now in
    let e = c.fill_reaches.ensures in
    let K = reached-here w x c.requires.0 c.requires.1 _ e in
    let n = c.private_values-privates in
    let f = c.places_with-free in
    let p = c.fill_nodes-places in
    let t = c.reading_names.result * n.result + n.result + c.word-3.result in
    c.store-4.ensures
    ∙ ap (λ (l : List ℕ). set l 1220 t)
    (c.store-3.ensures ∙ ap (λ (l : List ℕ). set l 1219 p.result)
    (c.store-2.ensures ∙ ap (λ (l : List ℕ). set l 1218 f.result) c.store.ensures))
    ∙ laid_out w _ K (omega (arith, reached-size w x c.requires.0 c.requires.1 _ e, c.requires.1)) _ p.ensures.1 n.result f.result
    p.result t n.ensures.0 ((free (goal.at.returns c).After-places_with-free)) p.ensures.0 ((counted (goal.at.returns c).After-word-3))
    ∙ ap (λ (l : List ℕ). plan_words w ++ l) (reached-rest w x c.requires.0 c.requires.1 _ e)
