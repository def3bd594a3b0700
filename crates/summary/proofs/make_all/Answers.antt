-- All transitions are worked out, from an empty set.
use Rattle.std.proofs.Common.{ℕ, true, List, length, ap, ◌∙◌}
use lib.ListN.{length-replicate}
use Rattle.net.specs.Image.{inputs_at}
use Rattle.summary.specs.Summary.{summary, worked_out}
use Rattle.summary.proofs.Entries.{marking-low, missing-unmarked, worked-out, made-whole, all-afresh}
use Rattle.summary.proofs.make_all.Goals as goal

pub returns : goal.returns
returns c =
    let w = c.args.image.now in
    let m = c.args.marking.now in
    let e = c.fill.ensures.after (λ y e. e) in
    c.refresh.ensures
    ∙ worked-out w m _ _ _ _ (ap length e ∙ length-replicate _ _ ∙ c.requires.1.words) (λ u l. all-afresh w m u)
    (λ u l. missing-unmarked m (inputs_at w u) (marking-low _ _ c.requires.2))
    ∙ ap (λ (l : List ℕ). worked_out w (λ u. true) m (summary c.args.counts.now l)) e ∙ made-whole w m c.args.counts.now _ c.requires.1.words
