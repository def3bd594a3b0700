use Rattle.std.proofs.Common.{ℕ, ◌-◌, ◌*◌, Bool, not, ◌&&◌, length, sym, ap, ◌∙◌, arith}
use Rattle.lists.specs.Lists.{from, every}
use Rattle.lists.proofs.Ranges.{every_more, every-stop, every-done}
use Rattle.summary.specs.Sets.{is_in_set}
use Rattle.summary.proofs.Entries.{marking-low, spare, compared}
use Rattle.summary.proofs.entries_right.Goals as goal

pub returns-then-not-entry_right : goal.returns-then-not-entry_right
returns-then-not-entry_right c =
    let w = c.args.image.now in
    let n = c.args.enabled.now in
    let whole = compared w c.args.marking.now c.args.counts.now n (marking-low _ _ c.requires.2) c.requires.1.counted c.requires.1.words
    (λ j. omega (arith, c.type_inv.enabled j)) in
    sym (whole ∙ c.loop-transition.invariant ∙ ap (λ (b : Bool). b && spare w n)
    (every-stop _ _ _ (omega (arith, c.requires.1.counted, c.loop-transition-test.true)) (sym c.entry_right.ensures ∙ c.if-not-entry_right.true)))

pub loop-transition-preserved : goal.loop-transition-preserved
loop-transition-preserved c =
    c.loop-transition.invariant ∙ ap (λ (b : Bool). b && spare c.args.image.now c.args.enabled.now)
    (every_more _ _ _ (omega (arith, c.requires.1.counted, c.loop-transition-test.true)) (sym c.entry_right.ensures ∙ c.if-not-entry_right.false))

pub returns : goal.returns
returns c =
    let w = c.args.image.now in
    let n = c.args.enabled.now in
    let whole = compared w c.args.marking.now c.args.counts.now n (marking-low _ _ c.requires.2) c.requires.1.counted c.requires.1.words
    (λ j. omega (arith, c.type_inv.enabled j)) in
    sym (whole ∙ c.loop-transition.invariant
    ∙ ap (λ (b : Bool). b && spare w n) (every-done _ _ _ (omega (arith, c.requires.1.counted, c.loop-transition-test.false)))
    ∙ ap (λ (k : ℕ). every (λ j. not (is_in_set n j)) (from k (64 * length n - k))) (sym c.requires.1.counted) ∙ sym c.none_from.ensures)
