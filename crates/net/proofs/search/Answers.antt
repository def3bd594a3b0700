-- Each way out, and the turn of the scan, is a law of a pass.
use Rattle.std.proofs.Common.{◌≡◌, ℕ, ◌<◌, true, refl, sym, ◌∙◌, arith}
use Rattle.lists.proofs.Ascending.{slice-below}
use Rattle.net.specs.Image.{record_right}
use Rattle.net.proofs.Images.{arcs-at, inputs-within, both_ascend}
use Rattle.net.proofs.Marks.{part-not, part-more, part_none}
use Rattle.net.proofs.Passes.{passed_start, passed-wrong, passed-off, passed_on, passed-stop, passed-end, met_right, seen_more}
use Rattle.net.proofs.search.Goals as goal
use Rattle.net.proofs.search.Goals.{else-scan-test, then-scan-test+in-Some+else-loop-i-test+then-ends_at}

pub scan-init : goal.scan-init
scan-init c = (passed_start _ _ _, refl)

pub returns-in_default-clause-found : goal.returns-in_default-clause-found
returns-in_default-clause-found c = (passed-wrong _ _ _ _ _ c.scan.invariant.0 c.scan-test.true c.in_default.ensures, refl)

pub loop-i-init : goal.loop-i-init
loop-i-init c = refl

pub bounds-image-i : goal.bounds-image-i
bounds-image-i c = omega (arith, c.loop-i-test.true, inputs-within _ _ _ _ _ c.in-Some.ensures)

pub bounds-marking-image : goal.bounds-marking-image
bounds-marking-image c =
    slice-below _ _ _ _ _ (inputs-within _ _ _ _ _ c.in-Some.ensures)
    (both_ascend _ _ _ _ _ (arcs-at _ _ _ _ _ c.in-Some.ensures) c.requires.1).0 c.loop-i.i c.loop-i.auto.i c.loop-i-test.true

pub scan-preserved-then-marking-image-ne1 : goal.scan-preserved-then-marking-image-ne1
scan-preserved-then-marking-image-ne1 c = (
  passed-off _ _ _ _ _ c.scan.invariant.0 c.scan-test.true _ _ (arcs-at _ _ _ _ _ c.in-Some.ensures)
      (c.loop-i.invariant ∙ part-not _ _ _ c.loop-i-test.true (inputs-within _ _ _ _ _ c.in-Some.ensures) _ c.if-marking-image-ne1.true),
  c.scan.invariant.1,
)

pub loop-i-preserved : goal.loop-i-preserved
loop-i-preserved c =
    c.loop-i.invariant ∙ part-more _ _ _ c.loop-i-test.true (inputs-within _ _ _ _ _ c.in-Some.ensures) _ c.if-marking-image-ne1.false

pub scan-preserved : goal.scan-preserved
scan-preserved c = (
  passed_on _ _ _ _ _ c.scan.invariant.0 c.scan-test.true _ _ (arcs-at _ _ _ _ _ c.in-Some.ensures)
      (c.loop-i.invariant ∙ part_none _ _ _ c.loop-i-test.false _) (sym c.ends_at.ensures ∙ c.if-ends_at.false) _ c.or-kept.ensures,
  c.scan.invariant.1,
)

pub returns-clause-found : goal.returns-clause-found
returns-clause-found c =
    elim c.scan-test.branch [
      | else-scan-test w ↦ rw w.kept-is (passed-end _ _ _ _ _ c.scan.invariant.0 w.scan-test.false)
      | then-scan-test+in-Some+else-loop-i-test+then-ends_at w ↦
          rw w.kept-is
          (passed-stop _ _ _ _ _ c.scan.invariant.0 w.scan-test.true _ _ (arcs-at _ _ _ _ _ w.in-Some.ensures)
          (w.loop-i.invariant ∙ part_none _ _ _ w.loop-i-test.false _) (sym w.ends_at.ensures ∙ w.if-ends_at.true))
    ]

pub returns-clause-seen : goal.returns-clause-seen
returns-clause-seen c = seen_more _ _ _ _ c.requires.2 met c.max.ensures
  where
    met : (k : ℕ) → k < c.scan-test.met → record_right c.args.image.now k ≡ true
    met k h =
        elim c.scan-test.branch [
          | else-scan-test w ↦ c.scan.invariant.0.right k (omega (arith, h, w.met-is, c.scan.invariant.1, w.scan-test.false))
          | then-scan-test+in-Some+else-loop-i-test+then-ends_at w ↦
              met_right _ _ _ _ _ c.scan.invariant.0 w.scan-test.true _ _ (arcs-at _ _ _ _ _ w.in-Some.ensures) k (omega (arith, h, w.met-is))
        ]
