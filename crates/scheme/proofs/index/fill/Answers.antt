use mathlib.Core.Path.{sym, ◌∙◌}
use native.Mathlib.Omega.{arith}
use lib.ListN.{length}
use borrow.Author.Tests.{le-leb}
use Rattle.scheme.proofs.Parts.{all-filled}
use Rattle.scheme.proofs.index.fill.Goals as goal

pub returns : goal.returns
returns c =
    let a = c.args in
    let e = le-leb 832 (length a.index.now) c.if-index-lt-SIZE.false in
    let b = le-leb 768 (length a.index.now) (omega (arith, c.if-index-lt-SIZE.false)) in
    record {
      answer = sym e;
      words = rw e (all-filled a.table.now a.index.now _ _ c.if-index-lt-SIZE.false (c.fill_bodies.ensures.words ∙ rw b) c.binders.ensures);
    }
