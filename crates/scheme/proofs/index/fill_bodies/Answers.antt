use mathlib.Core.Path.{refl, sym}
use native.Mathlib.Omega.{arith}
use lib.ListN.{length}
use lib.Seq.{length-take-le}
use borrow.Author.Tests.{le-leb}
use Rattle.scheme.proofs.Parts.{ready, bodies-filled}
use Rattle.scheme.proofs.index.fill_bodies.Goals as goal

pub slice_bounds-owners-end-2 : goal.slice_bounds-owners-end-2
slice_bounds-owners-end-2 c = sym (length-take-le 256 c.args.index.now (omega arith))

pub fill_definitions-requires : goal.fill_definitions-requires
fill_definitions-requires c =
    let a = c.args in
    ready a.table.now a.index.now c.if-index-lt-BINDERS.false _ _ c.owners.ensures c.homes.ensures _ _ refl (c.fill.ensures.after (λ y e. e)) _ refl

pub returns : goal.returns
returns c =
    let a = c.args in
    let e = le-leb 768 (length a.index.now) c.if-index-lt-BINDERS.false in
    record {
      answer = sym e;
      words =
          rw e
          (bodies-filled a.table.now a.index.now c.if-index-lt-BINDERS.false _ _ c.owners.ensures c.homes.ensures _ _ refl
          (c.fill.ensures.after (λ y e. e)) _ refl _
          c.fill_definitions.ensures);
    }
