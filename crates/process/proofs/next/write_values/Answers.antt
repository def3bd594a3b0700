use mathlib.Core.Path.{◌∙◌}
use native.Mathlib.Omega.{arith}
use lib.ListN.{length}
use borrow.Author.Tests.{le-leb}
use Rattle.process.proofs.Taking.{few-publics, few-bounds}
use Rattle.process.proofs.next.write_values.Goals as goal

pub returns : goal.returns
returns c =
    let ok = c.args.known.now.known.accepted in
    let p = c.word-publics.ensures.is in
    let b = c.word-bounds.ensures.is in
    let t = c.word-threads.ensures.is in
    c.write_numbered.ensures.words ∙
    rw (
      le-leb c.word-publics.result 32 (omega (arith, p, few-publics _ ok)),
      le-leb c.word-bounds.result 32 (omega (arith, b, few-bounds _ ok)),
      le-leb c.word-bounds.result (length c.fill_values.new.values) (omega (arith, b, few-bounds _ ok, c.values-2-1.given)),
      p,
      b,
      t,
      c.fill_values.ensures,
    )
