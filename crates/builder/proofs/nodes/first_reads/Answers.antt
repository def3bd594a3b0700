use native.Mathlib.Omega.{arith}
use Rattle.places.proofs.Plans.{privates-are}
use Rattle.builder.proofs.nodes.first_reads.Goals as goal

pub returns-then-privates-eq0 : goal.returns-then-privates-eq0
returns-then-privates-eq0 c =
    record {
      room = c.requires.1;
      filled = λ h. absurd (omega (
        arith,
        h,
        c.privates.ensures.is,
        privates-are c.args.table.now c.args.index.now c.requires.0,
        c.if-privates-eq0.true,
      ));
    }

pub differences-requires : goal.differences-requires
differences-requires c = (
  c.requires.0,
  omega (arith, c.word.ensures.is),
  omega (
    arith,
    c.word.ensures.is,
    c.if-privates-eq0.false,
    c.privates.ensures.is,
    privates-are c.args.table.now c.args.index.now c.requires.0,
  ),
  c.requires.1,
)
