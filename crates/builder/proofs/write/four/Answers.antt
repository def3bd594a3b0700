use mathlib.Core.Path.{◌≡◌, sym}
use Prim.Native.Nat.{ℕ, ◌+◌, ◌<◌}
use native.Mathlib.Omega.{arith}
use lib.Bits.{bit_and}
use lib.ListN.{get_or}
use Rattle.builder.specs.Inner.Writing.{sums}
use Rattle.builder.proofs.Series.{sums_at, sums-length, four-written}
use Rattle.builder.proofs.write.four.Goals.{Start}
use Rattle.builder.proofs.write.four.Goals as goal

-- what is written at number j
word-is : (c : Start) → (j : ℕ) → j < c.args.i + 4
    → get_or (sums c.args.t c.args.list.now c.args.masks.now) j 0
    ≡ get_or c.args.list.now j 0 + bit_and (get_or c.args.masks.now j 0) c.args.t
word-is c j l =
    let p = c.requires.2 in
    sums_at c.args.t c.args.list.now c.args.masks.now j (omega (arith, p.enough)) (omega (arith, p.enough, p.beside))

pub returns : goal.returns
returns c =
    let a = c.args in
    let p = c.requires.2 in
    four-written a.out.now (a.at + a.i) (sums a.t a.list.now a.masks.now) a.i _ _ _ _
    (omega (arith, sums-length a.t a.list.now a.masks.now p.beside, p.enough))
    (sym ((word-is (goal.at.returns c).Start) a.i (omega arith))) (sym ((word-is (goal.at.returns c).Start) (a.i + 1) (omega arith)))
    (sym ((word-is (goal.at.returns c).Start) (a.i + 2) (omega arith))) (sym ((word-is (goal.at.returns c).Start) (a.i + 3) (omega arith)))
