use mathlib.Core.Path.{◌≡◌, ap}
use mathlib.Core.List.{List}
use Prim.Native.Nat.{ℕ}
use native.Mathlib.Omega.{arith}
use lib.ListN.{length}
use Rattle.std.proofs.Common.{rules}
use Rattle.std.specs.Option.{IsSome}
use Rattle.std.specs.Prelude.{Option, Some, None}
use Rattle.print.specs.Answers.{Outcome, done, outcome_of}
use Rattle.print.proofs.Fits.{whole-text}
use Rattle.print.proofs.list_all.Goals as goal

is_some : (answer : Option ℕ) (left after : List ℕ) (size : ℕ) → outcome_of answer left ≡ done size after → IsSome answer
is_some (Some n) left after size e = search rules
is_some None left after size e = let z : ◌≡◌ {A = ℕ} 10 0 = ap (λ (o : Outcome). o.number) e in absurd (omega arith)

pub unwrap-requires : goal.unwrap-requires
unwrap-requires c =
    let n : length c.args.out.now ≡ 262144 = omega arith in
    is_some _ c.list.new.out _ _ (whole-text c.args.bytes.now c.args.out.now n c.list.ensures)

pub returns : goal.returns
returns c =
    let n : length c.args.out.now ≡ 262144 = omega arith in
    rw c.unwrap.ensures at (whole-text c.args.bytes.now c.args.out.now n c.list.ensures)
