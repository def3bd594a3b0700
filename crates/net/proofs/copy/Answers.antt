use mathlib.Core.Path.{◌≡◌, sym, ap, ◌∙◌}
use mathlib.Core.List.{List}
use Prim.Native.Nat.{ℕ, ◌+◌, ◌<◌}
use native.Mathlib.Nat.{zero-add}
use native.Mathlib.Numerals.{add-one}
use native.Mathlib.Omega.{arith}
use lib.ListN.{length, get_or, set, length-set}
use lib.Seq.{paste, paste-suc}
use Rattle.net.proofs.copy.Goals as goal

copy_more : (to from : List ℕ) (i : ℕ) → i < length to → i < length from → set (paste to 0 from i) i (get_or from i 0) ≡ paste to 0 from (i + 1)
copy_more to from i h k =
    ap (λ (n : ℕ). set (paste to 0 from i) n (get_or from i 0)) (sym (zero-add i)) ∙ paste-suc to 0 from i 0 (omega arith) k
    ∙ ap (paste to 0 from) (sym (add-one i))

pub loop-i-preserved : goal.loop-i-preserved
loop-i-preserved c =
    let l = c.loop-i in
    let a = c.args in (
      simp length-set l.invariant.0,
      ap (λ (x : List ℕ). set x l.i (get_or a.from.now l.i 0)) l.invariant.1 ∙ copy_more a.to.now a.from.now l.i (omega arith) (omega arith),
    )
