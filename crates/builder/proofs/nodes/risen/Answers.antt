use mathlib.Core.Path.{◌≡◌, ap, ◌∙◌}
use mathlib.Core.List.{List}
use Prim.Native.Nat.{ℕ, ◌+◌, ◌-◌, ◌<◌}
use native.Mathlib.Decide.{ℕ_discrete}
use native.Mathlib.Omega.{arith}
use lib.ListN.{length, get_or, set, length-set}
use lib.Seq.{get_or-set_same, get_or-set_other}
use Rattle.places.proofs.Controls.{few-privates}
use Rattle.builder.proofs.Making.{up-count, up-few, up_small, up_done}
use Rattle.builder.proofs.nodes.risen.Goals as goal

-- one number more
more : (first list : List ℕ) (rise i : ℕ) → i < length list → ((j : ℕ) → j < i → get_or list j 0 ≡ get_or first j 0 + rise) → (j : ℕ) → j < i + 1
    → get_or (set list i (get_or first i 0 + rise)) j 0 ≡ get_or first j 0 + rise
more first list rise i l h j k = go (ℕ_discrete j i)
  where
    go : Dec (j ≡ i) → get_or (set list i (get_or first i 0 + rise)) j 0 ≡ get_or first j 0 + rise
    go (yes e) = rw e (get_or-set_same list i (get_or first i 0 + rise) 0 l)
    go (no d) = get_or-set_other list i j (get_or first i 0 + rise) 0 d ∙ h j (omega arith)

pub overflow_cast-rise : goal.overflow_cast-rise
overflow_cast-rise c =
    omega (arith, c.word.ensures.is, c.requires.2, few-privates c.args.table.now c.requires.0)

pub overflow_add-list : goal.overflow_add-list
overflow_add-list c =
    let a = c.args in
    let w = a.table.now in
    let l = c.loop-i in
    let f = up-few w a.v c.requires.1 c.requires.2 c.requires.0 a.first.now a.count c.requires.3 in
    omega (
      arith,
      c.word.ensures.is,
      up_small w a.v c.requires.1 c.requires.2 c.requires.0 a.first.now a.count c.requires.3 l.i c.loop-i-test.true
          (omega (arith, f, c.requires.4)),
    )

pub bounds-list-i : goal.bounds-list-i
bounds-list-i c =
    let f = up-few c.args.table.now c.args.v c.requires.1 c.requires.2 c.requires.0 c.args.first.now c.args.count c.requires.3 in
    omega (arith, c.loop-i-test.true, f, c.requires.5, c.loop-i.invariant.1)

pub loop-i-preserved : goal.loop-i-preserved
loop-i-preserved c =
    let a = c.args in
    let l = c.loop-i in
    let h = c.loop-i-test.true in
    let f = up-few a.table.now a.v c.requires.1 c.requires.2 c.requires.0 a.first.now a.count c.requires.3 in (
      more a.first.now l.list _ l.i (omega (arith, h, f, c.requires.5, l.invariant.1)) l.invariant.0,
      simp length-set l.invariant.1,
    )

pub returns : goal.returns
returns c =
    let a = c.args in
    let w = a.table.now in
    let l = c.loop-i in
    let f = up-few w a.v c.requires.1 c.requires.2 c.requires.0 a.first.now a.count c.requires.3 in
    let e : l.i ≡ a.count = omega (arith, c.loop-i-test.false) in (
      up_done w a.v c.requires.1 c.requires.2 c.requires.0 a.first.now a.count c.requires.3 l.list (omega (arith, f, c.requires.4))
          (omega (arith, f, c.requires.5, l.invariant.1))
          (λ j k. l.invariant.0 j (omega (arith, e)) ∙ ap (λ (n : ℕ). get_or a.first.now j 0 + (a.v - n)) c.word.ensures.is),
      up-count w a.v c.requires.1 c.requires.2 c.requires.0 a.first.now a.count c.requires.3,
    )
