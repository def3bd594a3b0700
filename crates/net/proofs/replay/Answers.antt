-- 11, 13 for the length alone, then the numbers from the initial marking.
use mathlib.Core.Path.{sym, ap, ◌∙◌}
use mathlib.Core.List.{List}
use Prim.Native.Nat.{ℕ}
use native.Mathlib.Omega.{arith}
use lib.ListN.{length}
use Rattle.net.specs.Firing.{in_turn}
use Rattle.net.proofs.Images.{header}
use Rattle.net.proofs.Steps.{initial-length, replay-no-image, replay-no-length, replay-as}
use Rattle.net.proofs.replay.Goals as goal

pub returns-then-not-header_right : goal.returns-then-not-header_right
returns-then-not-header_right c = sym (replay-no-image _ _ _ (sym c.header_right.ensures ∙ c.if-not-header_right.true))

pub bounds-image-0 : goal.bounds-image-0
bounds-image-0 c = let s = header _ (sym c.header_right.ensures ∙ c.if-not-header_right.false) in omega arith

pub returns-then-marking-places : goal.returns-then-marking-places
returns-then-marking-places c = sym (replay-no-length _ _ _ (sym c.header_right.ensures ∙ c.if-not-header_right.false)
    c.if-marking-places.true)

pub fire_all-requires : goal.fire_all-requires
fire_all-requires c = (
  header _ (sym c.header_right.ensures
      ∙ c.if-not-header_right.false),
  ap length c.begin.ensures
      ∙ initial-length _,
)

pub returns : goal.returns
returns c =
    let a = c.args in
    c.fire_all.ensures
    ∙ ap (λ (m : List ℕ). in_turn a.image.now m a.numbers.now) c.begin.ensures
    ∙ sym (replay-as _ _ _ (sym c.header_right.ensures
    ∙ c.if-not-header_right.false)
    c.if-marking-places.false)
