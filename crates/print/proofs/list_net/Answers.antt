use mathlib.Core.Path.{refl, sym, ap, ◌∙◌}
use Prim.Native.Nat.{ℕ}
use lib.ListN.{replicate, length-replicate}
use lib.Seq.{length-take-le}
use Rattle.builder.specs.Answer.{built_outcome}
use Rattle.builder.specs.declared.Refusal.{Refusal}
use Rattle.std.specs.Prelude.{Result, Err}
use Rattle.table.specs.Answer.{cause_number}
use Rattle.print.proofs.Programs.{net-refused, net-listed}
use Rattle.print.proofs.list_net.Goals as goal

pub slice_bounds-image-end : goal.slice_bounds-image-end
slice_bounds-image-end c =
    let b = c.build in
    (net-listed _ (replicate 16384 0) b.new.out b.result (length-replicate {A = ℕ} 16384 0) b.ensures _ c.in-Ok.is).0

pub slice_bounds-listing-end : goal.slice_bounds-listing-end
slice_bounds-listing-end c =
    let b = c.build in
    let l = net-listed _ (replicate 16384 0) b.new.out b.result (length-replicate {A = ℕ} 16384 0) b.ensures _ c.in-Ok.is in
    sym (length-take-le _ b.new.out l.0)

pub returns-in-Ok : goal.returns-in-Ok
returns-in-Ok c =
    let b = c.build in
    let l = net-listed _ (replicate 16384 0) b.new.out b.result (length-replicate {A = ℕ} 16384 0) b.ensures _ c.in-Ok.is in
    rw l.1 at c.listing.ensures

pub returns-in-Err-Table : goal.returns-in-Err-Table
returns-in-Err-Table c =
    let b = c.build in
    let i = c.in-Err-Table in
    let a = ap (λ (x : Result ℕ Refusal). built_outcome x b.new.out) (i.is ∙ ap Err i.field-0-is) in
    let t = net-refused _ (replicate 16384 0) b.new.out b.result (length-replicate {A = ℕ} 16384 0) b.ensures _ _ a (c.from.ensures.0 ∙ ap cause_number i.cause-is) in
    rw t at c.refusal.ensures

pub returns-in-Err-NoRoom : goal.returns-in-Err-NoRoom
returns-in-Err-NoRoom c =
    let b = c.build in
    let i = c.in-Err-NoRoom in
    let a = ap (λ (x : Result ℕ Refusal). built_outcome x b.new.out) (i.is ∙ ap Err i.field-0-is) in
    let t = net-refused _ (replicate 16384 0) b.new.out b.result (length-replicate {A = ℕ} 16384 0) b.ensures _ _ a refl in
    rw t at c.refusal-in-Err-NoRoom.ensures
