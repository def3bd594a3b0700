use mathlib.Core.Path.{◌≡◌, sym, ◌∙◌}
use mathlib.Core.List.{List}
use Prim.Native.Nat.{ℕ, ◌+◌, ◌≤◌, ◌<◌}
use lib.ListN.{length, get_or, set}
use lib.Seq.{slice}
use Rattle.lists.proofs.Slices.{slice-step, slice-none}
use Rattle.net.specs.Firing.{put}
use Rattle.readback.proofs.names.mark_names.Goals as goal

put-next : (w : List ℕ) (i e : ℕ) → i < e → e ≤ length w → (v : ℕ) (m : List ℕ) → put v m (slice i e w) ≡ put v (set m (get_or w i 0) v) (slice (i + 1) e w)
unfolding put
put-next w i e h l v m = rw (slice-step w i e)

put-all : (w : List ℕ) (i e : ℕ) → e ≤ i → (v : ℕ) (m : List ℕ) → put v m (slice i e w) ≡ m
unfolding put
put-all w i e h v m = rw (slice-none w i e h)

pub loop-i-preserved : goal.loop-i-preserved
loop-i-preserved c =
    let l = c.loop-i in
    l.invariant ∙ put-next c.args.names.now l.i c.args.end c.loop-i-test.true c.requires 1 l.held ∙ rw (c.store.ensures, c.word.ensures.is)

pub returns : goal.returns
returns c =
    let l = c.loop-i in
    sym (l.invariant ∙ put-all c.args.names.now l.i c.args.end c.loop-i-test.false 1 l.held)
