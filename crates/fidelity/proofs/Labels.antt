-- The labels of descriptions name their steps, and what the plain process does at each.
use Prim.Native.Nat.{ℕ}
use mathlib.Core.Path.{◌≡◌}
use mathlib.Core.Logic.{◌≢◌}
use mathlib.Core.Bool.{true, not}
use Rattle.lists.specs.Lists.{same}
use Rattle.lists.proofs.Tests.{same_self, same-no, pick_true}
use Rattle.scheme.specs.Scheme.{Scheme, new, call, silent, send, receive}
use Rattle.process.specs.States.{State}
use Rattle.process.specs.Steps as Steps
use Rattle.process.specs.Steps.{new_step, silent_step, communication, step_call, no_step, silently, newly, calling, meeting}
use Rattle.process.specs.Labels.{step_of}
use Rattle.net.specs.Image.{label_of}
use Rattle.fidelity.specs.Inner.Standing.{advanced}

module _ (S : Scheme) where
  pub new-named : (n r l : ℕ) → S.node n ≡ new r l → step_of S 2 n r ≡ new_step n
  unfolding step_of same
  new-named n r l h = rw h (pick_true (new_step n) no_step (same_self r))

  pub silent-named : (b l : ℕ) → S.branch b ≡ silent l → step_of S 3 b 0 ≡ silent_step b
  unfolding step_of same
  silent-named b l h = rw h

  pub call-named : (n d : ℕ) → S.node n ≡ call d → step_of S 5 n 0 ≡ step_call n
  unfolding step_of same
  call-named n d h = rw h

  pub communication-named : (b a z l r e y m : ℕ) → S.branch b ≡ send a z l → S.branch r ≡ receive e y m → S.thread (S.home b) ≢ S.thread (S.home r)
      → step_of S 4 b r ≡ communication b r
  unfolding step_of same
  communication-named b a z l r e y m hs hr df = rw (hs, hr) (pick_true (communication b r) no_step apart)
    where
      apart : not (same (S.thread (S.home b)) (S.thread (S.home r))) ≡ true
      apart = rw (same-no (S.thread (S.home b)) (S.thread (S.home r)) df)

  -- ---- what the plain process does

  pub new-advanced : (n r l : ℕ) (s : State) → S.node n ≡ new r l → advanced S (label_of 2 n r) s ≡ newly S (S.thread n) r l s
  unfolding Steps.take
  new-advanced n r l s h = rw (new-named n r l h, h)

  pub silent-advanced : (b l : ℕ) (s : State) → S.branch b ≡ silent l → advanced S (label_of 3 b 0) s ≡ silently S (S.thread (S.home b)) l s
  unfolding Steps.take
  silent-advanced b l s h = rw (silent-named b l h, h)

  pub call-advanced : (n d : ℕ) (s : State) → S.node n ≡ call d → advanced S (label_of 5 n 0) s ≡ calling S n d s
  unfolding Steps.take
  call-advanced n d s h = rw (call-named n d h, h)

  pub communication-advanced : (b a z l r e y m : ℕ) (s : State) → S.branch b ≡ send a z l → S.branch r ≡ receive e y m
      → S.thread (S.home b) ≢ S.thread (S.home r) → advanced S (label_of 4 b r) s ≡ meeting S (S.thread (S.home b)) z l (S.thread (S.home r)) y m s
  unfolding Steps.take
  communication-advanced b a z l r e y m s hs hr df = rw (communication-named b a z l r e y m hs hr df, hs, hr)
