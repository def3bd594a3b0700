-- A loop over numbers with one transition for each: one turn, and the end. `all` is what the whole loop writes, s are the heads where number i is due.
use mathlib.Core.Path.{◌≡◌, sym, ap, subst, ◌∙◌}
use mathlib.Core.List.{[], ◌∷◌, ◌++◌}
use Prim.Native.Nat.{ℕ, ◌+◌, ◌-◌, ◌≤◌, ◌<◌}
use Rattle.lists.specs.Lists.{from}
use Rattle.lists.proofs.Ranges.{from_more, from-done}
use Rattle.net.specs.Net.{Transition}
use Rattle.builder.specs.Inner.Writing.{Heads, put_one_transition, put_all, Inside}
use Rattle.builder.proofs.Writing.{put-none, put-cons, inside-first}

module _ (f : ℕ → Transition) (all s : Heads) (i count : ℕ) (left : all ≡ put_all f s (from i (count - i))) where
  pub turns-done : count ≤ i → s ≡ all
  turns-done h = sym (left ∙ rw (from-done i count h) (put-none f s))

  -- turn i writes t
  module _ (h : i < count) (t : Transition) (is : t ≡ f i) where
    split : all ≡ put_all f s ((i ∷ []) ++ from (i + 1) (count - (i + 1)))
    split = left ∙ rw (from_more i count h)

    pub turn_inside : Inside all → Inside (put_one_transition s t)
    turn_inside k =
        subst Inside (put-cons f s i [] ∙ put-none f (put_one_transition s (f i)) ∙ ap (put_one_transition s) (sym is))
        (inside-first f s (i ∷ []) (from (i + 1) (count - (i + 1))) (subst Inside split k))

    pub turn_more : (u : Heads) → u ≡ put_one_transition s t → all ≡ put_all f u (from (i + 1) (count - (i + 1)))
    turn_more u e =
        split ∙ put-cons f s i (from (i + 1) (count - (i + 1)))
        ∙ ap (λ (v : Heads). put_all f v (from (i + 1) (count - (i + 1)))) (ap (put_one_transition s) (sym is) ∙ sym e)
