-- The names held at a control place, as the code lists them, and those held where the threads stand.
use mathlib.Core.Path.{◌≡◌, sym, ap, ◌∙◌}
use mathlib.Core.Logic.{◌⊎◌, inl, inr}
use mathlib.Core.Bool.{true, false}
use mathlib.Core.List.{List, ◌++◌}
use Prim.Native.Nat.{ℕ, suc, ◌+◌, ◌-◌, ◌≤◌, ◌<◌}
use native.Mathlib.Omega.{arith}
use lib.ListN.{length, take, drop}
use lib.Seq.{slice}
use Rattle.lists.specs.Lists.{word, same, from, flat}
use Rattle.lists.proofs.Tests.{true-or-false, same-yes, same_true, false-true}
use Rattle.lists.proofs.Ranges.{from-length, from_more, from-done}
use Rattle.scheme.specs.Words.{nodes, threads, node_kind, node_first, is_choice, is_new, formal_count, formals}
use Rattle.scheme.specs.Index.{held_at, HeldNames}
use Rattle.scheme.specs.Scheme.{Scheme, scheme}
use Rattle.net.specs.Firing.{put}
use Rattle.table.specs.Known.{Known}
use Rattle.places.proofs.ByWords.{stop-node, choice-node, new-node, call-node, other-call, formals-of, called-inside, held_of}
use Rattle.places.proofs.NodeCounts.{names-fit, names-taken}
use Rattle.readback.specs.Configurations.{spot, held_here}
use Rattle.readback.specs.Inner.Showing.{spot_at}
use Rattle.readback.specs.Inner.Holding.{held_all}
use Rattle.readback.proofs.Marking.{put-append}

module _ (w index : List ℕ) (K : Known w index) (n : ℕ) (l : n < nodes w) (k : ℕ) (before : List ℕ) (r : ℕ) (after : List ℕ)
    (H : HeldNames (held_at w index n) before r after) (room : 64 ≤ length before) where
  abbrev S : Scheme
  S = scheme w

  pub all_fit : r ≤ length after
  all_fit = names-fit w index K n l before r after H room

  taken : take r after ≡ S.held n
  taken = names-taken w index K n l before r after H room ∙ sym (held_of w K.accepted n)

  from_place : (i : ℕ) → slice i r after ≡ drop i (S.held n)
  from_place i = ap (drop i) taken

  pub held-stop : node_kind w n ≡ 0 → slice k r after ≡ held_here S (spot n k)
  held-stop e = rw (stop-node w K.accepted n l e) (from_place k)

  formals-length : node_kind w n ≡ 3 → length (S.formals (node_first w n)) ≡ formal_count w (node_first w n)
  unfolding formals
  formals-length e =
      ap (λ (xs : List ℕ). length xs) (formals-of w K.accepted (node_first w n) (called-inside w K.accepted n l e))
      ∙ from-length _ (formal_count w (node_first w n))

  pub held-call : node_kind w n ≡ 3
      → take (k - 1) (formals w (node_first w n)) ++ slice (k - (1 + formal_count w (node_first w n))) r after ≡ held_here S (spot n k)
  held-call e =
      let i : k - (1 + formal_count w (node_first w n)) ≡ k - suc (length (S.formals (node_first w n))) = omega (arith, formals-length e) in
      rw (
        call-node w K.accepted n l e,
        from_place (k - (1 + formal_count w (node_first w n))),
        i,
        formals-of w K.accepted (node_first w n) (called-inside w K.accepted n l e),
      )

  pub held-other : (node_kind w n ≡ 0 → ⊥) → (node_kind w n ≡ 3 → ⊥) → slice 0 r after ≡ held_here S (spot n k)
  held-other a b = go (true-or-false (is_choice w n)) (true-or-false (is_new w n))
    where
      go : (is_choice w n ≡ true) ⊎ (is_choice w n ≡ false) → (is_new w n ≡ true) ⊎ (is_new w n ≡ false) → slice 0 r after ≡ held_here S (spot n k)
      go (inl e) f = rw (choice-node w K.accepted n l (same_true (node_kind w n) 1 e)) (from_place 0)
      go (inr e) (inl f) = rw (new-node w K.accepted n l (same_true (node_kind w n) 2 f)) (from_place 0)
      go (inr e) (inr f) = absurd (b (other-call w K.accepted n l a (no 1 e) (no 2 f)))
        where
          no : (j : ℕ) → same (node_kind w n) j ≡ false → node_kind w n ≡ j → ⊥
          no j e q = false-true e (same-yes (node_kind w n) j q)

-- ---- thread by thread

module _ (w places indexes : List ℕ) where
  abbrev held_from : ℕ → ℕ → List ℕ
  held_from t n = flat (λ t. held_here (scheme w) (spot_at places indexes t)) (from t n)

  pub all_start : (m : List ℕ) (T : ℕ) → T ≡ threads w → put 1 m (held_all w places indexes) ≡ put 1 m (held_from 0 (T - 0))
  unfolding held_all
  all_start m T e = let q : T - 0 ≡ threads w = omega arith in rw q

  pub all_more : (m : List ℕ) (t T n k : ℕ) → t < T → n ≡ word places t → k ≡ word indexes t
      → put 1 m (held_from t (T - t)) ≡ put 1 (put 1 m (held_here (scheme w) (spot n k))) (held_from (t + 1) (T - (t + 1)))
  unfolding flat
  all_more m t T n k h e f =
      rw (from_more t T h, e, f) (put-append 1 m (held_here (scheme w) (spot_at places indexes t)) (held_from (t + 1) (T - (t + 1))))

  pub all_done : (m : List ℕ) (t T : ℕ) → T ≤ t → put 1 m (held_from t (T - t)) ≡ m
  unfolding flat put
  all_done m t T h = rw (from-done t T h)
