-- Definitions that call themselves, marked node by node.
use mathlib.Core.Path.{◌≡◌, refl, sym, ap, ◌∙◌}
use mathlib.Core.Bool.{Bool, true, false, ◌&&◌, ◌||◌}
use mathlib.Core.List.{List, [], ◌∷◌, ◌++◌}
use Prim.Native.Nat.{ℕ, suc, ◌+◌, ◌<◌}
use native.Mathlib.Decide.{ℕ_discrete}
use native.Mathlib.Omega.{arith}
use lib.ListN.{length, set}
use lib.Seq.{get_or-set_same, get_or-set_other}
use Rattle.lists.specs.Lists.{pick, same, word, range, some}
use Rattle.lists.proofs.Tests.{or-false, or-true, or_assoc, same-yes, same-no}
use Rattle.lists.proofs.Ranges.{from-snoc}
use Rattle.scheme.specs.Words.{nodes}
use Rattle.rewriting.specs.Rewriting.{is_self_calling}
use Rattle.rewriting.specs.Inner.Belonging.{Bodies}
use Rattle.rewriting.specs.Inner.Copying.{self_call, called_by_itself}

some-snoc : (p : ℕ → Bool) (xs : List ℕ) (y : ℕ) → some p (xs ++ (y ∷ [])) ≡ (some p xs || p y)
unfolding some
some-snoc p [] y = or-false (p y)
some-snoc p (x ∷ xs) y = ap (λ (b : Bool). p x || b) (some-snoc p xs y) ∙ sym (or_assoc (p x) (some p xs) (p y))

module _ (w defs : List ℕ) (n d : ℕ) where
  called-next : called_by_itself w defs (range (n + 1)) d ≡ (called_by_itself w defs (range n) d || (self_call w defs n && same (word defs n) d))
  unfolding called_by_itself
  called-next =
      let e : n + 1 ≡ suc n = omega arith in
      let z : 0 + n ≡ n = omega arith in
      rw (e, from-snoc 0 n, z) (some-snoc (λ m. self_call w defs m && same (word defs m) d) (range n) n)

  -- one node more
  pub mark-next : (marks after : List ℕ) (v : ℕ) → d < length marks → after ≡ pick (self_call w defs n) (set marks (word defs n) 1) marks
      → word marks d ≡ pick (called_by_itself w defs (range n) d) 1 v → word after d ≡ pick (called_by_itself w defs (range (n + 1)) d) 1 v
  mark-next marks after v l e h = rw (e, called-next) (go (self_call w defs n) (ℕ_discrete d (word defs n)))
    where
      go : (b : Bool) → Dec (d ≡ word defs n)
          → word (pick b (set marks (word defs n) 1) marks) d ≡ pick (called_by_itself w defs (range n) d || (b && same (word defs n) d)) 1 v
      go false x = rw (or-false (called_by_itself w defs (range n) d)) h
      go true (yes p) = rw (same-yes (word defs n) d (sym p), or-true (called_by_itself w defs (range n) d), ← p) (get_or-set_same marks d 1 0 l)
      go true (no p) =
          rw (same-no (word defs n) d (λ q. p (sym q)), or-false (called_by_itself w defs (range n) d))
          (get_or-set_other marks (word defs n) d 1 0 p ∙ h)

  pub mark-length : (marks after : List ℕ) → after ≡ pick (self_call w defs n) (set marks (word defs n) 1) marks → length after ≡ length marks
  mark-length marks after e = rw e (go (self_call w defs n))
    where
      go : (b : Bool) → length (pick b (set marks (word defs n) 1) marks) ≡ length marks
      go true = lib.ListN.length-set marks (word defs n) 1
      go false = refl

-- by the definitions of all nodes
pub self-call : (w defs : List ℕ) → Bodies w defs → (n : ℕ) → n < nodes w → self_call w defs n ≡ is_self_calling w n
unfolding self_call is_self_calling
self-call w defs b n l = rw (b n l)
