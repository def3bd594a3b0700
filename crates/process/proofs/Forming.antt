-- A name in a list, and the names that a node holds, as they are read.
use mathlib.Core.Path.{◌≡◌, refl, ◌∙◌}
use mathlib.Core.Bool.{false}
use mathlib.Core.List.{List, [], ◌∷◌}
use Prim.Native.Nat.{ℕ, ◌+◌, ◌≤◌, ◌<◌}
use native.Mathlib.Omega.{arith}
use lib.Dec.{eqb}
use lib.ListN.{length, take, replicate, length-replicate}
use lib.Seq.{length-sets, take-append_seam}
use Rattle.std.specs.List.{list_any}
use Rattle.lists.specs.Lists.{same, member}
use Rattle.lists.proofs.Tests.{same-sym}
use Rattle.lists.proofs.Counts.{distinct-below}
use Rattle.scheme.specs.Words.{nodes}
use Rattle.scheme.specs.Index.{held_at, HeldNames}
use Rattle.scheme.specs.Scheme.{scheme}
use Rattle.table.proofs.Accepted.{accepted}
use Rattle.table.proofs.Lookup.{held-right}
use Rattle.table.specs.Known.{Known}
use Rattle.process.proofs.Sets.{sets-whole}

-- ---- a name in a list

pub member_any : (x : ℕ) (ys : List ℕ) → member x ys ≡ list_any (λ y. eqb y x) ys
unfolding member same
member_any x [] = refl
member_any x (y ∷ ys) = rw (same-sym x y, member_any x ys)

-- ---- held names

module _ (w index : List ℕ) (K : Known w index) where
  few-held : (n : ℕ) → length ((scheme w).held n) ≤ 64
  few-held n =
      let A = accepted w K.accepted in
      let k = distinct-below ((scheme w).held n) ((scheme w).publics + (scheme w).bounds) (λ x m. (A.held-name n x m).high) (A.held-distinct n) in
      omega (arith, A.few-publics, A.few-bounds)

  pub few-nodes : nodes w ≤ 256
  unfolding scheme
  few-nodes = (accepted w K.accepted).few-nodes

  pub none-held : (n x : ℕ) → nodes w ≤ n → false ≡ member x ((scheme w).held n)
  unfolding scheme member
  none-held n x h = rw ((accepted w K.accepted).held-inside n h)

  module _ (n r : ℕ) (after : List ℕ) (h : n < nodes w) (H : HeldNames (held_at w index n) (replicate 64 0) r after) where
    held-here : held_at w index n ≡ (scheme w).held n
    held-here = held-right w K.accepted index K.right n h

    names-fit : length (held_at w index n) ≤ length (replicate {A = ℕ} 64 0)
    names-fit = rw (held-here, length-replicate {A = ℕ} 64 0) (few-held n)

    pub held-count-fits : r ≤ length after
    held-count-fits = rw (H.count, H.written, length-sets (replicate 64 0) 0 (held_at w index n)) names-fit

    pub held-listed : take r after ≡ (scheme w).held n
    held-listed = rw (H.count, H.written, sets-whole (replicate 64 0) (held_at w index n) names-fit) (take-append_seam (held_at w index n) _ ∙ held-here)
