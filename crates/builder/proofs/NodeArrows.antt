-- The arrows of silent branches and calls as the code makes them, and what each kind of node writes.
use mathlib.Core.Path.{◌≡◌, ap, refl, sym}
use mathlib.Core.Bool.{Bool, true, false}
use mathlib.Core.List.{List, [], ◌∷◌, map}
use Prim.Native.Nat.{ℕ, ◌+◌, ◌-◌, ◌<◌}
use native.Mathlib.Omega.{arith}
use lib.Dec.{ltb}
use Rattle.lists.specs.Lists.{pick, from, flat}
use Rattle.lists.proofs.Tests.{same-no}
use Rattle.scheme.specs.Words.{publics, nodes, branches, node_kind, node_first, node_second, branch_kind, next, channel, branch_name, is_send, is_receive}
use Rattle.scheme.specs.Owners.{held}
use Rattle.scheme.specs.Scheme.{Scheme, call, absent, send, receive, next_node, branch_at, scheme}
use Rattle.table.specs.Causes.{cause}
use Rattle.table.proofs.Accepted.{accepted}
use Rattle.places.specs.Values.{Values}
use Rattle.places.specs.Places.{control}
use Rattle.places.specs.Rows.{number_of, Exists}
use Rattle.places.specs.Transitions.{Description, releases, silents, going, calling, from_node_descriptions}
use Rattle.places.specs.Inner.Plan.{today, privates_word, control_of}
use Rattle.builder.specs.Inner.Parts.{Chained, of_table, made, arrow}
use Rattle.builder.specs.declared.chain.Chain.{Chain}
use Rattle.places.proofs.Explicit.{going-inputs, going-outputs, calling-inputs, calling-outputs}
use Rattle.places.proofs.Controls.{nodes-are, publics-are}
use Rattle.builder.proofs.Chains.{controls-some, has-place, next_place, own-number}
use Rattle.places.proofs.ByWords.{stop-node, choice-node, new-node, call-node, held_of, silent-branch}

-- the transitions of a branch if it is silent, and those of a node
abbrev pub silents_at : List ℕ → ℕ → ℕ → List Description
silents_at w n b = silents (scheme w) (today w) n b ((scheme w).branch b)

abbrev pub node_all : List ℕ → ℕ → List Description
node_all w n = from_node_descriptions (scheme w) (today w) n ((scheme w).node n)

module _ (w : List ℕ) where
  abbrev S : Scheme
  S = scheme w

  abbrev U : Values
  U = today w

  pub first-place : (n : ℕ) → n < nodes w → Exists S U (control n 0)
  first-place n l = has-place w n 0 l (controls-some S n)

  pub first-number : (n x : ℕ) → x ≡ control_of w n → number_of S U (control n 0) ≡ x
  first-number n x e = omega (arith, e)

  -- ---- "Choice: each silent branch."

  pub going-arrow : (n b l x y : ℕ) → n < nodes w → l < nodes w → x ≡ control_of w n → y ≡ control_of w l
      → of_table w (going S U n b l) ≡ arrow 3 b 0 (x ∷ []) (y ∷ [])
  going-arrow n b l x y h k e f =
      rw (going-inputs S U n b l (first-place n h), going-outputs S U n b l (first-place l k), first-number n x e, first-number l y f)

  pub silent-none : (n b : ℕ) → (branch_kind w b ≡ 0 → ⊥) → silents S U n b (S.branch b) ≡ []
  unfolding scheme branch_at
  silent-none n b d = rw (same-no (branch_kind w b) 0 d) (go (ltb b (branches w)) (is_send w b) (is_receive w b))
    where
      go : (p q r : Bool)
          → silents S U n b
          (pick p (pick q (send (channel w b) (branch_name w b) (next w b)) (pick r (receive (channel w b) (branch_name w b) (next w b)) absent)) absent)
          ≡ []
      go true true r = refl
      go true false true = refl
      go true false false = refl
      go false q r = refl

  module _ (h : cause w ≡ 0) (b : ℕ) (l : b < branches w) (e : branch_kind w b ≡ 0) where
    pub silent-one : (n : ℕ) → silents S U n b (S.branch b) ≡ going S U n b (next w b) ∷ []
    silent-one n = rw (silent-branch w h b l e)

    pub silent-inside : next w b < nodes w
    silent-inside =
        let s = silent-branch w h b l e in
        let i : next_node (S.branch b) < S.nodes = (accepted w h).next-inside b (rw s refl) in
        omega (arith, rw s at i, nodes-are w)

  -- ---- "Call: one transition on"

  pub calling-arrow : (c : Chain) (h : Chained w c) → 0 < c.controls → (y : ℕ) → y ≡ pick (ltb (0 + 1) c.controls) (c.first + 0 + 1) c.last
      → of_table w (calling S U c.node c.to) ≡ arrow 5 c.node 0 (c.first ∷ []) (y ∷ [])
  calling-arrow c h i y e =
      let p = next_place w c h 0 i in
      let z : c.first + 0 ≡ c.first = omega arith in
      rw (
        calling-inputs S U c.node c.to (first-place c.node h.node-inside),
        calling-outputs S U c.node c.to p.place p.goes p.there,
        own-number w c h 0 i,
        z,
        p.number,
        sym e,
      )

-- ---- "By node"

module _ (w : List ℕ) (h : cause w ≡ 0) (n : ℕ) (l : n < nodes w) where
  pub all-stop : node_kind w n ≡ 0 → node_all w n ≡ releases (scheme w) (today w) n n 0 (held w n)
  all-stop e = rw (stop-node w h n l e, held_of w h n)

  pub all-choice : (f c : ℕ) → node_kind w n ≡ 1 → f ≡ node_first w n → c ≡ node_second w n → node_all w n ≡ flat (silents_at w n) (from f (f + c - f))
  all-choice f c e a b =
      let s : f + c - f ≡ c = omega arith in
      rw (choice-node w h n l e, s, a, b)

  pub all_new : node_kind w n ≡ 2 → node_all w n ≡ map (made w n) (from (publics w) (privates_word w))
  all_new e = rw (new-node w h n l e) (ap (λ (p : ℕ). map (made w n) (from p (privates_word w))) (publics-are w))

  pub all-call : node_kind w n ≡ 3 → node_all w n ≡ from_node_descriptions (scheme w) (today w) n (call (node_first w n))
  all-call e = rw (call-node w h n l e)
