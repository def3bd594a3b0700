-- Where each thread has one marked control place, a name is held at some thread's place exactly where it is held at its own thread's.
use mathlib.Core.Path.{◌≡◌, refl, sym, ap, ◌∙◌}
use mathlib.Core.Logic.{◌⊎◌, inl, inr}
use mathlib.Core.Bool.{Bool, true, false}
use mathlib.Core.List.{List, [], ◌++◌}
use Prim.Native.Nat.{ℕ, zero, suc, ◌+◌, ◌-◌, ◌≤◌, ◌<◌}
use native.Mathlib.Decide.{ℕ_discrete}
use native.Mathlib.Omega.{arith}
use lib.ListN.{length, take, drop, replicate, length-append, length-map}
use Rattle.lists.specs.Lists.{pick, bit, same, word, from, range, member}
use Rattle.lists.proofs.Tests.{both_ways, same_true}
use Rattle.lists.proofs.Ranges.{from_member, member-from, every-at, every-same}
use Rattle.lists.proofs.Members.{append-member, member-take, member-drop, member-flat, flat-member}
use Rattle.scheme.specs.Words.{publics, names, threads, nodes}
use Rattle.scheme.specs.Scheme.{Scheme, Node, stop, choice, new, call, scheme}
use Rattle.table.specs.Accepted.{Accepted}
use Rattle.table.specs.Causes.{cause}
use Rattle.table.proofs.Accepted.{accepted}
use Rattle.net.specs.Firing.{put}
use Rattle.places.specs.Reach.{values_for}
use Rattle.places.specs.Places.{controls}
use Rattle.places.specs.Rows.{control_start}
use Rattle.places.proofs.Controls.{publics-are, bounds-are}
use Rattle.readback.specs.Configurations.{Spot, spot, held_at, held_here}
use Rattle.readback.specs.Inner.Hits.{hits}
use Rattle.readback.specs.Inner.Standing.{first_of, spots_on, spots_below, spots_at, spots_right, values_at, value_right, values_right, held_bit}
use Rattle.readback.specs.Inner.Noting.{SpotsFound}
use Rattle.readback.specs.Inner.Showing.{AtNodes, spot_at}
use Rattle.readback.specs.Inner.Holding.{held_all}
use Rattle.readback.proofs.Noting.{below_next, below_none, first-left, first-right, first-map}
use Rattle.readback.proofs.Marking.{put_word}

module _ (S : Scheme) (m : List ℕ) where
  -- the first marked control place of a thread is of a node of that thread
  abbrev Own : ℕ → ℕ → Spot → Type 0
  Own n t p = (p.node < n) × (S.thread p.node ≡ t)

  first-own : (n t : ℕ) → (length (spots_below S m n t) ≡ 0 → ⊥) → Own n t (first_of (spots_below S m n t))
  first-own zero t h = absurd (h (ap (λ (l : List Spot). length l) (below_none S m t)))
  first-own (suc n) t h = let e : suc n ≡ n + 1 = omega arith in rw (e, below_next S m n t) (go (ℕ_discrete (length (spots_below S m n t)) 0) (first-own n t))
    where
      here : (b : Bool) → same (S.thread n) t ≡ b → (length (pick b (spots_on S m n) []) ≡ 0 → ⊥) → Own (n + 1) t (first_of (pick b (spots_on S m n) []))
      here true q k =
          rw (first-map n (hits m (control_start S (values_for S) n) (controls S n))
          (λ z. k (length-map (hits m (control_start S (values_for S) n) (controls S n)) (spot n) ∙ z)))
          (omega arith, same_true (S.thread n) t q)
      here false q k = absurd (k refl)

      more : length (spots_below S m n t) ≡ 0 → length (pick (same (S.thread n) t) (spots_on S m n) []) ≡ 0 → ⊥
      more z k =
          h (let e : suc n ≡ n + 1 = omega arith in
          rw (e, below_next S m n t, length-append (spots_below S m n t) (pick (same (S.thread n) t) (spots_on S m n) [])) (omega (arith, z, k)))

      go : Dec (length (spots_below S m n t) ≡ 0) → ((length (spots_below S m n t) ≡ 0 → ⊥) → Own n t (first_of (spots_below S m n t)))
          → Own (n + 1) t (first_of (spots_below S m n t ++ pick (same (S.thread n) t) (spots_on S m n) []))
      go (yes z) ih =
          rw (first-right (spots_below S m n t) (pick (same (S.thread n) t) (spots_on S m n) []) z) (here (same (S.thread n) t) refl (more z))
      go (no d) ih =
          let o = ih d in
          rw (first-left (spots_below S m n t) (pick (same (S.thread n) t) (spots_on S m n) []) d) (omega (arith, o.0), o.1)

  pub own-spot : spots_right S m ≡ true → (t : ℕ) → t < S.threads → Own S.nodes t (first_of (spots_at S m t))
  unfolding spots_right
  own-spot h t l =
      let e : length (spots_at S m t) ≡ 1
      = same_true (length (spots_at S m t)) 1
      (every-at (λ t. same (length (spots_at S m t)) 1) 0 S.threads h t (omega arith) (omega arith)) in
      first-own S.nodes t (λ z. omega (arith, e, z))

-- a name held at a control place is of the node's thread
module _ (S : Scheme) (A : Accepted S) where
  pub held-thread : (p : Spot) (x : ℕ) → member x (held_here S p) ≡ true → S.thread_of_name x ≡ S.thread p.node
  held-thread p x = go (S.node p.node) refl
    where
      own : member x (S.held p.node) ≡ true → S.thread_of_name x ≡ S.thread p.node
      own h = (A.held-name p.node x h).of

      go : (ν : Node) → S.node p.node ≡ ν → member x (held_at S ν p) ≡ true → S.thread_of_name x ≡ S.thread p.node
      go stop e h = own (member-drop x p.index (S.held p.node) h)
      go (choice f c) e h = own h
      go (new r l) e h = own h
      go (call d) e h =
          either (append-member x (take (p.index - 1) (S.formals d)) (drop (p.index - suc (length (S.formals d))) (S.held p.node)) h)
        where
          either : (member x (take (p.index - 1) (S.formals d)) ≡ true)
              ⊎ (member x (drop (p.index - suc (length (S.formals d))) (S.held p.node)) ≡ true)
              → S.thread_of_name x ≡ S.thread p.node
          either (inl i) = (A.formal-name d x (member-take x (p.index - 1) (S.formals d) i)).of ∙ A.call-thread p.node d e
          either (inr i) = own (member-drop x (p.index - suc (length (S.formals d))) (S.held p.node) i)

module _ (w m places indexes : List ℕ) (ok : cause w ≡ 0) (right : spots_right (scheme w) m ≡ true) (found : SpotsFound w m places indexes) where
  abbrev S : Scheme
  S = scheme w

  owned : (t : ℕ) → t < threads w → (word places t < nodes w) × (S.thread (word places t) ≡ t)
  unfolding scheme
  owned t l = let o = own-spot S m right t l in let q = sym (ap (λ (p : Spot). p.node) (found t l)) in rw q at o

  pub at-nodes : AtNodes w places
  at-nodes t l = (owned t l).0

  held-own : (x : ℕ) → publics w ≤ x → x < names w → member x (held_all w places indexes) ≡ member x (held_here S (spot_at places indexes (S.thread_of_name x)))
  unfolding held_all scheme
  held-own x lo hi =
      both_ways (member x (held_all w places indexes)) (member x (held_here S (spot_at places indexes (S.thread_of_name x)))) forth back
    where
      inside : S.thread_of_name x < threads w
      inside = (accepted w ok).name-thread x lo hi

      back : member x (held_here S (spot_at places indexes (S.thread_of_name x))) ≡ true → member x (held_all w places indexes) ≡ true
      back h =
          member-flat (λ t. held_here S (spot_at places indexes t)) x (S.thread_of_name x) (range (threads w))
          (member-from (S.thread_of_name x) 0 (threads w) (omega arith) (omega (arith, inside))) h

      forth : member x (held_all w places indexes) ≡ true → member x (held_here S (spot_at places indexes (S.thread_of_name x))) ≡ true
      forth h =
          let s = flat-member (λ t. held_here S (spot_at places indexes t)) x (range (threads w)) h in
          let l : s.source < threads w = omega (arith, from_member s.source 0 (threads w) s.stands) in
          let e : S.thread_of_name x ≡ s.source = held-thread S (accepted w ok) (spot_at places indexes s.source) x s.gives ∙ (owned s.source l).1 in
          rw e s.gives

  thread-in : (x : ℕ) → publics w ≤ x → x < names w → S.thread_of_name x < threads w
  unfolding scheme
  thread-in x lo hi = (accepted w ok).name-thread x lo hi

  few-names : names w ≤ 64
  unfolding scheme
  few-names = omega (arith, (accepted w ok).few-publics, (accepted w ok).few-bounds)

  clear : (n x : ℕ) → word (replicate n 0) x ≡ 0
  clear zero x = refl
  clear (suc n) zero = refl
  clear (suc n) (suc x) = clear n x

  picked : (b : Bool) → pick b 1 0 ≡ bit b
  picked true = refl
  picked false = refl

  -- 1 for a held name
  held-bit : (x : ℕ) → publics w ≤ x → x < names w → word (put 1 (replicate 64 0) (held_all w places indexes)) x ≡ held_bit S m x
  held-bit x lo hi =
      put_word (held_all w places indexes) (replicate 64 0) x (omega (arith, few-names))
      ∙ rw (clear 64 x) (picked (member x (held_all w places indexes)))
      ∙ ap bit (held-own x lo hi ∙ ap (λ (p : Spot). member x (held_here S p)) (found (S.thread_of_name x) (thread-in x lo hi)))

  pub held-bits : (h : List ℕ) → h ≡ put 1 (replicate 64 0) (held_all w places indexes) → values_right S m (word h) ≡ values_right S m (held_bit S m)
  unfolding values_right
  held-bits h e =
      every-same (value_right S m (word h)) (value_right S m (held_bit S m)) (from S.publics S.bounds)
      (λ x i.
      let b = from_member x S.publics S.bounds i in
      ap (same (length (values_at S m x)))
      (ap (λ (l : List ℕ). word l x) e ∙ held-bit x (omega (arith, publics-are w)) (omega (arith, publics-are w, bounds-are w))))
