-- Chains of control places: where each place leads, and the arrows of releases as the code makes them.
use mathlib.Core.Path.{◌≡◌, refl, sym, ap, subst, ◌∙◌}
use mathlib.Core.Bool.{Bool, true, false}
use mathlib.Core.List.{List, [], ◌∷◌}
use Prim.Native.Nat.{ℕ, suc, ◌+◌, ◌≤◌, ◌<◌}
use native.Mathlib.Decide.{dec_lt}
use native.Mathlib.Omega.{arith}
use lib.Dec.{ltb}
use lib.ListN.{length}
use borrow.Author.Tests.{lt-ltb, le-ltb}
use Rattle.lists.specs.Lists.{pick}
use Rattle.scheme.specs.Words.{publics, names, nodes}
use Rattle.scheme.specs.Scheme.{Scheme, Node, stop, choice, new, call, scheme}
use Rattle.table.specs.Causes.{cause}
use Rattle.net.specs.Net.{Transition}
use Rattle.places.specs.Values.{Values}
use Rattle.places.specs.Places.{Place, equals, differs, free, control, controls_at, controls}
use Rattle.places.specs.Rows.{number_of, IsBound, IsPrivate, Exists, has-differs, has-free, has-control}
use Rattle.places.specs.Transitions.{Description, on, releasing}
use Rattle.places.specs.Inner.Arcs.{reached_places}
use Rattle.builder.specs.Inner.Writing
use Rattle.builder.specs.Inner.Writing.{put_one_transition, Inside}
use Rattle.places.specs.Inner.Plan.{today, privates_word, Holds, Differs}
use Rattle.builder.specs.Inner.Parts.{Chained, of_table, put, state, arrow}
use Rattle.builder.specs.declared.chain.Chain.{Chain}
use Rattle.builder.specs.declared.write.Heads.{Heads}
use Rattle.places.proofs.ReachRows.{private-reach}
use Rattle.places.proofs.ByKind.{on_chain, on-next, value-exists}
use Rattle.places.proofs.Names.{private-held, held-value}
use Rattle.places.proofs.Explicit.{releasing-inputs, releasing-gives, releasing-public}
use Rattle.builder.proofs.Writing.{put-cons, put-none, put-length}
use Rattle.places.proofs.Controls.{nodes-are, publics-are, bounds-are, control-few, control-last}

-- every node has a control place
pub controls-some : (S : Scheme) (n : ℕ) → 1 ≤ controls S n
unfolding controls
controls-some S n = go (S.node n)
  where
    go : (ν : Node) → 1 ≤ controls_at S n ν
    go stop = omega arith
    go (choice f c) = omega arith
    go (new r l) = omega arith
    go (call d) = omega arith

-- one transition written
pub put_one : (w out : List ℕ) (h : Heads) (d : Description) → put w out h (d ∷ []) ≡ put_one_transition (state out h) (of_table w d)
put_one w out h d = put-cons (of_table w) (state out h) d [] ∙ put-none (of_table w) (put_one_transition (state out h) (of_table w d))

module _ (w : List ℕ) where
  abbrev S : Scheme
  S = scheme w

  abbrev U : Values
  U = today w

  -- ---- which places there are

  pub bound-name : (x : ℕ) → publics w ≤ x → x < names w → IsBound S U x
  bound-name x l h = (omega (arith, publics-are w), omega (arith, publics-are w, bounds-are w))

  pub private-value : (v : ℕ) → publics w ≤ v → v < publics w + privates_word w → IsPrivate S U v
  private-value v l h = (omega (arith, publics-are w), omega (arith, publics-are w))

  pub has_value : (x v : ℕ) → Holds w x v → Exists S U (equals x v)
  has_value x v h = value-exists S U x v (bound-name x h.low h.high) h.value

  pub has-difference : (x v : ℕ) → Differs w x v → Exists S U (differs x v)
  has-difference x v h =
      has-differs {v = v} (bound-name x h.low h.high) h.free (private-value v h.private h.value)
      (private-reach S x v (omega (arith, publics-are w, h.private)) ∙ h.reads)

  pub has-free-value : (v : ℕ) → publics w ≤ v → v < publics w + privates_word w → Exists S U (free v)
  has-free-value v l h = has-free (private-value v l h)

  pub has-place : (n k : ℕ) → n < nodes w → k < controls S n → Exists S U (control n k)
  has-place n k l h = has-control {n = n} {k = k} (omega (arith, nodes-are w)) h

  -- ---- where place k of a chain leads

  pub record Next (c : Chain) (k : ℕ) : Type 0 where
    pub place : Place
    pub goes : reached_places S (on S c.node k c.to ∷ []) ≡ place ∷ []
    pub there : Exists S U place
    pub number : number_of S U place ≡ pick (ltb (k + 1) c.controls) (c.first + k + 1) c.last

  module _ (c : Chain) (h : Chained w c) (k : ℕ) (inside : k < c.controls) where
    pub next_place : Next c k
    next_place = go (dec_lt (k + 1) c.controls)
      where
        go : Dec (k + 1 < c.controls) → Next c k
        go (yes l) = record {
          place = control c.node (suc k);
          goes = on_chain S U c.node k c.to (omega (arith, h.controls-are));
          there = has-place c.node (suc k) h.node-inside (omega (arith, h.controls-are));
          number = rw (lt-ltb (k + 1) c.controls l) (omega (arith, h.first-is));
        }
        go (no l) = record {
          place = control c.to 0;
          goes = on-next S U c.node k c.to (omega (arith, h.controls-are));
          there = has-place c.to 0 h.to_inside (controls-some S c.to);
          number = rw (le-ltb (k + 1) c.controls (omega arith)) (omega (arith, h.last-is));
        }

    pub own-place : Exists S U (control c.node k)
    own-place = has-place c.node k h.node-inside (omega (arith, h.controls-are))

    pub own-number : number_of S U (control c.node k) ≡ c.first + k
    own-number = omega (arith, h.first-is)

    -- ---- "release z=v: take [z=v]; give [z≠v] (v private), or [*≠v] if z is restricted; on."

    module _ (ok : cause w ≡ 0) (z v : ℕ) (holds : Holds w z v) (a e : ℕ) (is-a : a ≡ number_of S U (equals z v))
        (is-e : e ≡ pick (ltb (k + 1) c.controls) (c.first + k + 1) c.last) where
      taken : (of_table w (releasing S U c.node c.to k z v)).inputs ≡ a ∷ (c.first + k) ∷ []
      taken = releasing-inputs S U c.node c.to k z v (has_value z v holds) own-place ∙ rw (is-a, own-number)

      pub release-public : v < publics w
          → of_table w (releasing S U c.node c.to k z v) ≡ arrow 1 c.node z (a ∷ (c.first + k) ∷ []) (e ∷ [])
      release-public l =
          let p = next_place in
          let o = releasing-public S U c.node k c.to p.place p.goes p.there z v (omega (arith, publics-are w)) in
          rw (taken, o, is-e, p.number)

      pub release-gives : (d : ℕ) → publics w ≤ v → d ≡ number_of S U (pick (S.restricted z) (free v) (differs z v))
          → of_table w (releasing S U c.node c.to k z v) ≡ arrow 1 c.node z (a ∷ (c.first + k) ∷ []) (d ∷ e ∷ [])
      release-gives d l is-d =
          let p = next_place in
          let o = releasing-gives S U c.node k c.to p.place p.goes p.there z v (there (S.restricted z) refl) in
          rw (taken, o, is-d, is-e, p.number)
        where
          u : v < publics w + privates_word w
          u = held-value w ok z v holds

          there : (b : Bool) → S.restricted z ≡ b → Exists S U (pick b (free v) (differs z v))
          there true r = has-free-value v l u
          there false r = has-difference z v record {
            low = holds.low;
            high = holds.high;
            free = r;
            reads = private-held w ok z v holds.value l;
            private = l;
            value = u;
          }

  module _ (h : cause w ≡ 0) (c : Chain) (k : Chained w c) where
    pub chain-few : (c.first + c.controls ≤ 65535) × (c.last < 65536)
    chain-few = (
      omega (arith, control-last w h c.node k.node-inside, k.first-is, k.controls-are),
      omega
          (arith, control-few w h c.to (omega (arith, k.to_inside)), k.last-is),
    )

-- ---- a transition that is known as an arrow

module _ (w out : List ℕ) (h : Heads) (d : Description) (t : Transition) (is : of_table w d ≡ t) where
  pub put_as : put w out h (d ∷ []) ≡ put_one_transition (state out h) t
  put_as = put_one w out h d ∙ ap (put_one_transition (state out h)) is

  pub put-from : (s : Writing.Heads) → s ≡ put_one_transition (state out h) t → s ≡ put w out h (d ∷ [])
  put-from s e = e ∙ sym put_as

  pub inside-as : Inside (put w out h (d ∷ [])) → Inside (put_one_transition (state out h) t)
  inside-as i = subst Inside put_as i

-- writing keeps the buffer's length
pub state-length : (w out after : List ℕ) (h r : Heads) (ds : List Description) → state after r ≡ put w out h ds → length after ≡ length out
state-length w out after h r ds e = ap (λ (s : Writing.Heads). length s.out) e ∙ put-length (of_table w) (state out h) ds
