-- The start: its configuration is well-formed and shows the starting state, and the places initially marked are its marking.
use Prim.Native.Nat.{ℕ, ◌+◌, ◌≤◌, ◌<◌}
use mathlib.Core.Path.{◌≡◌, refl, sym, ap, ◌∙◌}
use mathlib.Core.Logic.{inl}
use mathlib.Core.Bool.{Bool, true, false, ◌&&◌, false≢true}
use mathlib.Core.Option.{none, some}
use mathlib.Core.List.{[]}
use native.Mathlib.Decide.{dec_le}
use native.Mathlib.Omega.{arith}
use lib.Dec.{ltb}
use borrow.Author.Tests.{lt-ltb, le-ltb, ltb-true}
use Rattle.lists.specs.Lists as Lists
use Rattle.lists.specs.Lists.{pick, same, range, member}
use Rattle.lists.proofs.Tests.{not-true-false, both_ways, and_left, and_right, and_intro, same_true, same-yes, same-sym}
use Rattle.scheme.specs.Scheme.{Scheme}
use Rattle.scheme.specs.Kinds.{is_stop_node}
use Rattle.table.specs.Accepted.{NameOf, Accepted}
use Rattle.process.specs.States.{start, value_of}
use Rattle.places.specs.Values.{Values}
use Rattle.places.specs.Places.{Place, equals, differs, free, control, is_initial}
use Rattle.readback.specs.Configurations.{spot}
use Rattle.fidelity.specs.Inner.Marks.{is_held, mark, Exists, exists-equals, exists-differs, WellFormed}
use Rattle.fidelity.specs.Inner.Standing.{source, shown, Shows}
use Rattle.fidelity.specs.Inner.Starting.{start_configuration}
use Rattle.fidelity.proofs.Basics.{none-some}
use Rattle.readback.proofs.Elements.{some-element, element-some, element-member, member-element}
use Rattle.fidelity.proofs.Tables.{no-thread}
use Rattle.fidelity.proofs.Firing.{used-none}
use Rattle.fidelity.proofs.Shapes.{held_first, place-first}
use Rattle.fidelity.proofs.Shown.{source_first}
use Rattle.fidelity.proofs.Alike.{alike_from, alike_self}
use Rattle.fidelity.proofs.Following.{node-first}
use Rattle.fidelity.proofs.Listed.{below-range, range-below}

module _ (S : Scheme) (U : Values) (A : Accepted S) where
  -- the node at which a thread starts
  abbrev first : ℕ → ℕ
  first θ = S.root (S.entry θ)

  bound-none : (x : ℕ) → S.publics ≤ x → (start S).value x ≡ none
  unfolding start
  bound-none x l = rw (le-ltb x S.publics l)

  public-self : (x : ℕ) → x < S.publics → (start S).value x ≡ some x
  unfolding start
  public-self x l = rw (lt-ltb x S.publics l)

  own_value : (x v : ℕ) → (start S).value x ≡ some v → (x < S.publics) × (x ≡ v)
  own_value x v h = go (dec_le S.publics x)
    where
      go : Dec (S.publics ≤ x) → (x < S.publics) × (x ≡ v)
      go (yes l) = absurd (none-some (bound-none x l) h)
      go (no n) = (omega arith, cc (public-self x (omega arith)))

  not-held : (x : ℕ) → is_held S (spot (first (S.thread_of_name x)) 0) x ≡ false
  unfolding member
  not-held x = held_first S U A (first (S.thread_of_name x)) x ∙ not-true-false (member x (S.held (first (S.thread_of_name x)))) never
    where
      never : member x (S.held (first (S.thread_of_name x))) ≡ true → ⊥
      never m =
          let nm : NameOf S (S.thread (first (S.thread_of_name x))) x = A.held-name (first (S.thread_of_name x)) x m in
          let l : S.thread_of_name x < S.threads = rw nm.of (A.thread-inside (first (S.thread_of_name x))) in
          let e : S.held (first (S.thread_of_name x)) ≡ []
          = A.root-held (S.entry (S.thread_of_name x)) (A.entry-inside (S.thread_of_name x) l) ∙ A.entry-formals (S.thread_of_name x) l in
          false≢true (rw e at m)

  pub start-formed : WellFormed S U (start_configuration S)
  start-formed = record {
    stands = λ θ l. (A.entry-thread θ l, place-first S U A (first θ) (A.root-inside (S.entry θ) (A.entry-inside θ l)));
    publics = public-self;
    held = λ x l. rw (bound-none x l) (sym (not-held x));
    allowed = λ x v l h. absurd (none-some (bound-none x l) h);
    apart = λ r s v a b p q. absurd (none-some (bound-none r (A.restricted-bound r a).0) p);
  }

  start-shown : (x : ℕ) → shown S (start_configuration S) x ≡ (start S).value x
  start-shown x = go (ltb (S.thread_of_name x) S.threads) refl
    where
      end : (b : Bool) → (start S).value x ≡ none → value_of (start S).value (pick b none (some x)) ≡ (start S).value x
      end true e = sym e
      end false e = refl

      bound : S.thread_of_name x < S.threads → Dec (S.publics ≤ x) → S.publics ≤ x
      bound l (yes p) = p
      bound l (no n) = let a : S.threads ≤ S.thread_of_name x = no-thread S A x (inl (omega arith)) in absurd (omega arith)

      go : (b : Bool) → ltb (S.thread_of_name x) S.threads ≡ b
          → value_of (start S).value (pick b (source S (spot (first (S.thread_of_name x)) 0) x) (some x)) ≡ (start S).value x
      go true e =
          rw (source_first S U A (first (S.thread_of_name x)) x)
          (end (is_stop_node (S.node (first (S.thread_of_name x)))) (bound-none x (bound (ltb-true (S.thread_of_name x) S.threads e) (dec_le S.publics x))))
      go false e = refl

  pub start-shows : Shows S U (start_configuration S) (start S)
  unfolding start
  start-shows = record {
    formed = start-formed;
    sourced = record { origin = λ v. 0; stems = λ x v l h. let (m, e) = own_value x v h in absurd (omega arith) };
    nodes = λ θ. node-first S U A (first θ);
    alike = alike_from (start S).value (shown S (start_configuration S)) (start S).value start-shown (alike_self (start S).value);
    public = public-self;
    fresh = λ x v h. let (l, e) = own_value x v h in omega arith;
  }

  -- ---- the places initially marked

  initial-control : (n k : ℕ) → is_initial S U (control n k) ≡ mark S (start_configuration S) (control n k)
  initial-control n k = both_ways (is_initial S U (control n k)) (same (first (S.thread n)) n && same 0 k) there back
    where
      starts : ℕ → Bool
      starts t = same n (first t)

      there : (same k 0 && Lists.some starts (range S.threads)) ≡ true → (same (first (S.thread n)) n && same 0 k) ≡ true
      there h =
          let (t, i, q) = some-element starts (range S.threads) (and_right (same k 0) (Lists.some starts (range S.threads)) h) in
          let l : t < S.threads = range-below t S.threads (element-member (range S.threads) i) in
          let e : n ≡ first t = same_true n (first t) q in
          let o : S.thread n ≡ t = ap (λ (m : ℕ). S.thread m) e ∙ A.entry-thread t l in
          and_intro (same (first (S.thread n)) n) (same 0 k) (same-yes (first (S.thread n)) n (rw o (sym e)))
          (same-sym 0 k ∙ and_left (same k 0) (Lists.some starts (range S.threads)) h)

      back : (same (first (S.thread n)) n && same 0 k) ≡ true → (same k 0 && Lists.some starts (range S.threads)) ≡ true
      back h =
          and_intro (same k 0) (Lists.some starts (range S.threads)) (same-sym k 0 ∙ and_right (same (first (S.thread n)) n) (same 0 k) h)
          (element-some starts (range S.threads)
          (member-element (S.thread n) (range S.threads) (below-range (S.thread n) S.threads (A.thread-inside n)))
          (same-sym n (first (S.thread n)) ∙ and_left (same (first (S.thread n)) n) (same 0 k) h))

  pub initial-marks : (p : Place) → Exists S U p → is_initial S U p ≡ mark S (start_configuration S) p
  initial-marks (equals x v) (exists-equals lo hi al) = rw (bound-none x lo)
  initial-marks (differs x v) (exists-differs lo hi nr pv al) = rw (bound-none x lo)
  initial-marks (free v) e =
      rw (used-none S U (start S).value v (S.publics + S.bounds) (λ r hr q. none-some (bound-none r (A.restricted-bound r hr).0) q))
  initial-marks (control n k) e = initial-control n k
