-- A firing that is no bookkeeping takes an open step; and where the threads of an open step stand at the first places of its nodes, it can be fired.
use Prim.Native.Nat.{ℕ, ◌+◌, ◌≤◌, ◌<◌}
use mathlib.Core.Path.{◌≡◌, refl, sym, ◌∙◌}
use mathlib.Core.Logic.{◌≢◌, inl, inr}
use mathlib.Core.Bool.{Bool, true, false, ◌&&◌, true≢false}
use mathlib.Core.Option.{some}
use mathlib.Core.List.{[], ◌∷◌}
use native.Mathlib.Decide.{dec_le, dec_lt}
use native.Mathlib.Omega.{arith}
use lib.Dec.{ltb}
use borrow.Author.Tests.{lt-ltb, le-ltb}
use Rattle.lists.specs.Lists.{pick, same, from, member}
use Rattle.lists.proofs.Tests.{or_right, same_self, same_true, same-no}
use Rattle.lists.proofs.Ranges.{member-from}
use Rattle.scheme.specs.Scheme.{Scheme, choice, new, send, receive}
use Rattle.table.specs.Accepted.{NameOf, Usable, Accepted}
use Rattle.process.specs.States.{State}
use Rattle.process.specs.Steps.{Step, new_step, communication, is_step_open}
use Rattle.process.specs.Labels.{label_of}
use Rattle.places.specs.Values.{Values, shares}
use Rattle.places.specs.Places.{common}
use Rattle.places.specs.Transitions.{test, Description, making, communicating}
use Rattle.places.proofs.Tallies.{some-intro}
use Rattle.readback.specs.Configurations.{Spot, spot, Configuration}
use Rattle.fidelity.specs.Inner.Marks.{stay, pass, Fits, WellFormed, Sourced, Takes, Meets}
use Rattle.fidelity.specs.Inner.Shapes.{pair, onward}
use Rattle.fidelity.specs.Inner.Shapes.{Described, is-new, is-call, is-copy, is-release, is-ending, is-silent, is-communication, EnoughValues}
use Rattle.fidelity.specs.Inner.Standing.{shown, Shows}
use Rattle.fidelity.specs.Inner.Runs.{quiet, step_named, open-new, open-call, open-silent, open-communication}
use Rattle.fidelity.proofs.Basics.{not-given, given_is, pass-from, stay-pass, asks_nothing, asks-here, asks-there, asks-three}
use Rattle.fidelity.proofs.Tables.{chosen, send-present, receive-present, send-node, receive-node, no-thread}
use Rattle.fidelity.proofs.Shapes.{held_first}
use Rattle.fidelity.proofs.Labels.{new-named, silent-named, call-named, communication-named}
use Rattle.fidelity.proofs.Following.{node-first}
use Rattle.fidelity.proofs.Opening.{open-test}
use Rattle.fidelity.proofs.Counting.{free-value}
use Rattle.fidelity.proofs.Settling.{usable-value, single-stands}
use Rattle.fidelity.proofs.Listed.{takes-common}

module _ (S : Scheme) (U : Values) (A : Accepted S) (E : EnoughValues S U) where
  -- ---- the step of a firing is open

  first-node : (c : Configuration) (s : State) → Shows S U c s → (θ k : ℕ) → c.at θ ≡ spot k 0 → s.node θ ≡ k
  first-node c s R θ k p = sym (R.nodes θ) ∙ rw p (node-first S U A k)

  -- the state's value of a name that is used at the first place of a choice
  pub choice-shown : (c : Configuration) → WellFormed S U c → (k u o q : ℕ) → S.node k ≡ choice o q → c.at (S.thread k) ≡ spot k 0 → Usable S k u
      → shown S c u ≡ c.value u
  choice-shown c W k u o q h p (inl l) = rw (le-ltb (S.thread_of_name u) S.threads (no-thread S A u (inl l)))
  choice-shown c W k u o q h p (inr m) = rw ((A.held-name k u m).of, lt-ltb (S.thread k) S.threads (A.thread-inside k), p, h)

  -- a firing that is no bookkeeping takes an open step
  pub opened : {t : Description} (c : Configuration) (s : State) → Shows S U c s → Described S U t → Fits S t c → quiet t ≡ false
      → is_step_open S s (step_named S t) ≡ true
  opened c s R (is-new k r l v h p re) f b =
      rw (new-named S k r l h)
      (open-test S (open-new r l h (first-node c s R (S.thread k) k (f.stands (S.thread k) (spot k 0) (spot l 0) (rw (same_self (S.thread k)))))))
  opened c s R (is-call k d h) f b =
      rw (call-named S k d h)
      (open-test S (open-call d h (first-node c s R (S.thread k) k (f.stands (S.thread k) (spot k 0) (onward S d k 0) (rw (same_self (S.thread k)))))))
  opened c s R (is-copy k d j v h l t re) f b = absurd (true≢false b)
  opened c s R (is-release k d j v h l re p) f b = absurd (true≢false b)
  opened c s R (is-ending k j v km h l re p) f b = absurd (true≢false b)
  opened c s R (is-silent g l h) f b =
      rw (silent-named S g l h)
      (open-test S (open-silent l h (first-node c s R (S.thread (S.home g)) (S.home g)
      (f.stands (S.thread (S.home g)) (spot (S.home g) 0) (spot l 0) (rw (same_self (S.thread (S.home g))))))))
  opened c s R (is-communication g a z l r x y m i j hs hr df im tz re own) f b =
      let (w, e) = given_is (s.value a) (sym (R.alike.both a) ∙ rw va) in
      rw (communication-named S g a z l r x y m hs hr df)
      (open-test S (open-communication a z l x y m w hs hr df (first-node c s R θ (S.home g) at-s) (first-node c s R η (S.home r) at-r) e
      (R.alike.like x a (vx ∙ sym va) ∙ e)))
    where
      θ : ℕ
      θ = S.thread (S.home g)

      η : ℕ
      η = S.thread (S.home r)

      at-s : c.at θ ≡ spot (S.home g) 0
      at-s = f.stands θ (spot (S.home g) 0) (spot l 0) (rw (same_self θ))

      at-r : c.at η ≡ spot (S.home r) 0
      at-r = f.stands η (spot (S.home r) 0) (spot m 0) (rw (same-no η θ (λ p. df (sym p)), same_self η))

      va : shown S c a ≡ some i
      va = choice-shown c R.formed (S.home g) a (chosen S A g (send-present S A g a z l hs)).first (chosen S A g (send-present S A g a z l hs)).count
          (send-node S A g a z l hs) at-s (A.send-usable g a z l hs).0 ∙ f.tests a i (asks-here a i (test x i ∷ test z j ∷ []))

      vx : shown S c x ≡ some i
      vx = choice-shown c R.formed (S.home r) x (chosen S A r (receive-present S A r x y m hr)).first
          (chosen S A r (receive-present S A r x y m hr)).count (receive-node S A r x y m hr) at-r (A.receive-usable r x y m hr)
          ∙ f.tests x i (asks-there a i (test x i ∷ test z j ∷ []) x i (asks-here x i (test z j ∷ [])))

  -- ---- at their first places, the threads of an open step can fire it

  -- a description whose label names the step fits
  pub record Fireable (c : Configuration) (σ : Step) : Type 0 where
    pub firing : Description
    pub described : Described S U firing
    pub fits : Fits S firing c
    pub names : step_named S firing ≡ σ
    pub label : firing.label.kind ∷ firing.label.a ∷ firing.label.b ∷ [] ≡ label_of S σ

  pub fire-new : (c : Configuration) → WellFormed S U c → (k r l : ℕ) → S.node k ≡ new r l → c.at (S.thread k) ≡ spot k 0 → Fireable c (new_step k)
  fire-new c W k r l h p =
      let (v, lo, hi, fr) = free-value U.privates c.value S.publics S.publics S.bounds (E.room c W k r l h p) in record {
        firing = making S U k r l v;
        described = is-new k r l v h (lo, hi) (E.makes r v (A.new-restricted k r l h) lo hi);
        fits = record {
          stands = single-stands S U A E c (S.thread k) (spot k 0) (spot l 0) p;
          tests = λ x w q. asks_nothing x w q;
          suits = (
            not-given (c.value r) (W.held r nm.low ∙ rw (nm.of, p) (held_first S U A k r ∙ A.new-fresh k r l h)),
            λ _ x. unused v lo fr x
                (dec_le S.publics x),
          );
        };
        names = new-named S k r l h;
        label = rw h;
      }
    where
      nm : NameOf S (S.thread k) r
      nm = A.new-name k r l h

      unused : (v : ℕ) → S.publics ≤ v → ((x : ℕ) → S.publics ≤ x → x < S.publics + S.bounds → c.value x ≢ some v) → (x : ℕ)
          → Dec (S.publics ≤ x) → c.value x ≢ some v
      unused v lo fr x (yes px) q = fr x px (W.allowed x v px q).0 q
      unused v lo fr x (no nx) q = let e : x ≡ v = cc (W.publics x (omega arith)) in omega arith

  -- channels with one value can meet: a private value stems from one restricted name, in both reaches
  meeting-values : (c : Configuration) → Sourced S U c → (a x i : ℕ) → c.value a ≡ some i → c.value x ≡ some i → Meets S U a x i
  unfolding shares
  meeting-values c Q a x i ea ex = go (dec_lt i S.publics)
    where
      go : Dec (i < S.publics) → Meets S U a x i
      go (yes l) = rw (lt-ltb i S.publics l)
      go (no n) =
          let lo : S.publics ≤ i = omega arith in
          let o : ℕ = Q.origin i in
          let (pa, re) = Q.stems a i lo ea in
          let (px, rx) = Q.stems x i lo ex in
          or_right (ltb i S.publics) (shares S U a x)
          (some-intro (λ o. S.restricted o && (U.origins a o && U.origins x o)) o (from S.publics S.bounds)
          (member-from o S.publics S.bounds (A.restricted-bound o re).0 (A.restricted-bound o re).1) (rw (re, pa, px)))

  pub fire-com : (c : Configuration) → WellFormed S U c → Sourced S U c → (g r a z l x y m : ℕ) → S.branch g ≡ send a z l → S.branch r ≡ receive x y m
      → S.thread (S.home g) ≢ S.thread (S.home r)
      → c.at (S.thread (S.home g)) ≡ spot (S.home g) 0 → c.at (S.thread (S.home r)) ≡ spot (S.home r) 0 → c.value a ≡ c.value x
      → Fireable c (communication g r)
  fire-com c W Q g r a z l x y m hs hr df ps pr equal =
      let (i, ei, ti) = usable-value S U A E c W (S.home g) a (A.send-usable g a z l hs).0 (λ e. rw (ps, held_first S U A (S.home g) a) e) in
      let (j, ej, tj) = usable-value S U A E c W (S.home g) z (A.send-usable g a z l hs).1 (λ e. rw (ps, held_first S U A (S.home g) z) e) in
      let (i', ei', ti') = usable-value S U A E c W (S.home r) x (A.receive-usable r x y m hr) (λ e. rw (pr, held_first S U A (S.home r) x) e) in
      build i ei ti j ej tj i' ei' ti'
    where
      θ : ℕ
      θ = S.thread (S.home g)

      η : ℕ
      η = S.thread (S.home r)

      nm : NameOf S η y
      nm = A.receive-name r x y m hr

      stands' : (ϑ : ℕ) (a' b' : Spot) → pair θ (spot (S.home g) 0) (spot l 0) η (spot (S.home r) 0) (spot m 0) ϑ ≡ pass a' b' → c.at ϑ ≡ a'
      stands' ϑ a' b' e = go (same ϑ θ) refl (same ϑ η) refl e
        where
          go : (β : Bool) → same ϑ θ ≡ β → (γ : Bool) → same ϑ η ≡ γ
              → pick β (pass (spot (S.home g) 0) (spot l 0)) (pick γ (pass (spot (S.home r) 0) (spot m 0)) stay) ≡ pass a' b' → c.at ϑ ≡ a'
          go true p γ q e = rw (same_true ϑ θ p) (ps ∙ pass-from (spot (S.home g) 0) (spot l 0) a' b' e)
          go false p true q e = rw (same_true ϑ η q) (pr ∙ pass-from (spot (S.home r) 0) (spot m 0) a' b' e)
          go false p false q e = absurd (stay-pass a' b' e)

      build : (i : ℕ) → c.value a ≡ some i → Takes S U a i → (j : ℕ) → c.value z ≡ some j → Takes S U z j → (i' : ℕ) → c.value x ≡ some i' → Takes S U x i'
          → Fireable c (communication g r)
      build i ei ti j ej tj i' ei' ti' =
          let q : i' ≡ i = cc in
          let own : z ≡ a → j ≡ i = λ e. self e in
          let tx : Takes S U x i = rw q at ti' in
          let im : member i (common S U a x) ≡ true = takes-common S U A a x i ti tx (meeting-values c Q a x i ei (sym equal ∙ ei)) in record {
            firing = communicating S U g a z l r x y m i j;
            described = is-communication g a z l r x y m i j hs hr df im tj (E.meets g a z l r x y m i j hs hr df im tj) own;
            fits = record {
              stands = stands';
              tests = λ u w. asks-three (λ (n v : ℕ). c.value n ≡ some v) a i x i z j u w ei (sym equal ∙ ei) ej;
              suits = (
                not-given (c.value y) (W.held y nm.low ∙ rw (nm.of, pr) (held_first S U A (S.home r) y ∙ A.receive-fresh r x y m hr)),
                λ k. absurd (true≢false (sym k ∙ A.receive-free r x y m hr)),
              );
            };
            names = communication-named S g a z l r x y m hs hr df;
            label = refl;
          }
        where
          self : z ≡ a → j ≡ i
          self e = cc
