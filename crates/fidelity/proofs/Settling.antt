-- The chain of a call can be finished: bookkeeping of its thread alone brings the thread to the called root and keeps the state.
use Prim.Native.Nat.{ℕ, zero, suc, ◌+◌, ◌-◌, ◌<◌}
use mathlib.Core.Path.{◌≡◌, refl, sym, ap, ◌∙◌}
use mathlib.Core.Logic.{◌≢◌, inl, inr}
use mathlib.Core.Bool.{true, false, true≢false}
use mathlib.Core.Option.{some}
use mathlib.Core.List.{List, [], ◌∷◌}
use native.Mathlib.Decide.{dec_lt}
use native.Mathlib.Omega.{arith}
use lib.ListN.{length, take, drop, get_or}
use borrow.Author.Tests.{lt-ltb, le-ltb}
use Rattle.lists.specs.Lists.{member}
use Rattle.lists.proofs.Tests.{or_right, or-true, same_self, same-no}
use Rattle.lists.proofs.Members.{member-get_or, member-head, distinct-earlier}
use Rattle.scheme.specs.Scheme.{Scheme, call}
use Rattle.table.specs.Accepted.{NameOf, Usable, Accepted}
use Rattle.process.specs.States.{State}
use Rattle.places.specs.Values.{Values}
use Rattle.places.specs.Transitions.{Description}
use Rattle.readback.specs.Configurations.{Spot, spot, Configuration}
use Rattle.fidelity.specs.Inner.Marks.{pass, is_held, motion, after, Fits, allows, WellFormed, Takes}
use Rattle.fidelity.specs.Inner.Shapes.{single, chain, onward, copying_at, releasing_at, Described, is-copy, is-release, EnoughValues}
use Rattle.fidelity.specs.Inner.Standing.{advanced, Shows}
use Rattle.fidelity.specs.Inner.Runs.{quiet, AllQuiet, Run, done, more}
use Rattle.fidelity.proofs.Basics.{not-given, given_is, asks_nothing, asks-one}
use Rattle.fidelity.proofs.Tables.{formal-name}
use Rattle.fidelity.proofs.Shapes.{held-copy, held-release, formal-at}
use Rattle.fidelity.proofs.Shown.{single-cases}
use Rattle.fidelity.proofs.Following.{step}

module _ (S : Scheme) (U : Values) (A : Accepted S) (E : EnoughValues S U) where
  -- the value of a usable name, at a place that holds the node's names
  pub usable-value : (c : Configuration) → WellFormed S U c → (k u : ℕ) → Usable S k u
      → (member u (S.held k) ≡ true → is_held S (c.at (S.thread k)) u ≡ true) → (v : ℕ) × (c.value u ≡ some v) × Takes S U u v
  usable-value c W k u (inl l) hh = (u, W.publics u l, inr (l, refl))
  usable-value c W k u (inr m) hh =
      let nm : NameOf S (S.thread k) u = A.held-name k u m in
      let (v, e) = given_is (c.value u) (W.held u nm.low ∙ rw nm.of (hh m)) in
      (v, e, inl (nm.low, (W.allowed u v nm.low e).0, (W.allowed u v nm.low e).1))

  pub single-stands : (c : Configuration) (θ : ℕ) (a b : Spot) → c.at θ ≡ a → (ϑ : ℕ) (a' b' : Spot) → single θ a b ϑ ≡ pass a' b' → c.at ϑ ≡ a'
  single-stands c θ a b h ϑ a' b' s = let (p, q, r) = single-cases θ ϑ a b a' b' s in rw (p, q) h

  -- a transition of thread θ alone, that keeps the state
  abbrev Next : Configuration → ℕ → Spot → Spot → Type 0
  Next c θ a b = (t : Description) × Described S U t × (quiet t ≡ true) × Fits S t c × ((ϑ : ℕ) → motion S t.moves ϑ ≡ single θ a b ϑ)

  module _ (k d : ℕ) (h : S.node k ≡ call d) (c : Configuration) (W : WellFormed S U c) where
    can-copy : (j : ℕ) → j < length (S.formals d) → c.at (S.thread k) ≡ spot k (suc j) → Next c (S.thread k) (spot k (suc j)) (onward S d k (suc j))
    can-copy j l p =
        let (v, e, t) = usable-value c W k z used here-held in (
          copying_at S U d k j v,
          is-copy k d j v h l t (E.copies k d j v h l t),
          refl,
          record {
            stands = single-stands c (S.thread k) (spot k (suc j)) (onward S d k (suc j)) p;
            tests = λ x w q. let (a, b) = asks-one z v x w q in rw (← a, ← b) e;
            suits = (
              not-given (c.value y) (W.held y nm.low ∙ rw (nm.of, p) not_yet),
              λ r. absurd
                  (true≢false (sym r ∙ A.formal-free d y (formal-at S U A k d h j l))),
            );
          },
          λ ϑ. refl,
        )
      where
        y : ℕ
        y = get_or (S.formals d) j 0

        z : ℕ
        z = get_or (S.arguments k) j 0

        used : Usable S k z
        used = A.argument-usable k d z h (member-get_or (S.arguments k) j (rw (A.call-arguments k d h) l))

        here-held : member z (S.held k) ≡ true → is_held S (c.at (S.thread k)) z ≡ true
        here-held m = rw (p, held-copy S U A k d h j z (omega arith), m) (or-true (member z (take j (S.formals d))))

        nm : NameOf S (S.thread k) y
        nm = formal-name S A k d h y (formal-at S U A k d h j l)

        not_yet : is_held S (spot k (suc j)) y ≡ false
        not_yet =
            held-copy S U A k d h j y (omega arith)
            ∙ rw (distinct-earlier (S.formals d) j (A.formals-distinct d) l, A.call-fresh k d y h (formal-at S U A k d h j l))

    can-release : (j : ℕ) → j < length (S.held k) → c.at (S.thread k) ≡ spot k (suc (length (S.formals d) + j))
        → Next c (S.thread k) (spot k (suc (length (S.formals d) + j))) (onward S d k (suc (length (S.formals d) + j)))
    can-release j l p =
        let (v, e) = given_is (c.value z) (W.held z nm.low ∙ rw (nm.of, p) held) in
        let re : allows S U z v ≡ true = (W.allowed z v nm.low e).1 in (
          releasing_at S U d k j v,
          is-release k d j v h l re (λ r. E.private z v r re),
          refl,
          record { stands = single-stands c (S.thread k) (spot k i) (onward S d k i) p; tests = λ x w q. asks_nothing x w q; suits = e },
          λ ϑ. refl,
        )
      where
        z : ℕ
        z = get_or (S.held k) j 0

        i : ℕ
        i = suc (length (S.formals d) + j)

        nm : NameOf S (S.thread k) z
        nm = A.held-name k z (member-get_or (S.held k) j l)

        held : is_held S (spot k i) z ≡ true
        held = held-release S U A k d h j z ∙ or_right (member z (S.formals d)) (member z (drop j (S.held k))) (member-head (S.held k) j l)

    can-chain : (j : ℕ) → j < chain S d k → c.at (S.thread k) ≡ spot k (suc j) → Next c (S.thread k) (spot k (suc j)) (onward S d k (suc j))
    can-chain j l p = go (dec_lt j (length (S.formals d)))
      where
        go : Dec (j < length (S.formals d)) → Next c (S.thread k) (spot k (suc j)) (onward S d k (suc j))
        go (yes m) = can-copy j m p
        go (no m) =
            let e : length (S.formals d) + (j - length (S.formals d)) ≡ j = omega arith in
            rw e at (can-release (j - length (S.formals d)) (omega arith) (rw e p))

  -- ---- to the end of a call's chain

  -- bookkeeping of thread θ alone brings it to q, and keeps the state
  pub record Settled (c : Configuration) (s : State) (θ : ℕ) (q : Spot) (n : ℕ) : Type 0 where
    pub last : Configuration
    pub firings : List Description
    pub run : Run S U c firings last
    pub quietly : AllQuiet firings
    pub size : length firings ≡ n
    pub shows : Shows S U last s
    pub there : last.at θ ≡ q
    pub others : (ϑ : ℕ) → ϑ ≢ θ → last.at ϑ ≡ c.at ϑ

  quiet-advanced : (t : Description) (s : State) → quiet t ≡ true → advanced S t.label s ≡ s
  quiet-advanced t s h = rw h

  cons-settled : (c : Configuration) (s : State) (θ : ℕ) (a b q : Spot) (n : ℕ) → Shows S U c s → Next c θ a b
      → ((t : Description) → ((ϑ : ℕ) → motion S t.moves ϑ ≡ single θ a b ϑ) → Shows S U (after S t c) s → Settled (after S t c) s θ q n)
      → Settled c s θ q (suc n)
  cons-settled c s θ a b q n R (t, va, bk, f, m) next = before (next t m (rw (quiet-advanced t s bk) at (step S U A E c s R va f)))
    where
      before : Settled (after S t c) s θ q n → Settled c s θ q (suc n)
      before σ = record {
        last = σ.last;
        firings = t ∷ σ.firings;
        run = more va f σ.run;
        quietly = (bk, σ.quietly);
        size = ap suc σ.size;
        shows = σ.shows;
        there = σ.there;
        others = λ ϑ other. σ.others ϑ other ∙ rw (m ϑ, same-no ϑ θ other);
      }

  pub settle : (k d : ℕ) → S.node k ≡ call d → (n j : ℕ) → chain S d k ≡ j + suc n → (c : Configuration) (s : State) → Shows S U c s
      → c.at (S.thread k) ≡ spot k (suc j)
      → Settled c s (S.thread k) (spot (S.root d) 0) (suc n)
  settle k d h zero j e c s R p =
      cons-settled c s (S.thread k) (spot k (suc j)) (onward S d k (suc j)) (spot (S.root d) 0) 0 R (can-chain k d h c R.formed j (omega arith) p)
      (λ t m R'. record {
        last = after S t c;
        firings = [];
        run = done;
        quietly = tt;
        size = refl;
        shows = R';
        there = rw (m (S.thread k), same_self (S.thread k), le-ltb (suc j) (chain S d k) (omega arith));
        others = λ ϑ other. refl;
      })
  settle k d h (suc n) j e c s R p =
      cons-settled c s (S.thread k) (spot k (suc j)) (onward S d k (suc j)) (spot (S.root d) 0) (suc n) R (can-chain k d h c R.formed j (omega arith) p)
      (λ t m R'. settle k d h n (suc j) (omega arith) (after S t c) s R'
      (rw (m (S.thread k), same_self (S.thread k), lt-ltb (suc j) (chain S d k) (omega arith))))
