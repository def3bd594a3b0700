-- Every open step can be fired after at most B bookkeeping firings: what is left of the chains of its threads is at most their names.
use Prim.Native.Nat.{ℕ, zero, suc, ◌+◌, ◌-◌, ◌≤◌, ◌<◌}
use mathlib.Core.Path.{◌≡◌, refl, sym, ◌∙◌}
use mathlib.Core.Logic.{◌≢◌, ◌⊎◌, inl, inr}
use mathlib.Core.Bool.{true, false, true≢false}
use mathlib.Core.List.{List, [], ◌∷◌, ◌++◌}
use native.Mathlib.Omega.{arith}
use lib.Dec.{ltb}
use lib.ListN.{length, length-append}
use borrow.Author.Tests.{leb-true}
use Rattle.lists.specs.Lists.{same, member}
use Rattle.lists.proofs.Tests.{and_right, or_cases, same_self, same_true, same-no}
use Rattle.lists.proofs.Members.{member-append, distinct_append}
use Rattle.scheme.specs.Scheme.{Scheme, Node, stop, choice, new, call, silent, send, receive}
use Rattle.scheme.specs.Kinds.{is_stop_node}
use Rattle.table.specs.Accepted.{NameOf, Chosen, Accepted}
use Rattle.process.specs.States.{State}
use Rattle.process.specs.Steps.{Step, silent_step, communication, step_call}
use Rattle.places.specs.Values.{Values}
use Rattle.places.specs.Transitions.{Description}
use Rattle.readback.specs.Configurations.{spot, Configuration, is_spot, node_shown_at}
use Rattle.fidelity.specs.Inner.Marks.{WellFormed}
use Rattle.places.specs.Inner.Holding.{count}
use Rattle.fidelity.specs.Inner.Shapes.{chain, onward, entering, going_by, is-call, is-silent, EnoughValues}
use Rattle.fidelity.specs.Inner.Standing.{Shows}
use Rattle.fidelity.specs.Inner.Runs.{AllQuiet, Open, open-new, open-call, open-silent, open-communication, Run, done, more}
use Rattle.fidelity.proofs.Basics.{asks_nothing}
use Rattle.fidelity.proofs.Tables.{chosen, send-present, receive-present, silent-node, send-node, receive-node, formal-name}
use Rattle.fidelity.proofs.Labels.{silent-named, call-named}
use Rattle.places.proofs.Tallies.{distinct-count}
use Rattle.places.proofs.Tallies.{count_most}
use Rattle.fidelity.proofs.Counting.{count-two}
use Rattle.fidelity.proofs.Settling.{single-stands, Settled, settle}
use Rattle.fidelity.proofs.Fireable.{choice-shown, Fireable, fire-new, fire-com}

module _ (S : Scheme) (U : Values) (A : Accepted S) (E : EnoughValues S U) where
  -- the names of a thread
  abbrev pub names : ℕ → ℕ
  names θ = count (λ x. same (S.thread_of_name x) θ) S.publics S.bounds

  pub name-within : (θ x : ℕ) → NameOf S θ x → (S.publics ≤ x) × (x < S.publics + S.bounds) × (same (S.thread_of_name x) θ ≡ true)
  name-within θ x nm = (nm.low, nm.high, rw nm.of (same_self θ))

  pub chain-le : (k d : ℕ) → S.node k ≡ call d → chain S d k ≤ names (S.thread k)
  chain-le k d h =
      rw (length-append (S.formals d) (S.held k)) at
      (distinct-count (S.formals d ++ S.held k) (λ x. same (S.thread_of_name x) (S.thread k)) S.publics S.bounds
      (distinct_append (S.formals d) (S.held k) (A.formals-distinct d) (A.held-distinct k) (λ x m. A.call-fresh k d x h m))
      (λ x m. name-within (S.thread k) x (either x
      (or_cases (member x (S.formals d)) (member x (S.held k)) (sym (member-append x (S.formals d) (S.held k)) ∙ m)))))
    where
      either : (x : ℕ) → (member x (S.formals d) ≡ true) ⊎ (member x (S.held k) ≡ true) → NameOf S (S.thread k) x
      either x (inl m) = formal-name S A k d h x m
      either x (inr m) = A.held-name k x m

  -- where a thread is whose state's node is no Stop
  Where : Configuration → ℕ → ℕ → Type 0
  Where c θ k =
      (c.at θ ≡ spot k 0) ⊎
      ((k' : ℕ) × (d : ℕ) × (j : ℕ) × (S.node k' ≡ call d) × (S.root d ≡ k) × (c.at θ ≡ spot k' (suc j)) × (j < chain S d k') × (S.thread k' ≡ θ))

  where-at : (c : Configuration) (s : State) → Shows S U c s → (θ k : ℕ) → θ < S.threads → s.node θ ≡ k → is_stop_node (S.node k) ≡ false → Where c θ k
  unfolding Where
  where-at c s R θ k l e ns =
      go (S.node n) refl i refl (R.nodes θ) (and_right (ltb n S.nodes) (is_spot S (S.node n) (spot n i)) (R.formed.stands θ l).1)
    where
      n : ℕ
      n = (c.at θ).node

      i : ℕ
      i = (c.at θ).index

      go : (ν : Node) → S.node n ≡ ν → (i : ℕ) → c.at θ ≡ spot n i → node_shown_at S (S.node n) n i ≡ s.node θ → is_spot S (S.node n) (spot n i) ≡ true
          → (c.at θ ≡ spot k 0)
          ⊎ ((n : ℕ) × (d : ℕ) × (j : ℕ) × (S.node n ≡ call d) × (S.root d ≡ k) × (c.at θ ≡ spot n (suc j)) × (j < chain S d n) × (S.thread n ≡ θ))
      go stop ν i q m p = let z : n ≡ k = (rw ν at m) ∙ e in absurd (true≢false (sym (rw (← z, ν)) ∙ ns))
      go (choice f o) ν i q m p = let z : n ≡ k = (rw ν at m) ∙ e in inl (q ∙ rw (z, same_true i 0 (rw ν at p)))
      go (new r o) ν i q m p = let z : n ≡ k = (rw ν at m) ∙ e in inl (q ∙ rw (z, same_true i 0 (rw ν at p)))
      go (call d) ν zero q m p = let z : n ≡ k = (rw ν at m) ∙ e in inl (q ∙ rw z)
      go (call d) ν (suc j) q m p = inr (n, d, j, ν, (rw ν at m) ∙ e, q, leb-true (suc j) (chain S d n) (rw ν at p), (R.formed.stands θ l).0)

  -- a thread goes on to the first place of its state's node
  go_on : (c : Configuration) (s : State) → Shows S U c s → (θ k : ℕ) → θ < S.threads → s.node θ ≡ k → is_stop_node (S.node k) ≡ false
      → (n : ℕ) × (n ≤ names θ) × Settled S U A E c s θ (spot k 0) n
  unfolding Where
  go_on c s R θ k l e ns = go (where-at c s R θ k l e ns)
    where
      go : Where c θ k → (n : ℕ) × (n ≤ names θ) × Settled S U A E c s θ (spot k 0) n
      go (inl p) = (0, omega arith, record { last = c; firings = []; run = done; quietly = tt; size = refl; shows = R; there = p; others = λ ϑ _. refl })
      go (inr (k', d, j, h, r, p, lt, o)) =
          let b : chain S d k' ≤ names θ = rw o at (chain-le k' d h) in
          (suc (chain S d k' - suc j), omega arith, rw (o, r) at (settle S U A E k' d h (chain S d k' - suc j) j (omega arith) c s R (rw o p)))

  run-append : {c d e : Configuration} {ls ks : List Description} → Run S U c ls d → Run S U d ks e → Run S U c (ls ++ ks) e
  run-append done q = q
  run-append (more v f r) q = more v f (run-append r q)

  quiet-append : (ls ks : List Description) → AllQuiet ls → AllQuiet ks → AllQuiet (ls ++ ks)
  quiet-append [] ks a b = b
  quiet-append (x ∷ ls) ks a b = (a.0, quiet-append ls ks a.1 b)

  -- after at most as many bookkeeping firings as there are bound names, the step can be fired
  pub record Reachable (c : Configuration) (σ : Step) : Type 0 where
    pub last : Configuration
    pub firings : List Description
    pub run : Run S U c firings last
    pub quietly : AllQuiet firings
    pub few : length firings ≤ S.bounds
    pub fireable : Fireable S U A E last σ

  after_one : (c : Configuration) (s : State) (σ : Step) → Shows S U c s → (k : ℕ) → s.node (S.thread k) ≡ k → is_stop_node (S.node k) ≡ false
      → ((d : Configuration) → WellFormed S U d → d.at (S.thread k) ≡ spot k 0 → Fireable S U A E d σ) → Reachable c σ
  after_one c s σ R k e ns f = let (n, l, τ) = go_on c s R (S.thread k) k (A.thread-inside k) e ns in reach n l τ
    where
      reach : (n : ℕ) → n ≤ names (S.thread k) → Settled S U A E c s (S.thread k) (spot k 0) n → Reachable c σ
      reach n l τ = record {
        last = τ.last;
        firings = τ.firings;
        run = τ.run;
        quietly = τ.quietly;
        few = omega (arith, τ.size, count_most (λ x. same (S.thread_of_name x) (S.thread k)) S.publics S.bounds);
        fireable = f τ.last τ.shows.formed τ.there;
      }

  call-fireable : (k d : ℕ) → S.node k ≡ call d → (c : Configuration) → c.at (S.thread k) ≡ spot k 0 → Fireable S U A E c (step_call k)
  call-fireable k d h c p = record {
    firing = entering S U d k;
    described = is-call k d h;
    fits = record { stands = single-stands S U A E c (S.thread k) (spot k 0) (onward S d k 0) p; tests = λ x w q. asks_nothing x w q; suits = tt };
    names = call-named S k d h;
    label = refl;
  }

  silent-fireable : (b l : ℕ) → S.branch b ≡ silent l → (c : Configuration) → c.at (S.thread (S.home b)) ≡ spot (S.home b) 0
      → Fireable S U A E c (silent_step b)
  silent-fireable b l h c p = record {
    firing = going_by S U b l;
    described = is-silent b l h;
    fits = record {
      stands = single-stands S U A E c (S.thread (S.home b)) (spot (S.home b) 0) (spot l 0) p;
      tests = λ x w q. asks_nothing x w q;
      suits = tt;
    };
    names = silent-named S b l h;
    label = refl;
  }

  module _ (c : Configuration) (s : State) (g r a z l x y m : ℕ) (hs : S.branch g ≡ send a z l) (hr : S.branch r ≡ receive x y m)
      (df : S.thread (S.home g) ≢ S.thread (S.home r)) (same-value : s.value a ≡ s.value x) where
    abbrev θ : ℕ
    θ = S.thread (S.home g)

    abbrev η : ℕ
    η = S.thread (S.home r)

    both : (n : ℕ) → n ≤ names θ → (σ : Settled S U A E c s θ (spot (S.home g) 0) n) → (o : ℕ) → o ≤ names η
        → (τ : Settled S U A E σ.last s η (spot (S.home r) 0) o) → Reachable c (communication g r)
    both n b σ o b' τ = record {
      last = d;
      firings = σ.firings ++ τ.firings;
      run = run-append σ.run τ.run;
      quietly = quiet-append σ.firings τ.firings σ.quietly τ.quietly;
      few = rw (length-append σ.firings τ.firings) (omega (arith, σ.size, τ.size, shared));
      fireable = fire-com S U A E d W τ.shows.sourced g r a z l x y m hs hr df ps τ.there equal;
    }
      where
        shared : names θ + names η ≤ S.bounds
        shared =
            count-two (λ u. same (S.thread_of_name u) θ) (λ u. same (S.thread_of_name u) η) S.publics S.bounds
            (λ u p. same-no (S.thread_of_name u) η (λ q. df (sym (same_true (S.thread_of_name u) θ p) ∙ q)))

        d : Configuration
        d = τ.last

        W : WellFormed S U d
        W = τ.shows.formed

        ps : d.at θ ≡ spot (S.home g) 0
        ps = τ.others θ df ∙ σ.there

        at_g : Chosen S (S.home g) g
        at_g = chosen S A g (send-present S A g a z l hs)

        at-r : Chosen S (S.home r) r
        at-r = chosen S A r (receive-present S A r x y m hr)

        equal : d.value a ≡ d.value x
        equal =
            sym (choice-shown S U A E d W (S.home g) a at_g.first at_g.count at_g.at ps (A.send-usable g a z l hs).0)
            ∙ τ.shows.alike.back a x same-value
            ∙ choice-shown S U A E d W (S.home r) x at-r.first at-r.count at-r.at τ.there (A.receive-usable r x y m hr)

  -- every open step can be fired after at most as many bookkeeping firings as there are bound names
  pub live : (c : Configuration) (s : State) (σ : Step) → Shows S U c s → Open S σ s → Reachable c σ
  live c s σ R (open-new {n = k} r l h e) = after_one c s σ R k e (rw h) (λ d W p. fire-new S U A E d W k r l h p)
  live c s σ R (open-call {n = k} d h e) = after_one c s σ R k e (rw h) (λ f W p. call-fireable k d h f p)
  live c s σ R (open-silent {b = b} l h e) = after_one c s σ R (S.home b) e (rw (silent-node S A b l h)) (λ f W p. silent-fireable b l h f p)
  live c s σ R (open-communication {b = g} {r = r} a z l x y m i hs hr df es er va vx) =
      let (n, b, ρ) = go_on c s R (S.thread (S.home g)) (S.home g) (A.thread-inside (S.home g)) es (rw (send-node S A g a z l hs)) in
      let (o, b', τ) = go_on ρ.last s ρ.shows (S.thread (S.home r)) (S.home r) (A.thread-inside (S.home r)) er (rw (receive-node S A r x y m hr)) in
      both c s g r a z l x y m hs hr df (va ∙ sym vx) n b ρ o b' τ
