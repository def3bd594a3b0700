-- Every firing keeps what joins the configuration to the plain process: bookkeeping keeps the state, and every other firing takes the step that its
-- label names.
use Prim.Native.Nat.{ℕ, suc, ◌+◌, ◌≤◌, ◌<◌}
use mathlib.Core.Path.{◌≡◌, refl, sym, ◌∙◌}
use mathlib.Core.Logic.{◌≢◌, inl}
use mathlib.Core.Bool.{Bool, true, false}
use mathlib.Core.Option.{Option, none, some}
use native.Mathlib.Decide.{ℕ_discrete}
use native.Mathlib.Omega.{arith}
use lib.Dec.{ltb}
use lib.ListN.{length}
use Rattle.lists.specs.Lists.{pick, same}
use Rattle.lists.proofs.Tests.{and-false, same_self, same_true, same-no}
use Rattle.scheme.specs.Scheme.{Scheme, Node, stop, choice, new, call, silent, send, receive}
use Rattle.scheme.specs.Kinds.{is_stop_node}
use Rattle.table.specs.Accepted.{Accepted}
use Rattle.process.specs.States.{State, put, value_of}
use Rattle.process.specs.Steps.{arrived, called, received, silently, newly, calling, meeting}
use Rattle.places.specs.Values.{Values}
use Rattle.places.specs.Transitions.{Description, making, communicating}
use Rattle.readback.specs.Configurations.{Spot, spot, Configuration, node_shown_at, shown_node_of, shown_name}
use Rattle.fidelity.specs.Inner.Marks.{stay, pass, ends, motion, after, Fits, WellFormed, Sourced}
use Rattle.fidelity.specs.Inner.Shapes.{single, pair, chain, onward, entering, copying_at, releasing_at, ending, going_by}
use Rattle.fidelity.specs.Inner.Shapes.{Described, is-new, is-call, is-copy, is-release, is-ending, is-silent, is-communication, EnoughValues}
use Rattle.fidelity.specs.Inner.Standing.{shown, advanced, Shows}
use Rattle.fidelity.proofs.Basics.{none-some, put_self, put_other}
use Rattle.fidelity.proofs.Tables.{no-thread}
use Rattle.fidelity.proofs.Firing.{well-formed-after}
use Rattle.fidelity.proofs.Shapes.{shaped}
use Rattle.fidelity.proofs.Sources.{sourced-after}
use Rattle.fidelity.proofs.Shown.{ending-shown, silent-shown, new-shown, call-shown, copy-shown, release-shown, communication-shown}
use Rattle.fidelity.proofs.Alike.{alike-other, alike-new, alike_from}
use Rattle.fidelity.proofs.Labels.{new-advanced, silent-advanced, call-advanced, communication-advanced}

module _ (S : Scheme) (U : Values) (A : Accepted S) where
  pub node-first : (l : ℕ) → shown_node_of S (spot l 0) ≡ l
  node-first l = go (S.node l)
    where
      go : (ν : Node) → node_shown_at S ν l 0 ≡ l
      go stop = refl
      go (choice f c) = refl
      go (new r m) = refl
      go (call d) = refl

  pub node-onward : (k d i : ℕ) → S.node k ≡ call d → shown_node_of S (onward S d k i) ≡ S.root d
  node-onward k d i h = go (ltb i (chain S d k))
    where
      go : (β : Bool) → shown_node_of S (pick β (spot k (suc i)) (spot (S.root d) 0)) ≡ S.root d
      go true = rw h
      go false = node-first (S.root d)

  -- the thread that moves
  single-nodes : (p : ℕ → Spot) (to : ℕ → ℕ) (θ : ℕ) (a b : Spot) (l : ℕ) → ((ϑ : ℕ) → shown_node_of S (p ϑ) ≡ to ϑ) → shown_node_of S b ≡ l
      → (ϑ : ℕ) → shown_node_of S (ends (single θ a b ϑ) (p ϑ)) ≡ put to θ l ϑ
  unfolding put
  single-nodes p to θ a b l h e ϑ = go (same ϑ θ)
    where
      go : (β : Bool) → shown_node_of S (ends (pick β (pass a b) stay) (p ϑ)) ≡ pick β l (to ϑ)
      go true = e
      go false = h ϑ

  -- bookkeeping: the node stays
  keep-nodes : (p : ℕ → Spot) (to : ℕ → ℕ) (θ : ℕ) (a b : Spot) → ((ϑ : ℕ) → shown_node_of S (p ϑ) ≡ to ϑ) → p θ ≡ a → shown_node_of S b ≡ shown_node_of S a
      → (ϑ : ℕ) → shown_node_of S (ends (single θ a b ϑ) (p ϑ)) ≡ to ϑ
  keep-nodes p to θ a b h s e ϑ = go (same ϑ θ) refl
    where
      go : (β : Bool) → same ϑ θ ≡ β → shown_node_of S (ends (pick β (pass a b) stay) (p ϑ)) ≡ to ϑ
      go true q = e ∙ rw (same_true ϑ θ q, ← h θ, s)
      go false q = h ϑ

  read-fresh : (e : ℕ → Option ℕ) (b : ℕ) → ((x v : ℕ) → e x ≡ some v → v < b) → (o : Option ℕ) (v : ℕ) → value_of e o ≡ some v → v < b
  read-fresh e b h none v q = absurd (none-some refl q)
  read-fresh e b h (some x) v q = h x v q

  module _ (E : EnoughValues S U) (c : Configuration) (s : State) (R : Shows S U c s) where
    -- the state is kept
    kept : (t : Description) → WellFormed S U (after S t c) → Sourced S U (after S t c) →
        ((ϑ : ℕ) → shown_node_of S (ends (motion S t.moves ϑ) (c.at ϑ)) ≡ s.node ϑ)
        → ((x : ℕ) → shown S (after S t c) x ≡ shown S c x) → Shows S U (after S t c) s
    kept t W Q n v = record {
      formed = W;
      sourced = Q;
      nodes = n;
      alike = alike_from (shown S c) (shown S (after S t c)) s.value v R.alike;
      public = R.public;
      fresh = R.fresh;
    }

    -- names read other names
    moved : (t : Description) (to : ℕ → ℕ) (G : ℕ → Option ℕ) → WellFormed S U (after S t c) → Sourced S U (after S t c)
        → ((ϑ : ℕ) → shown_node_of S (ends (motion S t.moves ϑ) (c.at ϑ)) ≡ to ϑ)
        → ((x : ℕ) → shown S (after S t c) x ≡ value_of (shown S c) (G x)) → ((x : ℕ) → x < S.publics → G x ≡ some x)
        → Shows S U (after S t c) (record { node = to; value = λ x. value_of s.value (G x); counter = s.counter })
    moved t to G W Q n v p = record {
      formed = W;
      sourced = Q;
      nodes = n;
      alike =
          alike_from (λ x. value_of (shown S c) (G x)) (shown S (after S t c)) (λ x. value_of s.value (G x)) v
          (alike-other (shown S c) s.value R.alike G);
      public = λ x l. rw (p x l) (R.public x l);
      fresh = λ x u. read-fresh s.value s.counter R.fresh (G x) u;
    }

    public-thread : (x θ : ℕ) → x < S.publics → θ < S.threads → same (S.thread_of_name x) θ ≡ false
    public-thread x θ l k = same-no (S.thread_of_name x) θ (λ e. let a : S.threads ≤ S.thread_of_name x = no-thread S A x (inl l) in omega arith)

    public-arrived : (θ l x : ℕ) → θ < S.threads → x < S.publics → arrived S θ l x ≡ some x
    public-arrived θ l x k p = rw (public-thread x θ p k, and-false (is_stop_node (S.node l)))

    ending-step : (k j v : ℕ) (va : Described S U (ending S U k j v)) → S.node k ≡ stop → Fits S (ending S U k j v) c
        → Shows S U (after S (ending S U k j v) c) s
    ending-step k j v va h f =
        kept (ending S U k j v) (well-formed-after S U c (ending S U k j v) R.formed (shaped S U A va) f) (sourced-after S U A E c R.sourced va f)
        (keep-nodes c.at s.node (S.thread k) (spot k j) (spot k (suc j)) R.nodes
        (f.stands (S.thread k) (spot k j) (spot k (suc j)) (rw (same_self (S.thread k)))) (rw h))
        (ending-shown S U A c k j v h R.formed (shaped S U A va) f)

    copy_step : (k d j v : ℕ) → Described S U (copying_at S U d k j v) → S.node k ≡ call d → j < length (S.formals d) → Fits S (copying_at S U d k j v) c
        → Shows S U (after S (copying_at S U d k j v) c) s
    copy_step k d j v va h l f =
        kept (copying_at S U d k j v) (well-formed-after S U c (copying_at S U d k j v) R.formed (shaped S U A va) f)
        (sourced-after S U A E c R.sourced va f)
        (keep-nodes c.at s.node (S.thread k) (spot k (suc j)) (onward S d k (suc j)) R.nodes
        (f.stands (S.thread k) (spot k (suc j)) (onward S d k (suc j)) (rw (same_self (S.thread k)))) (node-onward k d (suc j) h ∙ rw h))
        (copy-shown S U A k d h c j v l R.formed (shaped S U A va) f)

    release-step : (k d j v : ℕ) → Described S U (releasing_at S U d k j v) → S.node k ≡ call d → j < length (S.held k) → Fits S (releasing_at S U d k j v) c
        → Shows S U (after S (releasing_at S U d k j v) c) s
    release-step k d j v va h l f =
        let i : ℕ = suc (length (S.formals d) + j) in
        kept (releasing_at S U d k j v) (well-formed-after S U c (releasing_at S U d k j v) R.formed (shaped S U A va) f)
        (sourced-after S U A E c R.sourced va f)
        (keep-nodes c.at s.node (S.thread k) (spot k i) (onward S d k i) R.nodes
        (f.stands (S.thread k) (spot k i) (onward S d k i) (rw (same_self (S.thread k)))) (node-onward k d i h ∙ rw h))
        (release-shown S U A k d h c j v l R.formed (shaped S U A va) f)

    silent-step : (b l : ℕ) → Described S U (going_by S U b l) → S.branch b ≡ silent l → Fits S (going_by S U b l) c
        → Shows S U (after S (going_by S U b l) c) (silently S (S.thread (S.home b)) l s)
    silent-step b l va h f =
        let θ : ℕ = S.thread (S.home b) in
        moved (going_by S U b l) (put s.node θ l) (arrived S θ l) (well-formed-after S U c (going_by S U b l) R.formed (shaped S U A va) f)
        (sourced-after S U A E c R.sourced va f)
        (single-nodes c.at s.node θ (spot (S.home b) 0) (spot l 0) l R.nodes (node-first l))
        (silent-shown S U A c b l h R.formed (shaped S U A va) f) (λ x p. public-arrived θ l x (A.thread-inside (S.home b)) p)

    call_step : (k d : ℕ) → Described S U (entering S U d k) → S.node k ≡ call d → Fits S (entering S U d k) c
        → Shows S U (after S (entering S U d k) c) (calling S k d s)
    call_step k d va h f =
        moved (entering S U d k) (put s.node (S.thread k) (S.root d)) (called S k d)
        (well-formed-after S U c (entering S U d k) R.formed (shaped S U A va) f) (sourced-after S U A E c R.sourced va f)
        (single-nodes c.at s.node (S.thread k) (spot k 0) (onward S d k 0) (S.root d) R.nodes (node-onward k d 0 h))
        (call-shown S U A k d h c R.formed (shaped S U A va) f) (λ x p. rw (public-thread x (S.thread k) p (A.thread-inside k)))

    communication-step : (b a z l r x y m i j : ℕ) → Described S U (communicating S U b a z l r x y m i j) → S.branch b ≡ send a z l
        → S.branch r ≡ receive x y m → S.thread (S.home b) ≢ S.thread (S.home r)
        → Fits S (communicating S U b a z l r x y m i j) c
        → Shows S U (after S (communicating S U b a z l r x y m i j) c) (meeting S (S.thread (S.home b)) z l (S.thread (S.home r)) y m s)
    unfolding put
    communication-step b a z l r x y m i j va hs hr df f =
        moved (communicating S U b a z l r x y m i j) (put (put s.node θ l) η m) (received S θ z l η y m)
        (well-formed-after S U c (communicating S U b a z l r x y m i j) R.formed (shaped S U A va) f) (sourced-after S U A E c R.sourced va f)
        nodes (communication-shown S U A b a z l r x y m hs hr df c i j R.formed (shaped S U A va) f) publics
      where
        θ : ℕ
        θ = S.thread (S.home b)

        η : ℕ
        η = S.thread (S.home r)

        nodes : (ϑ : ℕ)
            → shown_node_of S (ends (pair θ (spot (S.home b) 0) (spot l 0) η (spot (S.home r) 0) (spot m 0) ϑ) (c.at ϑ)) ≡ put (put s.node θ l) η m ϑ
        nodes ϑ = go (same ϑ θ) refl (same ϑ η) refl
          where
            go : (β : Bool) → same ϑ θ ≡ β → (γ : Bool) → same ϑ η ≡ γ
                → shown_node_of S (ends (pick β (pass (spot (S.home b) 0) (spot l 0)) (pick γ (pass (spot (S.home r) 0) (spot m 0)) stay)) (c.at ϑ))
                ≡ pick γ m (pick β l (s.node ϑ))
            go true p true q = absurd (df (sym (same_true ϑ θ p) ∙ same_true ϑ η q))
            go true p false q = node-first l
            go false p true q = node-first m
            go false p false q = R.nodes ϑ

        publics : (u : ℕ) → u < S.publics → received S θ z l η y m u ≡ some u
        publics u p =
            simp (
              public-thread u θ p (A.thread-inside (S.home b)),
              public-thread u η p (A.thread-inside (S.home r)),
              and-false,
              same-no u y (λ e. let k : S.publics ≤ y = (A.receive-name r x y m hr).low in omega arith),
            )

    new-step : (k r l v : ℕ) → Described S U (making S U k r l v) → S.node k ≡ new r l → Fits S (making S U k r l v) c
        → Shows S U (after S (making S U k r l v) c) (newly S (S.thread k) r l s)
    new-step k r l v va h f = record {
      formed = well-formed-after S U c (making S U k r l v) R.formed (shaped S U A va) f;
      sourced = sourced-after S U A E c R.sourced va f;
      nodes = single-nodes c.at s.node θ (spot k 0) (spot l 0) l R.nodes (node-first l);
      alike =
          alike_from (λ x. value_of (put (shown S c) r (some v)) (arrived S θ l x)) (shown S (after S (making S U k r l v) c))
          (λ x. value_of (put s.value r (some s.counter)) (arrived S θ l x))
          (new-shown S U A c k r l v h R.formed (shaped S U A va) f)
          (alike-other (put (shown S c) r (some v)) (put s.value r (some s.counter))
          (alike-new (shown S c) s.value R.alike r v s.counter unused above) (arrived S θ l));
      public =
          λ x p. rw (public-arrived θ l x (A.thread-inside k) p)
          (put_other s.value r (some s.counter) x (λ e. let w : S.publics ≤ r = (A.new-name k r l h).low in omega arith) ∙ R.public x p);
      fresh = λ x u. read-fresh (put s.value r (some s.counter)) (suc s.counter) (λ y w q. below y w (ℕ_discrete y r) q) (arrived S θ l x) u;
    }
      where
        θ : ℕ
        θ = S.thread k

        read-free : (o : Option ℕ) → value_of c.value o ≢ some v
        read-free none q = none-some refl q
        read-free (some x) q = f.suits.1 (A.new-restricted k r l h) x q

        unused : (x : ℕ) → shown S c x ≢ some v
        unused x = read-free (shown_name S c.at x)

        above : (x : ℕ) → s.value x ≢ some s.counter
        above x q = let w : s.counter < s.counter = R.fresh x s.counter q in omega arith

        below : (y w : ℕ) → Dec (y ≡ r) → put s.value r (some s.counter) y ≡ some w → w < suc s.counter
        below y w (yes p) q = let e : s.counter ≡ w = cc (put_self s.value r (some s.counter)) in omega arith
        below y w (no p) q = let e : w < s.counter = R.fresh y w (sym (put_other s.value r (some s.counter) y p) ∙ q) in omega arith

  -- each firing is bookkeeping, or the process step that its label names
  pub step : (E : EnoughValues S U) {t : Description} (c : Configuration) (s : State) → Shows S U c s → Described S U t → Fits S t c
      → Shows S U (after S t c) (advanced S t.label s)
  step E c s R (is-new k r l v h p re) f = rw (new-advanced S k r l s h) (new-step E c s R k r l v (is-new k r l v h p re) h f)
  step E c s R (is-call k d h) f = rw (call-advanced S k d s h) (call_step E c s R k d (is-call k d h) h f)
  step E c s R (is-copy k d j v h l t re) f = copy_step E c s R k d j v (is-copy k d j v h l t re) h l f
  step E c s R (is-release k d j v h l re p) f = release-step E c s R k d j v (is-release k d j v h l re p) h l f
  step E c s R (is-ending k j v km h l re p) f = ending-step E c s R k j v (is-ending k j v km h l re p) h f
  step E c s R (is-silent b l h) f = rw (silent-advanced S b l s h) (silent-step E c s R b l (is-silent b l h) h f)
  step E c s R (is-communication b a z l r x y m i j hs hr df im tz re own) f =
      rw (communication-advanced S b a z l r x y m s hs hr df)
      (communication-step E c s R b a z l r x y m i j (is-communication b a z l r x y m i j hs hr df im tz re own) hs hr df f)
