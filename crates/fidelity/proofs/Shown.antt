-- What a firing does to the state that a configuration shows: bookkeeping keeps it, and every other description takes the step of the process.
use Prim.Native.Nat.{ℕ, zero, suc, ◌+◌, ◌≤◌, ◌<◌}
use mathlib.Core.Path.{◌≡◌, refl, sym, ◌∙◌}
use mathlib.Core.Logic.{◌≢◌, ◌⊎◌, inl, inr}
use mathlib.Core.Bool.{Bool, true, false, ◌||◌, true≢false}
use mathlib.Core.Option.{Option, none, some}
use mathlib.Core.List.{List, [], ◌∷◌}
use native.Mathlib.Decide.{ℕ_discrete, dec_le}
use native.Mathlib.Omega.{arith}
use lib.Dec.{ltb}
use lib.ListN.{length, take, drop, get_or, drop_of_length-le}
use lib.Seq.{take-suc, drop-cons, take_all}
use borrow.Author.Tests.{lt-ltb, le-ltb, ltb-true, ltb-false}
use Rattle.lists.specs.Lists.{pick, same, member}
use Rattle.lists.proofs.Tests.{and-true, and-false, or_right, same_self, same_true, same-no, same_false}
use Rattle.lists.proofs.Members.{member-get_or, member-drop, distinct-earlier}
use Rattle.scheme.specs.Scheme.{Scheme, Node, stop, choice, new, call, silent, send, receive}
use Rattle.scheme.specs.Kinds.{is_stop_node}
use Rattle.table.specs.Accepted.{NameOf, Accepted}
use Rattle.process.specs.States.{put, value_of}
use Rattle.process.specs.Steps.{passed, arrived, called, received}
use Rattle.places.specs.Values.{Values}
use Rattle.places.specs.Transitions.{test, release, Description, making, communicating}
use Rattle.readback.specs.Configurations.{Spot, spot, Configuration, name_shown_at}
use Rattle.fidelity.specs.Inner.Marks.{given, Motion, stay, pass, edit, thread_of, is_held, motion, after, Fits, Untouched, WellFormed, Shaped}
use Rattle.fidelity.specs.Inner.Shapes.{single, pair, chain, onward, entering, copying_at, releasing_at, ending, going_by}
use Rattle.fidelity.specs.Inner.Standing.{source, shown}
use Rattle.fidelity.proofs.Basics.{none-some, not-given, put_self, put_other, member-snoc, pass-from, pass-to, stay-pass, asks-here, asks-there}
use Rattle.fidelity.proofs.Tables.{silent-node, send-node, receive-node, root-held, formal-name, no-thread, bound_of, usable-own}
use Rattle.fidelity.proofs.Firing.{edit-other, public-untouched, well-formed-after}
use Rattle.fidelity.proofs.Shapes.{held_first, formal-at}

passed-hit : (f b x : ℕ) (fs bs : List ℕ) → same x f ≡ true → passed (f ∷ fs) (b ∷ bs) x ≡ some b
unfolding passed
passed-hit f b x fs bs h = rw (h, passed)

passed-miss : (f b x : ℕ) (fs bs : List ℕ) → same x f ≡ false → passed (f ∷ fs) (b ∷ bs) x ≡ passed fs bs x
unfolding passed
passed-miss f b x fs bs h = rw (h, passed)

-- what an association finds is in the second list
passed-in : (fs bs : List ℕ) (x u : ℕ) → passed fs bs x ≡ some u → member u bs ≡ true
unfolding passed member
passed-in [] bs x u h = absurd (none-some refl h)
passed-in (f ∷ fs) [] x u h = absurd (none-some refl h)
passed-in (f ∷ fs) (b ∷ bs) x u h = go (same x f) refl (passed-in fs bs x u)
  where
    go : (β : Bool) → same x f ≡ β → (passed fs bs x ≡ some u → member u bs ≡ true) → (same u b || member u bs) ≡ true
    go true p ih = let q : some b ≡ some u = rw (p, passed) at h in let k : b ≡ u = cc in rw (k, same_self u)
    go false p ih = or_right (same u b) (member u bs) (ih (rw (p, passed) at h))

pub single-cases : (θ ϑ : ℕ) (a b c d : Spot) → single θ a b ϑ ≡ pass c d → (ϑ ≡ θ) × (c ≡ a) × (d ≡ b)
single-cases θ ϑ a b c d h = go (same ϑ θ) refl h
  where
    go : (β : Bool) → same ϑ θ ≡ β → pick β (pass a b) stay ≡ pass c d → (ϑ ≡ θ) × (c ≡ a) × (d ≡ b)
    go true p q = (same_true ϑ θ p, sym (pass-from a b c d q), sym (pass-to a b c d q))
    go false p q = absurd (stay-pass c d q)

pub single-stay : (θ ϑ : ℕ) (a b : Spot) → single θ a b ϑ ≡ stay → same ϑ θ ≡ false
single-stay θ ϑ a b h = go (same ϑ θ) refl h
  where
    go : (β : Bool) → same ϑ θ ≡ β → pick β (pass a b) stay ≡ stay → same ϑ θ ≡ false
    go true p q = absurd (stay-pass a b (sym q))
    go false p q = p

module _ (S : Scheme) (U : Values) (A : Accepted S) where
  -- a state's value is read from the thread's own names, or from public ones
  pub source-own : (p : Spot) (x u : ℕ) → S.thread_of_name x ≡ thread_of S p → source S p x ≡ some u → (u < S.publics) ⊎ (S.thread_of_name u ≡ thread_of S p)
  source-own p x u o h = go (S.node k) refl p.index h
    where
      k : ℕ
      k = p.node

      self : some x ≡ some u → (u < S.publics) ⊎ (S.thread_of_name u ≡ S.thread k)
      self q = let e : x ≡ u = cc in inr (rw (← e) o)

      last : (d j : ℕ) → S.node k ≡ call d → (β γ : Bool)
          → pick β none (pick γ (some x) (passed (drop j (S.formals d)) (drop j (S.arguments k)) x)) ≡ some u
          → (u < S.publics) ⊎ (S.thread_of_name u ≡ S.thread k)
      last d j ν true γ q = absurd (none-some refl q)
      last d j ν false true q = self q
      last d j ν false false q =
          usable-own S A k u (A.argument-usable k d u ν (member-drop u j (S.arguments k) (passed-in (drop j (S.formals d)) (drop j (S.arguments k)) x u q)))

      go : (ν : Node) → S.node k ≡ ν → (i : ℕ) → name_shown_at S ν k i x ≡ some u → (u < S.publics) ⊎ (S.thread_of_name u ≡ S.thread k)
      go stop ν i q = absurd (none-some refl q)
      go (choice f n) ν i q = self q
      go (new r l) ν i q = self q
      go (call d) ν zero q = self q
      go (call d) ν (suc j) q = last d j ν (is_stop_node (S.node (S.root d))) (member x (take j (S.formals d))) q

  module _ (c : Configuration) (t : Description) (W : WellFormed S U c) (g : Shaped S U t) (f : Fits S t c) where
    untouched-of : (u : ℕ) → motion S t.moves (S.thread_of_name u) ≡ stay → Untouched S t.command u
    untouched-of u s = go (dec_le S.publics u)
      where
        go : Dec (S.publics ≤ u) → Untouched S t.command u
        go (yes l) = rw s at (g.holding u l)
        go (no n) = public-untouched S U c t W g f t.command g.commands u (omega arith)

    stays : (x : ℕ) → motion S t.moves (S.thread_of_name x) ≡ stay → S.thread_of_name x < S.threads
        → value_of (edit t.command c.value) (source S (c.at (S.thread_of_name x)) x) ≡ value_of c.value (source S (c.at (S.thread_of_name x)) x)
    stays x s l = go (source S (c.at (S.thread_of_name x)) x) refl
      where
        o : thread_of S (c.at (S.thread_of_name x)) ≡ S.thread_of_name x
        o = (W.stands (S.thread_of_name x) l).0

        choose : (u : ℕ) → (u < S.publics) ⊎ (S.thread_of_name u ≡ thread_of S (c.at (S.thread_of_name x))) → Untouched S t.command u
        choose u (inl p) = public-untouched S U c t W g f t.command g.commands u p
        choose u (inr q) = untouched-of u (rw (q, o) s)

        go : (q : Option ℕ) → source S (c.at (S.thread_of_name x)) x ≡ q → value_of (edit t.command c.value) q ≡ value_of c.value q
        go none h = refl
        go (some u) h = edit-other S U t.command c.value u (choose u (source-own (c.at (S.thread_of_name x)) x u (sym o) h))

    shown-after : (R : ℕ → Option ℕ) → ((x : ℕ) → motion S t.moves (S.thread_of_name x) ≡ stay → R x ≡ shown S c x)
        → ((x : ℕ) (a b : Spot) → motion S t.moves (S.thread_of_name x) ≡ pass a b → value_of (edit t.command c.value) (source S b x) ≡ R x)
        → (x : ℕ) → shown S (after S t c) x ≡ R x
    shown-after R hs hm x = go (motion S t.moves (S.thread_of_name x)) refl (ltb (S.thread_of_name x) S.threads) refl
      where
        go : (μ : Motion) → motion S t.moves (S.thread_of_name x) ≡ μ → (β : Bool) → ltb (S.thread_of_name x) S.threads ≡ β → shown S (after S t c) x ≡ R x
        go stay s true l = rw (hs x s, s, l) (stays x s (ltb-true (S.thread_of_name x) S.threads l))
        go stay s false l = rw (hs x s, s, l) (edit-other S U t.command c.value x (untouched-of x s))
        go (pass a b) s true l = rw (l, s) (hm x a b s)
        go (pass a b) s false l =
            let k : S.thread_of_name x < S.threads
            = (g.owned (S.thread_of_name x) a b s).2 in let n : S.threads ≤ S.thread_of_name x = ltb-false (S.thread_of_name x) S.threads l in absurd (omega arith)

    -- the value in the state, of a name of a moving thread
    shown-at : (x : ℕ) (a b : Spot) → motion S t.moves (S.thread_of_name x) ≡ pass a b → shown S c x ≡ value_of c.value (source S a x)
    shown-at x a b s = rw (lt-ltb (S.thread_of_name x) S.threads (g.owned (S.thread_of_name x) a b s).2, f.stands (S.thread_of_name x) a b s)

  pub source_first : (l x : ℕ) → source S (spot l 0) x ≡ pick (is_stop_node (S.node l)) none (some x)
  source_first l x = go (S.node l)
    where
      go : (ν : Node) → name_shown_at S ν l 0 x ≡ pick (is_stop_node ν) none (some x)
      go stop = refl
      go (choice f c) = refl
      go (new r m) = refl
      go (call d) = refl

  -- ---- a Stop's chain keeps the state

  pub ending-shown : (c : Configuration) (k j v : ℕ) → S.node k ≡ stop → WellFormed S U c → Shaped S U (ending S U k j v)
      → Fits S (ending S U k j v) c → (x : ℕ) → shown S (after S (ending S U k j v) c) x ≡ shown S c x
  ending-shown c k j v h W g f = shown-after c (ending S U k j v) W g f (shown S c) (λ x s. refl) mv
    where
      mv : (x : ℕ) (a b : Spot) → single (S.thread k) (spot k j) (spot k (suc j)) (S.thread_of_name x) ≡ pass a b
          → value_of (edit (release (get_or (S.held k) j 0) v) c.value) (source S b x) ≡ shown S c x
      mv x a b s =
          let (p, q, r) = single-cases (S.thread k) (S.thread_of_name x) (spot k j) (spot k (suc j)) a b s in
          rw (shown-at c (ending S U k j v) W g f x a b s, q, r, h)

  -- ---- silent

  pub silent-shown : (c : Configuration) (b l : ℕ) → S.branch b ≡ silent l → WellFormed S U c → Shaped S U (going_by S U b l) → Fits S (going_by S U b l) c
      → (x : ℕ) → shown S (after S (going_by S U b l) c) x ≡ value_of (shown S c) (arrived S (S.thread (S.home b)) l x)
  silent-shown c b l h W g f = shown-after c (going_by S U b l) W g f (λ x. value_of (shown S c) (arrived S θ l x)) st mv
    where
      θ : ℕ
      θ = S.thread (S.home b)

      st : (x : ℕ) → single θ (spot (S.home b) 0) (spot l 0) (S.thread_of_name x) ≡ stay → value_of (shown S c) (arrived S θ l x) ≡ shown S c x
      st x s = rw (single-stay θ (S.thread_of_name x) (spot (S.home b) 0) (spot l 0) s, and-false (is_stop_node (S.node l)))

      mv : (x : ℕ) (a d : Spot) → single θ (spot (S.home b) 0) (spot l 0) (S.thread_of_name x) ≡ pass a d
          → value_of c.value (source S d x) ≡ value_of (shown S c) (arrived S θ l x)
      mv x a d s =
          let (p, q, r) = single-cases θ (S.thread_of_name x) (spot (S.home b) 0) (spot l 0) a d s in
          rw (r, source_first l x, p, same_self θ, and-true (is_stop_node (S.node l)))
          (go (is_stop_node (S.node l)) (shown-at c (going_by S U b l) W g f x a d s ∙ rw (q, silent-node S A b l h)))
        where
          go : (β : Bool) → shown S c x ≡ c.value x → value_of c.value (pick β none (some x)) ≡ value_of (shown S c) (pick β none (some x))
          go true e = refl
          go false e = sym e

  -- ---- New

  pub new-shown : (c : Configuration) (k r l v : ℕ) → S.node k ≡ new r l → WellFormed S U c → Shaped S U (making S U k r l v) → Fits S (making S U k r l v) c
      → (x : ℕ) → shown S (after S (making S U k r l v) c) x ≡ value_of (put (shown S c) r (some v)) (arrived S (S.thread k) l x)
  new-shown c k r l v h W g f = shown-after c (making S U k r l v) W g f (λ x. value_of (put (shown S c) r (some v)) (arrived S θ l x)) st mv
    where
      θ : ℕ
      θ = S.thread k

      st : (x : ℕ) → single θ (spot k 0) (spot l 0) (S.thread_of_name x) ≡ stay → value_of (put (shown S c) r (some v)) (arrived S θ l x) ≡ shown S c x
      st x s =
          let o : same (S.thread_of_name x) θ ≡ false = single-stay θ (S.thread_of_name x) (spot k 0) (spot l 0) s in
          rw (o, and-false (is_stop_node (S.node l))) (put_other (shown S c) r (some v) x (λ e. same_false (S.thread_of_name x) θ o (rw e (A.new-name k r l h).of)))

      mv : (x : ℕ) (a d : Spot) → single θ (spot k 0) (spot l 0) (S.thread_of_name x) ≡ pass a d
          → value_of (put c.value r (some v)) (source S d x) ≡ value_of (put (shown S c) r (some v)) (arrived S θ l x)
      mv x a d s =
          let (p, q, t) = single-cases θ (S.thread_of_name x) (spot k 0) (spot l 0) a d s in
          rw (t, source_first l x, p, same_self θ, and-true (is_stop_node (S.node l)))
          (go (is_stop_node (S.node l)) (shown-at c (making S U k r l v) W g f x a d s ∙ rw (q, h)) (ℕ_discrete x r))
        where
          go : (β : Bool) → shown S c x ≡ c.value x → Dec (x ≡ r)
              → value_of (put c.value r (some v)) (pick β none (some x)) ≡ value_of (put (shown S c) r (some v)) (pick β none (some x))
          go true e δ = refl
          go false e (yes w) = rw (w, put_self c.value r (some v), put_self (shown S c) r (some v))
          go false e (no w) = put_other c.value r (some v) x w ∙ sym e ∙ sym (put_other (shown S c) r (some v) x w)

  -- ---- calls

  module _ (k d : ℕ) (h : S.node k ≡ call d) where
    -- after the chain's last place a name that the root does not hold has no value
    onward-source : (e : ℕ → Option ℕ) (i x : ℕ) → i ≤ chain S d k → given (e x) ≡ is_held S (onward S d k i) x
        → value_of e (source S (onward S d k i) x) ≡ value_of e (source S (spot k (suc i)) x)
    unfolding passed
    onward-source e i x b w = go (ltb i (chain S d k)) refl w
      where
        go : (β : Bool) → ltb i (chain S d k) ≡ β → given (e x) ≡ is_held S (pick β (spot k (suc i)) (spot (S.root d) 0)) x
            → value_of e (source S (pick β (spot k (suc i)) (spot (S.root d) 0)) x) ≡ value_of e (source S (spot k (suc i)) x)
        go true l u = refl
        go false l u =
            let m : chain S d k ≤ i = ltb-false i (chain S d k) l in
            rw (source_first (S.root d) x, h, take_all i (S.formals d) (omega arith), drop_of_length-le (S.formals d) {i = i} (omega arith))
            (end (is_stop_node (S.node (S.root d))) (member x (S.formals d)) refl)
          where
            end : (β γ : Bool) → member x (S.formals d) ≡ γ → value_of e (pick β none (some x)) ≡ value_of e (pick β none (pick γ (some x) none))
            end true γ s = refl
            end false true s = refl
            end false false s = not-given (e x) (u ∙ held_first S U A (S.root d) x ∙ rw (root-held S A k d h) s)

    argument-shown : (c : Configuration) → WellFormed S U c → c.at (S.thread k) ≡ spot k 0 → (u : ℕ) → member u (S.arguments k) ≡ true
        → shown S c u ≡ c.value u
    argument-shown c W p u m = go (usable-own S A k u (A.argument-usable k d u h m))
      where
        go : (u < S.publics) ⊎ (S.thread_of_name u ≡ S.thread k) → shown S c u ≡ c.value u
        go (inl l) = rw (le-ltb (S.thread_of_name u) S.threads (no-thread S A u (inl l)))
        go (inr o) = rw (o, lt-ltb (S.thread k) S.threads (A.thread-inside k), p, h)

    pub call-shown : (c : Configuration) → WellFormed S U c → Shaped S U (entering S U d k) → Fits S (entering S U d k) c
        → (x : ℕ) → shown S (after S (entering S U d k) c) x ≡ value_of (shown S c) (called S k d x)
    unfolding member
    call-shown c W g f = shown-after c (entering S U d k) W g f (λ x. value_of (shown S c) (called S k d x)) st mv
      where
        θ : ℕ
        θ = S.thread k

        st : (x : ℕ) → single θ (spot k 0) (onward S d k 0) (S.thread_of_name x) ≡ stay → value_of (shown S c) (called S k d x) ≡ shown S c x
        st x s = rw (single-stay θ (S.thread_of_name x) (spot k 0) (onward S d k 0) s)

        mv : (x : ℕ) (a b : Spot) → single θ (spot k 0) (onward S d k 0) (S.thread_of_name x) ≡ pass a b
            → value_of c.value (source S b x) ≡ value_of (shown S c) (called S k d x)
        mv x a b s =
            let (p, q, r) = single-cases θ (S.thread_of_name x) (spot k 0) (onward S d k 0) a b s in
            rw (
              r,
              onward-source c.value 0 x (omega arith)
                  (rw (s, r) at ((well-formed-after S U c (entering S U d k) W g f).held x (bound_of S A k x p))),
              h,
              p,
              same_self θ,
            )
            (go (is_stop_node (S.node (S.root d))) (passed (S.formals d) (S.arguments k) x) refl)
          where
            go : (β : Bool) (o : Option ℕ) → passed (S.formals d) (S.arguments k) x ≡ o
                → value_of c.value (pick β none o) ≡ value_of (shown S c) (pick β none o)
            go true o e = refl
            go false none e = refl
            go false (some u) e =
                sym (argument-shown c W (f.stands θ (spot k 0) (onward S d k 0) (rw (same_self θ))) u (passed-in (S.formals d) (S.arguments k) x u e))

    -- ---- a call's chain keeps the state

    pub copy-shown : (c : Configuration) (j v : ℕ) → j < length (S.formals d) → WellFormed S U c → Shaped S U (copying_at S U d k j v)
        → Fits S (copying_at S U d k j v) c
        → (x : ℕ) → shown S (after S (copying_at S U d k j v) c) x ≡ shown S c x
    copy-shown c j v l W g f = shown-after c (copying_at S U d k j v) W g f (shown S c) (λ x s. refl) mv
      where
        θ : ℕ
        θ = S.thread k

        y : ℕ
        y = get_or (S.formals d) j 0

        z : ℕ
        z = get_or (S.arguments k) j 0

        m : j < length (S.arguments k)
        m = rw (A.call-arguments k d h) l

        zv : c.value z ≡ some v
        zv = f.tests z v (asks-here z v [])

        nm : NameOf S θ y
        nm = formal-name S A k d h y (formal-at S U A k d h j l)

        not-y : (u : ℕ) → member u (S.arguments k) ≡ true → u ≢ y
        not-y u e q = choose (A.argument-usable k d u h e)
          where
            choose : (u < S.publics) ⊎ (member u (S.held k) ≡ true) → ⊥
            choose (inl p) = let w : S.publics ≤ y = nm.low in omega arith
            choose (inr p) = true≢false (sym p ∙ rw q (A.call-fresh k d y h (formal-at S U A k d h j l)))

        rest : (x : ℕ) (o : Option ℕ) → passed (drop (suc j) (S.formals d)) (drop (suc j) (S.arguments k)) x ≡ o
            → value_of (put c.value y (some v)) o ≡ value_of c.value o
        rest x none e = refl
        rest x (some u) e =
            put_other c.value y (some v) u
            (not-y u (member-drop u (suc j) (S.arguments k) (passed-in (drop (suc j) (S.formals d)) (drop (suc j) (S.arguments k)) x u e)))

        one : (x : ℕ) (β : Bool) → Dec (x ≡ y)
            → value_of (put c.value y (some v)) (pick β none (pick (member x (take (suc j) (S.formals d))) (some x)
            (passed (drop (suc j) (S.formals d)) (drop (suc j) (S.arguments k)) x)))
            ≡ value_of c.value (pick β none (pick (member x (take j (S.formals d))) (some x) (passed (drop j (S.formals d)) (drop j (S.arguments k)) x)))
        one x true δ = refl
        one x false (yes p) =
            rw (
              p,
              take-suc (S.formals d) j 0,
              member-snoc y y (take j (S.formals d)),
              same_self y,
              distinct-earlier (S.formals d) j (A.formals-distinct d) l,
              drop-cons (S.formals d) j 0,
              drop-cons (S.arguments k) j 0 m,
              passed-hit y z y (drop (suc j) (S.formals d)) (drop (suc j) (S.arguments k)) (same_self y),
              put_self c.value y (some v),
              zv,
            )
        one x false (no nq) =
            rw (
              take-suc (S.formals d) j 0,
              member-snoc x y (take j (S.formals d)),
              same-no x y nq,
              drop-cons (S.formals d) j 0,
              drop-cons (S.arguments k) j 0 m,
              passed-miss y z x (drop (suc j) (S.formals d)) (drop (suc j) (S.arguments k)) (same-no x y nq),
            )
            (two (member x (take j (S.formals d))))
          where
            two : (γ : Bool) → value_of (put c.value y (some v)) (pick γ (some x) (passed (drop (suc j) (S.formals d)) (drop (suc j) (S.arguments k)) x))
                ≡ value_of c.value (pick γ (some x) (passed (drop (suc j) (S.formals d)) (drop (suc j) (S.arguments k)) x))
            two true = put_other c.value y (some v) x nq
            two false = rest x (passed (drop (suc j) (S.formals d)) (drop (suc j) (S.arguments k)) x) refl

        mv : (x : ℕ) (a b : Spot) → single θ (spot k (suc j)) (onward S d k (suc j)) (S.thread_of_name x) ≡ pass a b
            → value_of (put c.value y (some v)) (source S b x) ≡ shown S c x
        mv x a b s =
            let (p, q, r) = single-cases θ (S.thread_of_name x) (spot k (suc j)) (onward S d k (suc j)) a b s in
            rw (
              shown-at c (copying_at S U d k j v) W g f x a b s,
              q,
              r,
              onward-source (put c.value y (some v)) (suc j) x (omega arith)
                  (rw (s, r) at ((well-formed-after S U c (copying_at S U d k j v) W g f).held x (bound_of S A k x p))),
              h,
            )
            (one x (is_stop_node (S.node (S.root d))) (ℕ_discrete x y))

    pub release-shown : (c : Configuration) (j v : ℕ) → j < length (S.held k) → WellFormed S U c → Shaped S U (releasing_at S U d k j v)
        → Fits S (releasing_at S U d k j v) c
        → (x : ℕ) → shown S (after S (releasing_at S U d k j v) c) x ≡ shown S c x
    unfolding passed
    release-shown c j v l W g f = shown-after c (releasing_at S U d k j v) W g f (shown S c) (λ x s. refl) mv
      where
        θ : ℕ
        θ = S.thread k

        i : ℕ
        i = length (S.formals d) + j

        z : ℕ
        z = get_or (S.held k) j 0

        apart : (x : ℕ) → member x (S.formals d) ≡ true → x ≢ z
        apart x m p = true≢false (sym (member-get_or (S.held k) j l) ∙ rw (← p) (A.call-fresh k d x h m))

        one : (x : ℕ) (β γ : Bool) → member x (S.formals d) ≡ γ
            → value_of (put c.value z none) (pick β none (pick γ (some x) none)) ≡ value_of c.value (pick β none (pick γ (some x) none))
        one x true γ e = refl
        one x false true e = put_other c.value z none x (apart x e)
        one x false false e = refl

        mv : (x : ℕ) (a b : Spot) → single θ (spot k (suc i)) (onward S d k (suc i)) (S.thread_of_name x) ≡ pass a b
            → value_of (put c.value z none) (source S b x) ≡ shown S c x
        mv x a b s =
            let (p, q, r) = single-cases θ (S.thread_of_name x) (spot k (suc i)) (onward S d k (suc i)) a b s in
            rw (
              shown-at c (releasing_at S U d k j v) W g f x a b s,
              q,
              r,
              onward-source (put c.value z none) (suc i) x (omega arith)
                  (rw (s, r) at ((well-formed-after S U c (releasing_at S U d k j v) W g f).held x (bound_of S A k x p))),
              h,
              take_all (suc i) (S.formals d) (omega arith),
              take_all i (S.formals d) (omega arith),
              drop_of_length-le (S.formals d) {i = suc i} (omega arith),
              drop_of_length-le (S.formals d) {i = i} (omega arith),
            )
            (one x (is_stop_node (S.node (S.root d))) (member x (S.formals d)) refl)

  -- ---- communication

  module _ (s a z l r x y m : ℕ) (hs : S.branch s ≡ send a z l) (hr : S.branch r ≡ receive x y m) (df : S.thread (S.home s) ≢ S.thread (S.home r)) where
    abbrev ks : ℕ
    ks = S.home s

    abbrev kr : ℕ
    kr = S.home r

    abbrev θ : ℕ
    θ = S.thread ks

    abbrev η : ℕ
    η = S.thread kr

    abbrev two : ℕ → Motion
    two = pair θ (spot ks 0) (spot l 0) η (spot kr 0) (spot m 0)

    pub communication-shown : (c : Configuration) (i j : ℕ) → WellFormed S U c → Shaped S U (communicating S U s a z l r x y m i j)
        → Fits S (communicating S U s a z l r x y m i j) c
        → (u : ℕ) → shown S (after S (communicating S U s a z l r x y m i j) c) u ≡ value_of (shown S c) (received S θ z l η y m u)
    communication-shown c i j W g f = shown-after c t W g f (λ u. value_of (shown S c) (received S θ z l η y m u)) st mv
      where
        t : Description
        t = communicating S U s a z l r x y m i j

        at-s : c.at θ ≡ spot ks 0
        at-s = f.stands θ (spot ks 0) (spot l 0) (rw (same_self θ))

        at-r : c.at η ≡ spot kr 0
        at-r = f.stands η (spot kr 0) (spot m 0) (rw (same-no η θ (λ p. df (sym p)), same_self η))

        zj : c.value z ≡ some j
        zj = f.tests z j (asks-there a i (test x i ∷ test z j ∷ []) z j (asks-there x i (test z j ∷ []) z j (asks-here z j [])))

        -- the sent name's value in the state
        zv : shown S c z ≡ some j
        zv = choose (usable-own S A ks z (A.send-usable s a z l hs).1)
          where
            choose : (z < S.publics) ⊎ (S.thread_of_name z ≡ θ) → shown S c z ≡ some j
            choose (inl p) = rw (le-ltb (S.thread_of_name z) S.threads (no-thread S A z (inl p))) zj
            choose (inr o) = rw (o, lt-ltb θ S.threads (A.thread-inside ks), at-s, send-node S A s a z l hs) zj

        thr-y : S.thread_of_name y ≡ η
        thr-y = (A.receive-name r x y m hr).of

        val-s : (u : ℕ) → S.thread_of_name u ≡ θ → shown S c u ≡ c.value u
        val-s u o = rw (o, lt-ltb θ S.threads (A.thread-inside ks), at-s, send-node S A s a z l hs)

        val-r : (u : ℕ) → S.thread_of_name u ≡ η → shown S c u ≡ c.value u
        val-r u o = rw (o, lt-ltb η S.threads (A.thread-inside kr), at-r, receive-node S A r x y m hr)

        not-y : (u : ℕ) → same (S.thread_of_name u) η ≡ false → same u y ≡ false
        not-y u o = same-no u y (λ e. same_false (S.thread_of_name u) η o (rw e thr-y))

        st : (u : ℕ) → two (S.thread_of_name u) ≡ stay → value_of (shown S c) (received S θ z l η y m u) ≡ shown S c u
        st u e = go (same (S.thread_of_name u) θ) refl (same (S.thread_of_name u) η) refl e
          where
            go : (β : Bool) → same (S.thread_of_name u) θ ≡ β → (γ : Bool) → same (S.thread_of_name u) η ≡ γ
                → pick β (pass (spot ks 0) (spot l 0)) (pick γ (pass (spot kr 0) (spot m 0)) stay) ≡ stay
                → value_of (shown S c) (received S θ z l η y m u) ≡ shown S c u
            go true p γ q e = absurd (stay-pass (spot ks 0) (spot l 0) (sym e))
            go false p true q e = absurd (stay-pass (spot kr 0) (spot m 0) (sym e))
            go false p false q e = simp (p, q, and-false, not-y u q)

        mv : (u : ℕ) (a' b' : Spot) → two (S.thread_of_name u) ≡ pass a' b'
            → value_of (put c.value y (some j)) (source S b' u) ≡ value_of (shown S c) (received S θ z l η y m u)
        mv u a' b' e = go (same (S.thread_of_name u) θ) refl (same (S.thread_of_name u) η) refl e
          where
            sender : (β : Bool) → same u y ≡ false → shown S c u ≡ c.value u
                → value_of (put c.value y (some j)) (pick β none (some u)) ≡ value_of (shown S c) (pick β none (some u))
            sender true n e = refl
            sender false n e = put_other c.value y (some j) u (same_false u y n) ∙ sym e

            receiver : (β : Bool) → shown S c u ≡ c.value u → Dec (u ≡ y)
                → value_of (put c.value y (some j)) (pick β none (some u)) ≡ value_of (shown S c) (pick β none (pick (same u y) (some z) (some u)))
            receiver true e δ = refl
            receiver false e (yes p) = rw (p, same_self y, put_self c.value y (some j), zv)
            receiver false e (no p) = rw (same-no u y p) (put_other c.value y (some j) u p ∙ sym e)

            go : (β : Bool) → same (S.thread_of_name u) θ ≡ β → (γ : Bool) → same (S.thread_of_name u) η ≡ γ
                → pick β (pass (spot ks 0) (spot l 0)) (pick γ (pass (spot kr 0) (spot m 0)) stay) ≡ pass a' b'
                → value_of (put c.value y (some j)) (source S b' u) ≡ value_of (shown S c) (received S θ z l η y m u)
            go true p true q e = absurd (df (sym (same_true (S.thread_of_name u) θ p) ∙ same_true (S.thread_of_name u) η q))
            go true p false q e =
                rw (← pass-to (spot ks 0) (spot l 0) a' b' e, source_first l u)
                (simp (p, q, and-true, and-false, not-y u q) (sender (is_stop_node (S.node l)) (not-y u q) (val-s u (same_true (S.thread_of_name u) θ p))))
            go false p true q e =
                rw (← pass-to (spot kr 0) (spot m 0) a' b' e, source_first m u)
                (simp (p, q, and-true, and-false) (receiver (is_stop_node (S.node m)) (val-r u (same_true (S.thread_of_name u) η q)) (ℕ_discrete u y)))
            go false p false q e = absurd (stay-pass a' b' e)
