-- The descriptions of an accepted table are well shaped: their threads pass between places of their own, and the names held at the places change as the
-- commands say.
use Prim.Native.Nat.{ℕ, suc, ◌+◌, ◌-◌, ◌≤◌, ◌<◌}
use mathlib.Core.Path.{◌≡◌, refl, sym, ap, ◌∙◌}
use mathlib.Core.Logic.{◌≢◌}
use mathlib.Core.Bool.{Bool, true, false, not, ◌&&◌, ◌||◌, true≢false}
use mathlib.Core.List.{List, [], ◌∷◌}
use native.Mathlib.Omega.{arith}
use native.Mathlib.Nat.{zero-sub}
use lib.Dec.{ltb}
use lib.ListN.{length, take, drop, get_or, drop_of_length-le}
use lib.Seq.{take-suc, take_all}
use borrow.Author.Tests.{lt-ltb, le-leb, ltb-true, ltb-false}
use Rattle.lists.specs.Lists as Lists
use Rattle.lists.specs.Lists.{pick, same, member}
use Rattle.lists.proofs.Tests.{or-false, or_assoc, same_self, same_true, same-no, same_false}
use Rattle.lists.proofs.Members.{member-append, member-get_or, member-rest, distinct-earlier}
use Rattle.scheme.specs.Scheme.{Scheme, Node, stop, choice, new, call, silent, send, receive}
use Rattle.table.specs.Accepted.{NameOf, Accepted}
use Rattle.net.specs.Image.{Label, label_of}
use Rattle.places.specs.Values.{Values}
use Rattle.places.specs.Places.{control}
use Rattle.places.specs.Transitions.{move, Test, test, Command, skip, take as taking, release, Description, is_left, is_reached, making, communicating}
use Rattle.readback.specs.Configurations.{Spot, spot, held_at, is_spot}
use Rattle.fidelity.specs.Inner.Marks.{Motion, stay, pass, leaves, arrives, asks, thread_of, is_place, is_held, held_after, Untouched, Holding, allows}
use Rattle.fidelity.specs.Inner.Marks.{Takes, Commands, Shaped}
use Rattle.fidelity.specs.Inner.Shapes.{single, pair, onto, chain, onward, entering, copying_at, releasing_at, ending, going_by}
use Rattle.fidelity.specs.Inner.Shapes.{Described, is-new, is-call, is-copy, is-release, is-ending, is-silent, is-communication}
use Rattle.fidelity.proofs.Basics.{member-snoc, pass-from, pass-to, stay-pass, asks_none, asks_nothing, asks-one, asks-three}
use Rattle.fidelity.proofs.Tables.{silent-inside, silent-held, silent-thread, send-inside, send-held, send-thread, receive_inside, receive-held}
use Rattle.fidelity.proofs.Tables.{receive-thread}
use Rattle.fidelity.proofs.Listed.{common-takes}
use Rattle.fidelity.proofs.Tables.{root-inside, root-held, formal-name}

module _ (S : Scheme) (U : Values) (A : Accepted S) where
  pub held_first : (l x : ℕ) → is_held S (spot l 0) x ≡ member x (S.held l)
  held_first l x = go (S.node l)
    where
      go : (ν : Node) → member x (held_at S ν (spot l 0)) ≡ member x (S.held l)
      go stop = refl
      go (choice f c) = refl
      go (new r m) = refl
      go (call d) = rw (zero-sub (suc (length (S.formals d))))

  pub place-first : (l : ℕ) → l < S.nodes → is_place S (spot l 0) ≡ true
  place-first l b = rw (lt-ltb l S.nodes b) (go (S.node l))
    where
      go : (ν : Node) → is_spot S ν (spot l 0) ≡ true
      go stop = le-leb 0 (length (S.held l)) (omega arith)
      go (choice f c) = same_self 0
      go (new r m) = same_self 0
      go (call d) = le-leb 0 (length (S.formals d) + length (S.held l)) (omega arith)

  -- ---- one thread moves

  abbrev Touches : ℕ → Command → Type 0
  Touches θ skip = Unit {0}
  Touches θ (taking y v) = S.thread_of_name y ≡ θ
  Touches θ (release z v) = S.thread_of_name z ≡ θ

  module _ (n i : ℕ) (b : Spot) (κ : Command) (ob : thread_of S b ≡ S.thread n) (pa : is_place S (spot n i) ≡ true) (pb : is_place S b ≡ true)
      (hh : (x : ℕ) → is_held S b x ≡ held_after S κ x (is_held S (spot n i) x)) (th : Touches (S.thread n) κ) where
    single-left : (m k : ℕ) → is_left S (onto n i b) (control m k) ≡ leaves (single (S.thread n) (spot n i) b (S.thread m)) (spot m k)
    unfolding Lists.some
    single-left m k = go (same (S.thread m) (S.thread n)) refl
      where
        go : (β : Bool) → same (S.thread m) (S.thread n) ≡ β → ((same n m && same i k) || false) ≡ leaves (pick β (pass (spot n i) b) stay) (spot m k)
        go true e = or-false (same n m && same i k)
        go false e = rw (same-no n m (λ p. same_false (S.thread m) (S.thread n) e (rw p)))

    single-reached : (m k : ℕ) → is_reached S (onto n i b) (control m k) ≡ arrives (single (S.thread n) (spot n i) b (S.thread m)) (spot m k)
    unfolding Lists.some
    single-reached m k = go (same (S.thread m) (S.thread n)) refl
      where
        go : (β : Bool) → same (S.thread m) (S.thread n) ≡ β
            → ((same b.node m && same b.index k) || false) ≡ arrives (pick β (pass (spot n i) b) stay) (spot m k)
        go true e = or-false (same b.node m && same b.index k)
        go false e = rw (same-no b.node m (λ p. same_false (S.thread m) (S.thread n) e (rw (← p) ob)))

    single-owned : (ϑ : ℕ) (c d : Spot) → single (S.thread n) (spot n i) b ϑ ≡ pass c d
        → (thread_of S c ≡ ϑ) × (thread_of S d ≡ ϑ) × (ϑ < S.threads) × (is_place S c ≡ true) × (is_place S d ≡ true)
    single-owned ϑ c d h = go (same ϑ (S.thread n)) refl h
      where
        go : (β : Bool) → same ϑ (S.thread n) ≡ β → pick β (pass (spot n i) b) stay ≡ pass c d
            → (thread_of S c ≡ ϑ) × (thread_of S d ≡ ϑ) × (ϑ < S.threads) × (is_place S c ≡ true) × (is_place S d ≡ true)
        go true p q = rw (same_true ϑ (S.thread n) p, ← pass-from (spot n i) b c d q, ← pass-to (spot n i) b c d q) (refl, ob, A.thread-inside n, pa, pb)
        go false p q = absurd (stay-pass c d q)

    single-held : (x : ℕ) → Holding S κ x (single (S.thread n) (spot n i) b (S.thread_of_name x))
    single-held x = go (same (S.thread_of_name x) (S.thread n)) refl
      where
        other : (κ : Command) → Touches (S.thread n) κ → S.thread_of_name x ≢ S.thread n → Untouched S κ x
        other skip t o = tt
        other (taking y v) t o = λ p. o (rw p t)
        other (release z v) t o = λ p. o (rw p t)

        go : (β : Bool) → same (S.thread_of_name x) (S.thread n) ≡ β → Holding S κ x (pick β (pass (spot n i) b) stay)
        go true p = hh x
        go false p = other κ th (same_false (S.thread_of_name x) (S.thread n) p)

    -- a description that moves one thread is well shaped
    single-shaped : (label : Label) (ts : List Test) → ((x v : ℕ) → asks ts x v ≡ true → Takes S U x v)
        → (((y : ℕ) → S.thread_of_name y ≡ S.thread n → single (S.thread n) (spot n i) b (S.thread_of_name y) ≡ pass (spot n i) b)
        → Commands S U (record { label = label; moves = onto n i b; tests = ts; command = κ }) κ)
        → Shaped S U (record { label = label; moves = onto n i b; tests = ts; command = κ })
    single-shaped label ts tk ck = record {
      left = single-left;
      reached = single-reached;
      owned = single-owned;
      holding = λ x _. single-held x;
      testing = tk;
      commands = ck (λ y p. rw (p, same_self (S.thread n)));
    }

  -- ---- New

  pub new-shaped : (k r l v : ℕ) → S.node k ≡ new r l → (S.publics ≤ v) × (v < S.publics + U.privates) → allows S U r v ≡ true
      → Shaped S U (making S U k r l v)
  new-shaped k r l v h pv re =
      single-shaped k 0 (spot l 0) (taking r v) (A.new-thread k r l h) (place-first k (A.new-inside k r l h).0)
      (place-first l (A.new-inside k r l h).1) hh nm.of
      (label_of 2 k r) [] (λ x w q. asks_nothing x w q)
      (λ m. (spot k 0, spot l 0, m r nm.of, rw (held_first k r) (A.new-fresh k r l h), nm.low, nm.high, re, λ _. pv))
    where
      nm : NameOf S (S.thread k) r
      nm = A.new-name k r l h

      hh : (x : ℕ) → is_held S (spot l 0) x ≡ (same x r || is_held S (spot k 0) x)
      hh x = rw (held_first l x, held_first k x, A.new-held k r l h) (member-snoc x r (S.held k))

  -- ---- names that end at a Stop

  pub ending-shaped : (k j v : ℕ) → k < S.nodes → S.node k ≡ stop → j < length (S.held k) → allows S U (get_or (S.held k) j 0) v ≡ true
      → (S.restricted (get_or (S.held k) j 0) ≡ true → S.publics ≤ v)
      → Shaped S U (ending S U k j v)
  ending-shaped k j v km h l re pv =
      single-shaped k j (spot k (suc j)) (release (get_or (S.held k) j 0) v) refl
      (rw (lt-ltb k S.nodes km, h) (le-leb j (length (S.held k)) (omega arith))) (rw (lt-ltb k S.nodes km, h) (le-leb (suc j) (length (S.held k)) l))
      (λ x. rw h (member-rest x (S.held k) j (A.held-distinct k) l)) nm.of (label_of 1 k (get_or (S.held k) j 0)) [] (λ x w q. asks_nothing x w q)
      (λ m. (nm.low, nm.high, re, asks_none, pv))
    where
      nm : NameOf S (S.thread k) (get_or (S.held k) j 0)
      nm = A.held-name k (get_or (S.held k) j 0) (member-get_or (S.held k) j l)

  -- ---- calls

  module _ (k d : ℕ) (h : S.node k ≡ call d) where
    pub onward-thread : (i : ℕ) → thread_of S (onward S d k i) ≡ S.thread k
    onward-thread i = go (ltb i (chain S d k))
      where
        go : (β : Bool) → thread_of S (pick β (spot k (suc i)) (spot (S.root d) 0)) ≡ S.thread k
        go true = refl
        go false = A.call-thread k d h

    onward-place : (i : ℕ) → is_place S (onward S d k i) ≡ true
    onward-place i = go (ltb i (chain S d k)) refl
      where
        go : (β : Bool) → ltb i (chain S d k) ≡ β → is_place S (pick β (spot k (suc i)) (spot (S.root d) 0)) ≡ true
        go true e = rw (lt-ltb k S.nodes (A.call-inside k d h).0, h) (le-leb (suc i) (chain S d k) (ltb-true i (chain S d k) e))
        go false e = place-first (S.root d) (root-inside S A k d h)

    pub held-call : (i x : ℕ)
        → is_held S (spot k i) x ≡ (member x (take (i - 1) (S.formals d)) || member x (drop (i - suc (length (S.formals d))) (S.held k)))
    held-call i x = rw h (member-append x (take (i - 1) (S.formals d)) (drop (i - suc (length (S.formals d))) (S.held k)))

    pub held_onward : (i x : ℕ) → i ≤ chain S d k → is_held S (onward S d k i) x ≡ is_held S (spot k (suc i)) x
    unfolding member
    held_onward i x b = go (ltb i (chain S d k)) refl
      where
        go : (β : Bool) → ltb i (chain S d k) ≡ β → is_held S (pick β (spot k (suc i)) (spot (S.root d) 0)) x ≡ is_held S (spot k (suc i)) x
        go true e = refl
        go false e =
            let l : chain S d k ≤ i = ltb-false i (chain S d k) e in
            rw (
              held_first (S.root d) x,
              root-held S A k d h,
              held-call (suc i) x,
              take_all (suc i - 1) (S.formals d) (omega arith),
              drop_of_length-le (S.held k) {i = suc i - suc (length (S.formals d))} (omega arith),
            )
            (sym (or-false (member x (S.formals d))))

    pub held-copy : (j x : ℕ) → j ≤ length (S.formals d) → is_held S (spot k (suc j)) x ≡ (member x (take j (S.formals d)) || member x (S.held k))
    held-copy j x l =
        let p : suc j - 1 ≡ j = omega arith in
        let q : suc j - suc (length (S.formals d)) ≡ 0 = omega arith in
        held-call (suc j) x ∙ rw (p, q)

    pub held-release : (j x : ℕ) → is_held S (spot k (suc (length (S.formals d) + j))) x ≡ (member x (S.formals d) || member x (drop j (S.held k)))
    held-release j x =
        let q : suc (length (S.formals d) + j) - suc (length (S.formals d)) ≡ j = omega arith in
        held-call (suc (length (S.formals d) + j)) x ∙ rw (q, take_all (suc (length (S.formals d) + j) - 1) (S.formals d) (omega arith))

    pub formal-at : (j : ℕ) → j < length (S.formals d) → member (get_or (S.formals d) j 0) (S.formals d) ≡ true
    formal-at j l = member-get_or (S.formals d) j l

    pub call-shaped : Shaped S U (entering S U d k)
    unfolding member
    call-shaped =
        single-shaped k 0 (onward S d k 0) skip (onward-thread 0) (place-first k (A.call-inside k d h).0) (onward-place 0)
        (λ x. rw (held_onward 0 x (omega arith), held-copy 0 x (omega arith), held_first k x)) tt (label_of 5 k 0) [] (λ x w q. asks_nothing x w q) (λ m. tt)

    pub copy-shaped : (j v : ℕ) → j < length (S.formals d)
        → Takes S U (get_or (S.arguments k) j 0) v
        → allows S U (get_or (S.formals d) j 0) v ≡ true → Shaped S U (copying_at S U d k j v)
    copy-shaped j v l tk re =
        single-shaped k (suc j) (onward S d k (suc j)) (taking f v) (onward-thread (suc j))
        (rw (lt-ltb k S.nodes (A.call-inside k d h).0, h) (le-leb (suc j) (chain S d k) (omega arith))) (onward-place (suc j)) hh nm.of
        (label_of 0 k f) (test a v ∷ []) (λ x w q. let (p, e) = asks-one a v x w q in rw (← p, ← e) tk)
        (λ m. (
          spot k (suc j),
          onward S d k (suc j),
          m f nm.of,
          fresh,
          nm.low,
          nm.high,
          re,
          λ r. absurd
              (true≢false (sym r ∙ A.formal-free d f (formal-at j l))),
        ))
      where
        f : ℕ
        f = get_or (S.formals d) j 0

        a : ℕ
        a = get_or (S.arguments k) j 0

        nm : NameOf S (S.thread k) f
        nm = formal-name S A k d h f (formal-at j l)

        hh : (x : ℕ) → is_held S (onward S d k (suc j)) x ≡ (same x f || is_held S (spot k (suc j)) x)
        hh x =
            held_onward (suc j) x (omega arith) ∙ held-copy (suc j) x l
            ∙ rw (take-suc (S.formals d) j 0, member-snoc x f (take j (S.formals d)), held-copy j x (omega arith))
            (or_assoc (same x f) (member x (take j (S.formals d))) (member x (S.held k)))

        fresh : is_held S (spot k (suc j)) f ≡ false
        fresh = held-copy j f (omega arith) ∙ rw (distinct-earlier (S.formals d) j (A.formals-distinct d) l, A.call-fresh k d f h (formal-at j l))

    pub release-shaped : (j v : ℕ) → j < length (S.held k) → allows S U (get_or (S.held k) j 0) v ≡ true
        → (S.restricted (get_or (S.held k) j 0) ≡ true → S.publics ≤ v) → Shaped S U (releasing_at S U d k j v)
    release-shaped j v l re pv =
        single-shaped k (suc (length (S.formals d) + j)) (onward S d k (suc (length (S.formals d) + j))) (release z v)
        (onward-thread (suc (length (S.formals d) + j)))
        (rw (lt-ltb k S.nodes (A.call-inside k d h).0, h) (le-leb (suc (length (S.formals d) + j)) (chain S d k) (omega arith)))
        (onward-place (suc (length (S.formals d) + j))) hh nm.of
        (label_of 1 k z) [] (λ x w q. asks_nothing x w q)
        (λ m. (nm.low, nm.high, re, asks_none, pv))
      where
        z : ℕ
        z = get_or (S.held k) j 0

        nm : NameOf S (S.thread k) z
        nm = A.held-name k z (member-get_or (S.held k) j l)

        fresh : (x : ℕ) → member x (S.formals d) ≡ true → same x z ≡ false
        fresh x m = same-no x z (λ p. true≢false (sym (member-get_or (S.held k) j l) ∙ rw (← p) (A.call-fresh k d x h m)))

        split : (x : ℕ) (β : Bool) → member x (S.formals d) ≡ β
            → (member x (S.formals d) || (not (same x z) && member x (drop j (S.held k))))
            ≡ (not (same x z) && (member x (S.formals d) || member x (drop j (S.held k))))
        split x true m = rw (m, fresh x m)
        split x false m = rw m

        hh : (x : ℕ) → is_held S (onward S d k (suc (length (S.formals d) + j))) x ≡ (not (same x z) && is_held S (spot k (suc (length (S.formals d) + j))) x)
        hh x =
            let p : suc (length (S.formals d) + j) ≡ length (S.formals d) + suc j = omega arith in
            held_onward (suc (length (S.formals d) + j)) x (omega arith)
            ∙ rw (held-release j x, p, held-release (suc j) x, member-rest x (S.held k) j (A.held-distinct k) l) (split x (member x (S.formals d)) refl)

  -- ---- choices

  pub silent-shaped : (b l : ℕ) → S.branch b ≡ silent l → Shaped S U (going_by S U b l)
  silent-shaped b l h =
      single-shaped (S.home b) 0 (spot l 0) skip (silent-thread S A b l h) (place-first (S.home b) (A.home-inside b))
      (place-first l (silent-inside S A b l h))
      (λ x. rw (held_first l x, held_first (S.home b) x, silent-held S A b l h)) tt (label_of 3 b 0) [] (λ x w q. asks_nothing x w q) (λ m. tt)

  module _ (s a z l r x y m : ℕ) (hs : S.branch s ≡ send a z l) (hr : S.branch r ≡ receive x y m) (df : S.thread (S.home s) ≢ S.thread (S.home r)) where
    abbrev pub θ : ℕ
    θ = S.thread (S.home s)

    abbrev pub η : ℕ
    η = S.thread (S.home r)

    abbrev pub both : ℕ → Motion
    both = pair θ (spot (S.home s) 0) (spot l 0) η (spot (S.home r) 0) (spot m 0)

    pair_left : (n k : ℕ) → is_left S (move (S.home s) 0 l 0 ∷ move (S.home r) 0 m 0 ∷ []) (control n k) ≡ leaves (both (S.thread n)) (spot n k)
    unfolding Lists.some
    pair_left n k = go (same (S.thread n) θ) refl (same (S.thread n) η) refl
      where
        go : (β : Bool) → same (S.thread n) θ ≡ β → (γ : Bool) → same (S.thread n) η ≡ γ
            → ((same (S.home s) n && same 0 k) || ((same (S.home r) n && same 0 k) || false))
            ≡ leaves (pick β (pass (spot (S.home s) 0) (spot l 0)) (pick γ (pass (spot (S.home r) 0) (spot m 0)) stay)) (spot n k)
        go true p true q = absurd (df (sym (same_true (S.thread n) θ p) ∙ same_true (S.thread n) η q))
        go true p false q =
            rw (same-no (S.home r) n (λ e. same_false (S.thread n) η q (ap (λ (k : ℕ). S.thread k) (sym e)))) (or-false (same (S.home s) n && same 0 k))
        go false p true q =
            rw (same-no (S.home s) n (λ e. same_false (S.thread n) θ p (ap (λ (k : ℕ). S.thread k) (sym e)))) (or-false (same (S.home r) n && same 0 k))
        go false p false q =
            rw (
              same-no (S.home s) n (λ e. same_false (S.thread n) θ p (ap (λ (k : ℕ). S.thread k) (sym e))),
              same-no (S.home r) n
                  (λ e. same_false (S.thread n) η q (ap (λ (k : ℕ). S.thread k) (sym e))),
            )

    pair-reached : (n k : ℕ) → is_reached S (move (S.home s) 0 l 0 ∷ move (S.home r) 0 m 0 ∷ []) (control n k) ≡ arrives (both (S.thread n)) (spot n k)
    unfolding Lists.some
    pair-reached n k = go (same (S.thread n) θ) refl (same (S.thread n) η) refl
      where
        not-l : same (S.thread n) θ ≡ false → same l n ≡ false
        not-l p = same-no l n (λ e. same_false (S.thread n) θ p (rw (← e) (send-thread S A s a z l hs)))

        not-m : same (S.thread n) η ≡ false → same m n ≡ false
        not-m q = same-no m n (λ e. same_false (S.thread n) η q (rw (← e) (receive-thread S A r x y m hr)))

        go : (β : Bool) → same (S.thread n) θ ≡ β → (γ : Bool) → same (S.thread n) η ≡ γ
            → ((same l n && same 0 k) || ((same m n && same 0 k) || false))
            ≡ arrives (pick β (pass (spot (S.home s) 0) (spot l 0)) (pick γ (pass (spot (S.home r) 0) (spot m 0)) stay)) (spot n k)
        go true p true q = absurd (df (sym (same_true (S.thread n) θ p) ∙ same_true (S.thread n) η q))
        go true p false q = rw (not-m q) (or-false (same l n && same 0 k))
        go false p true q = rw (not-l p) (or-false (same m n && same 0 k))
        go false p false q = rw (not-l p, not-m q)

    pair-owned : (ϑ : ℕ) (c d : Spot) → both ϑ ≡ pass c d
        → (thread_of S c ≡ ϑ) × (thread_of S d ≡ ϑ) × (ϑ < S.threads) × (is_place S c ≡ true) × (is_place S d ≡ true)
    pair-owned ϑ c d h = go (same ϑ θ) refl (same ϑ η) refl h
      where
        go : (β : Bool) → same ϑ θ ≡ β → (γ : Bool) → same ϑ η ≡ γ
            → pick β (pass (spot (S.home s) 0) (spot l 0)) (pick γ (pass (spot (S.home r) 0) (spot m 0)) stay) ≡ pass c d
            → (thread_of S c ≡ ϑ) × (thread_of S d ≡ ϑ) × (ϑ < S.threads) × (is_place S c ≡ true) × (is_place S d ≡ true)
        go true p γ q h =
            rw (same_true ϑ θ p, ← pass-from (spot (S.home s) 0) (spot l 0) c d h, ← pass-to (spot (S.home s) 0) (spot l 0) c d h) (
              refl,
              send-thread S A s a z l hs,
              A.thread-inside (S.home s),
              place-first (S.home s) (A.home-inside s),
              place-first l
                  (send-inside S A s a z l hs),
            )
        go false p true q h =
            rw (same_true ϑ η q, ← pass-from (spot (S.home r) 0) (spot m 0) c d h, ← pass-to (spot (S.home r) 0) (spot m 0) c d h) (
              refl,
              receive-thread S A r x y m hr,
              A.thread-inside (S.home r),
              place-first (S.home r) (A.home-inside r),
              place-first m
                  (receive_inside S A r x y m hr),
            )
        go false p false q h = absurd (stay-pass c d h)

    pub thread-y : S.thread_of_name y ≡ η
    thread-y = (A.receive-name r x y m hr).of

    pair_held : (v u : ℕ) → Holding S (taking y v) u (both (S.thread_of_name u))
    pair_held v u = go (same (S.thread_of_name u) θ) refl (same (S.thread_of_name u) η) refl
      where
        other : S.thread_of_name u ≢ η → u ≢ y
        other n p = n (rw p thread-y)

        go : (β : Bool) → same (S.thread_of_name u) θ ≡ β → (γ : Bool) → same (S.thread_of_name u) η ≡ γ
            → Holding S (taking y v) u (pick β (pass (spot (S.home s) 0) (spot l 0)) (pick γ (pass (spot (S.home r) 0) (spot m 0)) stay))
        go true p γ q =
            rw (held_first l u, held_first (S.home s) u, send-held S A s a z l hs, same-no u y (other (λ k. df (sym (same_true (S.thread_of_name u) θ p) ∙ k))))
        go false p true q = rw (held_first m u, held_first (S.home r) u, receive-held S A r x y m hr) (member-snoc u y (S.held (S.home r)))
        go false p false q = other (same_false (S.thread_of_name u) η q)

    pub communication-shaped : (i j : ℕ) → Takes S U a i → Takes S U x i → Takes S U z j → allows S U y j ≡ true
        → Shaped S U (communicating S U s a z l r x y m i j)
    communication-shaped i j ta tx tz re = record {
      left = pair_left;
      reached = pair-reached;
      owned = pair-owned;
      holding = λ u _. pair_held j u;
      testing = λ u w. asks-three (Takes S U) a i x i z j u w ta tx tz;
      commands = (
        spot (S.home r) 0,
        spot m 0,
        there,
        rw (held_first (S.home r) y) (A.receive-fresh r x y m hr),
        nm.low,
        nm.high,
        re,
        λ k. absurd
            (true≢false (sym k ∙ A.receive-free r x y m hr)),
      );
    }
      where
        nm : NameOf S η y
        nm = A.receive-name r x y m hr

        there : both (S.thread_of_name y) ≡ pass (spot (S.home r) 0) (spot m 0)
        there = rw (thread-y, same_self η, same-no η θ (λ p. df (sym p)))

  pub shaped : {t : Description} → Described S U t → Shaped S U t
  shaped (is-new n r l v h p re) = new-shaped n r l v h p re
  shaped (is-call n d h) = call-shaped n d h
  shaped (is-copy n d j v h l t re) = copy-shaped n d h j v l t re
  shaped (is-release n d j v h l re p) = release-shaped n d h j v l re p
  shaped (is-ending n j v km h l re p) = ending-shaped n j v km h l re p
  shaped (is-silent b l h) = silent-shaped b l h
  shaped (is-communication s a z l r x y m i j hs hr df im tz re own) =
      let (ta, tx, mt) = common-takes S U A s a z l r x y m i hs hr im in communication-shaped s a z l r x y m hs hr df i j ta tx tz re
