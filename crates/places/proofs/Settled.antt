-- Rounds on sets: each keeps them in the least reaches, and where one brings nothing they are the least reaches.
use Rattle.std.proofs.Common.{◌≡◌, ℕ, zero, suc, ◌+◌, ◌-◌, ◌*◌, ◌^◌, ◌<◌, ◌≤◌, Bool, true, false, not, ◌&&◌, ◌||◌, ltb, ◌⊎◌, List, [], ◌∷◌, length, replicate, sym, refl, ◌∙◌, subst, inl, inr, true≢false, suc-mul, arith, ltb-true, lt-ltb}
use mathlib.Core.Bool.{false≢true}
use Rattle.lists.specs.Lists.{same, word, range, some, member, total}
use Rattle.lists.proofs.Tests.{both_ways, and_intro, and_left, and_right}
use Rattle.lists.proofs.Tests.{or_cases, or_left, or_right, or-none, not-true-false, same_self, same-yes, same_true, same_false}
use Rattle.lists.proofs.Ranges.{member-from, from_member}
use Rattle.lists.proofs.Members.{member-here, member-there}
use Rattle.scheme.specs.Scheme.{Scheme, Node, stop, choice, new, call, Branch, absent, silent, send, receive}
use Rattle.table.specs.Accepted.{Accepted}
use Rattle.places.specs.Reach.{name_count, overlaps, is_source_name, sends_to, is_sent, passes, passes_at, is_passed, comes, Closed}
use Rattle.places.specs.Inner.Sets.{in_set, Under, Adds, Grown, hears_at, hears, said_at, is_said, Start, found, Found, Ears, Heard, Round}
use Rattle.places.proofs.Tallies.{some-intro, some-elim}
use Rattle.places.proofs.Bits.{bit-zero}
use Rattle.places.proofs.Least.{found_inside, reach-least}
use Rattle.places.proofs.Growing.{Quiet, in-long, bit-either}

not-false : (b : Bool) → b ≡ false → not b ≡ true
not-false true h = absurd (true≢false h)
not-false false h = refl

not-true : (b : Bool) → not b ≡ true → b ≡ false
not-true true h = absurd (false≢true h)
not-true false h = refl

zero_word : (n i : ℕ) → word (replicate n 0) i ≡ 0
zero_word zero i = refl
zero_word (suc n) zero = refl
zero_word (suc n) (suc i) = zero_word n i

pub zero_bit : (n x o : ℕ) → in_set (replicate n 0) x o ≡ false
zero_bit n x o = rw (zero_word n x) (bit-zero o)

module _ (S : Scheme) where
  abbrev n : ℕ
  n = name_count S

  abbrev branch_in : ℕ → Type 0
  branch_in r = member r (range S.branches) ≡ true

  -- ---- what receives hear

  hears-more : (R Q : ℕ → ℕ → Bool) → ((x o : ℕ) → R x o ≡ true → Q x o ≡ true) → (k y : ℕ) → hears S R k y ≡ true → hears S Q k y ≡ true
  unfolding hears
  hears-more R Q inc k y h =
      let (r, m, e) = some-elim (λ r. hears_at S R k y r (S.branch r)) (range S.branches) h in
      some-intro (λ r. hears_at S Q k y r (S.branch r)) r (range S.branches) m (go r (S.branch r) e)
    where
      go : (r : ℕ) (ρ : Branch) → hears_at S R k y r ρ ≡ true → hears_at S Q k y r ρ ≡ true
      go r absent h = h
      go r (silent l) h = h
      go r (send a z l) h = h
      go r (receive e x l) h =
          let t : Bool = same (64 + S.thread (S.home r)) k in
          and_intro (Q e k || t) (same x y) (side (or_cases (R e k) t (and_left (R e k || t) (same x y) h))) (and_right (R e k || t) (same x y) h)
        where
          side : (R e k ≡ true) ⊎ (same (64 + S.thread (S.home r)) k ≡ true) → (Q e k || same (64 + S.thread (S.home r)) k) ≡ true
          side (inl q) = or_left (Q e k) (same (64 + S.thread (S.home r)) k) (inc e k q)
          side (inr q) = or_right (Q e k) (same (64 + S.thread (S.home r)) k) q

  ears-start : (ws ears : List ℕ) → ears ≡ replicate 72 0 → Ears S ws ears
  ears-start ws ears e = rw e (record { size = refl; under = λ k y h. absurd (false≢true (sym (zero_bit 72 k y) ∙ h)) })

  -- the receives heard so far, and all of them
  abbrev pub heard_to : List ℕ → ℕ → ℕ → ℕ → Bool
  heard_to ws i k y = some (λ r. hears_at S (in_set ws) k y r (S.branch r)) (range i)

  pub heard_all : (ws before after : List ℕ) → Ears S ws before → Adds before after (heard_to ws S.branches) → Heard S ws after
  unfolding hears
  heard_all ws before after E A = record {
    size = A.size ∙ E.size;
    are = λ k y l. A.bits k y (rw E.size l) ∙ both_ways (in_set before k y || hears S (in_set ws) k y) (hears S (in_set ws) k y)
        (λ h. went k y (or_cases (in_set before k y) (hears S (in_set ws) k y) h)) (λ h. or_right (in_set before k y) (hears S (in_set ws) k y) h);
  }
    where
      went : (k y : ℕ) → (in_set before k y ≡ true) ⊎ (hears S (in_set ws) k y ≡ true) → hears S (in_set ws) k y ≡ true
      went k y (inl h) = E.under k y h
      went k y (inr h) = h

  pub heard-ears : (ws more ears : List ℕ) → Under ws (in_set more) → Heard S ws ears → Ears S more ears
  heard-ears ws more ears inc H = record {
    size = H.size;
    under = λ k y h. hears-more (in_set ws) (in_set more) inc k y (sym (H.are k y (rw (← H.size) (in-long ears k y h))) ∙ h);
  }

  module _ (ok : Accepted S) (ws ears : List ℕ) (H : Heard S ws ears) (low : Under ws (found S)) where
    eight : (b : ℕ) → S.thread (S.home b) < 8
    eight b = omega (arith, ok.thread-inside (S.home b), ok.few-threads)

    few : n ≤ 64
    few = omega (arith, ok.few-publics, ok.few-bounds)

    -- a receive that is heard at value k, below 64, or at its thread
    heard-by : (k y : ℕ) → k < 72 → in_set ears k y ≡ true
        → (r : ℕ) × (e : ℕ) × (l : ℕ) × (S.branch r ≡ receive e y l) × (branch_in r) × ((in_set ws e k || same (64 + S.thread (S.home r)) k) ≡ true)
    unfolding hears
    heard-by k y b h =
        let (r, m, q) = some-elim (λ r. hears_at S (in_set ws) k y r (S.branch r)) (range S.branches) (sym (H.are k y b) ∙ h) in
        go r m (S.branch r) refl q
      where
        go : (r : ℕ) → branch_in r → (ρ : Branch) → S.branch r ≡ ρ → hears_at S (in_set ws) k y r ρ ≡ true
            → (r : ℕ) × (e : ℕ) × (l : ℕ) × (S.branch r ≡ receive e y l) × (branch_in r) × ((in_set ws e k || same (64 + S.thread (S.home r)) k) ≡ true)
        go r m absent q t = absurd (false≢true t)
        go r m (silent l) q t = absurd (false≢true t)
        go r m (send a z l) q t = absurd (false≢true t)
        go r m (receive e x l) q t =
            let f : Bool = in_set ws e k || same (64 + S.thread (S.home r)) k in
            let d : x ≡ y = same_true x y (and_right f (same x y) t) in
            (r, e, l, rw (← d) q, m, and_left f (same x y) t)

    hears-in : (k y r e l : ℕ) → k < 72 → S.branch r ≡ receive e y l → branch_in r → (in_set ws e k || same (64 + S.thread (S.home r)) k) ≡ true
        → in_set ears k y ≡ true
    unfolding hears
    hears-in k y r e l b q m t =
        H.are k y b
        ∙ some-intro (λ r. hears_at S (in_set ws) k y r (S.branch r)) r (range S.branches) m
        (rw q (and_intro (in_set ws e k || same (64 + S.thread (S.home r)) k) (same y y) t (same_self y)))

    abbrev thread_of : ℕ → ℕ
    thread_of b = S.thread (S.home b)

    sent-intro : (R : ℕ → ℕ → Bool) (x o s a z l r e m : ℕ) → S.branch s ≡ send a z l → branch_in s → S.branch r ≡ receive e x m → branch_in r
        → R z o ≡ true → same (thread_of s) (thread_of r) ≡ false → overlaps S R a e ≡ true → is_sent S R x o ≡ true
    unfolding is_sent
    sent-intro R x o s a z l r e m qs ms qr mr hz d v =
        some-intro (λ s. some (λ r. sends_to S R x o s (S.branch s) r (S.branch r)) (range S.branches)) s (range S.branches) ms
        (some-intro (λ r. sends_to S R x o s (S.branch s) r (S.branch r)) r (range S.branches) mr
        (rw (qs, qr)
        (and_intro (same x x) (R z o && (not (same (thread_of s) (thread_of r)) && overlaps S R a e)) (same_self x)
        (and_intro (R z o) (not (same (thread_of s) (thread_of r)) && overlaps S R a e) hz
        (and_intro (not (same (thread_of s) (thread_of r))) (overlaps S R a e) (not-false (same (thread_of s) (thread_of r)) d) v)))))

    -- what is said stays in the least reaches
    said-sound : (x o : ℕ) → is_said S ears (found S) x o ≡ true → found S x o ≡ true
    unfolding is_said overlaps comes
    said-sound x o h =
        let (s, m, q) = some-elim (λ s. said_at S ears (found S) x o s (S.branch s)) (range S.branches) h in go s m (S.branch s) refl q
      where
        heard-so : (s a z l k : ℕ) → S.branch s ≡ send a z l → branch_in s → found S z o ≡ true → found S a k ≡ true → k < 64
            → in_set ears (64 + thread_of s) x ≡ false
            → (r : ℕ) × (e : ℕ) × (m : ℕ) × (S.branch r ≡ receive e x m) × (branch_in r) × ((in_set ws e k || same (64 + thread_of r) k) ≡ true)
            → found S x o ≡ true
        heard-so s a z l k qs ms hz ha b mine (r, e, m, qr, mr, t) =
            let lo : o < n = (found_inside S z o hz).1 in
            let lk : k < n = (found_inside S a k ha).1 in
            (reach-least S).closed x o (ok.receive-name r e x m qr).high lo
            (or_right (is_source_name S x && same x o) (is_sent S (found S) x o || is_passed S (found S) x o)
            (or_left (is_sent S (found S) x o) (is_passed S (found S) x o)
            (sent-intro (found S) x o s a z l r e m qs ms qr mr hz apart
            (some-intro (λ o. found S a o && found S e o) k (range n) (member-from k 0 n (omega arith) (omega arith))
            (and_intro (found S a k) (found S e k) ha (low e k (at (or_cases (in_set ws e k) (same (64 + thread_of r) k) t))))))))
          where
            at : (in_set ws e k ≡ true) ⊎ (same (64 + thread_of r) k ≡ true) → in_set ws e k ≡ true
            at (inl u) = u
            at (inr u) = let v : 64 + thread_of r ≡ k = same_true (64 + thread_of r) k u in absurd (omega arith)

            apart : same (thread_of s) (thread_of r) ≡ false
            apart =
                not-true-false (same (thread_of s) (thread_of r))
                (λ u. let v : thread_of s ≡ thread_of r = same_true (thread_of s) (thread_of r) u in
                true≢false (sym (hears-in (64 + thread_of s) x r e m (omega (arith, eight s)) qr mr
                (or_right (in_set ws e (64 + thread_of s)) (same (64 + thread_of r) (64 + thread_of s)) (same-yes (64 + thread_of r) (64 + thread_of s) (rw v)))) ∙
                mine))

        go : (s : ℕ) → branch_in s → (σ : Branch) → S.branch s ≡ σ → said_at S ears (found S) x o s σ ≡ true → found S x o ≡ true
        go s m absent e q = absurd (false≢true q)
        go s m (silent l) e q = absurd (false≢true q)
        go s m (send a z l) e q =
            let f : Bool = some (λ k. found S a k && in_set ears k x) (range 64) in
            let i : Bool = not (in_set ears (64 + thread_of s) x) in
            let p : (f && i) ≡ true = and_left (f && i) (found S z o) q in
            let (k, mk, hk) = some-elim (λ k. found S a k && in_set ears k x) (range 64) (and_left f i p) in
            let b : k < 64 = omega (arith, from_member k 0 64 mk) in
            heard-so s a z l k e m (and_right (f && i) (found S z o) q) (and_left (found S a k) (in_set ears k x) hk) b
            (not-true (in_set ears (64 + thread_of s) x) (and_right f i p))
            (heard-by k x (omega arith) (and_right (found S a k) (in_set ears k x) hk))
        go s m (receive a y l) e q = absurd (false≢true q)

    -- all that is sent is said
    said-complete : (x o : ℕ) → is_sent S (in_set ws) x o ≡ true → is_said S ears (in_set ws) x o ≡ true
    unfolding is_sent is_said overlaps
    said-complete x o h =
        let (s, ms, hs) = some-elim (λ s. some (λ r. sends_to S R x o s (S.branch s) r (S.branch r)) (range S.branches)) (range S.branches) h in
        let (r, mr, hr) = some-elim (λ r. sends_to S R x o s (S.branch s) r (S.branch r)) (range S.branches) hs in
        go s ms r mr (S.branch s) refl (S.branch r) refl hr
      where
        R : ℕ → ℕ → Bool
        R = in_set ws

        -- no receive of the send's thread binds x
        foreign : (s r e m : ℕ) → S.branch r ≡ receive e x m → same (thread_of s) (thread_of r) ≡ false → in_set ears (64 + thread_of s) x ≡ false
        foreign s r e m qr d =
            not-true-false (in_set ears (64 + thread_of s) x)
            (λ t. clash (heard-by (64 + thread_of s) x (omega (arith, eight s)) t))
          where
            clash : (v : ℕ) × (c : ℕ) × (l : ℕ) × (S.branch v ≡ receive c x l) × (branch_in v) ×
                ((in_set ws c (64 + thread_of s) || same (64 + thread_of v) (64 + thread_of s)) ≡ true) → ⊥
            clash (v, c, l, qv, mv, t) = side (or_cases (in_set ws c (64 + thread_of s)) (same (64 + thread_of v) (64 + thread_of s)) t)
              where
                side : (in_set ws c (64 + thread_of s) ≡ true) ⊎ (same (64 + thread_of v) (64 + thread_of s) ≡ true) → ⊥
                side (inl u) = let b : 64 + thread_of s < n = (found_inside S c (64 + thread_of s) (low c (64 + thread_of s) u)).1 in omega (arith, few)
                side (inr u) =
                    let b : 64 + thread_of v ≡ 64 + thread_of s = same_true (64 + thread_of v) (64 + thread_of s) u in
                    same_false (thread_of s) (thread_of r) d
                    (omega (arith, (ok.receive-name v c x l qv).of, (ok.receive-name r e x m qr).of))

        go : (s : ℕ) → branch_in s → (r : ℕ) → branch_in r → (σ : Branch) → S.branch s ≡ σ → (ρ : Branch) → S.branch r ≡ ρ
            → sends_to S R x o s σ r ρ ≡ true → some (λ s. said_at S ears R x o s (S.branch s)) (range S.branches) ≡ true
        go s ms r mr absent qs ρ qr t = absurd (false≢true t)
        go s ms r mr (silent l) qs ρ qr t = absurd (false≢true t)
        go s ms r mr (send a z l) qs absent qr t = absurd (false≢true t)
        go s ms r mr (send a z l) qs (silent m) qr t = absurd (false≢true t)
        go s ms r mr (send a z l) qs (send e y m) qr t = absurd (false≢true t)
        go s ms r mr (send a z l) qs (receive e y m) qr t =
            let d : Bool = not (same (thread_of s) (thread_of r)) in
            let v : Bool = overlaps S R a e in
            let px : x ≡ y = same_true x y (and_left (same x y) (R z o && (d && v)) t) in
            let p1 : (R z o && (d && v)) ≡ true = and_right (same x y) (R z o && (d && v)) t in
            let p2 : (d && v) ≡ true = and_right (R z o) (d && v) p1 in
            let qx : S.branch r ≡ receive e x m = rw px qr in
            let (k, mk, hk) = some-elim (λ o. R a o && R e o) (range n) (and_right d v p2) in
            let b : k < n = omega (arith, from_member k 0 n mk) in
            let f : Bool = some (λ k. R a k && in_set ears k x) (range 64) in
            let i : Bool = not (in_set ears (64 + thread_of s) x) in
            some-intro (λ s. said_at S ears R x o s (S.branch s)) s (range S.branches) ms
            (rw qs
            (and_intro (f && i) (R z o)
            (and_intro f i
            (some-intro (λ k. R a k && in_set ears k x) k (range 64) (member-from k 0 64 (omega arith) (omega (arith, few)))
            (and_intro (R a k) (in_set ears k x) (and_left (R a k) (R e k) hk)
            (hears-in k x r e m (omega (arith, few)) qx mr (or_left (R e k) (same (64 + thread_of r) k) (and_right (R a k) (R e k) hk)))))
            (not-false (in_set ears (64 + thread_of s) x) (foreign s r e m qx (not-true (same (thread_of s) (thread_of r)) (and_left d v p2)))))
            (and_left (R z o) (d && v) p1)))
        go s ms r mr (receive a y l) qs ρ qr t = absurd (false≢true t)

  -- ---- what formals take in

  passes-from : (R : ℕ → ℕ → Bool) (x o : ℕ) (fs args : List ℕ) → passes S R x o fs args ≡ true → (member x fs ≡ true) × ((a : ℕ) × (R a o ≡ true))
  unfolding passes
  passes-from R x o [] args h = absurd (false≢true h)
  passes-from R x o (f ∷ fs) [] h = absurd (false≢true h)
  passes-from R x o (f ∷ fs) (a ∷ args) h = go (or_cases (same x f && R a o) (passes S R x o fs args) h) (passes-from R x o fs args)
    where
      go : ((same x f && R a o) ≡ true) ⊎ (passes S R x o fs args ≡ true)
          → (passes S R x o fs args ≡ true → (member x fs ≡ true) × ((a : ℕ) × (R a o ≡ true))) → (member x (f ∷ fs) ≡ true) × ((a : ℕ) × (R a o ≡ true))
      go (inl e) ih = (rw (← same_true x f (and_left (same x f) (R a o) e)) (member-here x fs), (a, and_right (same x f) (R a o) e))
      go (inr e) ih = let (m, q) = ih e in (member-there x f fs m, q)

  passed-sound : Accepted S → (x o : ℕ) → is_passed S (found S) x o ≡ true → found S x o ≡ true
  unfolding is_passed comes
  passed-sound ok x o h =
      let (k, m, q) = some-elim (λ k. passes_at S (found S) x o k (S.node k)) (range S.nodes) h in
      let (lx, lo) = go k (S.node k) q in
      (reach-least S).closed x o lx lo
      (or_right (is_source_name S x && same x o) (is_sent S (found S) x o || is_passed S (found S) x o)
      (or_right (is_sent S (found S) x o) (is_passed S (found S) x o) h))
    where
      go : (k : ℕ) (ν : Node) → passes_at S (found S) x o k ν ≡ true → (x < n) × (o < n)
      go k stop q = absurd (false≢true q)
      go k (choice f c) q = absurd (false≢true q)
      go k (new r l) q = absurd (false≢true q)
      go k (call d) q =
          let (m, (a, e)) = passes-from (found S) x o (S.formals d) (S.arguments k) q in
          ((ok.formal-name d x m).high, (found_inside S a o e).1)

  -- ---- a round

  abbrev Rest : List ℕ → Type 0
  Rest ws = (x o : ℕ) → x < 64 → (is_sent S (in_set ws) x o || is_passed S (in_set ws) x o) ≡ true → in_set ws x o ≡ true

  pub round-made : Accepted S → (before mid after ears : List ℕ) (g h : Bool) → length before ≡ 64 → Heard S before ears
      → Grown before mid g (is_said S ears) → Grown mid after h (is_passed S) → Round S before after (g || h)
  round-made ok before mid after ears g h e H F G = record {
    size = G.size ∙ F.size;
    keeps = λ x o q. G.keeps x o (F.keeps x o q);
    within = λ low. G.within (found S) (passed-sound ok) (F.within (found S) (said-sound ok before ears H low) low);
    still = λ low q. let (p, r) = or-none g h q in rest low (F.still p) (G.still r);
    rises = omega (arith, F.rises, G.rises, bit-either g h);
  }
    where
      rest : Under before (found S) → (mid ≡ before) × Quiet before (is_said S ears) → (after ≡ mid) × Quiet mid (is_passed S) → Rest after
      rest low (a, f) (b, k) =
          subst Rest (sym (b ∙ a)) (λ x o l t. either x o (omega (arith, e, l)) (or_cases (is_sent S (in_set before) x o) (is_passed S (in_set before) x o) t))
        where
          either : (x o : ℕ) → x < length before → (is_sent S (in_set before) x o ≡ true) ⊎ (is_passed S (in_set before) x o ≡ true) → in_set before x o ≡ true
          either x o l (inl t) = f x o l (said-complete ok before ears H low x o t)
          either x o l (inr t) = subst (λ (ws : List ℕ). Quiet ws (is_passed S)) a k x o l t

  -- ---- the loop

  -- the sets lie in the least reaches and have the names that come to themselves; where the last round brought nothing, nothing comes
  pub record Going (ws ears : List ℕ) (grew : Bool) : Type 0 where
    pub size : length ws ≡ 64
    pub hear : Ears S ws ears
    pub low : Under ws (found S)
    pub own : (x : ℕ) → x < n → is_source_name S x ≡ true → in_set ws x x ≡ true
    pub rest : grew ≡ false → Rest ws

  pub going_start : (ws ears : List ℕ) → Start S ws → ears ≡ replicate 72 0 → Going ws ears true
  unfolding comes
  going_start ws ears T e = record {
    size = T.size;
    hear = ears-start ws ears e;
    low = λ x o h. in-least x o (sym (T.own x o) ∙ h);
    own = λ x l s. T.own x x ∙ rw (lt-ltb x n l, s) (same_self x);
    rest = λ q. absurd (true≢false q);
  }
    where
      in-least : (x o : ℕ) → (ltb x n && (is_source_name S x && same x o)) ≡ true → found S x o ≡ true
      in-least x o h =
          let l : x < n = ltb-true x n (and_left (ltb x n) (is_source_name S x && same x o) h) in
          let c : (is_source_name S x && same x o) ≡ true = and_right (ltb x n) (is_source_name S x && same x o) h in
          let q : x ≡ o = same_true x o (and_right (is_source_name S x) (same x o) c) in
          (reach-least S).closed x o l (rw (← q) l) (or_left (is_source_name S x && same x o) (is_sent S (found S) x o || is_passed S (found S) x o) c)

  pub going_on : (ws ears ws' ears' : List ℕ) (was grew : Bool) → Going ws ears was → Round S ws ws' grew → Ears S ws' ears' → Going ws' ears' grew
  going_on ws ears ws' ears' was grew G R E = record {
    size = R.size ∙ G.size;
    hear = E;
    low = R.within G.low;
    own = λ x l s. R.keeps x x (G.own x l s);
    rest = R.still G.low;
  }

  pub going_end : Accepted S → (ws ears : List ℕ) → Going ws ears false → ((x : ℕ) → word ws x < 2 ^ 64) → Found S ws
  unfolding comes
  going_end ok ws ears G sm = record { small = sm; are = λ x o. both_ways (found S x o) (in_set ws x o) ((reach-least S).least (in_set ws) shut x o) (G.low x o) }
    where
      shut : Closed S (in_set ws)
      shut x o lx lo c = go (or_cases (is_source_name S x && same x o) (is_sent S (in_set ws) x o || is_passed S (in_set ws) x o) c)
        where
          go : ((is_source_name S x && same x o) ≡ true) ⊎ ((is_sent S (in_set ws) x o || is_passed S (in_set ws) x o) ≡ true) → in_set ws x o ≡ true
          go (inl h) =
              let q : x ≡ o = same_true x o (and_right (is_source_name S x) (same x o) h) in
              rw (← q) (G.own x lx (and_left (is_source_name S x) (same x o) h))
          go (inr h) = G.rest refl x o (omega (arith, ok.few-publics, ok.few-bounds)) h

-- ---- the loop ends: the sum of the words rises, and is no more than this

abbrev pub most : ℕ
most = 1180591620717411303424

total-most : (ws : List ℕ) → ((x : ℕ) → word ws x < 2 ^ 64) → total ws ≤ length ws * 2 ^ 64
unfolding total
total-most [] h = omega arith
total-most (w ∷ ws) h = omega (arith, h 0, total-most ws (λ x. h (suc x)), suc-mul (length ws) (2 ^ 64))

pub sum-rises : (S : Scheme) (a b : List ℕ) → Round S a b true → length b ≡ 64 → ((x : ℕ) → word b x < 2 ^ 64) → most - total b < most - total a
sum-rises S a b R e h = let q : total b ≤ most = omega (arith, (rw e at (total-most b h))) in omega (arith, R.rises)
