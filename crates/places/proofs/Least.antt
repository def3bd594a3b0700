-- The rounds find the least closed reaches.
use Rattle.std.proofs.Common.{◌≡◌, ℕ, zero, suc, ◌+◌, ◌*◌, ◌<◌, ◌≤◌, Bool, true, false, not, ◌&&◌, ◌||◌, ◌⊎◌, List, [], ◌∷◌, map, get_or, sym, refl, ◌∙◌, inl, inr, true≢false, arith}
use mathlib.Core.Bool.{false≢true}
use native.Mathlib.Decide.{dec_lt}
use lib.ListN.{length-map}
use Rattle.lists.specs.Lists.{same, range, some, member}
use Rattle.lists.proofs.Tests.{and_intro, and_left, and_right, or_cases, or_left, or_right, not-true-false, not-false-true}
use Rattle.lists.proofs.Ranges.{from-length, member-from, from_member}
use Rattle.scheme.specs.Scheme.{Scheme, Node, stop, choice, new, call, Branch, absent, silent, send, receive}
use Rattle.places.specs.Inner.Holding.{count}
use Rattle.places.specs.Reach.{name_count, overlaps, is_source_name, sends_to, is_sent, passes, passes_at, is_passed, comes, Closed, Least}
use Rattle.places.specs.Reach.{tabled, look, is_new, rounds, reach_table}
use Rattle.places.proofs.Tallies.{some-intro, some-elim, sum, sum_lt, sum-most, count-le, count-lt, count_most, get_or-range, get_d_past}

module _ (S : Scheme) where
  abbrev n : ℕ
  n = name_count S

  below : (x : ℕ) → x < n → member x (range n) ≡ true
  below x l = member-from x 0 n (omega arith) (omega arith)

  range-below : (x m : ℕ) → member x (range m) ≡ true → x < m
  range-below x m h = omega (arith, from_member x 0 m h)

  -- ---- what comes in grows with the reaches

  module _ (R Q : ℕ → ℕ → Bool) (inc : (x o : ℕ) → R x o ≡ true → Q x o ≡ true) where
    some_more : (p q : ℕ → Bool) (xs : List ℕ) → ((x : ℕ) → p x ≡ true → q x ≡ true) → some p xs ≡ true → some q xs ≡ true
    some_more p q xs h s = let (x, m, e) = some-elim p xs s in some-intro q x xs m (h x e)

    pub overlaps-more : (a e : ℕ) → overlaps S R a e ≡ true → overlaps S Q a e ≡ true
    unfolding overlaps
    overlaps-more a e =
        some_more (λ o. R a o && R e o) (λ o. Q a o && Q e o) (range n)
        (λ o h. and_intro (Q a o) (Q e o) (inc a o (and_left (R a o) (R e o) h)) (inc e o (and_right (R a o) (R e o) h)))

    and-more : (a b c : Bool) → (b ≡ true → c ≡ true) → (a && b) ≡ true → (a && c) ≡ true
    and-more a b c f h = and_intro a c (and_left a b h) (f (and_right a b h))

    and_most : (a b c d : Bool) → (a ≡ true → b ≡ true) → (c ≡ true → d ≡ true) → (a && c) ≡ true → (b && d) ≡ true
    and_most a b c d f g h = and_intro b d (f (and_left a c h)) (g (and_right a c h))

    sends_more : (x o s : ℕ) (σ : Branch) (r : ℕ) (ρ : Branch) → sends_to S R x o s σ r ρ ≡ true → sends_to S Q x o s σ r ρ ≡ true
    sends_more x o s absent r ρ h = h
    sends_more x o s (silent l) r ρ h = h
    sends_more x o s (send a z l) r absent h = h
    sends_more x o s (send a z l) r (silent m) h = h
    sends_more x o s (send a z l) r (send e y m) h = h
    sends_more x o s (send a z l) r (receive e y m) h =
        let t : Bool = not (same (S.thread (S.home s)) (S.thread (S.home r))) in
        and-more (same x y) (R z o && (t && overlaps S R a e)) (Q z o && (t && overlaps S Q a e))
        (and_most (R z o) (Q z o) (t && overlaps S R a e) (t && overlaps S Q a e) (inc z o)
        (and-more t (overlaps S R a e) (overlaps S Q a e) (overlaps-more a e))) h
    sends_more x o s (receive a y l) r ρ h = h

    passes-more : (x o : ℕ) (fs args : List ℕ) → passes S R x o fs args ≡ true → passes S Q x o fs args ≡ true
    unfolding passes
    passes-more x o [] args h = h
    passes-more x o (f ∷ fs) [] h = h
    passes-more x o (f ∷ fs) (a ∷ args) h = go (or_cases (same x f && R a o) (passes S R x o fs args) h) (passes-more x o fs args)
      where
        go : ((same x f && R a o) ≡ true) ⊎ (passes S R x o fs args ≡ true) → (passes S R x o fs args ≡ true → passes S Q x o fs args ≡ true)
            → ((same x f && Q a o) || passes S Q x o fs args) ≡ true
        go (inl e) ih = or_left (same x f && Q a o) (passes S Q x o fs args) (and-more (same x f) (R a o) (Q a o) (inc a o) e)
        go (inr e) ih = or_right (same x f && Q a o) (passes S Q x o fs args) (ih e)

    passes-at-more : (x o k : ℕ) (ν : Node) → passes_at S R x o k ν ≡ true → passes_at S Q x o k ν ≡ true
    passes-at-more x o k stop h = h
    passes-at-more x o k (choice f c) h = h
    passes-at-more x o k (new r l) h = h
    passes-at-more x o k (call d) h = passes-more x o (S.formals d) (S.arguments k) h

    comes-more : (x o : ℕ) → comes S R x o ≡ true → comes S Q x o ≡ true
    unfolding comes is_sent is_passed
    comes-more x o h = go (or_cases (is_source_name S x && same x o) (is_sent S R x o || is_passed S R x o) h)
      where
        late : (is_sent S R x o ≡ true) ⊎ (is_passed S R x o ≡ true) → (is_sent S Q x o || is_passed S Q x o) ≡ true
        late (inl e) =
            or_left (is_sent S Q x o) (is_passed S Q x o)
            (some_more (λ s. some (λ r. sends_to S R x o s (S.branch s) r (S.branch r)) (range S.branches))
            (λ s. some (λ r. sends_to S Q x o s (S.branch s) r (S.branch r)) (range S.branches)) (range S.branches)
            (λ s. some_more (λ r. sends_to S R x o s (S.branch s) r (S.branch r)) (λ r. sends_to S Q x o s (S.branch s) r (S.branch r)) (range S.branches)
            (λ r. sends_more x o s (S.branch s) r (S.branch r))) e)
        late (inr e) =
            or_right (is_sent S Q x o) (is_passed S Q x o)
            (some_more (λ k. passes_at S R x o k (S.node k)) (λ k. passes_at S Q x o k (S.node k)) (range S.nodes) (λ k. passes-at-more x o k
            (S.node k)) e)

        go : ((is_source_name S x && same x o) ≡ true) ⊎ ((is_sent S R x o || is_passed S R x o) ≡ true)
            → ((is_source_name S x && same x o) || (is_sent S Q x o || is_passed S Q x o)) ≡ true
        go (inl e) = or_left (is_source_name S x && same x o) (is_sent S Q x o || is_passed S Q x o) e
        go (inr e) = or_right (is_source_name S x && same x o) (is_sent S Q x o || is_passed S Q x o) (late (or_cases (is_sent S R x o) (is_passed S R x o) e))

  -- ---- tables

  look-tabled : (R : ℕ → ℕ → Bool) (x o : ℕ) → x < n → o < n → look S (tabled S R) x o ≡ R x o
  unfolding look tabled
  look-tabled R x o lx lo =
      let p : 0 + x ≡ x = omega arith in
      let q : 0 + o ≡ o = omega arith in
      rw (get_or-range (λ x. map (R x) (range n)) [] 0 n x lx, p, get_or-range (R x) false 0 n o lo, q)

  tabled-inside : (R : ℕ → ℕ → Bool) (x o : ℕ) → look S (tabled S R) x o ≡ true → (x < n) × (o < n)
  unfolding look tabled
  tabled-inside R x o h = go (dec_lt x n) (dec_lt o n)
    where
      go : Dec (x < n) → Dec (o < n) → (x < n) × (o < n)
      go (yes a) (yes b) = (a, b)
      go (yes a) (no b) =
          let e : get_or (get_or (map (λ x. map (R x) (range n)) (range n)) x []) o false ≡ false
          = rw (get_or-range (λ x. map (R x) (range n)) [] 0 n x a)
          (get_d_past false (map (R (0 + x)) (range n)) o (omega (arith, length-map (range n) (R (0 + x)), from-length 0 n))) in
          absurd (false≢true (sym e ∙ h))
      go (no a) b =
          let e : get_or (get_or (map (λ x. map (R x) (range n)) (range n)) x []) o false ≡ false
          = rw (get_d_past [] (map (λ x. map (R x) (range n)) (range n)) x
          (omega (arith, length-map (range n) (λ x. map (R x) (range n)), from-length 0 n))) in
          absurd (false≢true (sym e ∙ h))

  abbrev next : List (List Bool) → List (List Bool)
  next t = tabled S (λ x o. look S t x o || comes S (look S t) x o)

  rounds-keep : (P : List (List Bool) → Type 0) → ((t : List (List Bool)) → P t → P (next t)) → (k : ℕ) (t : List (List Bool)) → P t → P (rounds S k t)
  unfolding rounds
  rounds-keep P f zero t p = p
  rounds-keep P f (suc k) t p = go (is_new S (look S t)) (rounds-keep P f k (next t) (f t p))
    where
      go : (b : Bool) → P (rounds S k (next t)) → P (elim b [ true ↦ rounds S k (next t) | false ↦ t ])
      go true ih = ih
      go false ih = p

  -- ---- nothing new at the end

  abbrev missing : List (List Bool) → ℕ
  missing t = sum (λ x. count (λ o. not (look S t x o)) 0 n) n

  new-found : (t : List (List Bool)) → is_new S (look S t) ≡ true
      → (x : ℕ) × (o : ℕ) × (x < n) × (o < n) × (look S t x o ≡ false) × (comes S (look S t) x o ≡ true)
  unfolding is_new
  new-found t h =
      let (x, mx, e) = some-elim (λ x. some (λ o. not (look S t x o) && comes S (look S t) x o) (range n)) (range n) h in
      let (o, mo, q) = some-elim (λ o. not (look S t x o) && comes S (look S t) x o) (range n) e in (
        x,
        o,
        range-below x n mx,
        range-below o n mo,
        off (look S t x o) (and_left (not (look S t x o)) (comes S (look S t) x o) q),
        and_right (not (look S t x o)) (comes S (look S t) x o) q,
      )
    where
      off : (b : Bool) → not b ≡ true → b ≡ false
      off true h = absurd (false≢true h)
      off false h = refl

  not-kept : (a b : Bool) → not (a || b) ≡ true → not a ≡ true
  not-kept true b h = h
  not-kept false b h = refl

  fewer : (t : List (List Bool)) → is_new S (look S t) ≡ true → missing (next t) < missing t
  fewer t h = let (x, o, lx, lo, f, c) = new-found t h in go x o lx lo f c
    where
      each : (x o : ℕ) → x < n → o < n → not (look S (next t) x o) ≡ true → not (look S t x o) ≡ true
      each x o lx lo e =
          not-kept (look S t x o) (comes S (look S t) x o) (rw (look-tabled (λ x o. look S t x o || comes S (look S t) x o) x o lx lo) at e)

      go : (x o : ℕ) → x < n → o < n → look S t x o ≡ false → comes S (look S t) x o ≡ true → missing (next t) < missing t
      go x o lx lo f c =
          sum_lt (λ x. count (λ o. not (look S (next t) x o)) 0 n) (λ x. count (λ o. not (look S t x o)) 0 n) x n lx
          (count-lt (λ o. not (look S (next t) x o)) (λ o. not (look S t x o)) o 0 n (omega arith) (omega arith)
          (rw (look-tabled (λ x o. look S t x o || comes S (look S t) x o) x o lx lo, f, c)) (rw f)
          (λ p _ b. each x p lx (omega arith)))
          (λ y ly. count-le (λ o. not (look S (next t) y o)) (λ o. not (look S t y o)) 0 n (λ p _ b. each y p ly (omega arith)))

  done : (k : ℕ) (t : List (List Bool)) → missing t ≤ k → is_new S (look S (rounds S k t)) ≡ false
  unfolding rounds
  done zero t h = not-true-false (is_new S (look S t)) (λ e. let q : missing (next t) < missing t = fewer t e in omega arith)
  done (suc k) t h = go (is_new S (look S t)) refl (done k (next t))
    where
      go : (b : Bool) → is_new S (look S t) ≡ b → (missing (next t) ≤ k → is_new S (look S (rounds S k (next t))) ≡ false)
          → is_new S (look S (elim b [ true ↦ rounds S k (next t) | false ↦ t ])) ≡ false
      go true e ih = ih (omega (arith, fewer t e))
      go false e ih = e

  abbrev found : ℕ → ℕ → Bool
  found = look S (reach_table S)

  pub found_inside : (x o : ℕ) → found x o ≡ true → (x < n) × (o < n)
  unfolding reach_table
  found_inside =
      rounds-keep (λ t. (x o : ℕ) → look S t x o ≡ true → (x < n) × (o < n)) (λ t p. tabled-inside (λ x o. look S t x o || comes S (look S t) x o)) (n * n)
      (tabled S (λ x o. false)) (tabled-inside (λ x o. false))

  found-closed : Closed S found
  unfolding reach_table is_new
  found-closed x o lx lo c = not-false-true (found x o) (λ f. absurd (true≢false (sym (here f) ∙ quiet)))
    where
      start : List (List Bool)
      start = tabled S (λ x o. false)

      quiet : is_new S found ≡ false
      quiet = done (n * n) start (sum-most (λ x. count (λ o. not (look S start x o)) 0 n) n n (λ x. count_most (λ o. not (look S start x o)) 0 n))

      here : found x o ≡ false → is_new S found ≡ true
      here f =
          some-intro (λ x. some (λ o. not (found x o) && comes S found x o) (range n)) x (range n) (below x lx)
          (some-intro (λ o. not (found x o) && comes S found x o) o (range n) (below o lo) (rw (f, c)))

  found-least : (Q : ℕ → ℕ → Bool) → Closed S Q → (x o : ℕ) → found x o ≡ true → Q x o ≡ true
  unfolding reach_table
  found-least Q cl =
      rounds-keep (λ t. (x o : ℕ) → look S t x o ≡ true → Q x o ≡ true) more (n * n) (tabled S (λ x o. false)) start
    where
      start : (x o : ℕ) → look S (tabled S (λ x o. false)) x o ≡ true → Q x o ≡ true
      start x o h = let (lx, lo) = tabled-inside (λ x o. false) x o h in absurd (false≢true (sym (look-tabled (λ x o. false) x o lx lo) ∙ h))

      more : (t : List (List Bool)) → ((x o : ℕ) → look S t x o ≡ true → Q x o ≡ true) → (x o : ℕ) → look S (next t) x o ≡ true → Q x o ≡ true
      more t p x o h = let (lx, lo) = tabled-inside (λ x o. look S t x o || comes S (look S t) x o) x o h in inner lx lo
        where
          inner : x < n → o < n → Q x o ≡ true
          inner lx lo =
              go (or_cases (look S t x o) (comes S (look S t) x o) (sym (look-tabled (λ x o. look S t x o || comes S (look S t) x o) x o lx lo) ∙ h))
            where
              go : (look S t x o ≡ true) ⊎ (comes S (look S t) x o ≡ true) → Q x o ≡ true
              go (inl e) = p x o e
              go (inr e) = cl x o lx lo (comes-more (look S t) Q p x o e)

  -- the reaches found are the least closed ones
  pub reach-least : Least S found
  reach-least = record { closed = found-closed; least = found-least }
