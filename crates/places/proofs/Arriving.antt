-- What arrives at a name is in its reach: the reaches in force are closed, so that what is copied or sent may be held; and nothing but itself arrives at a
-- public or
-- a restricted name.
use Rattle.std.proofs.Common.{◌≡◌, ℕ, zero, suc, ◌+◌, ◌<◌, ◌≤◌, Bool, true, false, not, ◌&&◌, ◌||◌, ltb, ◌⊎◌, List, [], ◌∷◌, length, get_or, sym, refl, ◌∙◌, inl, inr, arith, ltb-true, le-ltb, lt-ltb}
use mathlib.Core.Bool.{false≢true}
use native.Mathlib.Decide.{dec_lt}
use Rattle.lists.specs.Lists.{same, from, range, some, member}
use Rattle.lists.proofs.Tests.{and_intro, and_left, and_right, or_cases, or_left, or_right, same_self, same_true, same-no}
use Rattle.lists.proofs.Ranges.{member-from, from_member}
use Rattle.lists.proofs.Members.{member-get_or, one-member, member-keep}
use Rattle.scheme.specs.Scheme.{Scheme, Node, stop, choice, new, call, Branch, absent, silent, send, receive}
use Rattle.table.specs.Accepted.{Accepted}
use Rattle.places.specs.Values.{Values, values_of, shares}
use Rattle.places.specs.Places.{common, is_common}
use Rattle.places.specs.Held.{private_count}
use Rattle.places.specs.Reach.{name_count, overlaps, is_source_name, sends_to, is_sent, passes, passes_at, is_passed, comes, look, reach_table, value_reach, values_for}
use Rattle.places.proofs.Tallies.{some-intro, some-elim}
use Rattle.places.proofs.Least.{found_inside, reach-least}

module _ (S : Scheme) where
  abbrev U : Values
  U = values_for S

  abbrev pub found : ℕ → ℕ → Bool
  found = look S (reach_table S)

  pub origins-are : (x o : ℕ) → U.origins x o ≡ found x o
  unfolding values_for
  origins-are x o = refl

  pub privates-are : U.privates ≡ private_count S
  unfolding values_for
  privates-are = refl

  pub reach-is : (x v : ℕ) → U.reach x v ≡ value_reach S U.origins x v
  unfolding values_for
  reach-is x v = refl

  -- ---- closed

  pub inside : (x o : ℕ) → U.origins x o ≡ true → (x < name_count S) × (o < name_count S)
  unfolding values_for
  inside x o h = found_inside S x o h

  pub comes-in : (x o : ℕ) → x < name_count S → o < name_count S → comes S U.origins x o ≡ true → U.origins x o ≡ true
  unfolding values_for
  comes-in x o lx lo h = (reach-least S).closed x o lx lo h

  pub self : (x : ℕ) → x < name_count S → is_source_name S x ≡ true → U.origins x x ≡ true
  unfolding comes
  self x l h =
      comes-in x x l l
      (or_left (is_source_name S x && same x x) (is_sent S U.origins x x || is_passed S U.origins x x) (and_intro (is_source_name S x) (same x x) h (same_self x)))

  pub public-own : (p : ℕ) → p < S.publics → U.origins p p ≡ true
  public-own p l = self p (omega arith) (rw (lt-ltb p S.publics l))

  passed-in : (fs args : List ℕ) (j o : ℕ) → j < length fs → j < length args → U.origins (get_or args j 0) o ≡ true
      → passes S U.origins (get_or fs j 0) o fs args ≡ true
  unfolding passes
  passed-in [] args j o l k h = absurd (omega arith)
  passed-in (f ∷ fs) [] j o l k h = absurd (omega arith)
  passed-in (f ∷ fs) (a ∷ args) zero o l k h = rw (same_self f, h)
  passed-in (f ∷ fs) (a ∷ args) (suc j) o l k h =
      or_right (same (get_or fs j 0) f && U.origins a o) (passes S U.origins (get_or fs j 0) o fs args) (passed-in fs args j o (omega arith) (omega arith) h)

  -- ---- values of a name

  -- a private value, by a restricted name in the reach
  private-by : (x o v : ℕ) → S.publics ≤ v → member o (from S.publics S.bounds) ≡ true → S.restricted o ≡ true → U.origins x o ≡ true
      → U.reach x v ≡ true
  private-by x o v l m r h =
      rw (reach-is x v, le-ltb v S.publics l)
      (some-intro (λ o. S.restricted o && U.origins x o) o (from S.publics S.bounds) m (rw (r, h)))

  -- what is in the reach of x is in the reach of y: so are the values
  pub reach-flows : (x y v : ℕ) → ((o : ℕ) → U.origins x o ≡ true → U.origins y o ≡ true) → U.reach x v ≡ true → U.reach y v ≡ true
  reach-flows x y v flow h = go (dec_lt v S.publics)
    where
      go : Dec (v < S.publics) → U.reach y v ≡ true
      go (yes l) = rw (reach-is y v, lt-ltb v S.publics l) (flow v (rw (reach-is x v, lt-ltb v S.publics l) at h))
      go (no l) =
          let k : S.publics ≤ v = omega arith in
          let (o, m, q) = some-elim (λ o. S.restricted o && U.origins x o) (from S.publics S.bounds)
          (rw (reach-is x v, le-ltb v S.publics k) at h) in
          private-by y o v k m (and_left (S.restricted o) (U.origins x o) q) (flow o (and_right (S.restricted o) (U.origins x o) q))

  pub bound-member : (x v : ℕ) → S.publics ≤ x → member v (values_of S U x) ≡ (U.reach x v && member v (range (S.publics + U.privates)))
  unfolding values_of
  bound-member x v l = rw (le-ltb x S.publics l) (member-keep (U.reach x) v (range (S.publics + U.privates)))

  pub public-member : (x v : ℕ) → x < S.publics → member v (values_of S U x) ≡ true → v ≡ x
  unfolding values_of
  public-member x v l m = one-member v x (rw (lt-ltb x S.publics l) at m)

  pub carried : (x y v : ℕ) → S.publics ≤ y → ((o : ℕ) → U.origins x o ≡ true → U.origins y o ≡ true) → member v (values_of S U x) ≡ true
      → member v (values_of S U y) ≡ true
  carried x y v ly flow m = go (dec_lt x S.publics)
    where
      all : List ℕ
      all = range (S.publics + U.privates)

      at : U.reach y v ≡ true → member v all ≡ true → member v (values_of S U y) ≡ true
      at r k = rw (bound-member y v ly) (and_intro (U.reach y v) (member v all) r k)

      go : Dec (x < S.publics) → member v (values_of S U y) ≡ true
      go (yes l) =
          let e : v ≡ x = public-member x v l m in
          at (rw (e, reach-is y x, lt-ltb x S.publics l) (flow x (public-own x l))) (member-from v 0 (S.publics + U.privates) (omega arith) (omega arith))
      go (no l) =
          let h : (U.reach x v && member v all) ≡ true = sym (bound-member x v (omega arith)) ∙ m in
          at (reach-flows x y v flow (and_left (U.reach x v) (member v all) h)) (and_right (U.reach x v) (member v all) h)

  -- a public value is in the reach
  pub public-in : (x v : ℕ) → v < S.publics → member v (values_of S U x) ≡ true → U.origins x v ≡ true
  public-in x v l m = go (dec_lt x S.publics)
    where
      go : Dec (x < S.publics) → U.origins x v ≡ true
      go (yes k) = let e : v ≡ x = public-member x v k m in rw e (public-own x k)
      go (no k) =
          rw (reach-is x v, lt-ltb v S.publics l)
          at (and_left (U.reach x v) (member v (range (S.publics + U.privates))) (sym (bound-member x v (omega arith)) ∙ m))

  -- channels with a common value overlap
  pub overlapping : (a e i : ℕ) → member i (common S U a e) ≡ true → overlaps S U.origins a e ≡ true
  unfolding overlaps shares
  overlapping a e i h = go (or_cases (ltb i S.publics) (shares S U a e)
      (and_right (member i (values_of S U e)) meets (and_left both (member i (values_of S U a)) c)))
    where
      meets : Bool
      meets = ltb i S.publics || shares S U a e

      both : Bool
      both = member i (values_of S U e) && meets

      c : (both && member i (values_of S U a)) ≡ true
      c = sym (member-keep (is_common S U a e) i (values_of S U a)) ∙ h

      at : (o : ℕ) → o < name_count S → U.origins a o ≡ true → U.origins e o ≡ true
          → some (λ o. U.origins a o && U.origins e o) (range (name_count S)) ≡ true
      at o l p q = some-intro (λ o. U.origins a o && U.origins e o) o (range (name_count S)) (member-from o 0 (name_count S) (omega arith) (omega arith))
          (rw (p, q))

      go : (ltb i S.publics ≡ true) ⊎ (shares S U a e ≡ true) → some (λ o. U.origins a o && U.origins e o) (range (name_count S)) ≡ true
      go (inl p) =
          let l : i < S.publics = ltb-true i S.publics p in
          at i (omega arith) (public-in a i l (and_right both (member i (values_of S U a)) c))
          (public-in e i l (and_left (member i (values_of S U e)) meets (and_left both (member i (values_of S U a)) c)))
      go (inr p) =
          let (o, m, q) = some-elim (λ o. S.restricted o && (U.origins a o && U.origins e o)) (from S.publics S.bounds) p in
          let b : (U.origins a o && U.origins e o) ≡ true = and_right (S.restricted o) (U.origins a o && U.origins e o) q in
          at o (from_member o S.publics S.bounds m).1 (and_left (U.origins a o) (U.origins e o) b) (and_right (U.origins a o) (U.origins e o) b)

module _ (S : Scheme) (A : Accepted S) where
  pub own : (r : ℕ) → S.restricted r ≡ true → (values_for S).origins r r ≡ true
  own r h = self S r (A.restricted-bound r h).1 (or_right (ltb r S.publics) (S.restricted r) h)

  -- an argument's reach comes to its formal
  pub copied : (n d j o : ℕ) → S.node n ≡ call d → j < length (S.formals d) → (values_for S).origins (get_or (S.arguments n) j 0) o ≡ true
      → (values_for S).origins (get_or (S.formals d) j 0) o ≡ true
  unfolding comes is_passed
  copied n d j o h l e =
      comes-in S f o (A.formal-name d f (member-get_or (S.formals d) j l)).high (inside S (get_or (S.arguments n) j 0) o e).1
      (or_right (is_source_name S f && same f o) (is_sent S R f o || is_passed S R f o)
      (or_right (is_sent S R f o) (is_passed S R f o)
      (some-intro (λ n. passes_at S R f o n (S.node n)) n (range S.nodes) (member-from n 0 S.nodes (omega arith)
      (omega (arith, (A.call-inside n d h).0)))
      (rw h (passed-in S (S.formals d) (S.arguments n) j o l (rw (A.call-arguments n d h) l) e)))))
    where
      f : ℕ
      f = get_or (S.formals d) j 0

      R : ℕ → ℕ → Bool
      R = (values_for S).origins

  -- a sent name's reach comes to the receive's name
  pub met : (s a z l r e y m i o : ℕ) → S.branch s ≡ send a z l → S.branch r ≡ receive e y m → (S.thread (S.home s) ≡ S.thread (S.home r) → ⊥)
      → s < S.branches → r < S.branches → member i (common S (values_for S) a e) ≡ true → (values_for S).origins z o ≡ true → (values_for S).origins y o ≡ true
  unfolding comes is_sent
  met s a z l r e y m i o hs hr df ls lr ic h =
      comes-in S y o (A.receive-name r e y m hr).high (inside S z o h).1
      (or_right (is_source_name S y && same y o) (is_sent S R y o || is_passed S R y o)
      (or_left (is_sent S R y o) (is_passed S R y o)
      (some-intro (λ s. some (λ r. sends_to S R y o s (S.branch s) r (S.branch r)) (range S.branches)) s (range S.branches) (branch_in s ls)
      (some-intro (λ r. sends_to S R y o s (S.branch s) r (S.branch r)) r (range S.branches) (branch_in r lr)
      (rw (hs, hr, same_self y, h, same-no (S.thread (S.home s)) (S.thread (S.home r)) df) (overlapping S a e i ic))))))
    where
      R : ℕ → ℕ → Bool
      R = (values_for S).origins

      branch_in : (b : ℕ) → b < S.branches → member b (range S.branches) ≡ true
      branch_in b k = member-from b 0 S.branches (omega arith) (omega arith)

  -- ---- nothing else arrives at a source

  only : ℕ → ℕ → Bool
  only x o = not (is_source_name S x) || same x o

  -- a name that takes something in is bound and not restricted
  no_source : (x : ℕ) → S.publics ≤ x → S.restricted x ≡ false → is_source_name S x ≡ true → ⊥
  no_source x l r h = false≢true (sym (rw (le-ltb x S.publics l, r)) ∙ h)

  none_passed : (x o : ℕ) (fs args : List ℕ) → is_source_name S x ≡ true → ((y : ℕ) → member y fs ≡ true → (S.publics ≤ y) × (S.restricted y ≡ false))
      → passes S only x o fs args ≡ true → ⊥
  unfolding passes member
  none_passed x o [] args r h q = false≢true q
  none_passed x o (f ∷ fs) [] r h q = false≢true q
  none_passed x o (f ∷ fs) (a ∷ args) r h q =
      go (or_cases (same x f && only a o) (passes S only x o fs args) q) (none_passed x o fs args r (λ y m. h y (or_right (same y f) (member y fs) m)))
    where
      go : ((same x f && only a o) ≡ true) ⊎ (passes S only x o fs args ≡ true) → (passes S only x o fs args ≡ true → ⊥) → ⊥
      go (inl e) ih =
          let p : x ≡ f = same_true x f (and_left (same x f) (only a o) e) in
          let (b, c) = h f (rw (same_self f)) in
          no_source x (rw p b) (rw p c) r
      go (inr e) ih = ih e

  passes-in : (x o : ℕ) (fs args : List ℕ) → passes S (λ x o. is_source_name S o) x o fs args ≡ true → is_source_name S o ≡ true
  unfolding passes
  passes-in x o [] args t = absurd (false≢true t)
  passes-in x o (f ∷ fs) [] t = absurd (false≢true t)
  passes-in x o (f ∷ fs) (a ∷ args) t =
      go (or_cases (same x f && is_source_name S o) (passes S (λ x o. is_source_name S o) x o fs args) t) (passes-in x o fs args)
    where
      go : ((same x f && is_source_name S o) ≡ true) ⊎ (passes S (λ x o. is_source_name S o) x o fs args ≡ true)
          → (passes S (λ x o. is_source_name S o) x o fs args ≡ true → is_source_name S o ≡ true) → is_source_name S o ≡ true
      go (inl e) ih = and_right (same x f) (is_source_name S o) e
      go (inr e) ih = ih e

  pub source-only : (x o : ℕ) → is_source_name S x ≡ true → (values_for S).origins x o ≡ true → x ≡ o
  unfolding comes is_passed is_sent only values_for
  source-only x o r h = same_true x o (rw r at ((reach-least S).least only closed x o h))
    where
      closed : (x o : ℕ) → x < name_count S → o < name_count S → comes S only x o ≡ true → only x o ≡ true
      closed x o lx lo c = go (is_source_name S x) refl
        where
          sent : is_source_name S x ≡ true → (s : ℕ) (σ : Branch) (r : ℕ) (ρ : Branch) → S.branch r ≡ ρ → sends_to S only x o s σ r ρ ≡ true → ⊥
          sent q s absent r ρ e t = false≢true t
          sent q s (silent l) r ρ e t = false≢true t
          sent q s (send a z l) r absent e t = false≢true t
          sent q s (send a z l) r (silent m) e t = false≢true t
          sent q s (send a z l) r (send b y m) e t = false≢true t
          sent q s (send a z l) r (receive b y m) e t =
              let p : x ≡ y =
              same_true x y (and_left (same x y) (only z o && (not (same (S.thread (S.home s)) (S.thread (S.home r))) && overlaps S only a b)) t) in
              no_source x (rw p (A.receive-name r b y m e).low) (rw p (A.receive-free r b y m e)) q
          sent q s (receive a y l) r ρ e t = false≢true t

          passed : is_source_name S x ≡ true → (n : ℕ) (ν : Node) → passes_at S only x o n ν ≡ true → ⊥
          passed q n stop t = false≢true t
          passed q n (choice f d) t = false≢true t
          passed q n (new b l) t = false≢true t
          passed q n (call d) t = none_passed x o (S.formals d) (S.arguments n) q (λ y m. ((A.formal-name d y m).low, A.formal-free d y m)) t

          late : is_source_name S x ≡ true → (is_sent S only x o ≡ true) ⊎ (is_passed S only x o ≡ true) → (not (is_source_name S x) || same x o) ≡ true
          late q (inl e) =
              let (s, m, f) = some-elim (λ s. some (λ r. sends_to S only x o s (S.branch s) r (S.branch r)) (range S.branches)) (range S.branches) e in
              let (r, k, g) = some-elim (λ r. sends_to S only x o s (S.branch s) r (S.branch r)) (range S.branches) f in
              absurd (sent q s (S.branch s) r (S.branch r) refl g)
          late q (inr e) =
              let (n, m, f) = some-elim (λ n. passes_at S only x o n (S.node n)) (range S.nodes) e in
              absurd (passed q n (S.node n) f)

          go : (b : Bool) → is_source_name S x ≡ b → (not (is_source_name S x) || same x o) ≡ true
          go false q = rw q
          go true q = side (or_cases (is_source_name S x && same x o) (is_sent S only x o || is_passed S only x o) c)
            where
              side : ((is_source_name S x && same x o) ≡ true) ⊎ ((is_sent S only x o || is_passed S only x o) ≡ true) → (not (is_source_name S x) || same x o) ≡ true
              side (inl e) = or_right (not (is_source_name S x)) (same x o) (and_right (is_source_name S x) (same x o) e)
              side (inr e) = late q (or_cases (is_sent S only x o) (is_passed S only x o) e)

  -- only sources arrive
  source_in : (x o : ℕ) → (values_for S).origins x o ≡ true → is_source_name S o ≡ true
  unfolding comes is_passed is_sent values_for
  source_in x o h = (reach-least S).least (λ x o. is_source_name S o) closed x o h
    where
      Q : ℕ → ℕ → Bool
      Q x o = is_source_name S o

      sent : (x o s : ℕ) (σ : Branch) (r : ℕ) (ρ : Branch) → sends_to S Q x o s σ r ρ ≡ true → is_source_name S o ≡ true
      sent x o s absent r ρ t = absurd (false≢true t)
      sent x o s (silent l) r ρ t = absurd (false≢true t)
      sent x o s (send a z l) r absent t = absurd (false≢true t)
      sent x o s (send a z l) r (silent m) t = absurd (false≢true t)
      sent x o s (send a z l) r (send b y m) t = absurd (false≢true t)
      sent x o s (send a z l) r (receive b y m) t =
          let c : Bool = not (same (S.thread (S.home s)) (S.thread (S.home r))) && overlaps S Q a b in
          and_left (is_source_name S o) c (and_right (same x y) (is_source_name S o && c) t)
      sent x o s (receive a y l) r ρ t = absurd (false≢true t)

      passed : (x o n : ℕ) (ν : Node) → passes_at S Q x o n ν ≡ true → is_source_name S o ≡ true
      passed x o n stop t = absurd (false≢true t)
      passed x o n (choice f d) t = absurd (false≢true t)
      passed x o n (new b l) t = absurd (false≢true t)
      passed x o n (call d) t = passes-in x o (S.formals d) (S.arguments n) t

      closed : (x o : ℕ) → x < name_count S → o < name_count S → comes S Q x o ≡ true → Q x o ≡ true
      closed x o lx lo c = go (or_cases (is_source_name S x && same x o) (is_sent S Q x o || is_passed S Q x o) c)
        where
          late : (is_sent S Q x o ≡ true) ⊎ (is_passed S Q x o ≡ true) → is_source_name S o ≡ true
          late (inl e) =
              let (s, m, f) = some-elim (λ s. some (λ r. sends_to S Q x o s (S.branch s) r (S.branch r)) (range S.branches)) (range S.branches) e in
              let (r, k, g) = some-elim (λ r. sends_to S Q x o s (S.branch s) r (S.branch r)) (range S.branches) f in
              sent x o s (S.branch s) r (S.branch r) g
          late (inr e) = let (n, m, f) = some-elim (λ n. passes_at S Q x o n (S.node n)) (range S.nodes) e in passed x o n (S.node n) f

          go : ((is_source_name S x && same x o) ≡ true) ⊎ ((is_sent S Q x o || is_passed S Q x o) ≡ true) → is_source_name S o ≡ true
          go (inl e) = rw (same_true x o (and_right (is_source_name S x) (same x o) e)) at (and_left (is_source_name S x) (same x o) e)
          go (inr e) = late (or_cases (is_sent S Q x o) (is_passed S Q x o) e)

  -- a bound name in a reach is restricted
  pub restricted-in : (x o : ℕ) → S.publics ≤ o → (values_for S).origins x o ≡ true → S.restricted o ≡ true
  restricted-in x o l h = rw (le-ltb o S.publics l) at (source_in x o h)

  -- a restricted name may hold every private value, and no public one
  pub makes : (r v : ℕ) → S.restricted r ≡ true → S.publics ≤ v → (values_for S).reach r v ≡ true
  makes r v h l =
      private-by S r r v l (member-from r S.publics S.bounds (A.restricted-bound r h).0 (A.restricted-bound r h).1) h (own r h)

  pub private : (x v : ℕ) → S.restricted x ≡ true → (values_for S).reach x v ≡ true → S.publics ≤ v
  private x v r h = go (dec_lt v S.publics)
    where
      go : Dec (v < S.publics) → S.publics ≤ v
      go (no n) = omega arith
      go (yes l) =
          let e : x ≡ v = source-only x v (or_right (ltb x S.publics) (S.restricted x) r) (rw (reach-is S x v, lt-ltb v S.publics l) at h) in
          absurd (omega (arith, (A.restricted-bound x r).0))
