-- A marking that stands for a state is the marking of a well-formed configuration, the one that is read, whether calls lead to it or not.
use Prim.Native.Nat.{ℕ, zero, suc, ◌+◌, ◌-◌, ◌≤◌, ◌<◌}
use mathlib.Core.Path.{◌≡◌, refl, sym, ap, ◌∙◌, subst}
use mathlib.Core.Logic.{◌⊎◌, inl, inr}
use mathlib.Core.Bool.{Bool, true, false, not, ◌&&◌, ◌||◌, true≢false, false≢true}
use mathlib.Core.Option.{some}
use mathlib.Core.List.{List, [], ◌∷◌}
use native.Mathlib.Decide.{dec_lt}
use native.Mathlib.Omega.{arith}
use lib.Dec.{ltb, leb}
use lib.ListN.{length, get_or, take, drop}
use lib.Seq.{ext_get_or}
use borrow.Author.Tests.{lt-ltb, le-ltb, leb-true, ltb-true}
use Rattle.std.proofs.lemmas.List.{get_or-map}
use Rattle.lists.specs.Lists.{pick, bit, same, from, range, every, keep, member}
use Rattle.lists.proofs.Tests.{both_ways, and_left, and_right, and_intro, not-true-false, same_self, same_true, bit-small}
use Rattle.lists.proofs.Ranges.{every-at, every-below, every-member, member-from}
use Rattle.lists.proofs.Members.{member-keep, member-here, member-cases, member-nil, member-take, member-drop, append-member}
use Rattle.scheme.specs.Scheme.{Scheme, Node, stop, choice, new, call}
use Rattle.table.specs.Accepted.{Accepted}
use Rattle.net.specs.Firing.{is_marking}
use Rattle.places.specs.Values.{Values, private_value_list, private_values_of}
use Rattle.places.specs.Places.{Place, equals, differs, free, control, places}
use Rattle.places.specs.Rows.{number_of}
use Rattle.places.specs.Held.{names_at}
use Rattle.places.proofs.Rows as Rows
use Rattle.readback.specs.Configurations.{Spot, spot, Configuration, held_here}
use Rattle.readback.specs.Reading.{is_same_place, marked, has, spot_list, values_in, spots, values, first_spot, first_value_of, configuration}
use Rattle.readback.specs.Reading.{has_one_spot, is_one_value, opposite, free_right, stands_for_state}
use Rattle.readback.proofs.Elements.{Element, here, there, no-element, element-cases, element-at, element-member, member-element, some-element, element-some}
use Rattle.readback.proofs.Elements.{flat-element, element-flat}
use Rattle.fidelity.specs.Inner.Marks.{same_spot, holds, given, used, mark, is_place, is_held, allows, WellFormed}
use Rattle.fidelity.specs.Inner.Marks.{Exists, exists-equals, exists-differs, exists-free, exists-control}
use Rattle.fidelity.specs.Inner.Shapes.{EnoughValues}
use Rattle.fidelity.specs.Inner.Standing.{marking_of}
use Rattle.fidelity.proofs.Basics.{given_is, holds-eq, holds-some, none-some, same_spot-self, same_spot-true}
use Rattle.fidelity.proofs.Firing.{used-of, used-true}
use Rattle.fidelity.proofs.Places.{listed-exists, exists-listed, member-private}
use Rattle.fidelity.proofs.Having.{same_place, place_same, element-keep, keep-element}
use Rattle.fidelity.proofs.Numbers.{marking-length}

-- the places with a token, by number
marked-where : (m : List ℕ) (number : Place → ℕ) (d : Place) (ps : List Place) (bs : List ℕ) → length bs ≡ length ps
    → ((i : ℕ) → i < length ps → get_or bs i 0 ≡ get_or m (number (get_or ps i d)) 0) → marked ps bs ≡ keep (λ p. same (get_or m (number p) 0) 1) ps
unfolding marked keep
marked-where m number d [] bs l h = refl
marked-where m number d (p ∷ ps) [] l h = absurd (omega arith)
marked-where m number d (p ∷ ps) (b ∷ bs) l h = rw (marked-where m number d ps bs (omega arith) (λ i k. h (suc i) (omega arith)), h 0 (omega arith))

-- a list of one element at most has its first one alone
few-values : (S : Scheme) (U : Values) (ms : List Place) (l : List ℕ) (v : ℕ) → length l ≤ 1 → holds (first_value_of S U ms l) v ≡ member v l
unfolding member
few-values S U ms [] v h = refl
few-values S U ms (u ∷ []) v h = sym (go (same v u))
  where
    go : (b : Bool) → (b || false) ≡ b
    go true = refl
    go false = refl
few-values S U ms (u ∷ w ∷ l) v h = absurd (omega arith)

given-count : (S : Scheme) (U : Values) (ms : List Place) (l : List ℕ) (b : Bool) → same (length l) (bit b) ≡ true → given (first_value_of S U ms l) ≡ b
given-count S U ms [] true h = absurd (let e : 0 ≡ 1 = same_true 0 1 h in omega arith)
given-count S U ms [] false h = refl
given-count S U ms (v ∷ l) true h = refl
given-count S U ms (v ∷ l) false h = absurd (let e : length (v ∷ l) ≡ 0 = same_true (length (v ∷ l)) 0 h in omega arith)

byte-bit : (b : ℕ) → b ≤ 1 → b ≡ bit (same b 1)
unfolding same
byte-bit zero h = refl
byte-bit (suc zero) h = refl
byte-bit (suc (suc b)) h = absurd (omega arith)

module _ (S : Scheme) (U : Values) (A : Accepted S) (m : List ℕ) (hm : is_marking (length (places S U)) m ≡ true)
    (st : stands_for_state S U (marked (places S U) m) ≡ true) where
  abbrev ms : List Place
  ms = marked (places S U) m

  abbrev pub read : Configuration
  read = configuration S U ms

  -- the place has a token
  abbrev chosen : Place → Bool
  chosen p = same (get_or m (number_of S U p) 0) 1

  size : length m ≡ length (places S U)
  unfolding is_marking
  size = same_true (length m) (length (places S U)) (and_left (same (length m) (length (places S U))) (every (λ b. leb b 1) m) hm)

  byte_small : (k : ℕ) → k < length m → get_or m k 0 ≤ 1
  unfolding is_marking
  byte_small k l =
      leb-true (get_or m k 0) 1
      (every-member (λ b. leb b 1) m (and_right (same (length m) (length (places S U))) (every (λ b. leb b 1) m) hm) (get_or m k 0)
      (element-member m (element-at 0 m k l)))

  kept : ms ≡ keep chosen (places S U)
  kept = marked-where m (number_of S U) (free 0) (places S U) m size (λ i k. ap (λ (j : ℕ). get_or m j 0) (sym (Rows.number_at S U (free 0) i k)))

  in-marked : {p : Place} → Exists S U p → chosen p ≡ true → Element p ms
  in-marked {p} e h = subst (λ (l : List Place). Element p l) (sym kept) (element-keep chosen (places S U) (exists-listed S U A e) h)

  marked-chosen : {p : Place} → Element p ms → chosen p ≡ true
  marked-chosen {p} e = keep-element chosen (places S U) (subst (λ (l : List Place). Element p l) kept e)

  keep-listed : {p : Place} (ps : List Place) → Element p (keep chosen ps) → Element p ps
  unfolding keep
  keep-listed [] e = no-element e
  keep-listed {p} (q ∷ ps) e = go (chosen q) e (keep-listed ps)
    where
      first : (p ≡ q) ⊎ Element p (keep chosen ps) → (Element p (keep chosen ps) → Element p ps) → Element p (q ∷ ps)
      first (inl x) ih = rw x here
      first (inr i) ih = there (ih i)

      go : (b : Bool) → Element p (pick b (q ∷ keep chosen ps) (keep chosen ps)) → (Element p (keep chosen ps) → Element p ps) → Element p (q ∷ ps)
      go true i ih = first (element-cases i) ih
      go false i ih = there (ih i)

  marked-exists : {p : Place} → Element p ms → Exists S U p
  marked-exists {p} e = listed-exists S U A (keep-listed (places S U) (subst (λ (l : List Place). Element p l) kept e))

  has_chosen : (p : Place) → Exists S U p → has ms p ≡ chosen p
  unfolding has
  has_chosen p e =
      both_ways (has ms p) (chosen p) (λ h. forth (some-element (is_same_place p) ms h))
      (λ h. element-some (is_same_place p) ms (in-marked e h) (same_place p))
    where
      forth : (q : Place) × Element q ms × (is_same_place p q ≡ true) → chosen p ≡ true
      forth (q, i, h) = rw (place_same p q h) (marked-chosen i)

  -- ---- the four tests

  tests : (every (has_one_spot S U ms) (range S.threads) ≡ true) × (every (is_one_value S U ms) (from S.publics S.bounds) ≡ true)
      × (every (λ x. S.restricted x || every (opposite S U ms x) (private_values_of S U x)) (from S.publics S.bounds) ≡ true)
      × (every (free_right S U ms) (private_value_list S U) ≡ true)
  unfolding stands_for_state
  tests =
      let a : Bool = every (has_one_spot S U ms) (range S.threads) in
      let b : Bool = every (is_one_value S U ms) (from S.publics S.bounds) in
      let c : Bool = every (λ x. S.restricted x || every (opposite S U ms x) (private_values_of S U x)) (from S.publics S.bounds) in
      let d : Bool = every (free_right S U ms) (private_value_list S U) in
      let r : (b && (c && d)) ≡ true = and_right a (b && (c && d)) st in
      let q : (c && d) ≡ true = and_right b (c && d) r in
      (and_left a (b && (c && d)) st, and_left b (c && d) r, and_left c d q, and_right c d q)

  -- ---- values

  value_in : (x v : ℕ) → Element v (values S U ms x) → Element (equals x v) ms
  unfolding values
  value_in x v e = let (p, i, j) = flat-element (values_in x) ms e in go p i j
    where
      own : (y u : ℕ) → Element (equals y u) ms → (b : Bool) → same x y ≡ b → Element v (pick b (u ∷ []) []) → Element (equals x v) ms
      own y u i true q j = let z : v ≡ u = one (element-cases j) in rw (same_true x y q, z) i
        where
          one : (v ≡ u) ⊎ Element v [] → v ≡ u
          one (inl z) = z
          one (inr k) = no-element k
      own y u i false q j = no-element j

      go : (p : Place) → Element p ms → Element v (values_in x p) → Element (equals x v) ms
      go (equals y u) i j = own y u i (same x y) refl j
      go (differs y u) i j = no-element j
      go (free u) i j = no-element j
      go (control n k) i j = no-element j

  in-values : (x v : ℕ) → Element (equals x v) ms → Element v (values S U ms x)
  unfolding values
  in-values x v e = element-flat (values_in x) ms e (rw (same_self x) here)

  value-test : (x v : ℕ) → Exists S U (equals x v) → member v (values S U ms x) ≡ chosen (equals x v)
  value-test x v e =
      both_ways (member v (values S U ms x)) (chosen (equals x v)) (λ h. marked-chosen (value_in x v (member-element v (values S U ms x) h)))
      (λ h. element-member (values S U ms x) (in-values x v (in-marked e h)))

  value-count : (x : ℕ) → S.publics ≤ x → x < S.publics + S.bounds → is_one_value S U ms x ≡ true
  value-count x lo hi = every-at (is_one_value S U ms) S.publics S.bounds tests.1 x lo hi

  value-few : (x : ℕ) → S.publics ≤ x → x < S.publics + S.bounds → length (values S U ms x) ≤ 1
  value-few x lo hi =
      let b : Bool = member x (held_here S (read.at (S.thread_of_name x))) in
      omega (arith, same_true (length (values S U ms x)) (bit b) (value-count x lo hi), bit-small b)

  value-is : (x : ℕ) → S.publics ≤ x → read.value x ≡ first_value_of S U ms (values S U ms x)
  unfolding configuration
  value-is x lo = rw (le-ltb x S.publics lo)

  holds-chosen : (x v : ℕ) → S.publics ≤ x → x < S.publics + S.bounds → Exists S U (equals x v) → holds (read.value x) v ≡ chosen (equals x v)
  holds-chosen x v lo hi e = rw (value-is x lo) (few-values S U ms (values S U ms x) v (value-few x lo hi) ∙ value-test x v e)

  first-in : (l : List ℕ) (v : ℕ) → first_value_of S U ms l ≡ some v → Element v l
  first-in [] v h = absurd (none-some refl h)
  first-in (u ∷ l) v h = let e : u ≡ v = cc in rw (← e) here

  value-exists : (x v : ℕ) → S.publics ≤ x → read.value x ≡ some v → Exists S U (equals x v)
  value-exists x v lo h = marked-exists (value_in x v (first-in (values S U ms x) v (sym (value-is x lo) ∙ h)))

  value-allowed : (x v : ℕ) → S.publics ≤ x → read.value x ≡ some v → (x < S.publics + S.bounds) × (allows S U x v ≡ true)
  value-allowed x v lo h = go (value-exists x v lo h)
    where
      go : Exists S U (equals x v) → (x < S.publics + S.bounds) × (allows S U x v ≡ true)
      go (exists-equals a b c) = (b, c)

  -- ---- spots

  spot_in : (t : ℕ) (p : Spot) → Element p (spots S U ms t) → Element (control p.node p.index) ms × (S.thread p.node ≡ t)
  unfolding spots
  spot_in t p e = let (q, i, j) = flat-element (spot_list S t) ms e in go q i j
    where
      own : (n k : ℕ) → Element (control n k) ms → (b : Bool) → same (S.thread n) t ≡ b → Element p (pick b (spot n k ∷ []) [])
          → Element (control p.node p.index) ms × (S.thread p.node ≡ t)
      own n k i true q j = let z : p ≡ spot n k = one (element-cases j) in rw z (i, same_true (S.thread n) t q)
        where
          one : (p ≡ spot n k) ⊎ Element p [] → p ≡ spot n k
          one (inl z) = z
          one (inr k) = no-element k
      own n k i false q j = no-element j

      go : (q : Place) → Element q ms → Element p (spot_list S t q) → Element (control p.node p.index) ms × (S.thread p.node ≡ t)
      go (equals y u) i j = no-element j
      go (differs y u) i j = no-element j
      go (free u) i j = no-element j
      go (control n k) i j = own n k i (same (S.thread n) t) refl j

  in-spots : (n k : ℕ) → Element (control n k) ms → Element (spot n k) (spots S U ms (S.thread n))
  unfolding spots
  in-spots n k e = element-flat (spot_list S (S.thread n)) ms e (rw (same_self (S.thread n)) here)

  spot-count : (t : ℕ) → t < S.threads → length (spots S U ms t) ≡ 1
  spot-count t l = same_true (length (spots S U ms t)) 1 (every-below (has_one_spot S U ms) S.threads tests.0 t l)

  one-first : (l : List Spot) → length l ≡ 1 → Element (first_spot S U ms l) l × ((p : Spot) → Element p l → p ≡ first_spot S U ms l)
  one-first [] h = absurd (omega arith)
  one-first (p ∷ []) h = (here, λ q e. go q (element-cases e))
    where
      go : (q : Spot) → (q ≡ p) ⊎ Element q [] → q ≡ p
      go q (inl z) = z
      go q (inr i) = no-element i
  one-first (p ∷ q ∷ l) h = absurd (omega arith)

  at-is : (t : ℕ) → read.at t ≡ first_spot S U ms (spots S U ms t)
  unfolding configuration
  at-is t = refl

  stands_at : (t : ℕ) → t < S.threads → Element (control (read.at t).node (read.at t).index) ms × (S.thread (read.at t).node ≡ t)
  unfolding configuration
  stands_at t l = spot_in t (first_spot S U ms (spots S U ms t)) (one-first (spots S U ms t) (spot-count t l)).0

  pub spot-chosen : (n k : ℕ) → Exists S U (control n k) → same_spot (read.at (S.thread n)) (spot n k) ≡ chosen (control n k)
  unfolding configuration
  spot-chosen n k e =
      both_ways (same_spot (read.at (S.thread n)) (spot n k)) (chosen (control n k))
      (λ h. let q : read.at (S.thread n) ≡ spot n k = same_spot-true (read.at (S.thread n)) (spot n k) h in
      marked-chosen (subst (λ (p : Spot). Element (control p.node p.index) ms) q (stands_at (S.thread n) (A.thread-inside n)).0))
      (λ h. let q : spot n k ≡ first_spot S U ms (spots S U ms (S.thread n))
      = (one-first (spots S U ms (S.thread n)) (spot-count (S.thread n) (A.thread-inside n))).1 (spot n k) (in-spots n k (in-marked e h)) in
      rw (← q) (same_spot-self (spot n k)))

  -- ---- the marking of the configuration read

  turned : (a b : Bool) → pick a (not b) b ≡ true → a ≡ not b
  turned true true h = absurd (false≢true h)
  turned true false h = refl
  turned false true h = refl
  turned false false h = absurd (false≢true h)

  differs-chosen : (x v : ℕ) → S.publics ≤ x → x < S.publics + S.bounds → S.restricted x ≡ false → S.publics ≤ v → allows S U x v ≡ true
      → not (holds (read.value x) v) ≡ chosen (differs x v)
  differs-chosen x v lo hi r pv al =
      let o : every (opposite S U ms x) (private_values_of S U x) ≡ true
      = rw r at (every-at (λ x. S.restricted x || every (opposite S U ms x) (private_values_of S U x)) S.publics S.bounds tests.2 x lo hi) in
      let q : opposite S U ms x v ≡ true = every-member (opposite S U ms x) (private_values_of S U x) o v (member-private S U A x v pv al) in
      let e : has ms (differs x v) ≡ not (has ms (equals x v)) = turned (has ms (differs x v)) (has ms (equals x v)) q in
      rw (
        holds-chosen x v lo hi (exists-equals lo hi al),
        ← has_chosen (equals x v) (exists-equals lo hi al),
        ← has_chosen (differs x v) (exists-differs lo hi r pv al),
      )
      (sym e)

  -- the restricted names with a value
  abbrev takers : ℕ → ℕ → Bool
  takers v x = S.restricted x && has ms (equals x v)

  taker-in : (v r : ℕ) → S.restricted r ≡ true → read.value r ≡ some v → member r (keep (takers v) (from S.publics S.bounds)) ≡ true
  taker-in v r h q =
      let (lo, hi) = A.restricted-bound r h in
      let e : Exists S U (equals r v) = value-exists r v lo q in
      member-keep (takers v) r (from S.publics S.bounds)
      ∙ and_intro (takers v r) (member r (from S.publics S.bounds))
      (and_intro (S.restricted r) (has ms (equals r v)) h (has_chosen (equals r v) e ∙ sym (holds-chosen r v lo hi e) ∙ holds-some (read.value r) v q))
      (member-from r S.publics S.bounds lo hi)

  free-count : (v : ℕ) → S.publics ≤ v → v < S.publics + U.privates
      → length (keep (takers v) (from S.publics S.bounds)) ≡ pick (has ms (free v)) 0 1
  free-count v lo hi =
      same_true (length (keep (takers v) (from S.publics S.bounds))) (pick (has ms (free v)) 0 1)
      (every-at (free_right S U ms) S.publics U.privates tests.3 v lo hi)

  pick-le : (b : Bool) → pick b 0 1 ≤ 1
  pick-le true = omega arith
  pick-le false = omega arith

  two_in : (r s : ℕ) (l : List ℕ) → length l ≤ 1 → member r l ≡ true → member s l ≡ true → r ≡ s
  two_in r s [] h a b = member-nil r a
  two_in r s (x ∷ []) h a b = go (member-cases r x [] a) (member-cases s x [] b)
    where
      go : (r ≡ x) ⊎ (member r [] ≡ true) → (s ≡ x) ⊎ (member s [] ≡ true) → r ≡ s
      go (inl p) (inl q) = p ∙ sym q
      go (inl p) (inr q) = member-nil s q
      go (inr p) q = member-nil r p
  two_in r s (x ∷ y ∷ l) h a b = absurd (omega arith)

  some_in : (r : ℕ) (l : List ℕ) → member r l ≡ true → 1 ≤ length l
  some_in r [] h = member-nil r h
  some_in r (x ∷ l) h = omega arith

  free-chosen : (E : EnoughValues S U) (v : ℕ) → S.publics ≤ v → v < S.publics + U.privates
      → not (used S read.value v (S.publics + S.bounds)) ≡ chosen (free v)
  free-chosen E v lo hi = rw (← has_chosen (free v) (exists-free lo hi)) (go (used S read.value v (S.publics + S.bounds)) refl (has ms (free v)) refl)
    where
      someone : used S read.value v (S.publics + S.bounds) ≡ true → 1 ≤ length (keep (takers v) (from S.publics S.bounds))
      someone u =
          let (r, l, h, q) = used-true S U read.value v (S.publics + S.bounds) u in
          some_in r (keep (takers v) (from S.publics S.bounds)) (taker-in v r h q)

      nobody : used S read.value v (S.publics + S.bounds) ≡ false → (l : List ℕ) → keep (takers v) (from S.publics S.bounds) ≡ l → length l ≡ 0
      nobody u [] e = refl
      nobody u (r ∷ l) e =
          let mk : member r (keep (takers v) (from S.publics S.bounds)) ≡ true = rw e (member-here r l) in
          let b : (takers v r && member r (from S.publics S.bounds)) ≡ true = sym (member-keep (takers v) r (from S.publics S.bounds)) ∙ mk in
          let tk : takers v r ≡ true = and_left (takers v r) (member r (from S.publics S.bounds)) b in
          let h : S.restricted r ≡ true = and_left (S.restricted r) (has ms (equals r v)) tk in
          let (a, z) = A.restricted-bound r h in
          let x : Exists S U (equals r v) = exists-equals a z (E.makes r v h lo hi) in
          let q : read.value r ≡ some v
          = holds-eq (read.value r) v (holds-chosen r v a z x ∙ sym (has_chosen (equals r v) x) ∙ and_right (S.restricted r) (has ms (equals r v)) tk) in
          absurd (true≢false (sym (used-of S U read.value v r (S.publics + S.bounds) z h q) ∙ u))

      go : (u : Bool) → used S read.value v (S.publics + S.bounds) ≡ u → (f : Bool) → has ms (free v) ≡ f → not u ≡ f
      go true e true g = let k : length (keep (takers v) (from S.publics S.bounds)) ≡ 0 = free-count v lo hi ∙ rw g in absurd (omega (arith, someone e))
      go true e false g = refl
      go false e true g = refl
      go false e false g =
          let k : length (keep (takers v) (from S.publics S.bounds)) ≡ 1 = free-count v lo hi ∙ rw g in
          absurd (omega (arith, nobody e (keep (takers v) (from S.publics S.bounds)) refl))

  mark-chosen : EnoughValues S U → (p : Place) → Exists S U p → mark S read p ≡ chosen p
  mark-chosen E (equals x v) (exists-equals lo hi al) = holds-chosen x v lo hi (exists-equals lo hi al)
  mark-chosen E (differs x v) (exists-differs lo hi r pv al) = differs-chosen x v lo hi r pv al
  mark-chosen E (free v) (exists-free lo hi) = free-chosen E v lo hi
  mark-chosen E (control n k) e = spot-chosen n k e

  -- the marking is that of the configuration read
  pub marking-is : EnoughValues S U → m ≡ marking_of S U read
  unfolding marking_of
  marking-is E = ext_get_or 0 m (marking_of S U read) (size ∙ sym (marking-length S U A read)) at
    where
      at : (k : ℕ) → k < length m → get_or m k 0 ≡ get_or (marking_of S U read) k 0
      at k l =
          let b : k < length (places S U) = rw size at l in
          byte-bit (get_or m k 0) (byte_small k l)
          ∙ ap bit (ap (λ (j : ℕ). same (get_or m j 0) 1) (sym (Rows.number_at S U (free 0) k b))
          ∙ sym (mark-chosen E (get_or (places S U) k (free 0)) (listed-exists S U A (element-at (free 0) (places S U) k b))))
          ∙ sym (get_or-map (λ p. bit (mark S read p)) (places S U) k (free 0) 0 b)

  -- ---- well-formed

  value-held : (x : ℕ) → S.publics ≤ x → x < S.publics + S.bounds → given (read.value x) ≡ is_held S (read.at (S.thread_of_name x)) x
  value-held x lo hi =
      rw (value-is x lo) (given-count S U ms (values S U ms x) (member x (held_here S (read.at (S.thread_of_name x)))) (value-count x lo hi))

  -- only bound names are held
  held-bound : (p : Spot) (x : ℕ) → member x (held_here S p) ≡ true → x < S.publics + S.bounds
  held-bound p x = go (S.node p.node)
    where
      go : (ν : Node) → member x (names_at S ν p.node p.index) ≡ true → x < S.publics + S.bounds
      go stop h = (A.held-name p.node x (member-drop x p.index (S.held p.node) h)).high
      go (choice f c) h = (A.held-name p.node x h).high
      go (new r l) h = (A.held-name p.node x h).high
      go (call d) h =
          side (append-member x (take (p.index - 1) (S.formals d)) (drop (p.index - suc (length (S.formals d))) (S.held p.node)) h)
        where
          side : (member x (take (p.index - 1) (S.formals d)) ≡ true) ⊎ (member x (drop (p.index - suc (length (S.formals d))) (S.held p.node)) ≡ true)
              → x < S.publics + S.bounds
          side (inl q) = (A.formal-name d x (member-take x (p.index - 1) (S.formals d) q)).high
          side (inr q) = (A.held-name p.node x (member-drop x (p.index - suc (length (S.formals d))) (S.held p.node) q)).high

  pub read-formed : EnoughValues S U → WellFormed S U read
  unfolding configuration allows
  read-formed E = record {
    stands = λ t l. ((stands_at t l).1, place t (marked-exists (stands_at t l).0));
    publics = λ x l. rw (lt-ltb x S.publics l);
    held = λ x lo. go x lo (dec_lt x (S.publics + S.bounds));
    allowed = value-allowed;
    apart = λ r s v hr hs p q. two_in r s (keep (takers v) (from S.publics S.bounds)) (few r v hr p) (taker-in v r hr p) (taker-in v s hs q);
  }
    where
      place : (t : ℕ) → Exists S U (control (read.at t).node (read.at t).index) → is_place S (read.at t) ≡ true
      place t (exists-control h) = h

      few : (r v : ℕ) → S.restricted r ≡ true → read.value r ≡ some v → length (keep (takers v) (from S.publics S.bounds)) ≤ 1
      few r v h q =
          let al : allows S U r v ≡ true = (value-allowed r v (A.restricted-bound r h).0 q).1 in
          let hi : v < S.publics + U.privates = ltb-true v (S.publics + U.privates) (and_left (ltb v (S.publics + U.privates)) (U.reach r v) al) in
          omega (arith, free-count v (E.private r v h al) hi, pick-le (has ms (free v)))

      go : (x : ℕ) → S.publics ≤ x → Dec (x < S.publics + S.bounds) → given (read.value x) ≡ is_held S (read.at (S.thread_of_name x)) x
      go x lo (yes hi) = value-held x lo hi
      go x lo (no n) =
          let a : given (read.value x) ≡ false
          = not-true-false (given (read.value x)) (λ h. let (v, q) = given_is (read.value x) h in absurd (n (value-allowed x v lo q).0)) in
          let b : is_held S (read.at (S.thread_of_name x)) x ≡ false
          = not-true-false (is_held S (read.at (S.thread_of_name x)) x) (λ h. absurd (n (held-bound (read.at (S.thread_of_name x)) x h))) in
          a ∙ sym b
