-- One firing, proved once over the commands: a description is enabled in the marking of a configuration exactly where it fits the configuration; firing
-- it is safe, gives the marking of the next configuration, and keeps configurations well-formed.
use Prim.Native.Nat.{ℕ, zero, suc, ◌+◌, ◌≤◌, ◌<◌}
use mathlib.Core.Path.{◌≡◌, refl, sym, ◌∙◌}
use mathlib.Core.Logic.{◌≢◌, ◌⊎◌, inl, inr}
use mathlib.Core.Bool.{Bool, true, false, not, ◌&&◌, ◌||◌, true≢false, false≢true}
use mathlib.Core.Option.{Option, none, some}
use native.Mathlib.Decide.{ℕ_discrete, dec_le}
use native.Mathlib.Omega.{arith}
use Rattle.lists.specs.Lists.{same}
use Rattle.lists.proofs.Tests.{not-true-false, and_left, and_right, and-false, and-true, or_cases, or-false, or-true, or-none, same_self, same_true, same-no}
use Rattle.scheme.specs.Scheme.{Scheme}
use Rattle.process.specs.States.{put}
use Rattle.places.specs.Values.{Values}
use Rattle.places.specs.Places.{Place, equals, differs, free, control}
use Rattle.places.specs.Transitions.{Command, skip, take, release, Description, command_takes, command_gives, is_input, is_output}
use Rattle.readback.specs.Configurations.{Spot, spot, Configuration}
use Rattle.fidelity.specs.Inner.Marks.{same_spot, holds, given, Motion, stay, pass, leaves, arrives, ends, asks, edit, fired, thread_of, is_place}
use Rattle.fidelity.specs.Inner.Marks.{is_held, motion, after, used, mark}
use Rattle.fidelity.specs.Inner.Marks.{Suits, Fits, held_after, Untouched, Holding, allows, Exists, exists-equals, exists-differs, exists-free}
use Rattle.fidelity.specs.Inner.Marks.{exists-control, Enabled, Safe}
use Rattle.fidelity.specs.Inner.Marks.{WellFormed, Commands, Shaped}
use Rattle.fidelity.proofs.Basics.{none-some, holds-eq, holds-some, holds_not, not-given, put_self, put_other, same_spot-self, same_spot-true}

-- ---- tests

-- an input that is marked exactly where it is an input
fired-move : (i o : Bool) → fired i o i ≡ o
fired-move true true = refl
fired-move true false = refl
fired-move false true = refl
fired-move false false = refl

-- a place that is read or not touched
fired-read : (t m : Bool) → (t ≡ true → m ≡ true) → fired t t m ≡ m
fired-read true m h = sym (h refl)
fired-read false m h = and-true m

-- the complement of a place
fired-back : (b : Bool) → fired false b (not b) ≡ true
fired-back true = refl
fired-back false = refl

turned : (v w : ℕ) → same w v ≡ true → v ≡ w
turned v w e = sym (same_true w v e)

module _ (S : Scheme) (U : Values) where
  -- ---- restricted names

  pub used-of : (e : ℕ → Option ℕ) (v r n : ℕ) → r < n → S.restricted r ≡ true → e r ≡ some v → used S e v n ≡ true
  unfolding used
  used-of e v r zero h p q = absurd (omega arith)
  used-of e v r (suc n) h p q = go (ℕ_discrete r n) (λ l. used-of e v r n l p q)
    where
      go : Dec (r ≡ n) → (r < n → used S e v n ≡ true) → used S e v (suc n) ≡ true
      go (yes d) ih = rw (← d, p, q, same_self v)
      go (no d) ih = rw (ih (omega arith)) (or-true (S.restricted n && holds (e n) v))

  pub used-true : (e : ℕ → Option ℕ) (v n : ℕ) → used S e v n ≡ true → (r : ℕ) × (r < n) × (S.restricted r ≡ true) × (e r ≡ some v)
  unfolding used
  used-true e v zero h = absurd (false≢true h)
  used-true e v (suc n) h = go (or_cases (S.restricted n && holds (e n) v) (used S e v n) h) (used-true e v n)
    where
      go : ((S.restricted n && holds (e n) v) ≡ true) ⊎ (used S e v n ≡ true)
          → (used S e v n ≡ true → (r : ℕ) × (r < n) × (S.restricted r ≡ true) × (e r ≡ some v))
          → (r : ℕ) × (r < suc n) × (S.restricted r ≡ true) × (e r ≡ some v)
      go (inl a) ih = (n, omega arith, and_left (S.restricted n) (holds (e n) v) a, holds-eq (e n) v (and_right (S.restricted n) (holds (e n) v) a))
      go (inr b) ih = let (r, l, p, q) = ih b in (r, omega arith, p, q)

  used-same : (e f : ℕ → Option ℕ) (v n : ℕ) → ((r : ℕ) → S.restricted r ≡ true → holds (e r) v ≡ holds (f r) v) → used S e v n ≡ used S f v n
  unfolding used
  used-same e f v zero h = refl
  used-same e f v (suc n) h = rw (used-same e f v n h) (go (S.restricted n) refl)
    where
      go : (b : Bool) → S.restricted n ≡ b → (S.restricted n && holds (e n) v || used S f v n) ≡ (S.restricted n && holds (f n) v || used S f v n)
      go true p = rw (h n p)
      go false p = rw p

  pub used-none : (e : ℕ → Option ℕ) (v n : ℕ) → ((r : ℕ) → S.restricted r ≡ true → e r ≢ some v) → used S e v n ≡ false
  used-none e v n h = not-true-false (used S e v n) (λ u. let (r, l, p, q) = used-true e v n u in h r p q)

  -- ---- control places

  pub input-control : (t : Description) → Shaped S U t → (n k : ℕ) → is_input S t (control n k) ≡ leaves (motion S t.moves (S.thread n)) (spot n k)
  unfolding is_input
  input-control t g n k = rw (g.left n k, none' t.command) (or-false (leaves (motion S t.moves (S.thread n)) (spot n k)))
    where
      none' : (κ : Command) → command_takes S κ (control n k) ≡ false
      none' skip = refl
      none' (take y v) = refl
      none' (release z v) = refl

  pub output-control : (t : Description) → Shaped S U t → (n k : ℕ) → is_output S t (control n k) ≡ arrives (motion S t.moves (S.thread n)) (spot n k)
  unfolding is_output
  output-control t g n k = rw (g.reached n k, none' t.command) (or-false (arrives (motion S t.moves (S.thread n)) (spot n k)))
    where
      none' : (κ : Command) → command_gives S κ (control n k) ≡ false
      none' skip = refl
      none' (take y v) = refl
      none' (release z v) = refl

  move_at : (μ : Motion) (q p : Spot) → ((a b : Spot) → μ ≡ pass a b → q ≡ a) → fired (leaves μ p) (arrives μ p) (same_spot q p) ≡ same_spot (ends μ q) p
  move_at stay q p h = and-true (same_spot q p)
  move_at (pass a b) q p h = rw (h a b refl) (fired-move (same_spot a p) (same_spot b p))

  -- ---- rows

  module _ (e : ℕ → Option ℕ) (test : ℕ → ℕ → Bool) (tests : (x v : ℕ) → test x v ≡ true → e x ≡ some v) where
    skip-equals : (x w : ℕ) → fired (test x w || false) (test x w || false) (holds (e x) w) ≡ holds (e x) w
    skip-equals x w = simp or-false (fired-read (test x w) (holds (e x) w) (λ t. holds-some (e x) w (tests x w t)))

    take-equals : (y v : ℕ) → e y ≡ none → (x w : ℕ)
        → fired (test x w || false) (test x w || (same x y && same w v)) (holds (e x) w) ≡ holds (put e y (some v) x) w
    take-equals y v hy x w = go (ℕ_discrete x y)
      where
        go : Dec (x ≡ y) → fired (test x w || false) (test x w || (same x y && same w v)) (holds (e x) w) ≡ holds (put e y (some v) x) w
        go (yes p) = rw (p, same_self y, put_self e y (some v), hy, not-true-false (test y w) (λ t. none-some hy (tests y w t))) (or-false (same w v))
        go (no d) = rw (same-no x y d, put_other e y (some v) x d) (skip-equals x w)

    release-equals : (z v : ℕ) → ((x w : ℕ) → test x w ≡ false) → e z ≡ some v → (x w : ℕ)
        → fired (test x w || (same x z && same w v)) (test x w || false) (holds (e x) w) ≡ holds (put e z none x) w
    release-equals z v nt hz x w = go (ℕ_discrete x z)
      where
        go : Dec (x ≡ z) → fired (test x w || (same x z && same w v)) (test x w || false) (holds (e x) w) ≡ holds (put e z none x) w
        go (yes p) = rw (nt x w, p, same_self z, put_self e z none, hz) (fired-move (same w v) false)
        go (no d) = rw (nt x w, same-no x z d, put_other e z none x d) (and-true (holds (e x) w))

  module _ (e : ℕ → Option ℕ) where
    take-differs : (y v : ℕ) → e y ≡ none → (S.restricted y ≡ true → (x : ℕ) → e x ≢ some v)
        → (x w : ℕ) → S.restricted x ≡ false
        → fired ((same x y || S.restricted y) && same w v) (S.restricted y && same w v) (not (holds (e x) w)) ≡ not (holds (put e y (some v) x) w)
    take-differs y v hy fresh x w nr = go (ℕ_discrete x y)
      where
        read : (S.restricted y && same w v) ≡ true → not (holds (e x) w) ≡ true
        read h = rw (holds_not (e x) w (rw (← turned v w (and_right (S.restricted y) (same w v) h)) (fresh (and_left (S.restricted y) (same w v) h) x)))

        go : Dec (x ≡ y)
            → fired ((same x y || S.restricted y) && same w v) (S.restricted y && same w v) (not (holds (e x) w)) ≡ not (holds (put e y (some v) x) w)
        go (yes p) = let n : S.restricted y ≡ false = rw p at nr in rw (p, same_self y, put_self e y (some v), hy, n)
        go (no d) = rw (same-no x y d, put_other e y (some v) x d) (fired-read (S.restricted y && same w v) (not (holds (e x) w)) read)

    release-differs : (z v : ℕ) → e z ≡ some v → (x w : ℕ) → fired false (same x z && same w v) (not (holds (e x) w)) ≡ not (holds (put e z none x) w)
    release-differs z v hz x w = go (ℕ_discrete x z)
      where
        go : Dec (x ≡ z) → fired false (same x z && same w v) (not (holds (e x) w)) ≡ not (holds (put e z none x) w)
        go (yes p) = rw (p, same_self z, put_self e z none, hz) (fired-back (same w v))
        go (no d) = rw (same-no x z d, put_other e z none x d) (and-true (not (holds (e x) w)))

    -- a changed name that is not restricted, or a changed value other than w, leaves the free mark of w
    keeps : (y : ℕ) (o : Option ℕ) (w n : ℕ) → (S.restricted y ≡ true → holds (e y) w ≡ holds o w) → used S (put e y o) w n ≡ used S e w n
    keeps y o w n h = used-same (put e y o) e w n (λ r hr. go r hr (ℕ_discrete r y))
      where
        go : (r : ℕ) → S.restricted r ≡ true → Dec (r ≡ y) → holds (put e y o r) w ≡ holds (e r) w
        go r hr (yes p) = rw (p, put_self e y o) (sym (h (rw p at hr)))
        go r hr (no d) = rw (put_other e y o r d)

    take-free : (y v : ℕ) → y < S.publics + S.bounds → e y ≡ none → (w : ℕ)
        → fired (S.restricted y && same w v) false (not (used S e w (S.publics + S.bounds))) ≡ not (used S (put e y (some v)) w (S.publics + S.bounds))
    take-free y v ly hy w = go (S.restricted y) refl (same w v) refl
      where
        go : (b : Bool) → S.restricted y ≡ b → (d : Bool) → same w v ≡ d
            → fired (S.restricted y && same w v) false (not (used S e w (S.publics + S.bounds))) ≡ not (used S (put e y (some v)) w (S.publics + S.bounds))
        go true p true q =
            rw (p, q, used-of (put e y (some v)) w y (S.publics + S.bounds) ly p (rw (put_self e y (some v), turned v w q)))
            (and-false (not (used S e w (S.publics + S.bounds))))
        go true p false q = rw (p, q, keeps y (some v) w (S.publics + S.bounds) (λ _. rw (hy, q))) (and-true (not (used S e w (S.publics + S.bounds))))
        go false p d q =
            rw (p, keeps y (some v) w (S.publics + S.bounds) (λ t. absurd (true≢false (sym t ∙ p)))) (and-true (not (used S e w (S.publics + S.bounds))))

    release-free : (z v : ℕ) → e z ≡ some v → ((r s u : ℕ) → S.restricted r ≡ true → S.restricted s ≡ true → e r ≡ some u → e s ≡ some u → r ≡ s) → (w : ℕ)
        → fired false (S.restricted z && same w v) (not (used S e w (S.publics + S.bounds))) ≡ not (used S (put e z none) w (S.publics + S.bounds))
    release-free z v hz apart w = go (S.restricted z) refl (same w v) refl
      where
        gone : (r : ℕ) → S.restricted z ≡ true → v ≡ w → S.restricted r ≡ true → Dec (r ≡ z) → put e z none r ≢ some w
        gone r p q hr (yes d) k = none-some (put_self e z none) (rw d at k)
        gone r p q hr (no d) k = d (apart r z v hr p (sym (put_other e z none r d) ∙ rw q k) hz)

        go : (b : Bool) → S.restricted z ≡ b → (d : Bool) → same w v ≡ d
            → fired false (S.restricted z && same w v) (not (used S e w (S.publics + S.bounds))) ≡ not (used S (put e z none) w (S.publics + S.bounds))
        go true p true q = rw (p, q, used-none (put e z none) w (S.publics + S.bounds) (λ r hr. gone r p (turned v w q) hr (ℕ_discrete r z)))
        go true p false q = rw (p, q, keeps z none w (S.publics + S.bounds) (λ _. rw (hz, q))) (and-true (not (used S e w (S.publics + S.bounds))))
        go false p d q =
            rw (p, keeps z none w (S.publics + S.bounds) (λ t. absurd (true≢false (sym t ∙ p)))) (and-true (not (used S e w (S.publics + S.bounds))))

  -- ---- all commands

  module _ (c : Configuration) (t : Description) (f : Fits S t c) (w' : WellFormed S U c) where
    equals-fires : (κ : Command) → Suits S κ c.value → Commands S U t κ → (x w : ℕ)
        → fired (asks t.tests x w || command_takes S κ (equals x w)) (asks t.tests x w || command_gives S κ (equals x w)) (holds (c.value x) w)
        ≡ holds (edit κ c.value x) w
    equals-fires skip k g x w = skip-equals c.value (asks t.tests) f.tests x w
    equals-fires (take y v) k g x w = take-equals c.value (asks t.tests) f.tests y v k.0 x w
    equals-fires (release z v) k g x w = release-equals c.value (asks t.tests) f.tests z v g.3 k x w

    differs-fires : (κ : Command) → Suits S κ c.value → (x w : ℕ) → S.restricted x ≡ false
        → fired (command_takes S κ (differs x w)) (command_gives S κ (differs x w)) (not (holds (c.value x) w)) ≡ not (holds (edit κ c.value x) w)
    differs-fires skip k x w nr = and-true (not (holds (c.value x) w))
    differs-fires (take y v) k x w nr = take-differs c.value y v k.0 k.1 x w nr
    differs-fires (release z v) k x w nr = release-differs c.value z v k x w

    free-fires : (κ : Command) → Suits S κ c.value → Commands S U t κ → (w : ℕ)
        → fired (command_takes S κ (free w)) (command_gives S κ (free w)) (not (used S c.value w (S.publics + S.bounds)))
        ≡ not (used S (edit κ c.value) w (S.publics + S.bounds))
    free-fires skip k g w = and-true (not (used S c.value w (S.publics + S.bounds)))
    free-fires (take y v) k g w = take-free c.value y v g.5 k.0 w
    free-fires (release z v) k g w = release-free c.value z v k w'.apart w

    -- firing gives the marking of the next configuration
    pub fires : Shaped S U t → (p : Place) → Exists S U p → fired (is_input S t p) (is_output S t p) (mark S c p) ≡ mark S (after S t c) p
    unfolding is_input is_output
    fires g (equals x w) e = equals-fires t.command f.suits g.commands x w
    fires g (differs x w) (exists-differs b l nr pr re) = differs-fires t.command f.suits x w nr
    fires g (free w) e = free-fires t.command f.suits g.commands w
    fires g (control n k) e =
        rw (input-control t g n k, output-control t g n k)
        (move_at (motion S t.moves (S.thread n)) (c.at (S.thread n)) (spot n k) (f.stands (S.thread n)))

    equals-safe : (κ : Command) → Suits S κ c.value → (x w : ℕ) → (asks t.tests x w || command_gives S κ (equals x w)) ≡ true
        → (asks t.tests x w || command_takes S κ (equals x w)) ≡ false → holds (c.value x) w ≡ false
    equals-safe skip k x w o i = absurd (true≢false (sym o ∙ i))
    equals-safe (take y v) k x w o i =
        let q : (same x y && same w v) ≡ true = rw (or-none (asks t.tests x w) false i).0 at o in
        rw (same_true x y (and_left (same x y) (same w v) q), k.0)
    equals-safe (release z v) k x w o i = absurd (true≢false (sym o ∙ rw (or-none (asks t.tests x w) (same x z && same w v) i).0))

    differs-safe : (κ : Command) → Suits S κ c.value → (x w : ℕ) → command_gives S κ (differs x w) ≡ true → command_takes S κ (differs x w) ≡ false
        → not (holds (c.value x) w) ≡ false
    differs-safe skip k x w o i = absurd (false≢true o)
    differs-safe (take y v) k x w o i =
        let r : S.restricted y ≡ true = and_left (S.restricted y) (same w v) o in
        let q : same w v ≡ true = and_right (S.restricted y) (same w v) o in
        absurd (true≢false (sym (simp (r, q, or-true, and-true)) ∙ i))
    differs-safe (release z v) k x w o i = rw (same_true x z (and_left (same x z) (same w v) o), k, and_right (same x z) (same w v) o)

    free-safe : (κ : Command) → Suits S κ c.value → Commands S U t κ → (w : ℕ) → command_gives S κ (free w) ≡ true
        → not (used S c.value w (S.publics + S.bounds)) ≡ false
    free-safe skip k g w o = absurd (false≢true o)
    free-safe (take y v) k g w o = absurd (false≢true o)
    free-safe (release z v) k g w o =
        rw (used-of c.value w z (S.publics + S.bounds) g.1 (and_left (S.restricted z) (same w v) o)
        (k ∙ rw (turned v w (and_right (S.restricted z) (same w v) o))))

    control-safe : (μ : Motion) (q p : Spot) → ((a b : Spot) → μ ≡ pass a b → q ≡ a) → arrives μ p ≡ true → leaves μ p ≡ false → same_spot q p ≡ false
    control-safe stay q p h o i = absurd (false≢true o)
    control-safe (pass a b) q p h o i = rw (h a b refl) i

    -- no firing puts a second token in a place
    pub safe : Shaped S U t → Safe S U t (mark S c)
    unfolding is_input is_output
    safe g (equals x w) e o i = equals-safe t.command f.suits x w o i
    safe g (differs x w) e o i = differs-safe t.command f.suits x w o i
    safe g (free w) e o i = free-safe t.command f.suits g.commands w o
    safe g (control n k) e o i =
        control-safe (motion S t.moves (S.thread n)) (c.at (S.thread n)) (spot n k) (f.stands (S.thread n))
        (sym (output-control t g n k) ∙ o) (sym (input-control t g n k) ∙ i)

    -- ---- the configuration step applies, so the transition is enabled

    differs-enabled : (κ : Command) → Suits S κ c.value → (x w : ℕ) → command_takes S κ (differs x w) ≡ true → not (holds (c.value x) w) ≡ true
    differs-enabled skip k x w i = absurd (false≢true i)
    differs-enabled (take y v) k x w i =
        let q : v ≡ w = turned v w (and_right (same x y || S.restricted y) (same w v) i) in
        go q (or_cases (same x y) (S.restricted y) (and_left (same x y || S.restricted y) (same w v) i))
      where
        go : v ≡ w → (same x y ≡ true) ⊎ (S.restricted y ≡ true) → not (holds (c.value x) w) ≡ true
        go q (inl p) = rw (same_true x y p, k.0)
        go q (inr r) = rw (holds_not (c.value x) w (rw (← q) (k.1 r x)))
    differs-enabled (release z v) k x w i = absurd (false≢true i)

    equals-enabled : (κ : Command) → Suits S κ c.value → (x w : ℕ) → (asks t.tests x w || command_takes S κ (equals x w)) ≡ true
        → holds (c.value x) w ≡ true
    equals-enabled κ k x w i = go κ k (or_cases (asks t.tests x w) (command_takes S κ (equals x w)) i)
      where
        go : (κ : Command) → Suits S κ c.value → (asks t.tests x w ≡ true) ⊎ (command_takes S κ (equals x w) ≡ true) → holds (c.value x) w ≡ true
        go κ k (inl q) = holds-some (c.value x) w (f.tests x w q)
        go skip k (inr q) = absurd (false≢true q)
        go (take y v) k (inr q) = absurd (false≢true q)
        go (release z v) k (inr q) = rw (same_true x z (and_left (same x z) (same w v) q), k) (and_right (same x z) (same w v) q)

    free-enabled : (κ : Command) → Suits S κ c.value → Commands S U t κ → (w : ℕ) → command_takes S κ (free w) ≡ true
        → not (used S c.value w (S.publics + S.bounds)) ≡ true
    free-enabled skip k g w i = absurd (false≢true i)
    free-enabled (take y v) k g w i =
        rw (used-none c.value w (S.publics + S.bounds)
        (λ r hr. rw (← turned v w (and_right (S.restricted y) (same w v) i)) (k.1 (and_left (S.restricted y) (same w v) i) r)))
    free-enabled (release z v) k g w i = absurd (false≢true i)

    control-enabled : (μ : Motion) (q p : Spot) → ((a b : Spot) → μ ≡ pass a b → q ≡ a) → leaves μ p ≡ true → same_spot q p ≡ true
    control-enabled stay q p h i = absurd (false≢true i)
    control-enabled (pass a b) q p h i = rw (h a b refl) i

    pub enabled : Shaped S U t → Enabled S U t (mark S c)
    unfolding is_input is_output
    enabled g (equals x w) e i = equals-enabled t.command f.suits x w i
    enabled g (differs x w) (exists-differs b l nr pr re) i = differs-enabled t.command f.suits x w i
    enabled g (free w) e i = free-enabled t.command f.suits g.commands w i
    enabled g (control n k) e i =
        control-enabled (motion S t.moves (S.thread n)) (c.at (S.thread n)) (spot n k) (f.stands (S.thread n)) (sym (input-control t g n k) ∙ i)

  -- ---- the transition is enabled, so the configuration step applies

  module _ (c : Configuration) (t : Description) (W : WellFormed S U c) (g : Shaped S U t) (en : Enabled S U t (mark S c)) where
    stands' : (θ : ℕ) (a b : Spot) → motion S t.moves θ ≡ pass a b → c.at θ ≡ a
    unfolding is_input
    stands' θ a b h =
        let o : thread_of S a ≡ θ = (g.owned θ a b h).0 in
        rw o at (same_spot-true (c.at (thread_of S a)) a
        (en (control a.node a.index) (exists-control (g.owned θ a b h).3) (input-control t g a.node a.index ∙ rw (o, h) (same_spot-self a))))

    tests' : (x v : ℕ) → asks t.tests x v ≡ true → c.value x ≡ some v
    unfolding is_input
    tests' x v h = go (g.testing x v h)
      where
        go : ((S.publics ≤ x) × (x < S.publics + S.bounds) × (allows S U x v ≡ true)) ⊎ ((x < S.publics) × (v ≡ x)) → c.value x ≡ some v
        go (inl b) = holds-eq (c.value x) v (en (equals x v) (exists-equals b.0 b.1 b.2) (rw h))
        go (inr b) = rw b.1 (W.publics x b.0)

    -- no name has a value that is free in the marking
    unused : (y v : ℕ) → t.command ≡ take y v → S.restricted y ≡ true → S.publics ≤ v → v < S.publics + U.privates → (x : ℕ) → c.value x ≢ some v
    unfolding is_input
    unused y v κ ry pv vv x q = go (dec_le S.publics x)
      where
        bound : (b : Bool) → S.restricted x ≡ b → S.publics ≤ x → ⊥
        bound true rx px =
            let s : not (used S c.value v (S.publics + S.bounds)) ≡ true = en (free v) (exists-free pv vv) (rw (κ, ry) (same_self v)) in
            true≢false (sym s ∙ rw (used-of c.value v x (S.publics + S.bounds) (W.allowed x v px q).0 rx q))
        bound false rx px =
            let s : not (holds (c.value x) v) ≡ true
            = en (differs x v) (exists-differs px (W.allowed x v px q).0 rx pv (W.allowed x v px q).1) (simp (κ, ry, or-true, same_self)) in
            true≢false (sym s ∙ rw (holds-some (c.value x) v q))

        go : Dec (S.publics ≤ x) → ⊥
        go (yes px) = bound (S.restricted x) refl px
        go (no nx) = let s : v ≡ x = cc (W.publics x (omega arith)) in omega arith

    suits' : (κ : Command) → t.command ≡ κ → Commands S U t κ → Suits S κ c.value
    unfolding is_input
    suits' skip h k = tt
    suits' (take y v) h k =
        let (a, b, m, n, py, ly, re, pv) = k in
        (not-given (c.value y) (W.held y py ∙ rw (stands' (S.thread_of_name y) a b m) n), λ ry. unused y v h ry (pv ry).0 (pv ry).1)
    suits' (release z v) h k =
        holds-eq (c.value z) v (en (equals z v) (exists-equals k.0 k.1 k.2) (simp (h, same_self, or-true)))

    pub fits : Fits S t c
    fits = record { stands = stands'; tests = tests'; suits = suits' t.command refl g.commands }

  -- ---- the next configuration is well-formed

  -- a name that the command does not touch keeps its value
  pub edit-other : (κ : Command) (e : ℕ → Option ℕ) (x : ℕ) → Untouched S κ x → edit κ e x ≡ e x
  edit-other skip e x h = refl
  edit-other (take y v) e x h = put_other e y (some v) x h
  edit-other (release z v) e x h = put_other e z none x h

  edit-given : (κ : Command) (e : ℕ → Option ℕ) (x : ℕ) → given (edit κ e x) ≡ held_after S κ x (given (e x))
  edit-given skip e x = refl
  edit-given (take y v) e x = go (ℕ_discrete x y)
    where
      go : Dec (x ≡ y) → given (put e y (some v) x) ≡ (same x y || given (e x))
      go (yes p) = rw (p, put_self e y (some v), same_self y)
      go (no d) = rw (put_other e y (some v) x d, same-no x y d)
  edit-given (release z v) e x = go (ℕ_discrete x z)
    where
      go : Dec (x ≡ z) → given (put e z none x) ≡ (not (same x z) && given (e x))
      go (yes p) = rw (p, put_self e z none, same_self z)
      go (no d) = rw (put_other e z none x d, same-no x z d)

  module _ (c : Configuration) (t : Description) (W : WellFormed S U c) (g : Shaped S U t) (f : Fits S t c) where
    pub public-untouched : (κ : Command) → Commands S U t κ → (x : ℕ) → x < S.publics → Untouched S κ x
    public-untouched skip k x h = tt
    public-untouched (take y v) k x h = let b : S.publics ≤ y = k.4 in λ p. omega arith
    public-untouched (release z v) k x h = let b : S.publics ≤ z = k.0 in λ p. omega arith

    held' : (x : ℕ) → S.publics ≤ x
        → given (edit t.command c.value x) ≡ is_held S (ends (motion S t.moves (S.thread_of_name x)) (c.at (S.thread_of_name x))) x
    held' x b = go (motion S t.moves (S.thread_of_name x)) (f.stands (S.thread_of_name x)) (g.holding x b)
      where
        go : (μ : Motion) → ((a d : Spot) → μ ≡ pass a d → c.at (S.thread_of_name x) ≡ a) → Holding S t.command x μ
            → given (edit t.command c.value x) ≡ is_held S (ends μ (c.at (S.thread_of_name x))) x
        go stay s h = rw (edit-other t.command c.value x h) (W.held x b)
        go (pass a d) s h = edit-given t.command c.value x ∙ rw (W.held x b, s a d refl) (sym h)

    allowed' : (κ : Command) → Commands S U t κ → (x v : ℕ) → S.publics ≤ x → edit κ c.value x ≡ some v
        → (x < S.publics + S.bounds) × (allows S U x v ≡ true)
    allowed' skip k x v b h = W.allowed x v b h
    allowed' (take y u) k x v b h = go (ℕ_discrete x y)
      where
        go : Dec (x ≡ y) → (x < S.publics + S.bounds) × (allows S U x v ≡ true)
        go (yes p) = let q : u ≡ v = cc (put_self c.value y (some u)) in rw (p, ← q) (k.5, k.6)
        go (no d) = W.allowed x v b (sym (put_other c.value y (some u) x d) ∙ h)
    allowed' (release z u) k x v b h = go (ℕ_discrete x z)
      where
        go : Dec (x ≡ z) → (x < S.publics + S.bounds) × (allows S U x v ≡ true)
        go (yes p) = absurd (none-some (put_self c.value z none) (rw p at h))
        go (no d) = W.allowed x v b (sym (put_other c.value z none x d) ∙ h)

    apart' : (κ : Command) → Suits S κ c.value → (r s v : ℕ) → S.restricted r ≡ true → S.restricted s ≡ true → edit κ c.value r ≡ some v
        → edit κ c.value s ≡ some v → r ≡ s
    apart' skip k r s v hr hs p q = W.apart r s v hr hs p q
    apart' (take y u) k r s v hr hs p q = go (ℕ_discrete r y) (ℕ_discrete s y)
      where
        new : (x : ℕ) → x ≡ y → put c.value y (some u) x ≡ some v → u ≡ v
        new x d h = cc (put_self c.value y (some u))

        old : (x : ℕ) → x ≢ y → put c.value y (some u) x ≡ some v → c.value x ≡ some v
        old x d h = sym (put_other c.value y (some u) x d) ∙ h

        go : Dec (r ≡ y) → Dec (s ≡ y) → r ≡ s
        go (yes a) (yes b) = cc
        go (yes a) (no b) = absurd (k.1 (rw a at hr) s (rw (new r a p) (old s b q)))
        go (no a) (yes b) = absurd (k.1 (rw b at hs) r (rw (new s b q) (old r a p)))
        go (no a) (no b) = W.apart r s v hr hs (old r a p) (old s b q)
    apart' (release z u) k r s v hr hs p q = W.apart r s v hr hs (old r p (ℕ_discrete r z)) (old s q (ℕ_discrete s z))
      where
        old : (x : ℕ) → put c.value z none x ≡ some v → Dec (x ≡ z) → c.value x ≡ some v
        old x h (yes d) = absurd (none-some (put_self c.value z none) (rw d at h))
        old x h (no d) = sym (put_other c.value z none x d) ∙ h

    places' : (θ : ℕ) → θ < S.threads → (thread_of S (ends (motion S t.moves θ) (c.at θ)) ≡ θ) × (is_place S (ends (motion S t.moves θ) (c.at θ)) ≡ true)
    places' θ l = go (motion S t.moves θ) (g.owned θ)
      where
        go : (μ : Motion)
            → ((a b : Spot) → μ ≡ pass a b → (thread_of S a ≡ θ) × (thread_of S b ≡ θ) × (θ < S.threads) × (is_place S a ≡ true) × (is_place S b ≡ true))
            → (thread_of S (ends μ (c.at θ)) ≡ θ) × (is_place S (ends μ (c.at θ)) ≡ true)
        go stay h = W.stands θ l
        go (pass a b) h = ((h a b refl).1, (h a b refl).4)

    pub well-formed-after : WellFormed S U (after S t c)
    well-formed-after = record {
      stands = places';
      publics = λ x h. rw (edit-other t.command c.value x (public-untouched t.command g.commands x h)) (W.publics x h);
      held = held';
      allowed = allowed' t.command g.commands;
      apart = apart' t.command f.suits;
    }
