-- Numbers of which some rise step by step. Where no number of a list is met by one that rises, the list stays in order.
use mathlib.Core.Path.{◌≡◌, refl, sym, ap, subst, ◌∙◌}
use mathlib.Core.Bool.{Bool, true, false, true≢false}
use mathlib.Core.List.{List, [], ◌∷◌, map}
use mathlib.Core.Logic.{◌⊎◌, inl, inr}
use Prim.Native.Nat.{ℕ, ◌+◌, ◌-◌, ◌≤◌, ◌<◌}
use native.Mathlib.Decide.{dec_le}
use native.Mathlib.Omega.{arith}
use Rattle.lists.specs.Lists.{member}
use Rattle.lists.proofs.Tests.{not-true-false}
use Rattle.lists.proofs.Members.{member-here, member-there, member-cases, member-nil}
use Rattle.scheme.specs.Scheme.{Scheme}
use Rattle.places.specs.Values.{Values}
use Rattle.places.specs.Places.{Place}
use Rattle.places.specs.Rows.{number_of, Exists}
use Rattle.places.specs.Inner.Arcs.{insert, exists, numbers_for}
use Rattle.builder.specs.Inner.Writing.{rise}
use Rattle.places.proofs.Rows.{number-unique}
use Rattle.places.proofs.Sorted.{insert-before, insert-here, insert-after, insert-last, Way, below, here, above, way, member-insert}
use Rattle.places.proofs.Split.{numbers-none, numbers-yes, numbers-no}

-- ---- one number

-- what holds of each of five numbers
pub each_of : (Q : ℕ → Type 0) (a b c d e : ℕ) → Q a → Q b → Q c → Q d → Q e → (m : ℕ) → member m (a ∷ b ∷ c ∷ d ∷ e ∷ []) ≡ true → Q m
each_of Q a b c d e qa qb qc qd qe m i = first (member-cases m a (b ∷ c ∷ d ∷ e ∷ []) i)
  where
    at : (x : ℕ) → Q x → m ≡ x → Q m
    at x q h = subst Q (sym h) q

    fifth : (m ≡ e) ⊎ (member m [] ≡ true) → Q m
    fifth (inl r) = at e qe r
    fifth (inr r) = member-nil m r

    fourth : (m ≡ d) ⊎ (member m (e ∷ []) ≡ true) → Q m
    fourth (inl r) = at d qd r
    fourth (inr r) = fifth (member-cases m e [] r)

    third : (m ≡ c) ⊎ (member m (d ∷ e ∷ []) ≡ true) → Q m
    third (inl r) = at c qc r
    third (inr r) = fourth (member-cases m d (e ∷ []) r)

    second : (m ≡ b) ⊎ (member m (c ∷ d ∷ e ∷ []) ≡ true) → Q m
    second (inl r) = at b qb r
    second (inr r) = third (member-cases m c (d ∷ e ∷ []) r)

    first : (m ≡ a) ⊎ (member m (b ∷ c ∷ d ∷ e ∷ []) ≡ true) → Q m
    first (inl r) = at a qa r
    first (inr r) = second (member-cases m b (c ∷ d ∷ e ∷ []) r)

pub rise-yes : (ms : List ℕ) (t x : ℕ) → member x ms ≡ true → rise ms t x ≡ x + t
unfolding rise
rise-yes ms t x h = rw h (omega arith)

pub rise-no : (ms : List ℕ) (t x : ℕ) → member x ms ≡ false → rise ms t x ≡ x
unfolding rise
rise-no ms t x h = rw h (omega arith)

-- x is not on the way of a number that rises t times
abbrev pub Clear : List ℕ → ℕ → ℕ → Type 0
Clear ms t x = (m u : ℕ) → member m ms ≡ true → 0 < u → u ≤ t → x ≡ m + u → ⊥

module _ (ms : List ℕ) (t : ℕ) where
  keeps-order : (x y : ℕ) → Clear ms t y → x < y → rise ms t x < rise ms t y
  keeps-order x y f l = go (member x ms) refl (member y ms) refl
    where
      far : member x ms ≡ true → Dec (y - x ≤ t) → x + t < y
      far m (yes h) = absurd (f x (y - x) m (omega arith) h (omega arith))
      far m (no h) = omega arith

      go : (b : Bool) → member x ms ≡ b → (c : Bool) → member y ms ≡ c → rise ms t x < rise ms t y
      go true d true e = rw (rise-yes ms t x d, rise-yes ms t y e) (omega arith)
      go true d false e = rw (rise-yes ms t x d, rise-no ms t y e) (far d (dec_le (y - x) t))
      go false d true e = rw (rise-no ms t x d, rise-yes ms t y e) (omega arith)
      go false d false e = rw (rise-no ms t x d, rise-no ms t y e) l

  pub rise-insert : (k : ℕ) (xs : List ℕ) → Clear ms t k → ((x : ℕ) → member x xs ≡ true → Clear ms t x)
      → map (rise ms t) (insert k xs) ≡ insert (rise ms t k) (map (rise ms t) xs)
  rise-insert k [] f g = rw (insert-last k, insert-last (rise ms t k))
  rise-insert k (x ∷ xs) f g = go (way k x) (rise-insert k xs f (λ z m. g z (member-there z x xs m)))
    where
      go : Way k x → map (rise ms t) (insert k xs) ≡ insert (rise ms t k) (map (rise ms t) xs)
          → map (rise ms t) (insert k (x ∷ xs)) ≡ insert (rise ms t k) (rise ms t x ∷ map (rise ms t) xs)
      go (below w) ih =
          rw (
            insert-before k x xs w,
            insert-before (rise ms t k) (rise ms t x) (map (rise ms t) xs) (keeps-order k x (g x (member-here x xs)) w),
          )
      go (here w) ih = rw (w, insert-here x xs, insert-here (rise ms t x) (map (rise ms t) xs))
      go (above w) ih =
          rw (insert-after k x xs w, insert-after (rise ms t k) (rise ms t x) (map (rise ms t) xs) (keeps-order x k f w), ih)

-- ---- the numbers of places

module _ (S : Scheme) (U : Values) (ms : List ℕ) (t : ℕ) where
  -- the numbers of the places qs are those of ps after t steps
  pub record Shifted (ps qs : List Place) : Type 0 where
    pub is : numbers_for S U qs ≡ map (rise ms t) (numbers_for S U ps)
    pub clear : (x : ℕ) → member x (numbers_for S U ps) ≡ true → Clear ms t x

  pub shift_none : Shifted [] []
  shift_none = record { is = rw (numbers-none S U); clear = λ x m. member-nil x (rw (numbers-none S U) at m) }

  pub shift-yes : (p q : Place) (ps qs : List Place) → Exists S U p → Exists S U q → Clear ms t (number_of S U p)
      → rise ms t (number_of S U p) ≡ number_of S U q → Shifted ps qs → Shifted (p ∷ ps) (q ∷ qs)
  shift-yes p q ps qs e h f r s = record {
    is =
        numbers-yes S U q qs h
        ∙ ap (insert (number_of S U q)) s.is
        ∙ ap (λ (k : ℕ). insert k (map (rise ms t) (numbers_for S U ps))) (sym r)
        ∙ sym (rise-insert ms t (number_of S U p) (numbers_for S U ps) f s.clear)
        ∙ ap (map (rise ms t)) (sym (numbers-yes S U p ps e));
    clear = λ x m. each x (member-cases x (number_of S U p) (numbers_for S U ps)
        (sym (member-insert x (number_of S U p) (numbers_for S U ps)) ∙ ap (member x) (sym (numbers-yes S U p ps e)) ∙ m));
  }
    where
      each : (x : ℕ) → (x ≡ number_of S U p) ⊎ (member x (numbers_for S U ps) ≡ true) → Clear ms t x
      each x (inl i) = rw i f
      each x (inr i) = s.clear x i

  pub shift-no : (p q : Place) (ps qs : List Place) → exists S U p ≡ false → exists S U q ≡ false → Shifted ps qs → Shifted (p ∷ ps) (q ∷ qs)
  shift-no p q ps qs e h s = record {
    is = numbers-no S U q qs h ∙ s.is ∙ ap (map (rise ms t)) (sym (numbers-no S U p ps e));
    clear = λ x m. s.clear x (ap (member x) (sym (numbers-no S U p ps e)) ∙ m);
  }

  -- number x is met by m neither where it stands nor on its way
  abbrev pub Misses : ℕ → ℕ → Type 0
  Misses x m = (u : ℕ) → u ≤ t → x ≡ m + u → ⊥

  -- so, or it is m itself, which rises
  abbrev pub Apart : Bool → ℕ → ℕ → Type 0
  Apart f x m = Misses x m ⊎ ((x ≡ m) × (f ≡ true))

  apart-clear : (f : Bool) (x : ℕ) → ((m : ℕ) → member m ms ≡ true → Apart f x m) → Clear ms t x
  apart-clear f x h m u i l k q = go (h m i)
    where
      go : Apart f x m → ⊥
      go (inl d) = d u k q
      go (inr d) = omega (arith, d.0)

  -- a place that goes to another one t numbers on, or stays
  pub shift-on : (f : Bool) (p q : Place) → Exists S U p → Exists S U q → (f ≡ true → number_of S U q ≡ number_of S U p + t)
      → (f ≡ true → member (number_of S U p) ms ≡ true) → (f ≡ false → q ≡ p) → ((m : ℕ) → member m ms ≡ true → Apart f (number_of S U p) m)
      → (ps qs : List Place) → Shifted ps qs → Shifted (p ∷ ps) (q ∷ qs)
  shift-on f p q e h on in-ms stays apart ps qs s = go f refl
    where
      x : ℕ
      x = number_of S U p

      clear : Clear ms t (number_of S U p)
      clear = apart-clear f (number_of S U p) apart

      here : (f ≡ false) → Apart f (number_of S U p) (number_of S U p) → ⊥
      here b (inl d) = d 0 (omega arith) (omega arith)
      here b (inr d) = true≢false (sym d.1 ∙ b)

      go : (b : Bool) → f ≡ b → Shifted (p ∷ ps) (q ∷ qs)
      go true b = shift-yes p q ps qs e h clear (rise-yes ms t (number_of S U p) (in-ms b) ∙ sym (on b)) s
      go false b =
          shift-yes p q ps qs e h clear
          (rise-no ms t (number_of S U p) (not-true-false (member (number_of S U p) ms) (λ i. here b (apart (number_of S U p) i)))
          ∙ ap (number_of S U) (sym (stays b))) s

  -- the places that number m goes through
  pub record Track (m : ℕ) (P : ℕ → Place) : Type 0 where
    pub there : (u : ℕ) → u ≤ t → Exists S U (P u)
    pub number : (u : ℕ) → u ≤ t → number_of S U (P u) ≡ m + u

  -- a place that is none of them, or where m is no place's number
  pub misses : (m : ℕ) (P : ℕ → Place) → (m ≡ 4294967295) ⊎ Track m P → (p : Place) → Exists S U p → number_of S U p < 65536
      → ((u : ℕ) → p ≡ P u → ⊥) → Misses (number_of S U p) m
  misses m P (inl e) p h l d u k q = omega arith
  misses m P (inr r) p h l d u k q = d u (number-unique S U p p (P u) h (r.there u k) (q ∙ sym (r.number u k)))
