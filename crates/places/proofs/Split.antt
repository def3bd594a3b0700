-- Arcs part by part: first the numbers of row places and [*≠v], then those of control places. What code computes place by place is put together by these.
use Rattle.std.proofs.Common.{◌≡◌, ℕ, ◌+◌, ◌<◌, ◌≤◌, Bool, true, false, ◌&&◌, ◌||◌, ◌⊎◌, List, [], ◌∷◌, ◌++◌, map, length, sym, refl, ap, ◌∙◌, inl, inr, arith}
use mathlib.Core.List.Memᴰ
use mathlib.Core.List.{Memᴰ}
use Rattle.lists.specs.Lists.{pick, same, from, keep, member, positions, ascends}
use Rattle.lists.proofs.Tests.{false-true}
use Rattle.lists.proofs.Members.{member-append}
use Rattle.lists.proofs.Ascending.{ascends-append}
use Rattle.lists.proofs.Positions.{ascends_same}
use Rattle.lists.proofs.Standing.{map-in, keep-in, number_in}
use Rattle.scheme.specs.Scheme.{Scheme}
use Rattle.places.specs.Values.{Values}
use Rattle.places.specs.Places.{Place, equals, differs, free, control, places}
use Rattle.places.specs.Rows.{control_start, number_of, IsBound, Exists, has-equals, has-differs, has-control}
use Rattle.places.specs.Transitions.{Move, Test, Command, skip, take, release, Description, is_input, is_output}
use Rattle.places.specs.Inner.Arcs.{insert, sorted, all_differ, taken_places, given_places, left_places}
use Rattle.places.specs.Inner.Arcs.{reached_places, test_places}
use Rattle.places.specs.Inner.Arcs.{exists, numbers_for}
use Rattle.places.proofs.Rows.{places-length, number-below}
use Rattle.places.proofs.Order.{row_ends, control-rises, differs-inside, row-of-equals, free-inside}
use Rattle.places.proofs.Order.{control-inside, free-before-controls, controls-after}
use Rattle.places.proofs.Sorted.{member-sorted, sorted-ascends, insert-last, insert-before, insert-between}
use Rattle.places.proofs.Numbers.{exists-has, has-exists}
use Rattle.places.proofs.Arcs.{inputs-named, outputs-named}

-- a place that is no control place
abbrev pub is_control : Place → Bool
is_control (equals x v) = false
is_control (differs x v) = false
is_control (free v) = false
is_control (control n k) = true

module _ (S : Scheme) (U : Values) where
  -- ---- place by place

  pub numbers-none : numbers_for S U [] ≡ []
  unfolding numbers_for keep sorted
  numbers-none = refl

  pub numbers-yes : (p : Place) (ps : List Place) → Exists S U p → numbers_for S U (p ∷ ps) ≡ insert (number_of S U p) (numbers_for S U ps)
  unfolding numbers_for keep sorted
  numbers-yes p ps e = rw (has-exists S U p e)

  pub numbers-no : (p : Place) (ps : List Place) → exists S U p ≡ false → numbers_for S U (p ∷ ps) ≡ numbers_for S U ps
  unfolding numbers_for keep
  numbers-no p ps e = rw e

  pub numbers-tail : (p : Place) (ps qs : List Place) → numbers_for S U ps ≡ numbers_for S U qs → numbers_for S U (p ∷ ps) ≡ numbers_for S U (p ∷ qs)
  numbers-tail p ps qs h = go (exists S U p) refl
    where
      go : (b : Bool) → exists S U p ≡ b → numbers_for S U (p ∷ ps) ≡ numbers_for S U (p ∷ qs)
      go true e =
          numbers-yes p ps (exists-has S U p e) ∙ ap (insert (number_of S U p)) h ∙ sym (numbers-yes p qs (exists-has S U p e))
      go false e = numbers-no p ps e ∙ h ∙ sym (numbers-no p qs e)

  pub numbers-one : (p : Place) → Exists S U p → numbers_for S U (p ∷ []) ≡ number_of S U p ∷ []
  numbers-one p e = numbers-yes p [] e ∙ rw numbers-none (insert-last (number_of S U p))

  -- ---- two lists

  abbrev listed : List Place → List ℕ
  listed ps = map (number_of S U) (keep (exists S U) ps)

  listed-append : (ps qs : List Place) → listed (ps ++ qs) ≡ listed ps ++ listed qs
  unfolding keep
  listed-append [] qs = refl
  listed-append (p ∷ ps) qs = go (exists S U p) (listed-append ps qs)
    where
      go : (b : Bool) → listed (ps ++ qs) ≡ listed ps ++ listed qs
          → map (number_of S U) (pick b (p ∷ keep (exists S U) (ps ++ qs)) (keep (exists S U) (ps ++ qs)))
          ≡ map (number_of S U) (pick b (p ∷ keep (exists S U) ps) (keep (exists S U) ps)) ++ listed qs
      go true ih = rw ih
      go false ih = ih

  pub member-numbers : (z : ℕ) (ps : List Place) → member z (numbers_for S U ps) ≡ member z (listed ps)
  unfolding numbers_for
  member-numbers z ps = member-sorted z (listed ps)

  -- places that lie between two numbers
  pub numbers-ascend : (lo n : ℕ) (ps : List Place)
      → ((p : Place) → Memᴰ p ps → Exists S U p → (lo ≤ number_of S U p) × (number_of S U p < n)) → ascends n lo (numbers_for S U ps) ≡ true
  unfolding numbers_for
  numbers-ascend lo n ps h = sorted-ascends n lo (listed ps) inside
    where
      inside : (k : ℕ) → member k (listed ps) ≡ true → (lo ≤ k) × (k < n)
      inside k m =
          let f = number_in (number_of S U) k (keep (exists S U) ps) m in
          let i = keep-in (exists S U) f.element ps f.stands in
          rw f.holds (h f.element i.0 (exists-has S U f.element i.1))

  -- the order in which places are named, and how often, does not matter
  pub numbers-same : (ps qs : List Place) → ((z : ℕ) → member z (listed ps) ≡ member z (listed qs)) → numbers_for S U ps ≡ numbers_for S U qs
  numbers-same ps qs h =
      ascends_same (length (places S U)) 0 (numbers_for S U ps) (numbers_for S U qs) (rise ps) (rise qs)
      (λ z. member-numbers z ps ∙ h z ∙ sym (member-numbers z qs))
    where
      rise : (ps : List Place) → ascends (length (places S U)) 0 (numbers_for S U ps) ≡ true
      rise ps = numbers-ascend 0 (length (places S U)) ps (λ p i e. (omega arith, number-below S U (free 0) p e))

  listed_cons : (z : ℕ) (p : Place) (ps : List Place) → member z (listed (p ∷ ps)) ≡ ((exists S U p && same z (number_of S U p)) || member z (listed ps))
  unfolding keep member
  listed_cons z p ps = go (exists S U p)
    where
      go : (b : Bool) → member z (map (number_of S U) (pick b (p ∷ keep (exists S U) ps) (keep (exists S U) ps)))
          ≡ ((b && same z (number_of S U p)) || member z (listed ps))
      go true = refl
      go false = refl

  pub numbers-swap : (p q : Place) (ps : List Place) → numbers_for S U (p ∷ q ∷ ps) ≡ numbers_for S U (q ∷ p ∷ ps)
  numbers-swap p q ps = numbers-same (p ∷ q ∷ ps) (q ∷ p ∷ ps)
      (λ z. listed_cons z p (q ∷ ps) ∙ rw (listed_cons z q ps, listed_cons z q (p ∷ ps), listed_cons z p ps)
      (swap (exists S U p && same z (number_of S U p)) (exists S U q && same z (number_of S U q)) (member z (listed ps))))
    where
      swap : (a b c : Bool) → (a || (b || c)) ≡ (b || (a || c))
      swap true true c = refl
      swap true false c = refl
      swap false true c = refl
      swap false false c = refl

  pub numbers-twice : (p : Place) (ps : List Place) → numbers_for S U (p ∷ p ∷ ps) ≡ numbers_for S U (p ∷ ps)
  numbers-twice p ps = numbers-same (p ∷ p ∷ ps) (p ∷ ps) (λ z. listed_cons z p (p ∷ ps) ∙ rw (listed_cons z p ps)
      (twice (exists S U p && same z (number_of S U p)) (member z (listed ps))))
    where
      twice : (a c : Bool) → (a || (a || c)) ≡ (a || c)
      twice true c = refl
      twice false c = refl

  -- two places that the net has
  pub numbers-two : (p q : Place) → Exists S U p → Exists S U q → number_of S U p < number_of S U q
      → numbers_for S U (p ∷ q ∷ []) ≡ number_of S U p ∷ number_of S U q ∷ []
  numbers-two p q e f h = numbers-yes p (q ∷ []) e ∙ rw (numbers-one q f) (insert-before (number_of S U p) (number_of S U q) [] h)

  -- a place below all those behind it
  pub numbers-first : (n : ℕ) (p : Place) (ps : List Place) → Exists S U p → ascends n (number_of S U p + 1) (numbers_for S U ps) ≡ true
      → numbers_for S U (p ∷ ps) ≡ number_of S U p ∷ numbers_for S U ps
  unfolding ascends
  numbers-first n p ps e h = numbers-yes p ps e ∙ insert-between (number_of S U p) n 0 [] (numbers_for S U ps) refl h

  -- a list of places below a number, and one of places from it on
  pub numbers-split : (n mid : ℕ) (ps qs : List Place) → mid ≤ n
      → ((p : Place) → Memᴰ p ps → Exists S U p → number_of S U p < mid)
      → ((p : Place) → Memᴰ p qs → Exists S U p → (mid ≤ number_of S U p) × (number_of S U p < n))
      → numbers_for S U (qs ++ ps) ≡ numbers_for S U ps ++ numbers_for S U qs
  numbers-split n mid ps qs u f g = ascends_same n 0 (numbers_for S U (qs ++ ps)) (numbers_for S U ps ++ numbers_for S U qs)
      (numbers-ascend 0 n (qs ++ ps) (λ p i e. (omega arith, within p e (Memᴰ.append_cases qs i))))
      (ascends-append n 0 mid (numbers_for S U ps) (numbers_for S U qs) (omega arith) u
      (numbers-ascend 0 mid ps (λ p i e. (omega arith, f p i e))) (numbers-ascend mid n qs g)) same-members
    where
      within : (p : Place) → Exists S U p → Memᴰ p qs ⊎ Memᴰ p ps → number_of S U p < n
      within p e (inl i) = (g p i e).1
      within p e (inr i) = omega (arith, f p i e)

      or_swap : (a b : Bool) → (a || b) ≡ (b || a)
      or_swap true true = refl
      or_swap true false = refl
      or_swap false true = refl
      or_swap false false = refl

      same-members : (z : ℕ) → member z (numbers_for S U (qs ++ ps)) ≡ member z (numbers_for S U ps ++ numbers_for S U qs)
      same-members z =
          member-numbers z (qs ++ ps) ∙ ap (member z) (listed-append qs ps) ∙ member-append z (listed qs) (listed ps)
          ∙ or_swap (member z (listed qs)) (member z (listed ps))
          ∙ sym (member-append z (numbers_for S U ps) (numbers_for S U qs) ∙ rw (member-numbers z ps, member-numbers z qs))

  -- ---- row places stand before control places

  row-place : (p : Place) → is_control p ≡ false → Exists S U p → number_of S U p < control_start S U 0
  row-place (equals x v) c e = omega (arith, (row-of-equals S U x v e).1, row_ends S U x (bound e), free-before-controls S U 0)
    where
      bound : Exists S U (equals x v) → IsBound S U x
      bound (has-equals b u r) = b
  row-place (differs x v) c e = omega (arith, (differs-inside S U x v e).1, row_ends S U x (bound e), free-before-controls S U 0)
    where
      bound : Exists S U (differs x v) → IsBound S U x
      bound (has-differs b n u r) = b
  row-place (free v) c e = (free-inside S U v e).1
  row-place (control n k) c e = false-true c refl

  control-place : (p : Place) → is_control p ≡ true → Exists S U p → (control_start S U 0 ≤ number_of S U p) × (number_of S U p < length (places S U))
  control-place (equals x v) c e = false-true refl c
  control-place (differs x v) c e = false-true refl c
  control-place (free v) c e = false-true refl c
  control-place (control n k) c e =
      let i = control-inside S U n k e in
      (omega (arith, i.0, controls-after S U n), omega (arith, i.1, places-length S U, control-rises S U (n + 1) S.nodes (node e)))
    where
      node : Exists S U (control n k) → n + 1 ≤ S.nodes
      node (has-control l u) = omega arith

  pub rows-then-controls : (ps qs : List Place) → ((p : Place) → Memᴰ p ps → is_control p ≡ false) → ((p : Place) → Memᴰ p qs → is_control p ≡ true)
      → numbers_for S U (qs ++ ps) ≡ numbers_for S U ps ++ numbers_for S U qs
  rows-then-controls ps qs f g =
      numbers-split (length (places S U)) (control_start S U 0) ps qs (omega (arith, places-length S U, controls-after S U S.nodes))
      (λ p i e. row-place p (f p i) e) (λ p i e. control-place p (g p i) e)

  -- ---- inputs and outputs

  left-controls : (ms : List Move) (p : Place) → Memᴰ p (left_places S ms) → is_control p ≡ true
  left-controls ms p i = let f = map-in (λ m. control m.from_node m.from_index) p ms i in rw f.holds

  reached-controls : (ms : List Move) (p : Place) → Memᴰ p (reached_places S ms) → is_control p ≡ true
  reached-controls ms p i = let f = map-in (λ m. control m.to_node m.to_index) p ms i in rw f.holds

  tests-rows : (ts : List Test) (p : Place) → Memᴰ p (test_places S ts) → is_control p ≡ false
  tests-rows ts p i = let f = map-in (λ t. equals t.name t.value) p ts i in rw f.holds

  differ-rows : (v : ℕ) (p : Place) → Memᴰ p (all_differ S v) → is_control p ≡ false
  differ-rows v p i = let f = map-in (λ x. differs x v) p (from S.publics S.bounds) i in rw f.holds

  taken-rows : (c : Command) (p : Place) → Memᴰ p (taken_places S c) → is_control p ≡ false
  taken-rows skip p i = elim i [ ]
  taken-rows (take y v) p i = go (S.restricted y) i
    where
      go : (b : Bool) → Memᴰ p (pick b (free v ∷ all_differ S v) (differs y v ∷ [])) → is_control p ≡ false
      go true (Memᴰ.head e) = rw e
      go true (Memᴰ.tail m) = differ-rows v p m
      go false (Memᴰ.head e) = rw e
      go false (Memᴰ.tail m) = elim m [ ]
  taken-rows (release z v) p (Memᴰ.head e) = rw e
  taken-rows (release z v) p (Memᴰ.tail m) = elim m [ ]

  given-rows : (c : Command) (p : Place) → Memᴰ p (given_places S c) → is_control p ≡ false
  given-rows skip p i = elim i [ ]
  given-rows (take y v) p (Memᴰ.head e) = rw e
  given-rows (take y v) p (Memᴰ.tail i) = go (S.restricted y) i
    where
      go : (b : Bool) → Memᴰ p (pick b (all_differ S v) []) → is_control p ≡ false
      go true m = differ-rows v p m
      go false m = elim m [ ]
  given-rows (release z v) p i = go (S.restricted z) i
    where
      go : (b : Bool) → Memᴰ p (pick b (free v ∷ []) (differs z v ∷ [])) → is_control p ≡ false
      go true (Memᴰ.head e) = rw e
      go true (Memᴰ.tail m) = elim m [ ]
      go false (Memᴰ.head e) = rw e
      go false (Memᴰ.tail m) = elim m [ ]

  either : (xs ys : List Place) (p : Place) → (Memᴰ p xs → is_control p ≡ false) → (Memᴰ p ys → is_control p ≡ false) → Memᴰ p (xs ++ ys)
      → is_control p ≡ false
  either xs ys p f g i = go (Memᴰ.append_cases xs i)
    where
      go : Memᴰ p xs ⊎ Memᴰ p ys → is_control p ≡ false
      go (inl m) = f m
      go (inr m) = g m

  pub inputs-split : (d : Description)
      → positions (is_input S d) (places S U) ≡ numbers_for S U (test_places S d.tests ++ taken_places S d.command) ++ numbers_for S U (left_places S d.moves)
  inputs-split d =
      inputs-named S U d
      ∙ rows-then-controls (test_places S d.tests ++ taken_places S d.command) (left_places S d.moves)
      (λ p i. either (test_places S d.tests) (taken_places S d.command) p (tests-rows d.tests p) (taken-rows d.command p) i)
      (left-controls d.moves)

  pub outputs-split : (d : Description)
      → positions (is_output S d) (places S U)
      ≡ numbers_for S U (test_places S d.tests ++ given_places S d.command) ++ numbers_for S U (reached_places S d.moves)
  outputs-split d =
      outputs-named S U d
      ∙ rows-then-controls (test_places S d.tests ++ given_places S d.command) (reached_places S d.moves)
      (λ p i. either (test_places S d.tests) (given_places S d.command) p (tests-rows d.tests p) (given-rows d.command p) i)
      (reached-controls d.moves)
