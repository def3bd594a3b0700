-- The arcs of a description are the numbers, in order, of the places that it names and the net has. So there are few of them.
use Rattle.std.proofs.Common.{◌≡◌, ℕ, suc, ◌+◌, ◌*◌, ◌≤◌, Bool, true, false, ◌&&◌, ◌||◌, ◌⊎◌, List, [], ◌∷◌, ◌++◌, length, refl, ap, ◌∙◌, inl, inr, arith, length-append}
use mathlib.Core.List.Memᴰ
use mathlib.Core.List.{Memᴰ}
use lib.ListN.{length-map}
use Rattle.lists.specs.Lists.{pick, same, from, positions}
use Rattle.lists.proofs.Tests.{false-true, and_left, and_right, or_cases, or_left, or_right, or-true, same_self, same_true}
use Rattle.lists.proofs.Ranges.{member-from, from-length}
use Rattle.scheme.specs.Scheme.{Scheme}
use Rattle.places.specs.Values.{Values}
use Rattle.places.specs.Places.{Place, equals, differs, free, control, places}
use Rattle.places.specs.Rows.{Exists, has-differs}
use Rattle.places.specs.Transitions.{Move, Test, Command, skip, take, release, Description, command_takes, command_gives, is_tested, is_left, is_reached}
use Rattle.places.specs.Transitions.{is_input, is_output}
use Rattle.places.specs.Inner.Arcs.{all_differ, taken_places, given_places, left_places, reached_places, test_places, input_places, output_places, numbers_for}
use Rattle.lists.proofs.Standing.{map-in, in_map, some_in, some-map, member-in}
use Rattle.places.proofs.Numbers.{numbers-are, numbers-few}

-- two tests of numbers that hold
both : (a b c d : ℕ) → (same a b && same c d) ≡ true → (a ≡ b) × (c ≡ d)
both a b c d h = (same_true a b (and_left (same a b) (same c d) h), same_true c d (and_right (same a b) (same c d) h))

selves : (a b : ℕ) → (same a a && same b b) ≡ true
selves a b = rw (same_self a, same_self b)

one_in : {A : Type 0} (x y : A) → Memᴰ x (y ∷ []) → x ≡ y
one_in {A = A} x y (Memᴰ.tail x5) = elim x5 [ ]
one_in x y (Memᴰ.head e) = e

module _ (S : Scheme) (U : Values) where
  -- ---- what is named passes

  left-passes : (ms : List Move) (p : Place) → Memᴰ p (left_places S ms) → is_left S ms p ≡ true
  left-passes ms p i =
      let f = map-in (λ m. control m.from_node m.from_index) p ms i in
      let n = f.element.from_node in
      let k = f.element.from_index in
      rw f.holds (some_in (λ m. same m.from_node n && same m.from_index k) f.element ms f.stands (selves n k))

  reached-passes : (ms : List Move) (p : Place) → Memᴰ p (reached_places S ms) → is_reached S ms p ≡ true
  reached-passes ms p i =
      let f = map-in (λ m. control m.to_node m.to_index) p ms i in
      let n = f.element.to_node in
      let k = f.element.to_index in
      rw f.holds (some_in (λ m. same m.to_node n && same m.to_index k) f.element ms f.stands (selves n k))

  test-passes : (ts : List Test) (p : Place) → Memᴰ p (test_places S ts) → is_tested S ts p ≡ true
  test-passes ts p i =
      let f = map-in (λ t. equals t.name t.value) p ts i in
      let x = f.element.name in
      let v = f.element.value in
      rw f.holds (some_in (λ t. same t.name x && same t.value v) f.element ts f.stands (selves x v))

  taken-passes : (c : Command) (p : Place) → Memᴰ p (taken_places S c) → command_takes S c p ≡ true
  taken-passes skip p i = elim i [ ]
  taken-passes (take y v) p i = go (S.restricted y) refl i
    where
      go : (b : Bool) → S.restricted y ≡ b → Memᴰ p (pick b (free v ∷ all_differ S v) (differs y v ∷ [])) → command_takes S (take y v) p ≡ true
      go true r (Memᴰ.head e) = rw (e, r, same_self v)
      go true r (Memᴰ.tail m) =
          let f = map-in (λ x. differs x v) p (from S.publics S.bounds) m in
          rw (f.holds, r, or-true (same f.element y), same_self v)
      go false r m = rw (one_in p (differs y v) m, same_self y, same_self v)
  taken-passes (release z v) p i = rw (one_in p (equals z v) i) (selves z v)

  given-passes : (c : Command) (p : Place) → Memᴰ p (given_places S c) → command_gives S c p ≡ true
  given-passes skip p i = elim i [ ]
  given-passes (take y v) p (Memᴰ.head e) = rw e (selves y v)
  given-passes (take y v) p (Memᴰ.tail i) = go (S.restricted y) refl i
    where
      go : (b : Bool) → S.restricted y ≡ b → Memᴰ p (pick b (all_differ S v) []) → command_gives S (take y v) p ≡ true
      go true r m =
          let f = map-in (λ x. differs x v) p (from S.publics S.bounds) m in
          rw (f.holds, r, same_self v)
      go false r m = elim m [ ]
  given-passes (release z v) p i = go (S.restricted z) refl i
    where
      go : (b : Bool) → S.restricted z ≡ b → Memᴰ p (pick b (free v ∷ []) (differs z v ∷ [])) → command_gives S (release z v) p ≡ true
      go true r m = rw (one_in p (free v) m, r, same_self v)
      go false r m = rw (one_in p (differs z v) m) (selves z v)

  -- ---- what passes is named

  left-named : (ms : List Move) (p : Place) → is_left S ms p ≡ true → Memᴰ p (left_places S ms)
  left-named ms (equals x v) h = false-true refl h
  left-named ms (differs x v) h = false-true refl h
  left-named ms (free v) h = false-true refl h
  left-named ms (control n k) h =
      some-map (λ m. same m.from_node n && same m.from_index k) (λ m. control m.from_node m.from_index) (control n k) ms
      (λ m e. let q = both m.from_node n m.from_index k e in rw (q.0, q.1)) h

  reached-named : (ms : List Move) (p : Place) → is_reached S ms p ≡ true → Memᴰ p (reached_places S ms)
  reached-named ms (equals x v) h = false-true refl h
  reached-named ms (differs x v) h = false-true refl h
  reached-named ms (free v) h = false-true refl h
  reached-named ms (control n k) h =
      some-map (λ m. same m.to_node n && same m.to_index k) (λ m. control m.to_node m.to_index) (control n k) ms
      (λ m e. let q = both m.to_node n m.to_index k e in rw (q.0, q.1)) h

  test-named : (ts : List Test) (p : Place) → is_tested S ts p ≡ true → Memᴰ p (test_places S ts)
  test-named ts (equals x v) h =
      some-map (λ t. same t.name x && same t.value v) (λ t. equals t.name t.value) (equals x v) ts
      (λ t e. let q = both t.name x t.value v e in rw (q.0, q.1)) h
  test-named ts (differs x v) h = false-true refl h
  test-named ts (free v) h = false-true refl h
  test-named ts (control n k) h = false-true refl h

  differs-named : (x v : ℕ) → Exists S U (differs x v) → Memᴰ (differs x v) (all_differ S v)
  differs-named x v (has-differs b r u q) =
      in_map (λ x. differs x v) x (from S.publics S.bounds)
      (member-in x (from S.publics S.bounds) (member-from x S.publics S.bounds b.0 b.1))

  unrestricted : (x v : ℕ) → Exists S U (differs x v) → S.restricted x ≡ false
  unrestricted x v (has-differs b r u q) = r

  taken-named : (c : Command) (p : Place) → Exists S U p → command_takes S c p ≡ true → Memᴰ p (taken_places S c)
  taken-named skip p e h = false-true refl h
  taken-named (take y v) (equals x u) e h = false-true refl h
  taken-named (take y v) (differs x u) e h =
      let q = same_true u v (and_right (same x y || S.restricted y) (same u v) h) in
      rw (← q) (go (S.restricted y) (and_left (same x y || S.restricted y) (same u v) h))
    where
      go : (b : Bool) → (same x y || b) ≡ true → Memᴰ (differs x u) (pick b (free u ∷ all_differ S u) (differs y u ∷ []))
      go true k = Memᴰ.tail (differs-named x u e)
      go false k = Memᴰ.head (ap (λ (z : ℕ). differs z u) (same_true x y (either (or_cases (same x y) false k))))
        where
          either : (same x y ≡ true) ⊎ (false ≡ true) → same x y ≡ true
          either (inl m) = m
          either (inr m) = false-true refl m
  taken-named (take y v) (free u) e h =
      let q = same_true u v (and_right (S.restricted y) (same u v) h) in
      rw (← q, and_left (S.restricted y) (same u v) h) (Memᴰ.head refl)
  taken-named (take y v) (control n k) e h = false-true refl h
  taken-named (release z v) (equals x u) e h = let q = both x z u v h in rw (q.0, q.1) (Memᴰ.head refl)
  taken-named (release z v) (differs x u) e h = false-true refl h
  taken-named (release z v) (free u) e h = false-true refl h
  taken-named (release z v) (control n k) e h = false-true refl h

  given-named : (c : Command) (p : Place) → Exists S U p → command_gives S c p ≡ true → Memᴰ p (given_places S c)
  given-named skip p e h = false-true refl h
  given-named (take y v) (equals x u) e h = let q = both x y u v h in rw (q.0, q.1) (Memᴰ.head refl)
  given-named (take y v) (differs x u) e h =
      let q = same_true u v (and_right (S.restricted y) (same u v) h) in
      rw (← q, and_left (S.restricted y) (same u v) h) (Memᴰ.tail (differs-named x u e))
  given-named (take y v) (free u) e h = false-true refl h
  given-named (take y v) (control n k) e h = false-true refl h
  given-named (release z v) (equals x u) e h = false-true refl h
  given-named (release z v) (differs x u) e h =
      let q = both x z u v h in
      let r : S.restricted z ≡ false = rw q.0 at (unrestricted x u e) in
      rw (q.0, q.1, r) (Memᴰ.head refl)
  given-named (release z v) (free u) e h =
      let q = same_true u v (and_right (S.restricted z) (same u v) h) in
      rw (q, and_left (S.restricted z) (same u v) h) (Memᴰ.head refl)
  given-named (release z v) (control n k) e h = false-true refl h

  -- ---- inputs and outputs

  -- one of three tests holds where the place stands in one of three lists
  passes : (p : Place) (a b c : Bool) (xs ys zs : List Place) → (Memᴰ p xs → a ≡ true) → (Memᴰ p ys → b ≡ true) → (Memᴰ p zs → c ≡ true)
      → Memᴰ p (xs ++ (ys ++ zs)) → (a || (b || c)) ≡ true
  passes p a b c xs ys zs f g h i = go (Memᴰ.append_cases xs i)
    where
      rest : Memᴰ p ys ⊎ Memᴰ p zs → (b || c) ≡ true
      rest (inl m) = or_left b c (g m)
      rest (inr m) = or_right b c (h m)

      go : Memᴰ p xs ⊎ Memᴰ p (ys ++ zs) → (a || (b || c)) ≡ true
      go (inl m) = or_left a (b || c) (f m)
      go (inr m) = or_right a (b || c) (rest (Memᴰ.append_cases ys m))

  named : (p : Place) (a b c : Bool) (xs ys zs : List Place) → (a ≡ true → Memᴰ p xs) → (b ≡ true → Memᴰ p ys) → (c ≡ true → Memᴰ p zs)
      → (a || (b || c)) ≡ true → Memᴰ p (xs ++ (ys ++ zs))
  named p true b c xs ys zs f g h e = Memᴰ.append_left (ys ++ zs) (f refl)
  named p false true c xs ys zs f g h e = Memᴰ.append_right xs (Memᴰ.append_left zs (g refl))
  named p false false c xs ys zs f g h e = Memᴰ.append_right xs (Memᴰ.append_right ys (h e))

  pub inputs-named : (d : Description) → positions (is_input S d) (places S U) ≡ numbers_for S U (input_places S d)
  unfolding is_input
  inputs-named d =
      numbers-are S U (is_input S d) (input_places S d)
      (λ p i. passes p (is_left S d.moves p) (is_tested S d.tests p) (command_takes S d.command p) (left_places S d.moves) (test_places S d.tests)
      (taken_places S d.command) (left-passes d.moves p) (test-passes d.tests p) (taken-passes d.command p) i)
      (λ p e h. named p (is_left S d.moves p) (is_tested S d.tests p) (command_takes S d.command p) (left_places S d.moves) (test_places S d.tests)
      (taken_places S d.command) (left-named d.moves p) (test-named d.tests p) (taken-named d.command p e) h)

  pub outputs-named : (d : Description) → positions (is_output S d) (places S U) ≡ numbers_for S U (output_places S d)
  unfolding is_output
  outputs-named d =
      numbers-are S U (is_output S d) (output_places S d)
      (λ p i. passes p (is_reached S d.moves p) (is_tested S d.tests p) (command_gives S d.command p) (reached_places S d.moves)
      (test_places S d.tests) (given_places S d.command) (reached-passes d.moves p) (test-passes d.tests p) (given-passes d.command p) i)
      (λ p e h. named p (is_reached S d.moves p) (is_tested S d.tests p) (command_gives S d.command p) (reached_places S d.moves)
      (test_places S d.tests) (given_places S d.command) (reached-named d.moves p) (test-named d.tests p) (given-named d.command p e) h)

  -- ---- so there are few

  differ-length : (v : ℕ) → length (all_differ S v) ≡ S.bounds
  differ-length v = length-map (from S.publics S.bounds) (λ x. differs x v) ∙ from-length S.publics S.bounds

  taken-few : (c : Command) → length (taken_places S c) ≤ S.bounds + 1
  taken-few skip = omega arith
  taken-few (take y v) = go (S.restricted y)
    where
      go : (b : Bool) → length (pick b (free v ∷ all_differ S v) (differs y v ∷ [])) ≤ S.bounds + 1
      go true = omega (arith, differ-length v)
      go false = omega arith
  taken-few (release z v) = omega arith

  given-few : (c : Command) → length (given_places S c) ≤ S.bounds + 1
  given-few skip = omega arith
  given-few (take y v) = go (S.restricted y)
    where
      go : (b : Bool) → suc (length (pick b (all_differ S v) [])) ≤ S.bounds + 1
      go true = omega (arith, differ-length v)
      go false = omega arith
  given-few (release z v) = go (S.restricted z)
    where
      go : (b : Bool) → length (pick b (free v ∷ []) (differs z v ∷ [])) ≤ S.bounds + 1
      go true = omega arith
      go false = omega arith

  -- the words of a description's record and arcs
  unfoldable pub words_of : Description → ℕ
  words_of d = 6 + length (positions (is_input S d) (places S U)) + length (positions (is_output S d) (places S U))

  pub words-few : (d : Description) → length d.moves ≤ 2 → length d.tests ≤ 3 → words_of d ≤ 18 + 2 * S.bounds
  unfolding words_of
  words-few d m t =
      omega (
        arith,
        ap (λ (l : List ℕ). length l) (inputs-named d),
        ap (λ (l : List ℕ). length l) (outputs-named d),
        numbers-few S U (input_places S d),
        numbers-few S U (output_places S d),
        length-append (left_places S d.moves) (test_places S d.tests ++ taken_places S d.command),
        length-append (test_places S d.tests) (taken_places S d.command),
        length-append (reached_places S d.moves) (test_places S d.tests ++ given_places S d.command),
        length-append (test_places S d.tests) (given_places S d.command),
        length-map d.moves (λ m. control m.from_node m.from_index),
        length-map d.moves (λ m. control m.to_node m.to_index),
        length-map d.tests (λ t. equals t.name t.value),
        taken-few d.command,
        given-few d.command,
      )
