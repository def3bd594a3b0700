-- Insertion into the first words of a list: looked for from the end, the words behind moved up by one.
use mathlib.Core.Path.{◌≡◌, refl, sym, ap, ◌∙◌}
use mathlib.Core.Bool.{true}
use mathlib.Core.List.{List, [], ◌∷◌, ◌++◌, append_assoc}
use Prim.Native.Nat.{ℕ, zero, suc, ◌+◌, ◌-◌, ◌≤◌, ◌<◌}
use native.Mathlib.Omega.{arith}
use lib.ListN.{length, get_or, take, drop, set, length-append, get_or-append, take-append-drop}
use lib.Seq.{slice, take-suc, set_at, get_or-take, length-take-le, length-slice, take_at, take-take}
use Rattle.lists.specs.Lists.{ascends}
use Rattle.lists.proofs.Slices.{slice-step, slice-none}
use Rattle.lists.proofs.Ascending.{ascends-first, ascends-rest}
use Rattle.places.specs.Inner.Arcs.{insert}
use Rattle.places.proofs.Sorted.{insert-before, insert-here, insert-after, insert-last}

-- a list that ascends does not fall
rises-from : (n lo : ℕ) (xs : List ℕ) → ascends n lo xs ≡ true → (j : ℕ) → j < length xs → lo ≤ get_or xs j 0
rises-from n lo [] h j l = absurd (omega arith)
rises-from n lo (x ∷ xs) h zero l = ascends-first n lo x xs h
rises-from n lo (x ∷ xs) h (suc j) l = omega (arith, ascends-first n lo x xs h, rises-from n (x + 1) xs (ascends-rest n lo x xs h) j (omega arith))

rises : (n lo : ℕ) (xs : List ℕ) → ascends n lo xs ≡ true → (i j : ℕ) → i ≤ j → j < length xs → get_or xs i 0 ≤ get_or xs j 0
rises n lo [] h i j le l = absurd (omega arith)
rises n lo (x ∷ xs) h zero zero le l = omega arith
rises n lo (x ∷ xs) h zero (suc j) le l = omega (arith, rises-from n (x + 1) xs (ascends-rest n lo x xs h) j (omega arith))
rises n lo (x ∷ xs) h (suc i) zero le l = absurd (omega arith)
rises n lo (x ∷ xs) h (suc i) (suc j) le l = rises n (x + 1) xs (ascends-rest n lo x xs h) i j (omega arith) (omega arith)

strict-rise : (n lo : ℕ) (xs : List ℕ) → ascends n lo xs ≡ true → (i j : ℕ) → i < j → j < length xs → get_or xs i 0 < get_or xs j 0
strict-rise n lo [] h i j le l = absurd (omega arith)
strict-rise n lo (x ∷ xs) h i zero le l = absurd (omega arith)
strict-rise n lo (x ∷ xs) h zero (suc j) le l = omega (arith, rises-from n (x + 1) xs (ascends-rest n lo x xs h) j (omega arith))
strict-rise n lo (x ∷ xs) h (suc i) (suc j) le l = strict-rise n (x + 1) xs (ascends-rest n lo x xs h) i j (omega arith) (omega arith)

insert-behind : (x : ℕ) (xs ys : List ℕ) → ((k : ℕ) → k < length xs → get_or xs k 0 < x) → insert x (xs ++ ys) ≡ xs ++ insert x ys
insert-behind x [] ys h = refl
insert-behind x (a ∷ xs) ys h =
    insert-after x a (xs ++ ys) (h 0 (omega arith)) ∙ ap (λ (l : List ℕ). a ∷ l) (insert-behind x xs ys (λ k p. h (suc k) (omega arith)))

module _ (list : List ℕ) (count x : ℕ) (room : count < length list) (up : ascends 4294967296 0 (take count list) ≡ true) where
  size : length (take count list) ≡ count
  size = length-take-le count list (omega arith)

  -- the words before `at` are smaller where the last of them is
  parts : (at : ℕ) → at ≤ count → take count list ≡ take at list ++ slice at count list
  parts at h = sym (take-append-drop at (take count list)) ∙ ap (λ (l : List ℕ). l ++ slice at count list) (take-take at count list h)

  smaller_before : (at : ℕ) → at ≤ count → (0 < at → get_or list (at - 1) 0 < x) → (k : ℕ) → k < length (take at list) → get_or (take at list) k 0 < x
  smaller_before at h l k p =
      let s : length (take at list) ≡ at = length-take-le at list (omega arith) in
      let q : k < at = omega arith in
      let a : get_or (take at list) k 0 ≡ get_or list k 0 = get_or-take at list k 0 q in
      let b : get_or (take count list) k 0 ≡ get_or list k 0 = get_or-take count list k 0 (omega arith) in
      let d : get_or (take count list) (at - 1) 0 ≡ get_or list (at - 1) 0 = get_or-take count list (at - 1) 0 (omega arith) in
      omega (arith, l (omega arith), rises 4294967296 0 (take count list) up k (at - 1) (omega arith) (omega (arith, size)))

  -- x stands there
  pub insert-found : (at : ℕ) → 0 < at → at ≤ count → get_or list (at - 1) 0 ≡ x → insert x (take count list) ≡ take count list
  insert-found at p h e =
      let i : at - 1 + 1 ≡ at = omega arith in
      let g : slice (at - 1) count list ≡ x ∷ slice at count list =
      slice-step list (at - 1) count (omega arith) (omega arith) ∙ rw (e, i) in
      let s : length (take (at - 1) list) ≡ at - 1 = length-take-le (at - 1) list (omega arith) in
      ap (insert x) (parts (at - 1) (omega arith) ∙ ap (λ (l : List ℕ). take (at - 1) list ++ l) g)
      ∙ insert-behind x (take (at - 1) list) (x ∷ slice at count list) strictly
      ∙ ap (λ (l : List ℕ). take (at - 1) list ++ l) (insert-here x (slice at count list))
      ∙ sym (parts (at - 1) (omega arith) ∙ ap (λ (l : List ℕ). take (at - 1) list ++ l) g)
    where
      -- what stands before x is smaller
      strictly : (k : ℕ) → k < length (take (at - 1) list) → get_or (take (at - 1) list) k 0 < x
      strictly k q =
          let s : length (take (at - 1) list) ≡ at - 1 = length-take-le (at - 1) list (omega arith) in
          let a : get_or (take (at - 1) list) k 0 ≡ get_or list k 0 = get_or-take (at - 1) list k 0 (omega arith) in
          let b : get_or (take count list) k 0 ≡ get_or list k 0 = get_or-take count list k 0 (omega arith) in
          let d : get_or (take count list) (at - 1) 0 ≡ get_or list (at - 1) 0 = get_or-take count list (at - 1) 0 (omega arith) in
          omega (arith, e, strict-rise 4294967296 0 (take count list) up k (at - 1) (omega arith) (omega (arith, size)))

  -- x belongs at `at`
  pub insert-at : (at : ℕ) → at ≤ count → (0 < at → get_or list (at - 1) 0 < x) → (at < count → x < get_or list at 0)
      → insert x (take count list) ≡ take at list ++ (x ∷ slice at count list)
  insert-at at h l r =
      ap (insert x) (parts at h) ∙ insert-behind x (take at list) (slice at count list) (smaller_before at h l)
      ∙ ap (λ (l : List ℕ). take at list ++ l) (behind (slice at count list) refl)
    where
      behind : (ys : List ℕ) → ys ≡ slice at count list → insert x ys ≡ x ∷ ys
      behind [] e = insert-last x
      behind (y ∷ ys) e =
          let s : length (slice at count list) ≡ count - at = length-slice at count list (omega arith) in
          let n : suc (length ys) ≡ count - at = ap (λ (l : List ℕ). length l) e ∙ s in
          let f : y ∷ ys ≡ get_or list at 0 ∷ slice (at + 1) count list = e ∙ slice-step list at count (omega arith) (omega arith) in
          let g : y ≡ get_or list at 0 = ap (λ (l : List ℕ). get_or l 0 0) f in
          insert-before x y ys (omega (arith, g, r (omega arith)))

-- the words from k to e moved up by one
abbrev pub shifted : List ℕ → ℕ → ℕ → List ℕ
shifted l k e = take (k + 1) l ++ (slice k e l ++ drop (e + 1) l)

module _ (l : List ℕ) (e : ℕ) (room : e < length l) where
  pub shift_none : l ≡ shifted l e e
  shift_none = sym (rw (slice-none l e e (omega arith)) (take-append-drop (e + 1) l))

  pub shift-more : (k : ℕ) → 0 < k → k ≤ e → set (shifted l k e) k (get_or (shifted l k e) (k - 1) 0) ≡ shifted l (k - 1) e
  shift-more k p h =
      let behind = slice k e l ++ drop (e + 1) l in
      let v = get_or l (k - 1) 0 in
      let s : length (take (k + 1) l) ≡ k + 1 = length-take-le (k + 1) l (omega arith) in
      let t : length (take k l) ≡ k = length-take-le k l (omega arith) in
      let one : k + 1 ≡ suc k = omega arith in
      let back : k - 1 + 1 ≡ k = omega arith in
      let read : get_or (shifted l k e) (k - 1) 0 ≡ v =
      get_or-append (take (k + 1) l) behind 0 (k - 1) (omega arith) ∙ get_or-take (k + 1) l (k - 1) 0 (omega arith) in
      let grown : take (k + 1) l ≡ take k l ++ (get_or l k 0 ∷ []) = rw one (take-suc l k 0 (omega arith)) in
      let here : shifted l k e ≡ take k l ++ (get_or l k 0 ∷ behind) =
      ap (λ (f : List ℕ). f ++ behind) grown ∙ append_assoc (take k l) (get_or l k 0 ∷ []) behind in
      let there : slice (k - 1) e l ≡ v ∷ slice k e l = slice-step l (k - 1) e (omega arith) (omega arith) ∙ rw back in
      ap (λ (u : ℕ). set (shifted l k e) k u) read
      ∙ ap (λ (f : List ℕ). set f k v) here
      ∙ set_at (take k l) (get_or l k 0) behind v k t
      ∙ sym (rw (back, there))

  pub put-length : (at x : ℕ) → at ≤ e → length (take at l ++ (x ∷ slice at e l)) ≡ e + 1
  put-length at x h =
      let t : length (take at l) ≡ at = length-take-le at l (omega arith) in
      let s : length (slice at e l) ≡ e - at = length-slice at e l (omega arith) in
      simp length-append (omega arith)

  -- x put where the words behind have moved up
  pub shift-put : (at x : ℕ) → at ≤ e → take (e + 1) (set (shifted l at e) at x) ≡ take at l ++ (x ∷ slice at e l)
  shift-put at x h =
      let behind = slice at e l ++ drop (e + 1) l in
      let t : length (take at l) ≡ at = length-take-le at l (omega arith) in
      let one : at + 1 ≡ suc at = omega arith in
      let grown : take (at + 1) l ≡ take at l ++ (get_or l at 0 ∷ []) = rw one (take-suc l at 0 (omega arith)) in
      let here : shifted l at e ≡ take at l ++ (get_or l at 0 ∷ behind) =
      ap (λ (f : List ℕ). f ++ behind) grown ∙ append_assoc (take at l) (get_or l at 0 ∷ []) behind in
      ap (λ (f : List ℕ). take (e + 1) (set f at x)) here
      ∙ ap (take (e + 1)) (set_at (take at l) (get_or l at 0) behind x at t ∙ sym (append_assoc (take at l) (x ∷ slice at e l) (drop (e + 1) l)))
      ∙ take_at (take at l ++ (x ∷ slice at e l)) (drop (e + 1) l) (e + 1) (put-length at x h)
