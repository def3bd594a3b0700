-- Arcs by kind: which named places the net has, the places of a move, and the long lists of a New.
use Rattle.std.proofs.Common.{◌≡◌, ℕ, zero, suc, ◌+◌, ◌-◌, ◌<◌, ◌≤◌, Bool, true, false, not, ◌&&◌, ltb, leb, List, [], ◌∷◌, ◌++◌, map, sym, refl, ap, subst, ◌∙◌, arith, le-ltb, lt-ltb}
use borrow.Author.Tests.{lt-leb}
use Rattle.lists.specs.Lists.{pick, from, range, keep, member, ascends}
use Rattle.lists.proofs.Tests.{and_left, and_right, and-false}
use Rattle.lists.proofs.Ranges.{from-append, from_member}
use Rattle.lists.proofs.Members.{keep_append, map-append, member-keep}
use Rattle.lists.proofs.Ascending.{ascends-cons, ascends-lower, ascends-higher}
use Rattle.scheme.specs.Scheme.{Scheme}
use Rattle.places.specs.Values.{Values, values_of}
use Rattle.places.specs.Places.{equals, differs, free, control, controls}
use Rattle.places.specs.Rows.{row_start_of, free_start_of, number_of, IsBound, IsPrivate, Exists, has-equals, has-free}
use Rattle.places.specs.Transitions.{move, on}
use Rattle.places.specs.Inner.Arcs.{insert, sorted, all_differ, left_places, reached_places, exists, numbers_for}
use Rattle.places.proofs.Rows.{values-bound}
use Rattle.places.proofs.Order.{row-rises, row-of-equals, differs-inside, free-inside}
use Rattle.places.proofs.Sorted.{sorted-self, insert-between, insert-end}
use Rattle.places.proofs.Numbers.{exists-has}
use Rattle.places.proofs.Split.{numbers-yes}

module _ (S : Scheme) (U : Values) where
  -- ---- which places the net has

  -- a value of a bound name
  pub value-exists : (x v : ℕ) → IsBound S U x → member v (values_of S U x) ≡ true → Exists S U (equals x v)
  value-exists x v b m =
      let k : (U.reach x v && member v (range (S.publics + U.privates))) ≡ true =
      sym (member-keep (U.reach x) v (range (S.publics + U.privates))) ∙ (rw (values-bound S U x b.0) at m) in
      let i = from_member v 0 (S.publics + U.privates) (and_right (U.reach x v) (member v (range (S.publics + U.privates))) k) in
      has-equals {v = v} b (omega (arith, i.1)) (and_left (U.reach x v) (member v (range (S.publics + U.privates))) k)

  -- "read [a=v] if a is bound"
  pub equals-public : (x v : ℕ) → x < S.publics → exists S U (equals x v) ≡ false
  equals-public x v h = rw (lt-leb S.publics x h)

  -- "take [f≠v] if private", "give [z≠v] (v private)"
  pub differs-public : (x v : ℕ) → v < S.publics → exists S U (differs x v) ≡ false
  differs-public x v h = rw (lt-leb S.publics v h) (none (leb S.publics x) (ltb x (S.publics + S.bounds)) (not (S.restricted x)))
    where
      none : (a b c : Bool) → (a && (b && (c && false))) ≡ false
      none a b c = rw (and-false c, and-false b, and-false a)

  pub differs-restricted : (x v : ℕ) → S.restricted x ≡ true → exists S U (differs x v) ≡ false
  differs-restricted x v h = rw h (none (leb S.publics x) (ltb x (S.publics + S.bounds)))
    where
      none : (a b : Bool) → (a && (b && false)) ≡ false
      none a b = rw (and-false b, and-false a)

  pub free-public : (v : ℕ) → v < S.publics → exists S U (free v) ≡ false
  free-public v h = rw (lt-leb S.publics v h)

  -- ---- the places of a move

  pub on-left : (n k m : ℕ) → left_places S (on S n k m ∷ []) ≡ control n k ∷ []
  on-left n k m = go (ltb (suc k) (controls S n))
    where
      go : (b : Bool) → left_places S (pick b (move n k n (suc k)) (move n k m 0) ∷ []) ≡ control n k ∷ []
      go true = refl
      go false = refl

  -- "the next place of the chain or the first place of the next node"
  pub on_chain : (n k m : ℕ) → suc k < controls S n → reached_places S (on S n k m ∷ []) ≡ control n (suc k) ∷ []
  on_chain n k m h = rw (lt-ltb (suc k) (controls S n) h)

  pub on-next : (n k m : ℕ) → controls S n ≤ suc k → reached_places S (on S n k m ∷ []) ≡ control m 0 ∷ []
  on-next n k m h = rw (le-ltb (suc k) (controls S n) h)

  -- ---- New: every [x≠v] that the net has, of the n names from a on

  unfoldable pub differ_numbers : ℕ → ℕ → ℕ → List ℕ
  differ_numbers v a n = map (λ x. number_of S U (differs x v)) (keep (λ x. exists S U (differs x v)) (from a n))

  differ-map : (v : ℕ) (xs : List ℕ)
      → map (number_of S U) (keep (exists S U) (map (λ x. differs x v) xs)) ≡ map (λ x. number_of S U (differs x v)) (keep (λ x. exists S U (differs x v)) xs)
  unfolding keep
  differ-map v [] = refl
  differ-map v (x ∷ xs) = go (exists S U (differs x v)) (differ-map v xs)
    where
      go : (b : Bool)
          → map (number_of S U) (keep (exists S U) (map (λ x. differs x v) xs)) ≡ map (λ x. number_of S U (differs x v)) (keep (λ x. exists S U (differs x v)) xs)
          → map (number_of S U) (pick b (differs x v ∷ keep (exists S U) (map (λ x. differs x v) xs)) (keep (exists S U) (map (λ x. differs x v) xs)))
          ≡ map (λ x. number_of S U (differs x v)) (pick b (x ∷ keep (λ x. exists S U (differs x v)) xs) (keep (λ x. exists S U (differs x v)) xs))
      go true ih = rw ih
      go false ih = ih

  differ-ascend : (v a n : ℕ) → S.publics ≤ a → ascends (row_start_of S U (a + n)) (row_start_of S U a) (differ_numbers v a n) ≡ true
  unfolding differ_numbers keep from ascends
  differ-ascend v a zero l = refl
  differ-ascend v a (suc n) l =
      subst (λ (h : ℕ). ascends (row_start_of S U h) (row_start_of S U a) (differ_numbers v a (suc n)) ≡ true) (sym sum)
      (go (exists S U (differs a v)) refl (differ-ascend v (a + 1) n (omega arith)))
    where
      sum : a + suc n ≡ a + 1 + n
      sum = omega arith

      go : (b : Bool) → exists S U (differs a v) ≡ b → ascends (row_start_of S U (a + 1 + n)) (row_start_of S U (a + 1)) (differ_numbers v (a + 1) n) ≡ true
          → ascends (row_start_of S U (a + 1 + n)) (row_start_of S U a)
          (map (λ x. number_of S U (differs x v))
          (pick b (a ∷ keep (λ x. exists S U (differs x v)) (from (a + 1) n)) (keep (λ x. exists S U (differs x v)) (from (a + 1) n)))) ≡ true
      go true e ih =
          let i = differs-inside S U a v (exists-has S U (differs a v) e) in
          let u = row-rises S U (a + 1) (a + 1 + n) (omega arith) (omega arith) in
          (ascends-cons (row_start_of S U (a + 1 + n)) (row_start_of S U a) (number_of S U (differs a v)) (differ_numbers v (a + 1) n) (omega (arith, i.0))
          (omega (arith, i.1))
          ∙ ascends-lower (row_start_of S U (a + 1 + n)) (row_start_of S U (a + 1)) (number_of S U (differs a v) + 1) (differ_numbers v (a + 1) n)
          (omega (arith, i.1)) ih)
      go false e ih = (ascends-lower (row_start_of S U (a + 1 + n)) (row_start_of S U (a + 1)) (row_start_of S U a) (differ_numbers v (a + 1) n)
          (row-rises S U a (a + 1) l (omega arith)) ih)

  -- within any wider limits
  differ-within : (v a n hi lo : ℕ) → S.publics ≤ a → row_start_of S U (a + n) ≤ hi → lo ≤ row_start_of S U a → ascends hi lo (differ_numbers v a n) ≡ true
  differ-within v a n hi lo l u d =
      ascends-higher (row_start_of S U (a + n)) hi lo (differ_numbers v a n) u
      (ascends-lower (row_start_of S U (a + n)) (row_start_of S U a) lo (differ_numbers v a n) d (differ-ascend v a n l))

  free-is : free_start_of S U ≡ row_start_of S U (S.publics + S.bounds)
  unfolding free_start_of
  free-is = refl

  pub all-differ : (v : ℕ) → numbers_for S U (all_differ S v) ≡ differ_numbers v S.publics S.bounds
  unfolding numbers_for differ_numbers
  all-differ v =
      ap sorted (differ-map v (from S.publics S.bounds))
      ∙ sorted-self (row_start_of S U (S.publics + S.bounds)) (row_start_of S U S.publics) (differ_numbers v S.publics S.bounds)
      (differ-ascend v S.publics S.bounds (omega arith))

  -- "take [*≠n], read [x≠n] for every input and formal"
  pub new-takes : (v : ℕ) → IsPrivate S U v → numbers_for S U (free v ∷ all_differ S v) ≡ differ_numbers v S.publics S.bounds ++ (number_of S U (free v) ∷ [])
  new-takes v i = numbers-yes S U (free v) (all_differ S v) (has-free i)
      ∙ rw (all-differ v) (insert-end (number_of S U (free v)) 0 (differ_numbers v S.publics S.bounds) low)
    where
      low : ascends (number_of S U (free v)) 0 (differ_numbers v S.publics S.bounds) ≡ true
      low =
          differ-within v S.publics S.bounds (number_of S U (free v)) 0 (omega arith)
          (omega (arith, (free-inside S U v (has-free i)).0, free-is)) (omega arith)

  -- the names before r, r itself, which is restricted, and those behind it
  pub differ-split : (v r : ℕ) → IsBound S U r → S.restricted r ≡ true
      → differ_numbers v S.publics S.bounds
      ≡ differ_numbers v S.publics (r - S.publics) ++ differ_numbers v (r + 1) (S.publics + S.bounds - (r + 1))
  unfolding differ_numbers keep from
  differ-split v r b h =
      let q : ℕ → Bool = λ x. exists S U (differs x v) in
      let m = r - S.publics in
      let k = S.publics + S.bounds - (r + 1) in
      let e : S.bounds ≡ m + suc k = omega (arith, b.0, b.1) in
      let f : S.publics + m ≡ r = omega (arith, b.0) in
      let s : keep q (from S.publics S.bounds) ≡ keep q (from S.publics m) ++ keep q (from (r + 1) k) =
      ap (λ (j : ℕ). keep q (from S.publics j)) e
      ∙ rw (from-append S.publics m (suc k), keep_append q (from S.publics m) (from (S.publics + m) (suc k)), f, differs-restricted r v h) in
      ap (map (λ x. number_of S U (differs x v))) s ∙ map-append (λ x. number_of S U (differs x v)) (keep q (from S.publics m)) (keep q (from (r + 1) k))

  -- "read [x≠n] for every input and formal; give [r=n]"
  pub new-gives : (r v : ℕ) → IsBound S U r → S.restricted r ≡ true → Exists S U (equals r v)
      → numbers_for S U (equals r v ∷ all_differ S v)
      ≡ differ_numbers v S.publics (r - S.publics) ++ (number_of S U (equals r v) ∷ differ_numbers v (r + 1) (S.publics + S.bounds - (r + 1)))
  new-gives r v b h e =
      let i = row-of-equals S U r v e in
      let f : S.publics + (r - S.publics) ≡ r = omega (arith, b.0) in
      numbers-yes S U (equals r v) (all_differ S v) e
      ∙ ap (insert (number_of S U (equals r v))) (all-differ v ∙ differ-split v r b h)
      ∙ insert-between (number_of S U (equals r v)) (row_start_of S U (r + 1 + (S.publics + S.bounds - (r + 1)))) 0
      (differ_numbers v S.publics (r - S.publics)) (differ_numbers v (r + 1) (S.publics + S.bounds - (r + 1)))
      (differ-within v S.publics (r - S.publics) (number_of S U (equals r v)) 0 (omega arith) (rw f i.0) (omega arith))
      (differ-within v (r + 1) (S.publics + S.bounds - (r + 1)) (row_start_of S U (r + 1 + (S.publics + S.bounds - (r + 1)))) (number_of S U (equals r v) + 1)
      (omega (arith, b.0)) (omega arith) (omega (arith, i.1)))
