-- Names of a table as the code reads them: whether one is restricted, the values that one may hold, where its row starts.
use Rattle.std.proofs.Common.{◌≡◌, ℕ, ◌+◌, ◌-◌, ◌*◌, ◌<◌, ◌≤◌, Bool, true, false, not, ◌&&◌, eqb, List, [], length, get_or, sym, refl, ap, ◌∙◌, arith, length-append, get_or-append-add, le-ltb, eq-eqb, ne_eqb, lt-ltb, le-leb}
use lib.ListN.{get_or-append}
use borrow.Author.Tests.{lt-leb}
use Rattle.lists.specs.Lists.{pick, same, word, from, range, keep, member}
use Rattle.lists.proofs.Ranges.{from-append, from_member, from-length, from-get_or}
use Rattle.lists.proofs.Members.{keep_append, keep_same}
use Rattle.scheme.specs.Words.{publics, bounds, names, name_kind_of}
use Rattle.scheme.specs.Scheme.{Scheme, scheme}
use Rattle.table.specs.Causes.{cause}
use Rattle.table.specs.Accepted.{Accepted}
use Rattle.table.proofs.Accepted.{accepted}
use Rattle.places.specs.Reach.{has_private_values}
use Rattle.places.specs.Sets.{bit_at}
use Rattle.places.specs.Places.{equals, differs, free}
use Rattle.places.specs.Rows.{row_length, number_of}
use Rattle.places.specs.Plan.{restricted_in, free_at, Reached, Laid}
use Rattle.places.specs.Reaches.{public_set_word, restricted_set_word}
use Rattle.places.specs.Inner.Plan.{today, privates_word, values, row_of, free_names_word, Holds, Differs, reached}
use Rattle.places.specs.declared.reach.Reach.{Reach}
use Rattle.places.proofs.Plans.{reach-told, free-is}
use Rattle.places.proofs.ReachRows.{public_list_of, values-are, restricted-alone, restricted-yes, private-member, value-small, row-size}
use Rattle.places.proofs.ReachRows.{equals-public, equals-private, differs-private}
use Rattle.places.proofs.Reaches.{publics-kept, privates-told}

-- ---- a reach as a list

module _ (p n : ℕ) (r : Reach) where
  abbrev pub public_part : List ℕ
  public_part = keep (bit_at r.publics) (range p)

  pub reached-count : length (reached p n r) ≡ length public_part + pick (not (same r.restricted 0)) n 0
  unfolding reached
  reached-count = length-append public_part (pick (not (same r.restricted 0)) (from p n) []) ∙ rw (go (not (same r.restricted 0)))
    where
      go : (b : Bool) → length (pick b (from p n) []) ≡ pick b n 0
      go true = from-length p n
      go false = refl

  pub reached-low : (k : ℕ) → k < length public_part → get_or public_part k 0 ≡ get_or (reached p n r) k 0
  unfolding reached
  reached-low k h = sym (get_or-append public_part (pick (not (same r.restricted 0)) (from p n) []) 0 k h)

  reached-at : (k : ℕ) → get_or (reached p n r) (length public_part + k) 0 ≡ get_or (pick (not (same r.restricted 0)) (from p n) []) k 0
  unfolding reached
  reached-at k = get_or-append-add public_part (pick (not (same r.restricted 0)) (from p n) []) k 0

  pub reached-high : (k : ℕ) → length public_part ≤ k → k < length (reached p n r) → p + (k - length public_part) ≡ get_or (reached p n r) k 0
  reached-high k h l = go (not (same r.restricted 0)) refl
    where
      go : (b : Bool) → not (same r.restricted 0) ≡ b → p + (k - length public_part) ≡ get_or (reached p n r) k 0
      go false e = let c : length (reached p n r) ≡ length public_part + 0 = reached-count ∙ rw e in absurd (omega arith)
      go true e =
          let c : length (reached p n r) ≡ length public_part + n = reached-count ∙ rw e in
          let q : length public_part + (k - length public_part) ≡ k = omega arith in
          sym (ap (λ (i : ℕ). get_or (reached p n r) i 0) (sym q) ∙ reached-at (k - length public_part) ∙ rw e
          (from-get_or p n (k - length public_part) (omega arith)))

-- the first numbers of a set are those below any bound
pub nth-below : (p : ℕ → Bool) (a b k : ℕ) → a ≤ b → k < length (keep p (range a)) → get_or (keep p (range b)) k 0 ≡ get_or (keep p (range a)) k 0
nth-below p a b k h l =
    let e : b ≡ a + (b - a) = omega arith in
    let z : 0 + a ≡ a = omega arith in
    ap (λ (n : ℕ). get_or (keep p (range n)) k 0) e
    ∙ rw (from-append 0 a (b - a), z, keep_append p (range a) (from a (b - a))) (get_or-append (keep p (range a)) (keep p (from a (b - a))) 0 k l)

module _ (w : List ℕ) where
  abbrev S : Scheme
  S = scheme w

  pub public-free : (x : ℕ) → x < publics w → S.restricted x ≡ false
  unfolding scheme
  public-free x h = rw (lt-leb (publics w) x h)

  pub past-free : (x : ℕ) → names w ≤ x → S.restricted x ≡ false
  unfolding scheme
  past-free x h = rw (le-leb (publics w) x (omega arith), le-ltb x (names w) h)

  pub kind-tells : (x k : ℕ) → publics w ≤ x → x < names w → k ≡ name_kind_of w x → eqb k 0 ≡ S.restricted x
  unfolding scheme same
  kind-tells x k h l e = rw (le-leb (publics w) x h, lt-ltb x (names w) l, e)

  pub kind-restricted : (x k : ℕ) → publics w ≤ x → x < names w → k ≡ name_kind_of w x → k ≡ 0 → S.restricted x ≡ true
  kind-restricted x k h l e z = sym (kind-tells x k h l e) ∙ eq-eqb k 0 z

  pub kind-free : (x k : ℕ) → publics w ≤ x → x < names w → k ≡ name_kind_of w x → (k ≡ 0 → ⊥) → S.restricted x ≡ false
  kind-free x k h l e z = sym (kind-tells x k h l e) ∙ ne_eqb k 0 z

  -- ---- free names, and those of them that may hold private values

  abbrev pub is_free : ℕ → Bool
  is_free x = not (S.restricted x)

  -- a bound name is free by its kind
  pub free-kinds : length (keep (λ x. not (eqb (name_kind_of w x) 0)) (from (publics w) (bounds w))) ≡ free_names_word w
  free-kinds =
      ap (λ (xs : List ℕ). length xs)
      (keep_same (λ x. not (eqb (name_kind_of w x) 0)) is_free (from (publics w) (bounds w))
      (λ x m. let h = from_member x (publics w) (bounds w) m in ap not (kind-tells x (name_kind_of w x) h.0 (omega (arith, h.1)) refl)))

  abbrev pub is_name_read : ℕ → Bool
  is_name_read x = not (S.restricted x) && has_private_values S x

module _ (w : List ℕ) (ok : cause w ≡ 0) where
  abbrev S' : Scheme
  S' = scheme w

  abbrev A : Accepted S'
  A = accepted w ok

  pub values-restricted : (x : ℕ) → S'.restricted x ≡ true → values w x ≡ from (publics w) (privates_word w)
  unfolding scheme
  values-restricted x r = values-are S' A x ∙ rw (restricted-alone S' A x r, restricted-yes S' A x r)

  -- ---- a value that a bound name may hold

  pub restricted-private : (x v : ℕ) → Holds w x v → S'.restricted x ≡ true → (publics w ≤ v) × (v < publics w + privates_word w)
  restricted-private x v h r = from_member v (publics w) (privates_word w) (ap (member v) (sym (values-restricted x r)) ∙ h.value)

  pub held-value : (x v : ℕ) → Holds w x v → v < publics w + privates_word w
  unfolding scheme
  held-value x v h = value-small S' A x v h.value

  -- a name that may hold a private value may hold them all
  pub private-held : (x v : ℕ) → member v (values w x) ≡ true → publics w ≤ v → has_private_values S' x ≡ true
  unfolding scheme
  private-held x v m l = sym (private-member S' A x v l (value-small S' A x v m)) ∙ m

  -- ---- rows

  pub row-restricted : (x : ℕ) → publics w ≤ x → S'.restricted x ≡ true → privates_word w ≡ row_length S' (today w) x
  unfolding scheme
  row-restricted x h r = sym (row-size S' x h ∙ rw (restricted-alone S' A x r, restricted-yes S' A x r, r) (omega arith))

  pub row-private : (x c n : ℕ) → publics w ≤ x → S'.restricted x ≡ false → c ≡ length (keep (bit_at (public_set_word w x)) (range (publics w))) → n ≡ privates_word w
      → not (same (restricted_set_word w x) 0) ≡ true → c + 2 * n ≡ row_length S' (today w) x
  unfolding scheme
  row-private x c n h r e f p =
      let q : has_private_values S' x ≡ true = sym (privates-told w ok x) ∙ p in
      sym (row-size S' x h ∙ rw (q, r) (omega (arith, e, f, ap (λ (l : List ℕ). length l) (publics-kept w ok x (publics w) (omega arith)))))

  pub row-public : (x c : ℕ) → publics w ≤ x → c ≡ length (keep (bit_at (public_set_word w x)) (range (publics w))) → not (same (restricted_set_word w x) 0) ≡ false
      → c ≡ row_length S' (today w) x
  unfolding scheme
  row-public x c h e p =
      let q : has_private_values S' x ≡ false = sym (privates-told w ok x) ∙ p in
      sym (row-size S' x h ∙ rw q (go (S'.restricted x)))
    where
      go : (b : Bool) → length (public_list_of S' x) + 0 + pick b 0 0 ≡ c
      go true = omega (arith, e, ap (λ (l : List ℕ). length l) (publics-kept w ok x (publics w) (omega arith)))
      go false = omega (arith, e, ap (λ (l : List ℕ). length l) (publics-kept w ok x (publics w) (omega arith)))

  -- as it is found
  pub read-tells : (x : List ℕ) → Reached w x → (y : ℕ) (r : Bool) → r ≡ (not (S'.restricted y) && not (same (word (restricted_in x) y) 0)) → r ≡ is_name_read w y
  read-tells x K y r e =
      let f = ap (λ (z : Reach). not (same z.restricted 0)) (reach-told w x K y) ∙ privates-told w ok y in
      e ∙ ap (λ (b : Bool). not (S'.restricted y) && b) f

  -- ---- places

  pub equals-of-public : (y v row k : ℕ) → row ≡ row_of w y → k ≡ length (keep (bit_at (public_set_word w y)) (range v)) → v < publics w
      → row + k ≡ number_of S' (today w) (equals y v)
  unfolding scheme
  equals-of-public y v row k e q l =
      sym (equals-public S' y v (omega arith) ∙ omega (arith, e, q, ap (λ (l : List ℕ). length l) (publics-kept w ok y v (omega arith))))

  pub equals-of-private : (y v row k : ℕ) → row ≡ row_of w y → k ≡ length (keep (bit_at (public_set_word w y)) (range (publics w))) → publics w ≤ v
      → Holds w y v → row + k + (v - publics w) ≡ number_of S' (today w) (equals y v)
  unfolding scheme
  equals-of-private y v row k e q l h =
      sym (equals-private S' y v l (private-held y v h.value l)
      ∙ omega (arith, e, q, ap (λ (l : List ℕ). length l) (publics-kept w ok y (publics w) (omega arith))))

  pub differs-of : (y v row k n : ℕ) → row ≡ row_of w y → k ≡ length (keep (bit_at (public_set_word w y)) (range (publics w))) → n ≡ privates_word w → Differs w y v
      → row + k + n + (v - publics w) ≡ number_of S' (today w) (differs y v)
  unfolding scheme
  differs-of y v row k n e q f h =
      sym (differs-private S' y v h.low h.reads
      ∙ omega (arith, e, q, f, ap (λ (l : List ℕ). length l) (publics-kept w ok y (publics w) (omega arith))))

  pub free_of : (x : List ℕ) (L : Laid w x) (v f p : ℕ) → f ≡ word x free_at → p ≡ publics w → f + (v - p) ≡ number_of S' (today w) (free v)
  unfolding scheme
  free_of x L v f p e q = rw (e, free-is w x L, q)
