-- The marked value of a bound name, as it is found in the name's row and put into a word.
use mathlib.Core.Path.{◌≡◌, refl, sym, ap, ◌∙◌}
use mathlib.Core.Bool.{true, false, not}
use mathlib.Core.Option.{none, some}
use mathlib.Core.List.{List, [], ◌∷◌, map}
use Prim.Native.Nat.{ℕ, ◌+◌, ◌-◌, ◌≤◌, ◌<◌}
use native.Mathlib.Omega.{arith}
use native.Mathlib.Decide.{ℕ_discrete}
use lib.ListN.{length, set, length-map}
use lib.Seq.{get_or-set_same, get_or-set_other}
use Rattle.lists.specs.Lists.{pick, same, word, from, range, every, keep}
use Rattle.lists.proofs.Tests.{same_self, same-yes, same-no}
use Rattle.lists.proofs.Members.{member-get_or}
use Rattle.scheme.specs.Words.{publics, bounds}
use Rattle.scheme.specs.Scheme.{Scheme, scheme}
use Rattle.table.specs.Causes.{cause}
use Rattle.process.specs.Inner.Values.{value_at}
use Rattle.table.proofs.Accepted.{accepted}
use Rattle.places.specs.Values.{values_of}
use Rattle.places.specs.Reach.{values_for}
use Rattle.places.specs.Sets.{bit_at}
use Rattle.places.specs.Rows.{row_start_of}
use Rattle.places.specs.Plan.{privates_at, reach_in, Laid}
use Rattle.places.specs.Starts.{span_in}
use Rattle.places.specs.Inner.Plan.{privates_word, row_of, reached}
use Rattle.places.specs.declared.reach.Reach.{Reach}
use Rattle.places.proofs.Controls.{publics-are, bounds-are, few-publics, few-bounds}
use Rattle.places.proofs.Plans.{reach-is, privates-are, few-counted, row_small}
use Rattle.places.proofs.Starts.{row-goes-on}
use Rattle.places.proofs.ReachRows
use Rattle.places.proofs.ReachRows.{publics-few}
use Rattle.places.proofs.Reaches.{publics-kept, privates-told}
use Rattle.places.proofs.Names.{reached-count}
use Rattle.places.proofs.NodeCounts.{values-read, privates-small}
use Rattle.readback.specs.Inner.Hits.{token, hits, FoundOf}
use Rattle.readback.specs.Inner.Standing.{value_of, is_just_one, public_count, private_count, values_at, value_right, values_right, is_opposed_for, opposed_all}
use Rattle.readback.specs.Inner.Holding.{IsName, ValueAt, Filled, ValuesBelow}
use Rattle.readback.specs.declared.found.Found.{Found}
use Rattle.readback.proofs.Finding.{hits-below}

first-mapped : (f : ℕ → ℕ) (hs : List ℕ) → (length hs ≡ 0 → ⊥) → value_of (map f hs) ≡ some (f (word hs 0))
first-mapped f [] h = absurd (h refl)
first-mapped f (x ∷ xs) h = refl

none-mapped : (f : ℕ → ℕ) (hs : List ℕ) → length hs ≡ 0 → value_of (map f hs) ≡ none
none-mapped f [] h = refl
none-mapped f (x ∷ xs) h = absurd (omega arith)

-- the reach r of a bound name, as it is read, with c public and k private values
module _ (w index m held : List ℕ) (L : Laid w index) (x : ℕ) (nm : IsName w x) (r : Reach) (r-is : r ≡ reach_in index x) (c k : ℕ)
    (c-is : c ≡ length (keep (bit_at r.publics) (range (publics w)))) (k-is : k ≡ pick (not (same r.restricted 0)) (word index privates_at) 0) where
  abbrev S : Scheme
  S = scheme w

  abbrev vs : List ℕ
  vs = values_of S (values_for S) x

  listed : reached (publics w) (privates_word w) r ≡ vs
  listed = (values-read w index L x r r-is).is

  pub count-is : c + k ≡ length vs
  count-is =
      let e : k ≡ pick (not (same r.restricted 0)) (privates_word w) 0 = k-is ∙ rw (privates-are w index L) in
      sym (ap (λ (l : List ℕ). length l) (sym listed) ∙ reached-count (publics w) (privates_word w) r ∙ omega (arith, c-is, e))

  pub privates-few : k ≤ 32
  privates-few = privates-small w index L (not (same r.restricted 0)) k k-is

  -- c and k by the reach
  pub publics-counted : c ≡ public_count S x
  unfolding scheme
  publics-counted =
      c-is ∙ ap (λ (z : Reach). length (keep (bit_at z.publics) (range (publics w)))) (r-is ∙ reach-is w index L x)
      ∙ ap (λ (l : List ℕ). length l) (publics-kept w L.accepted x (publics w) (omega arith))

  pub privates-counted : k ≡ private_count S x
  privates-counted =
      k-is ∙ ap (λ (z : Reach). pick (not (same z.restricted 0)) (word index privates_at) 0) (r-is ∙ reach-is w index L x)
      ∙ rw (privates-told w L.accepted x, privates-are w index L)

  module _ (start : ℕ) (start_is : start ≡ row_of w x) (f : Found) (F : FoundOf (hits m start (c + k)) f) where
    abbrev hs : List ℕ
    hs = hits m (row_start_of S (values_for S) x) (length vs)

    found_here : FoundOf hs f
    found_here = rw (start_is, count-is) at F

    length-is : length (values_at S m x) ≡ f.count
    unfolding values_at
    length-is = length-map hs (word vs) ∙ sym found_here.count-is

    pub not_right : (h : ℕ) → h ≡ word held x → (f.count ≡ h → ⊥) → false ≡ value_right S m (word held) x
    not_right h e d = sym (same-no (length (values_at S m x)) (word held x) (λ q. d (sym length-is ∙ q ∙ sym e)))

    pub is_right : (h : ℕ) → h ≡ word held x → f.count ≡ h → true ≡ value_right S m (word held) x
    is_right h e q = sym (same-yes (length (values_at S m x)) (word held x) (length-is ∙ q ∙ e))

    pub fill_none : (before after : List ℕ) → f.count ≡ 0 → after ≡ set before x 65535 → Filled w m x before after
    unfolding values_at
    fill_none before after z e = record {
      value = 65535;
      put-there = e;
      is = none-mapped (word vs) hs (sym found_here.count-is ∙ z) ∙ rw (same_self 65535);
    }

    first_below : (f.count ≡ 0 → ⊥) → f.first < length vs
    first_below d = omega (arith, found_here.first-is, hits-below m (row_start_of S (values_for S) x) (length vs) (λ q. d (found_here.count-is ∙ q)))

    pub first_small : f.first < 65536
    first_small = go (ℕ_discrete f.count 0)
      where
        few : length vs ≤ 96
        few = omega (arith, count-is, privates-few, publics-counted, publics-few S x, few-publics w L.accepted, publics-are w)

        zero-first : length hs ≡ 0 → word hs 0 ≡ 0
        zero-first = nothing hs
          where
            nothing : (l : List ℕ) → length l ≡ 0 → word l 0 ≡ 0
            nothing [] h = refl
            nothing (a ∷ l) h = absurd (omega arith)

        go : Dec (f.count ≡ 0) → f.first < 65536
        go (yes z) = omega (arith, found_here.first-is, zero-first (sym found_here.count-is ∙ z))
        go (no d) = omega (arith, first_below d, few)

    -- the value of the first marked place
    module _ (v : ℕ) (is : ValueAt (publics w) r f.first v) where
      value-is : (f.count ≡ 0 → ⊥) → v ≡ word vs f.first
      value-is d = is (privates_word w) (rw listed (first_below d)) ∙ ap (λ (l : List ℕ). word l f.first) listed

      pub value-small : (f.count ≡ 0 → ⊥) → v < 65535
      value-small d =
          omega (
            arith,
            ReachRows.value-small S (accepted w L.accepted) x v (rw (value-is d) (member-get_or vs f.first (first_below d))),
            few-publics w L.accepted,
            publics-are w,
            few-counted w index L,
            privates-are w index L,
          )

      pub fill-some : (before after : List ℕ) → (f.count ≡ 0 → ⊥) → after ≡ set before x v → Filled w m x before after
      unfolding values_at
      fill-some before after d e = record {
        value = v;
        put-there = e;
        is =
            first-mapped (word vs) hs (λ q. d (found_here.count-is ∙ q))
            ∙ rw (same-no v 65535 (λ q. omega (arith, value-small d)), value-is d, found_here.first-is);
      }

  pub opposed-is : (row : ℕ) → row ≡ row_of w x → S.restricted x ≡ false
      → every (λ i. is_just_one (token m (row + c + i)) (token m (row + c + k + i))) (range k) ≡ is_opposed_for S m x
  opposed-is row e q = rw (e, publics-counted, privates-counted, q)

-- one name more
pub values-more : (w m before after : List ℕ) (x : ℕ) → x < length before → ValuesBelow w m before x → Filled w m x before after
    → ValuesBelow w m after (x + 1)
values-more w m before after x l h f y lo hi = go (ℕ_discrete y x)
  where
    go : Dec (y ≡ x) → value_of (values_at (scheme w) m y) ≡ value_at (word after y)
    go (yes q) = rw (q, f.put-there, get_or-set_same before x f.value 0 l) f.is
    go (no d) = rw (f.put-there, get_or-set_other before x y f.value 0 d) (h y lo (omega arith))

-- ---- the tests of rows

module _ (w m : List ℕ) (P B : ℕ) (P-is : P ≡ publics w) (B-is : B ≡ bounds w) where
  pub end-few : cause w ≡ 0 → P + B ≤ 64
  end-few ok = omega (arith, P-is, B-is, few-publics w ok, few-bounds w ok)

  pub is_name : (x : ℕ) → P ≤ x → x < P + B → IsName w x
  is_name x l h = (omega (arith, P-is), omega (arith, P-is, B-is))

  -- the bound names from the first on
  pub from_first : from (scheme w).publics (scheme w).bounds ≡ from P (P + B - P)
  from_first =
      let a : (scheme w).publics ≡ P = omega (arith, P-is, publics-are w) in
      let b : (scheme w).bounds ≡ P + B - P = omega (arith, B-is, bounds-are w) in
      rw (a, b)

  pub values-start : (h : ℕ → ℕ) → values_right (scheme w) m h ≡ every (value_right (scheme w) m h) (from P (P + B - P))
  unfolding values_right
  values-start h = ap (every (value_right (scheme w) m h)) from_first

  pub opposed-start : opposed_all (scheme w) m ≡ every (is_opposed_for (scheme w) m) (from P (P + B - P))
  unfolding opposed_all
  opposed-start = ap (every (is_opposed_for (scheme w) m)) from_first

-- from where one row starts to where the next one does
pub row_on : (w index : List ℕ) → Laid w index → (P B : ℕ) → P ≡ publics w → B ≡ bounds w → (x row r : ℕ) → P ≤ x → x < P + B → row ≡ row_of w x
    → r ≡ span_in w index (word index privates_at) x (x + 1) → (row + r ≡ row_of w (x + 1)) × (row_of w (x + 1) ≤ 3072)
row_on w index L P B p b x row r l h e q = (
  omega (arith, e, q, row-goes-on w index L x (omega (arith, p)) (omega (arith, p, b))),
  row_small w L.accepted (x + 1) (omega (arith, p, b)),
)
