-- The releases of a name, whose values follow one another in its row: the transitions that the loops write are those of its values.
use Rattle.std.specs.Prelude.{Option, Some, None}
use mathlib.Core.Path.{◌≡◌, refl, sym, ap, subst, ◌∙◌}
use mathlib.Core.Bool.{Bool, true, false, not}
use mathlib.Core.List.{List, [], ◌∷◌, ◌++◌, map}
use Prim.Native.Nat.{ℕ, zero, suc, ◌+◌, ◌-◌, ◌≤◌, ◌<◌}
use native.Mathlib.Omega.{arith}
use lib.ListN.{length}
use Rattle.lists.specs.Lists.{pick, same, word, from, range, keep, member}
use Rattle.lists.proofs.Tests.{and_right}
use Rattle.lists.proofs.Ranges.{from-length, from-get_or, from_member, member-from}
use Rattle.lists.proofs.Members.{member-get_or, member-keep, member-left, member_right, keep-length, map-append}
use Rattle.scheme.specs.Words.{publics, names}
use Rattle.scheme.specs.Scheme.{Scheme, scheme}
use Rattle.table.specs.Causes.{cause}
use Rattle.net.specs.Net.{Transition}
use Rattle.places.specs.Sets.{bit_at}
use Rattle.places.specs.Values.{Values}
use Rattle.places.specs.Places.{differs, free}
use Rattle.places.specs.Rows.{number_of, free_start_of}
use Rattle.places.specs.Transitions.{Description, releasing}
use Rattle.places.specs.Reaches.{public_set_word}
use Rattle.places.specs.Plan.{reach_in, free_at, Laid}
use Rattle.places.specs.Inner.Plan.{today, privates_word, row_of, values, reached, Holds}
use Rattle.places.specs.declared.reach.Reach.{Reach}
use Rattle.places.proofs.Names.{private-held, equals-of-public, equals-of-private, differs-of, free_of}
use Rattle.places.proofs.NodeCounts.{values-read}
use Rattle.places.proofs.Controls.{few-nodes, few-publics, few-bounds, few-privates}
use Rattle.places.proofs.Plans.{row_small, reach-is, free-is, few-free}
use Rattle.builder.specs.Inner.Writing.{Heads, put_one_transition, put_all, Inside}
use Rattle.builder.specs.Inner.Parts.{Chained, of_table, arrow}
use Rattle.builder.specs.Inner.Released.{on_from, released, returned, given, Releasing}
use Rattle.builder.specs.declared.chain.Chain.{Chain}
use Rattle.builder.specs.declared.chain.Held.{Held}
use Rattle.builder.proofs.Writing.{put-none, put-append, inside-first}
use Rattle.builder.proofs.Chains.{chain-few, release-public, release-gives}

-- ---- the transition of a turn, by the place that the chain leads to

module _ (c : Chain) (x : Held) (e : ℕ) (on : e ≡ on_from c x.k) where
  pub released-as : (row : ℕ) (back : Option ℕ) (i : ℕ) → back ≡ None
      → arrow 1 c.node x.name ((row + i) ∷ (c.first + x.k) ∷ []) (e ∷ []) ≡ given c x row back i
  released-as row back i n = rw (n, on)

  pub returned-as : (row first : ℕ) (back : Option ℕ) (i : ℕ) → back ≡ Some first
      → arrow 1 c.node x.name ((row + i) ∷ (c.first + x.k) ∷ []) ((first + i) ∷ e ∷ []) ≡ given c x row back i
  returned-as row first back i s = rw (s, on)

-- ---- number i of those that pass a test has i of them below

module _ (p : ℕ → Bool) where
  kept_from : (a n i : ℕ) → i < length (keep p (from a n)) → (a ≤ word (keep p (from a n)) i) × (word (keep p (from a n)) i < a + n)
  kept_from a n i h =
      let v = word (keep p (from a n)) i in
      from_member v a n (and_right (p v) (member v (from a n)) (sym (member-keep p v (from a n)) ∙ member-get_or (keep p (from a n)) i h))

  kept-below : (a n i : ℕ) → i < length (keep p (from a n)) → length (keep p (from a (word (keep p (from a n)) i - a))) ≡ i
  unfolding keep from
  kept-below a zero i h = absurd (omega arith)
  kept-below a (suc n) i h = go (p a) refl i h (λ j. kept-below (a + 1) n j)
    where
      go : (b : Bool) → p a ≡ b → (i : ℕ) → i < length (pick b (a ∷ keep p (from (a + 1) n)) (keep p (from (a + 1) n)))
          → ((j : ℕ) → j < length (keep p (from (a + 1) n)) → length (keep p (from (a + 1) (word (keep p (from (a + 1) n)) j - (a + 1)))) ≡ j)
          → length (keep p (from a (word (pick b (a ∷ keep p (from (a + 1) n)) (keep p (from (a + 1) n))) i - a))) ≡ i
      go true e zero l ih = let z : a - a ≡ 0 = omega arith in rw z
      go true e (suc i) l ih =
          let k = kept_from (a + 1) n i (omega arith) in
          let z : word (keep p (from (a + 1) n)) i - a ≡ suc (word (keep p (from (a + 1) n)) i - (a + 1)) = omega (arith, k.0) in
          rw (z, e) (ap suc (ih i (omega arith)))
      go false e i l ih =
          let k = kept_from (a + 1) n i l in
          let z : word (keep p (from (a + 1) n)) i - a ≡ suc (word (keep p (from (a + 1) n)) i - (a + 1)) = omega (arith, k.0) in
          rw (z, e) (ih i l)

-- ---- transitions for the elements of a list are those for their places

put-places : {A : Type 0} (f : A → Transition) (g : ℕ → A) (h : ℕ → Transition) (vs : List ℕ) (o : ℕ) (s : Heads)
    → ((i : ℕ) → i < length vs → f (g (word vs i)) ≡ h (o + i)) → put_all f s (map g vs) ≡ put_all h s (from o (length vs))
unfolding put_all from
put-places f g h [] o s e = refl
put-places f g h (v ∷ vs) o s e =
    let z : o + 0 ≡ o = omega arith in
    ap (λ (t : Transition). put_all f (put_one_transition s t) (map g vs)) (e 0 (omega arith) ∙ ap h z)
    ∙ put-places f g h vs (o + 1) (put_one_transition s (h o)) (λ i l. e (suc i) (omega arith) ∙ ap h (omega arith))

-- ---- the values of a bound name, as the code has read them: the first `count` are public, and the place of the first is `row`

pub record Listed (w x : List ℕ) (c : Chain) (k z : ℕ) (r : Reach) (row count : ℕ) : Type 0 where
  pub laid : Laid w x
  pub chained : Chained w c
  pub inside : k < c.controls
  pub low : publics w ≤ z
  pub high : z < names w
  pub reach-told : r ≡ reach_in x z
  pub row_told : row ≡ row_of w z
  pub count-told : count ≡ length (keep (bit_at r.publics) (range (publics w)))

module _ {w x : List ℕ} {c : Chain} {k z : ℕ} {r : Reach} {row count : ℕ} (q : Listed w x c k z r row count) where
  abbrev S : Scheme
  S = scheme w

  abbrev U : Values
  U = today w

  accepted : cause w ≡ 0
  accepted = q.laid.accepted

  abbrev held : Held
  held = record { k = k; name = z }

  abbrev describe : ℕ → Description
  describe v = releasing S U c.node c.to k z v

  abbrev low_part : List ℕ
  low_part = keep (bit_at r.publics) (range (publics w))

  abbrev privates : List ℕ
  privates = from (publics w) (privates_word w)

  parts : values w z ≡ low_part ++ pick (not (same r.restricted 0)) privates []
  unfolding reached
  parts = sym (values-read w x q.laid z r q.reach-told).is

  row-right : row ≡ row_of w z
  row-right = q.row_told

  counted : (v : ℕ) → length (keep (bit_at r.publics) (range v)) ≡ length (keep (bit_at (public_set_word w z)) (range v))
  counted v = ap (λ (y : Reach). length (keep (bit_at y.publics) (range v))) (q.reach-told ∙ reach-is w x q.laid z)

  -- ---- what the loops ask

  pub releasable : Releasing c held
  releasable =
      let f = chain-few w accepted c q.chained in
      record {
        node-few = omega (arith, few-nodes w accepted, q.chained.node-inside);
        name-few = omega (arith, q.high, few-publics w accepted, few-bounds w accepted);
        inside = q.inside;
        first-few = omega (arith, f.0);
        last-few = omega (arith, f.1);
      }

  count-few : count ≤ 32
  count-few = omega (arith, q.count-told, keep-length (bit_at r.publics) (range (publics w)), from-length 0 (publics w), few-publics w accepted)

  pub publics-fit : row + count < 4294967296
  publics-fit = omega (arith, q.row_told, row_small w accepted z (omega (arith, q.high)), count-few)

  pub privates-fit : (back n : ℕ) → back ≡ pick (S.restricted z) (free_start_of S U) (row_of w z + count + privates_word w) → n ≡ privates_word w
      → (row + count + n < 4294967296) × (back + n < 4294967296)
  privates-fit back n e m =
      let b = row_small w accepted z (omega (arith, q.high)) in
      let p = few-privates w accepted in
      (omega (arith, q.row_told, b, count-few, p), go (S.restricted z) e)
    where
      go : (d : Bool) → back ≡ pick d (free_start_of S U) (row_of w z + count + privates_word w) → back + n < 4294967296
      go true f = omega (arith, few-free w x q.laid, free-is w x q.laid, few-privates w accepted)
      go false f = omega (arith, q.row_told, row-right, row_small w accepted z (omega (arith, q.high)), count-few, few-privates w accepted)

  -- ---- public values

  public-at : (i : ℕ) → i < length low_part → of_table w (describe (word low_part i)) ≡ released c held row (0 + i)
  public-at i l =
      let v = word low_part i in
      let b = kept_from (bit_at r.publics) 0 (publics w) i l in
      let lt : v < publics w = omega (arith, b.1) in
      let v0 : v - 0 ≡ v = omega arith in
      let i0 : 0 + i ≡ i = omega arith in
      let rank : length (keep (bit_at r.publics) (range v)) ≡ i =
      ap (λ (n : ℕ). length (keep (bit_at r.publics) (range n))) (sym v0) ∙ kept-below (bit_at r.publics) 0 (publics w) i l in
      let m : member v (values w z) ≡ true =
      ap (member v) parts ∙ member-left v low_part (pick (not (same r.restricted 0)) privates []) (member-get_or low_part i l) in
      rw i0
      (release-public w c q.chained k q.inside accepted z v (record { low = q.low; high = q.high; value = m }) (row + i) (on_from c k)
      (equals-of-public w accepted z v row i row-right (sym rank ∙ counted v) lt) refl lt)

  -- ---- private values

  module _ (some : not (same r.restricted 0) ≡ true) (back : ℕ)
      (is-back : back ≡ pick (S.restricted z) (free_start_of S U) (row_of w z + count + privates_word w)) where
    private-holds : (v : ℕ) → member v privates ≡ true → Holds w z v
    private-holds v m = record { low = q.low; high = q.high; value = ap (member v) (parts ∙ rw some) ∙ member_right v low_part privates m }

    private-back : (i : ℕ) → i < privates_word w → (b : Bool) → S.restricted z ≡ b
        → back + i ≡ number_of S U (pick b (free (publics w + i)) (differs z (publics w + i)))
    private-back i u true e =
        let d : publics w + i - publics w ≡ i = omega arith in
        let f : back ≡ word x free_at = is-back ∙ rw e (sym (free-is w x q.laid)) in
        ap (λ (n : ℕ). back + n) (sym d) ∙ free_of w accepted x q.laid (publics w + i) back (publics w) f refl
    private-back i u false e =
        let v = publics w + i in
        let d : v - publics w ≡ i = omega arith in
        let f : back ≡ row + count + privates_word w = is-back ∙ rw (e, row-right) in
        let holds = private-holds v (member-from v (publics w) (privates_word w) (omega arith) (omega arith)) in
        ap (λ (n : ℕ). n + i) f ∙ ap (λ (n : ℕ). row + count + privates_word w + n) (sym d)
        ∙ differs-of w accepted z v row count (privates_word w) row-right (q.count-told ∙ counted (publics w)) refl
        record {
          low = q.low;
          high = q.high;
          free = e;
          reads = private-held w accepted z v holds.value (omega arith);
          private = omega arith;
          value = omega arith;
        }

    private-at : (i : ℕ) → i < length privates → of_table w (describe (word privates i)) ≡ returned c held (row + count) back (0 + i)
    private-at i l =
        let v = publics w + i in
        let u : i < privates_word w = omega (arith, from-length (publics w) (privates_word w)) in
        let i0 : 0 + i ≡ i = omega arith in
        let d : v - publics w ≡ i = omega arith in
        let holds = private-holds v (member-from v (publics w) (privates_word w) (omega arith) (omega arith)) in
        rw (i0, from-get_or (publics w) (privates_word w) i u)
        (release-gives w c q.chained k q.inside accepted z v holds (row + count + i) (on_from c k)
        (ap (λ (n : ℕ). row + count + n) (sym d)
        ∙ equals-of-private w accepted z v row count row-right (q.count-told ∙ counted (publics w)) (omega arith) holds)
        refl (back + i) (omega arith) (private-back i u (S.restricted z) refl))

  -- ---- both, written from heads s on

  module _ (s : Heads) where
    abbrev all : Heads
    all = put_all (of_table w) s (map describe (values w z))

    public-run : put_all (of_table w) s (map describe low_part) ≡ put_all (released c held row) s (range count)
    public-run =
        put-places (of_table w) describe (released c held row) low_part 0 s public-at
        ∙ ap (λ (n : ℕ). put_all (released c held row) s (range n)) (sym q.count-told)

    written : (vs : List ℕ) → values w z ≡ low_part ++ vs → all ≡ put_all (of_table w) (put_all (released c held row) s (range count)) (map describe vs)
    written vs e =
        ap (λ (l : List ℕ). put_all (of_table w) s (map describe l)) e
        ∙ ap (λ (l : List Description). put_all (of_table w) s l) (map-append describe low_part vs)
        ∙ put-append (of_table w) s (map describe low_part) (map describe vs)
        ∙ ap (λ (t : Heads). put_all (of_table w) t (map describe vs)) public-run

    pub publics-inside : Inside all → Inside (put_all (released c held row) s (range count))
    publics-inside i =
        let vs = pick (not (same r.restricted 0)) privates [] in
        subst Inside public-run
        (inside-first (of_table w) s (map describe low_part) (map describe vs)
        (subst Inside (ap (λ (l : List ℕ). put_all (of_table w) s (map describe l)) parts
        ∙ ap (λ (l : List Description). put_all (of_table w) s l) (map-append describe low_part vs)) i))

    module _ (t : Heads) (first : t ≡ put_all (released c held row) s (range count)) where
      pub publics-only : not (same r.restricted 0) ≡ false → t ≡ all
      publics-only none = first ∙ sym (written [] (parts ∙ rw none) ∙ put-none (of_table w) (put_all (released c held row) s (range count)))

      module _ (some : not (same r.restricted 0) ≡ true) (back : ℕ)
          (is-back : back ≡ pick (S.restricted z) (free_start_of S U) (row_of w z + count + privates_word w)) (n : ℕ) (is-n : n ≡ privates_word w) where
        rest : all ≡ put_all (returned c held (row + count) back) t (range n)
        rest =
            written privates (parts ∙ rw some) ∙ ap (λ (u : Heads). put_all (of_table w) u (map describe privates)) (sym first)
            ∙ put-places (of_table w) describe (returned c held (row + count) back) privates 0 t (private-at some back is-back)
            ∙ ap (λ (m : ℕ). put_all (returned c held (row + count) back) t (range m)) (from-length (publics w) (privates_word w) ∙ sym is-n)

        pub privates-inside : Inside all → Inside (put_all (returned c held (row + count) back) t (range n))
        privates-inside i = subst Inside rest i

        pub privates-too : (u : Heads) → u ≡ put_all (returned c held (row + count) back) t (range n) → u ≡ all
        privates-too u e = e ∙ sym rest
