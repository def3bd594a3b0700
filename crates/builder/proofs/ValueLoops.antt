-- Loops over the values of a name by their index: what is left to write after i of them, one turn, and the end.
-- `all` is what the whole loop writes, s are the heads where value i is due, t those behind its turn.
use mathlib.Core.Path.{◌≡◌, sym, ap, subst, ◌∙◌}
use mathlib.Core.Bool.{Bool, true, false, not}
use mathlib.Core.List.{List, [], ◌∷◌, ◌++◌, map}
use Prim.Native.Nat.{ℕ, ◌+◌, ◌≤◌, ◌<◌}
use native.Mathlib.Omega.{arith}
use lib.ListN.{length, drop}
use Rattle.lists.specs.Lists.{pick, same, word, range, member}
use Rattle.lists.proofs.Ranges.{from-length}
use Rattle.lists.proofs.Slices.{drop-step, drop-none}
use Rattle.lists.proofs.Members.{member-get_or, keep-length}
use Rattle.scheme.specs.Words.{publics}
use Rattle.net.specs.Net.{Transition}
use Rattle.builder.specs.Inner.Writing.{Heads, put_all, Inside}
use Rattle.scheme.specs.Scheme.{scheme}
use Rattle.places.specs.Plan.{privates_at, reach_in, Laid}
use Rattle.places.specs.Sets.{bit_at}
use Rattle.places.specs.Reaches.{common_reach}
use Rattle.places.specs.Places.{common}
use Rattle.places.proofs.Plans
use Rattle.places.proofs.Reaches.{common-lists}
use Rattle.places.proofs.NodeCounts.{values-read}
use Rattle.places.specs.Inner.Plan.{today, privates_word, values, Lists, reached}
use Rattle.builder.specs.Inner.Parts.{ValueAt, CountOf}
use Rattle.places.proofs.Names.{reached-count}
use Rattle.builder.proofs.Counted.{Counted, counted, counts}
use Rattle.places.specs.declared.reach.Reach.{Reach}
use Rattle.builder.proofs.Writing.{put-none, put-append, inside-first}

module _ {A : Type 0} (f : A → Transition) (all s : Heads) (vs : List ℕ) (i : ℕ) where
  -- ---- one element for each value

  module _ (g : ℕ → A) (left : all ≡ put_all f s (map g (drop i vs))) where
    pub map-done : length vs ≤ i → s ≡ all
    map-done h = sym (left ∙ rw (drop-none vs i h) (put-none f s))

    module _ (v : ℕ) (h : i < length vs) (is : v ≡ word vs i) where
      map-split : all ≡ put_all f s ((g v ∷ []) ++ map g (drop (i + 1) vs))
      map-split = left ∙ rw (drop-step vs i h, is)

      pub map-inside : Inside all → Inside (put_all f s (g v ∷ []))
      map-inside k = inside-first f s (g v ∷ []) (map g (drop (i + 1) vs)) (subst Inside map-split k)

      pub map_more : (t : Heads) → t ≡ put_all f s (g v ∷ []) → all ≡ put_all f t (map g (drop (i + 1) vs))
      map_more t e = map-split ∙ put-append f s (g v ∷ []) (map g (drop (i + 1) vs)) ∙ ap (λ (u : Heads). put_all f u (map g (drop (i + 1) vs))) (sym e)

-- ---- the values as the code reads them

module _ (w : List ℕ) (ps ns : ℕ) (r : Reach) (vs : List ℕ) (p : ps ≡ publics w) (n : ns ≡ privates_word w)
    (l : Lists (publics w) (privates_word w) r vs) where
  pub reach-is : reached ps ns r ≡ vs
  reach-is = rw (p, n) l.is

  pub reach-count : (k : ℕ) → k ≡ length (reached ps ns r) → k ≡ length vs
  reach-count k e = e ∙ ap (λ (l : List ℕ). length l) reach-is

  pub reach-at : (i v : ℕ) → v ≡ word (reached ps ns r) i → v ≡ word vs i
  reach-at i v e = e ∙ ap (λ (l : List ℕ). word l i) reach-is

  pub reach-member : (i v : ℕ) → i < length vs → v ≡ word (reached ps ns r) i → member v vs ≡ true
  reach-member i v h e = rw (reach-at i v e) (member-get_or vs i h)

pub reached-few : (p n : ℕ) (r : Reach) → length (reached p n r) ≤ p + n
reached-few p n r =
    omega (arith, reached-count p n r, keep-length (bit_at r.publics) (range p), from-length 0 p, pick-few (not (same r.restricted 0)))
  where
    pick-few : (b : Bool) → pick b n 0 ≤ n
    pick-few true = omega arith
    pick-few false = omega arith

-- ---- the values of a name: its reach, how many there are, and value i

pub record Valued (w : List ℕ) (z ps ns : ℕ) (r : Reach) (count : ℕ) : Type 0 where
  pub counts : Counted w ps ns
  pub lists : Lists (publics w) (privates_word w) r (values w z)
  pub count-is : count ≡ length (values w z)
  pub value-is : (i v : ℕ) → i < length (values w z) → ValueAt ps r i v → v ≡ word (values w z) i
  pub member_is : (i v : ℕ) → i < length (values w z) → ValueAt ps r i v → member v (values w z) ≡ true

pub valued : (w x : List ℕ) (z ps ns : ℕ) (r : Reach) (count : ℕ) → Laid w x → ps ≡ publics w → ns ≡ word x privates_at → r ≡ reach_in x z
    → CountOf ps ns r count → Valued w z ps ns r count
valued w x z ps ns r count L p n e c =
    let k = counted w x ps ns L p n in
    let l = values-read w x L z r e in
    let is = reach-is w ps ns r (values w z) k.publics-are k.privates-are l in
    let m : length (reached ps ns r) ≡ length (values w z) = ap (λ (xs : List ℕ). length xs) is in
    record {
      counts = k;
      lists = l;
      count-is = reach-count w ps ns r (values w z) k.publics-are k.privates-are l count c;
      value-is = λ i v h f. reach-at w ps ns r (values w z) k.publics-are k.privates-are l i v (f ns (omega (arith, m)));
      member_is = λ i v h f. reach-member w ps ns r (values w z) k.publics-are k.privates-are l i v h (f ns (omega (arith, m)));
    }

-- what reading them asks
pub count-asks : (w x : List ℕ) (ns : ℕ) → Laid w x → ns ≡ word x privates_at → ns < 65536
count-asks w x ns L n = let k = counts w x L in omega (arith, n, k.privates-are, k.few-privates)

pub value-asks : (w : List ℕ) (z ps ns : ℕ) (r : Reach) (count : ℕ) → Valued w z ps ns r count → (i : ℕ) → i < count
    → (ps ≤ 64) × (i < 65536)
value-asks w z ps ns r count t i h =
    let k = t.counts in
    let m : length (reached (publics w) (privates_word w) r) ≡ length (values w z) = ap (λ (xs : List ℕ). length xs) t.lists.is in (
      omega (arith, k.publics-are, k.few-publics),
      omega (arith, t.count-is, m, reached-few (publics w) (privates_word w) r, k.few-publics, k.few-privates),
    )

-- what two names share
pub common-told : (w i : List ℕ) → Laid w i → (a e : ℕ) (x y r : Reach) → x ≡ reach_in i a → y ≡ reach_in i e → r ≡ common_reach x y
    → Lists (publics w) (privates_word w) r (common (scheme w) (today w) a e)
common-told w i L a e x y r f g h = rw (h, f, g, Plans.reach-is w i L a, Plans.reach-is w i L e) (common-lists w L.accepted a e)
