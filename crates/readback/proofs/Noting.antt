-- The marked control places of one node more, noted for its thread.
use mathlib.Core.Path.{◌≡◌, refl, sym, ap, ◌∙◌}
use mathlib.Core.Bool.{Bool, true, false}
use mathlib.Core.List.{List, [], ◌∷◌, ◌++◌, map, append-nil, append_assoc}
use Prim.Native.Nat.{ℕ, zero, suc, ◌+◌, ◌-◌, ◌*◌, ◌≤◌, ◌<◌}
use native.Mathlib.Decide.{ℕ_discrete}
use native.Mathlib.Numerals.{add-one}
use native.Mathlib.Omega.{arith}
use lib.ListN.{length, set, length-append, length-map}
use lib.Seq.{get_or-set_same, get_or-set_other}
use Rattle.lists.specs.Lists.{pick, same, word, from, range, every, flat}
use Rattle.lists.proofs.Tests.{same_self, same-no}
use Rattle.lists.proofs.Ranges.{from-snoc, from_member, every-same}
use Rattle.scheme.specs.Words.{threads, nodes}
use Rattle.scheme.specs.Index.{thread_at}
use Rattle.scheme.specs.Scheme.{Scheme, scheme}
use Rattle.table.proofs.Accepted.{accepted}
use Rattle.places.specs.Reach.{values_for}
use Rattle.places.specs.Places.{controls}
use Rattle.places.specs.Rows.{control_start}
use Rattle.places.specs.Plan.{nodes_in}
use Rattle.places.specs.Inner.Plan.{control_of}
use Rattle.places.proofs.Controls.{few-nodes, controls-few}
use Rattle.places.proofs.Plans.{node-is, thread-is}
use Rattle.readback.specs.Configurations.{Spot, spot}
use Rattle.readback.specs.Inner.Hits.{hits, FoundOf}
use Rattle.readback.specs.Inner.Standing.{first_of, spots_on, spots_below, spots_at, spots_right}
use Rattle.readback.specs.Inner.Noting.{Room, NotedAll, Noting, Seeking, SpotsFound}
use Rattle.readback.specs.declared.found.Found.{Found}
use Rattle.readback.proofs.Finding.{hits_few, hits-below}
use Rattle.readback.proofs.Controls.{controls-next, controls-small}

flat-last : {A : Type 0} (f : ℕ → List A) (xs : List ℕ) (y : ℕ) → flat f (xs ++ (y ∷ [])) ≡ flat f xs ++ f y
unfolding flat
flat-last f [] y = append-nil (f y)
flat-last f (x ∷ xs) y = rw (flat-last f xs y) (sym (append_assoc (f x) (flat f xs) (f y)))

pub first-left : (xs ys : List Spot) → (length xs ≡ 0 → ⊥) → first_of (xs ++ ys) ≡ first_of xs
first-left [] ys h = absurd (h refl)
first-left (x ∷ xs) ys h = refl

pub first-right : (xs ys : List Spot) → length xs ≡ 0 → first_of (xs ++ ys) ≡ first_of ys
first-right [] ys h = refl
first-right (x ∷ xs) ys h = absurd (omega arith)

pub first-map : (n : ℕ) (hs : List ℕ) → (length hs ≡ 0 → ⊥) → first_of (map (spot n) hs) ≡ spot n (word hs 0)
first-map n [] h = absurd (h refl)
first-map n (x ∷ xs) h = refl

empty : {A : Type 0} (xs : List A) → length xs ≡ 0 → xs ≡ []
empty [] h = refl
empty (x ∷ xs) h = absurd (omega arith)

module _ (S : Scheme) (m : List ℕ) where
  pub below_next : (n t : ℕ) → spots_below S m (n + 1) t ≡ spots_below S m n t ++ pick (same (S.thread n) t) (spots_on S m n) []
  unfolding spots_below
  below_next n t =
      let e : 0 + n ≡ n = omega arith in
      ap (flat (λ k. pick (same (S.thread k) t) (spots_on S m k) [])) (ap (from 0) (add-one n) ∙ rw e at (from-snoc 0 n))
      ∙ flat-last (λ k. pick (same (S.thread k) t) (spots_on S m k) []) (range n) n

  pub below_none : (t : ℕ) → spots_below S m 0 t ≡ []
  unfolding spots_below flat from
  below_none t = refl

  on-few : (n : ℕ) → length (spots_on S m n) ≤ controls S n
  on-few n = rw (length-map (hits m (control_start S (values_for S) n) (controls S n)) (spot n)) (hits_few m (control_start S (values_for S) n) (controls S n))

  below-few : ((n : ℕ) → controls S n ≤ 65) → (n t : ℕ) → length (spots_below S m n t) ≤ n * 65
  below-few h zero t = rw (below_none t) (omega arith)
  below-few h (suc n) t =
      let e : suc n ≡ n + 1 = omega arith in
      rw (e, below_next n t, length-append (spots_below S m n t) (pick (same (S.thread n) t) (spots_on S m n) []))
      (omega (arith, below-few h n t, go (same (S.thread n) t)))
    where
      go : (b : Bool) → length (pick b (spots_on S m n) []) ≤ 65
      go true = omega (arith, on-few n, h n)
      go false = omega arith

module _ (w index m counts places indexes : List ℕ) (n : ℕ) (N : Noting w index m n counts places indexes)
    (start next : ℕ) (f : Found) (from_is : start ≡ word (nodes_in index) n) (next-is : next ≡ word (nodes_in index) (n + 1)) where
  abbrev S : Scheme
  S = scheme w

  abbrev hs : List ℕ
  hs = hits m (control_of w n) (controls S n)

  pub in_order : start ≤ next
  in_order = omega (arith, from_is, next-is, controls-next w index N.laid n N.inside)

  pub find-fits : next - start ≤ 65535
  find-fits = omega (arith, from_is, next-is, controls-next w index N.laid n N.inside, controls-small w index N.laid n N.inside)

  module _ (F : FoundOf (hits m start (next - start)) f) where
    found_here : FoundOf hs f
    found_here =
        let e : next - start ≡ controls S n = omega (arith, from_is, next-is, controls-next w index N.laid n N.inside) in
        rw (e, from_is ∙ node-is w index N.laid n (omega (arith, N.inside))) at F

    pub index-small : (f.count ≡ 0 → ⊥) → f.first < 65536
    index-small h =
        let g = found_here in
        omega (arith, g.first-is, hits-below m (control_of w n) (controls S n) (λ q. h (g.count-is ∙ q)), controls-few w N.laid.accepted n)

    pub node-small : n < 65536
    node-small = omega (arith, N.inside, few-nodes w N.laid.accepted)

    on-length : length (spots_on S m n) ≡ f.count
    on-length = length-map hs (spot n) ∙ sym found_here.count-is

    pub note-none : f.count ≡ 0 → NotedAll w m (n + 1) counts places indexes
    note-none h t l =
        let k = N.noted t l in
        let e : spots_below S m (n + 1) t ≡ spots_below S m n t
        = below_next S m n t ∙ rw (empty (spots_on S m n) (on-length ∙ h)) (go (same (S.thread n) t)) in
        record { count-is = rw e k.count-is; first-is = rw e k.first-is }
      where
        go : (b : Bool) → spots_below S m n t ++ pick {A = List Spot} b [] [] ≡ spots_below S m n t
        go true = append-nil (spots_below S m n t)
        go false = append-nil (spots_below S m n t)

    module _ (r : ℕ) (thread-here : r ≡ thread_at w index n) where
      own-thread : r ≡ S.thread n
      own-thread = thread-here ∙ thread-is w index N.laid n

      inside-thread : r < threads w
      unfolding scheme
      inside-thread = rw own-thread ((accepted w N.laid.accepted).thread-inside n)

      few-threads : threads w ≤ 8
      unfolding scheme
      few-threads = (accepted w N.laid.accepted).few-threads

      pub sum-small : (before : ℕ) → before ≡ word counts r → before + f.count < 65536
      sum-small before e =
          omega (
            arith,
            e,
            (N.noted r inside-thread).count-is,
            below-few S m (controls-few w N.laid.accepted) n r,
            on-length,
            on-few S m n,
            controls-few w N.laid.accepted n,
            N.inside,
            few-nodes w N.laid.accepted,
          )

      -- another thread has nothing new
      other-thread : (t : ℕ) → (t ≡ r → ⊥) → spots_below S m (n + 1) t ≡ spots_below S m n t
      other-thread t d = below_next S m n t ∙ rw (same-no (S.thread n) t (λ q. d (sym (own-thread ∙ q)))) (append-nil (spots_below S m n t))

      this-thread : spots_below S m (n + 1) r ≡ spots_below S m n r ++ spots_on S m n
      this-thread = below_next S m n r ∙ rw (← own-thread, same_self r)

      module _ (before : ℕ) (before-is : before ≡ word counts r) where
        was : before ≡ length (spots_below S m n r)
        was = before-is ∙ (N.noted r inside-thread).count-is

        counted : (t : ℕ) → t < threads w → word (set counts r (before + f.count)) t ≡ length (spots_below S m (n + 1) t)
        counted t l = go (ℕ_discrete t r)
          where
            go : Dec (t ≡ r) → word (set counts r (before + f.count)) t ≡ length (spots_below S m (n + 1) t)
            go (yes q) =
                rw (q, this-thread, length-append (spots_below S m n r) (spots_on S m n), on-length)
                (get_or-set_same counts r (before + f.count) 0 (omega (arith, inside-thread, few-threads, N.room.counts-enough)) ∙ rw was)
            go (no d) = rw (other-thread t d) (get_or-set_other counts r t (before + f.count) 0 d ∙ (N.noted t l).count-is)

        pub note-later : (before ≡ 0 → ⊥) → NotedAll w m (n + 1) (set counts r (before + f.count)) places indexes
        note-later h t l = record { count-is = counted t l; first-is = go (ℕ_discrete t r) }
          where
            go : Dec (t ≡ r) → spot (word places t) (word indexes t) ≡ first_of (spots_below S m (n + 1) t)
            go (yes q) =
                rw (q, this-thread, first-left (spots_below S m n r) (spots_on S m n) (λ e. h (was ∙ e))) (N.noted r inside-thread).first-is
            go (no d) = rw (other-thread t d) (N.noted t l).first-is

        pub note-first : before ≡ 0 → (f.count ≡ 0 → ⊥)
            → NotedAll w m (n + 1) (set counts r (before + f.count)) (set places r n) (set indexes r f.first)
        note-first z h t l = record { count-is = counted t l; first-is = go (ℕ_discrete t r) }
          where
            go : Dec (t ≡ r) → spot (word (set places r n) t) (word (set indexes r f.first) t) ≡ first_of (spots_below S m (n + 1) t)
            go (yes q) =
                rw (
                  q,
                  this-thread,
                  first-right (spots_below S m n r) (spots_on S m n) (sym was ∙ z),
                  first-map n hs (λ e. h (found_here.count-is ∙ e)),
                  get_or-set_same places r n 0 (omega (arith, inside-thread, few-threads, N.room.places-enough)),
                  get_or-set_same indexes r f.first 0 (omega (arith, inside-thread, few-threads, N.room.indexes-enough)),
                  found_here.first-is,
                )
            go (no d) =
                rw (other-thread t d, get_or-set_other places r t n 0 d, get_or-set_other indexes r t f.first 0 d) (N.noted t l).first-is

-- before any node nothing is noted
pub noted-none : (w index m counts places indexes : List ℕ) → Seeking w index counts places indexes → NotedAll w m 0 counts places indexes
unfolding scheme
noted-none w index m counts places indexes s t l =
    let few : threads w ≤ 8 = (accepted w s.laid.accepted).few-threads in
    record {
      count-is = rw (below_none (scheme w) m t) (s.counts-clear t (omega arith));
      first-is = rw (below_none (scheme w) m t, s.places-clear t (omega arith), s.indexes-clear t (omega arith));
    }

pub same-room : (counts places indexes counts' places' indexes' : List ℕ) → length counts' ≡ length counts → length places' ≡ length places
    → length indexes' ≡ length indexes → Room counts places indexes → Room counts' places' indexes'
same-room counts places indexes counts' places' indexes' a b c r = record {
  counts-enough = omega (arith, a, r.counts-enough);
  places-enough = omega (arith, b, r.places-enough);
  indexes-enough = omega (arith, c, r.indexes-enough);
}

-- whether each thread has one, by the counts
pub all_noted : (w m counts places indexes : List ℕ) (count : ℕ) → NotedAll w m (nodes w) counts places indexes → count ≡ threads w
    → (every (λ t. same (word counts t) 1) (range count) ≡ spots_right (scheme w) m) × SpotsFound w m places indexes
unfolding spots_right scheme
all_noted w m counts places indexes count h e = (
  rw e
      (every-same (λ t. same (word counts t) 1) (λ t. same (length (spots_at (scheme w) m t)) 1) (range (threads w))
      (λ t i. rw (h t (omega (arith, from_member t 0 (threads w) i))).count-is)),
  λ t l. (h t l).first-is,
)
