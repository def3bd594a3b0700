-- The receives that a send can meet, by sets: those noted at a value of its channel, save those of its thread.
use Rattle.std.proofs.Common.{◌≡◌, ℕ, ◌+◌, ◌*◌, ◌%◌, ◌^◌, ◌<◌, ◌≤◌, Bool, true, false, not, ◌&&◌, ◌||◌, ltb, List, [], length, replicate, sym, refl, ap, ◌∙◌, mod-eq_of_lt, arith, pow_mono, le-ltb, lt-ltb}
use mathlib.Core.Bool.{false≢true}
use native.Mathlib.Decide.{ℕ_discrete, dec_lt}
use lib.Bits.{bit_and, bit_or, bit_xor, and_le_l, and_block, or_shifted_r, xor_lt}
use lib.ListN.{length-replicate}
use lib.Seq.{sets}
use Rattle.lists.specs.Lists.{pick, same, word, range, some, flat, member}
use Rattle.lists.proofs.Tests.{both_ways, and_intro, and_left, and_right, not-true-false, or-false, same_self, same-yes, same-no, same_true}
use Rattle.lists.proofs.Ranges.{member-from, from_member}
use Rattle.scheme.specs.Words.{publics, bounds, channel, branch_kind}
use Rattle.scheme.specs.Index.{branch_thread_at}
use Rattle.scheme.specs.Scheme.{scheme}
use Rattle.table.proofs.Accepted.{accepted}
use Rattle.places.specs.Plan.{reach_in, Laid}
use Rattle.places.specs.Reaches.{common_reach, is_empty}
use Rattle.places.specs.Sets.{bit_at}
use Rattle.places.specs.Sides.{receive_words, receives_of, heard_at, partner_set, sets_at}
use Rattle.places.specs.Inner.Plan.{today}
use Rattle.places.specs.Inner.Sets.{in_set, Gathers, Adds, Joined}
use Rattle.places.specs.Inner.Meeting.{value_set_word, is_noted, Noted}
use Rattle.places.specs.declared.reach.Reach.{Reach}
use Rattle.places.proofs.Tallies.{some-intro, some-elim}
use Rattle.places.proofs.Bits.{bit-and, bit-one, bit_past, bit-same, bit-without, set-small, set-some}
use Rattle.places.proofs.Controls.{few-publics, few-bounds}
use Rattle.places.proofs.Growing.{adds_then, adds_same}
use Rattle.places.proofs.Hearing.{set-has, set-few, set_word, reaches-listed, threads-listed}
use Rattle.places.proofs.Plans.{reach-is, branch-thread-is}
use Rattle.places.proofs.Sending.{and-over}
use Rattle.places.proofs.Settled.{zero_bit}

-- ---- the values of a channel as one set

pub value_set : (p r : ℕ) → p < 2 ^ 32 → r < 2 ^ 32 → bit_or p (r * 2 ^ 32 % 2 ^ 64) ≡ r * 2 ^ 32 + p
value_set p r hp hr =
    let b : r * 2 ^ 32 < 2 ^ 64 = omega (arith, hr) in
    ap (bit_or p) (mod-eq_of_lt b) ∙ or_shifted_r r 32 p hp

-- each part fits 32 bits
pub record Small (r : Reach) : Type 0 where
  pub publics-fit : r.publics < 2 ^ 32
  pub restricted-fit : r.restricted < 2 ^ 32

values-fit : (r : Reach) → Small r → value_set_word r < 2 ^ 64
values-fit r s = omega (arith, s.publics-fit, s.restricted-fit)

-- no value is common
values-apart : (a b : Reach) → Small a → Small b → same (bit_and (value_set_word a) (value_set_word b)) 0 ≡ is_empty (common_reach a b)
unfolding common_reach is_empty
values-apart a b s t =
    rw (and_block 32 a.restricted b.restricted a.publics b.publics s.publics-fit t.publics-fit) (go (ℕ_discrete p 0) (ℕ_discrete r 0))
  where
    p : ℕ
    p = bit_and a.publics b.publics

    r : ℕ
    r = bit_and a.restricted b.restricted

    go : Dec (p ≡ 0) → Dec (r ≡ 0) → same (r * 2 ^ 32 + p) 0 ≡ pick (same p 0) (same r 0) false
    go (yes e) (yes f) = rw (same-yes p 0 e, same-yes r 0 f) (same-yes (r * 2 ^ 32 + p) 0 (omega (arith, e, f)))
    go (yes e) (no f) = rw (same-yes p 0 e, same-no r 0 f) (same-no (r * 2 ^ 32 + p) 0 (λ q. f (omega (arith, q))))
    go (no e) f = rw (same-no p 0 e) (same-no (r * 2 ^ 32 + p) 0 (λ q. e (omega (arith, q))))

-- ---- the receives noted

pub note-adds : (a b c : List ℕ) (g f : Bool) (k e u t y : ℕ) (r : Reach) → e ≡ value_set_word r → u ≡ t → y ≡ 2 ^ k → Joined a b g (λ x o. bit_at e x && bit_at y o)
    → Joined b c f (λ x o. same (64 + u) x && bit_at y o) → Adds a c (λ x o. is_noted r t x && same k o)
note-adds a b c g f k e u t y r ee eu ey F G =
    adds_same a c (λ x o. (bit_at e x && bit_at y o) || (same (64 + u) x && bit_at y o)) (λ x o. is_noted r t x && same k o)
    (λ x o. rw (ee, eu, ey, bit-one k o) (and-over (bit_at (value_set_word r) x) (same (64 + t) x) (same k o)))
    (adds_then a b c (λ x o. bit_at e x && bit_at y o) (λ x o. same (64 + u) x && bit_at y o) F.adds G.adds)

-- just one of the numbers below n
some_one : (f : ℕ → Bool) (n k : ℕ) → some (λ j. f j && same j k) (range n) ≡ (ltb k n && f k)
some_one f n k = go (dec_lt k n)
  where
    found : some (λ j. f j && same j k) (range n) ≡ true → (k < n) × (f k ≡ true)
    found h =
        let (j, m, q) = some-elim (λ j. f j && same j k) (range n) h in
        let e : j ≡ k = same_true j k (and_right (f j) (same j k) q) in
        (omega (arith, from_member j 0 n m, e), rw e at (and_left (f j) (same j k) q))

    go : Dec (k < n) → some (λ j. f j && same j k) (range n) ≡ (ltb k n && f k)
    go (yes l) =
        rw (lt-ltb k n l)
        (both_ways (some (λ j. f j && same j k) (range n)) (f k) (λ h. (found h).1)
        (λ h. some-intro (λ j. f j && same j k) k (range n) (member-from k 0 n (omega arith) (omega arith)) (and_intro (f k) (same k k) h (same_self k))))
    go (no l) = rw (le-ltb k n (omega arith)) (not-true-false (some (λ j. f j && same j k) (range n)) (λ h. l (found h).0))

module _ (reaches : ℕ → Reach) (threads : ℕ → ℕ) where
  abbrev pub noted_to : ℕ → ℕ → ℕ → Bool
  noted_to i x k = some (λ j. is_noted (reaches j) (threads j) x && same j k) (range i)

  pub noted-all : (before after : List ℕ) (count : ℕ) → before ≡ replicate 72 0 → Adds before after (noted_to count) → Noted reaches threads count after
  noted-all before after count e A = record {
    are =
        λ x k l. A.bits x k (rw e (omega (arith, l, length-replicate {A = ℕ} 72 0)))
        ∙ rw (e, zero_bit 72 x k) (some_one (λ j. is_noted (reaches j) (threads j) x) count k);
  }

  -- the same by other words
  pub noted-same : (others : ℕ → Reach) (elsewhere : ℕ → ℕ) (count n : ℕ) (words : List ℕ) → count ≡ n → ((k : ℕ) → k < n → reaches k ≡ others k)
      → ((k : ℕ) → k < n → threads k ≡ elsewhere k) → Noted reaches threads count words → Noted others elsewhere n words
  noted-same others elsewhere count n words c e f N = record { are = λ x k l. N.are x k l ∙ rw c (go x k (dec_lt k n)) }
    where
      go : (x k : ℕ) → Dec (k < n) → (ltb k n && is_noted (reaches k) (threads k) x) ≡ (ltb k n && is_noted (others k) (elsewhere k) x)
      go x k (yes l) = rw (e k l, f k l)
      go x k (no l) = rw (le-ltb k n (omega arith))

-- ---- what a send gathers

same-later : (a b c : ℕ) → same (a + b) (a + c) ≡ same b c
same-later a b c = go (ℕ_discrete b c)
  where
    go : Dec (b ≡ c) → same (a + b) (a + c) ≡ same b c
    go (yes e) = same-yes (a + b) (a + c) (omega (arith, e)) ∙ sym (same-yes b c e)
    go (no d) = same-no (a + b) (a + c) (λ q. d (omega (arith, q))) ∙ sym (same-no b c d)

module _ (w x : List ℕ) (L : Laid w x) where
  reach-small : (z : ℕ) → Small (reach_in x z)
  reach-small z = rw (reach-is w x L z) (record {
    publics-fit = omega (arith, set-small ((today w).origins z) (publics w), pow_mono (few-publics w L.accepted));
    restricted-fit = omega (arith, set-small (λ k. (today w).origins z (publics w + k)) (bounds w), pow_mono (few-bounds w L.accepted));
  })

  thread-few : (b : ℕ) → branch_thread_at w x b < 8
  unfolding scheme
  thread-few b =
      let ok = accepted w L.accepted in
      omega (arith, branch-thread-is w x L b, ok.thread-inside ((scheme w).home b), ok.few-threads)

  abbrev n : ℕ
  n = length (receives_of w)

  abbrev heard : ℕ → Reach
  heard k = reach_in x (channel w (word (receives_of w) k))

  abbrev thread : ℕ → ℕ
  thread k = branch_thread_at w x (word (receives_of w) k)

  -- as the list tells them
  pub noted_here : (lent list : List ℕ) → sets_at ≤ length lent → list ≡ sets lent 0 (flat (receive_words w x) (receives_of w)) → (count : ℕ)
      → count ≡ n → (words : List ℕ) → Noted (heard_at list) (λ k. word list (8 * k + 1)) count words → Noted heard thread n words
  noted_here lent list room is count e words =
      noted-same (heard_at list) (λ k. word list (8 * k + 1)) heard thread count n words e (reaches-listed w x L.accepted lent [] list room is)
      (threads-listed w x L.accepted lent [] list room is)

  module _ (words : List ℕ) (N : Noted heard thread n words) (b : ℕ) where
    abbrev values : Reach
    values = reach_in x (channel w b)

    at_value : (j k : ℕ) → j < 64 → k < n → in_set words j k ≡ bit_at (value_set_word (heard k)) j
    at_value j k l h =
        N.are j k (omega (arith, l)) ∙ rw (lt-ltb k n h, same-no (64 + thread k) j (λ e. omega (arith, e, l))) (or-false (bit_at (value_set_word (heard k)) j))

    at-thread : (k : ℕ) → k < n → in_set words (64 + branch_thread_at w x b) k ≡ same (thread k) (branch_thread_at w x b)
    at-thread k h =
        N.are (64 + branch_thread_at w x b) k (omega (arith, thread-few b))
        ∙ rw (
          lt-ltb k n h,
          bit_past 64 (value_set_word (heard k)) (64 + branch_thread_at w x b) (values-fit (heard k) (reach-small (channel w (word (receives_of w) k))))
              (omega arith),
        ) (same-later 64 (thread k) (branch_thread_at w x b))

    gathered : (all : ℕ) → Gathers words (value_set_word values) all → (k : ℕ) → k < n → bit_at all k ≡ not (is_empty (common_reach values (heard k)))
    gathered all G k h =
        G k
        ∙ both_ways (some (λ j. bit_at (value_set_word values) j && in_set words j k) (range 64)) (some (bit_at both) (range 64))
        (λ q. let (j, m, t) = some-elim (λ j. bit_at (value_set_word values) j && in_set words j k) (range 64) q in
        some-intro (bit_at both) j (range 64) m (sym (is j m) ∙ t))
        (λ q. let (j, m, t) = some-elim (bit_at both) (range 64) q in
        some-intro (λ j. bit_at (value_set_word values) j && in_set words j k) j (range 64) m (is j m ∙ t))
        ∙ sym (set-some 64 both (omega (arith, and_le_l (value_set_word values) (value_set_word (heard k)), values-fit values (reach-small (channel w b)))))
        ∙ ap not (values-apart values (heard k) (reach-small (channel w b)) (reach-small (channel w (word (receives_of w) k))))
      where
        both : ℕ
        both = bit_and (value_set_word values) (value_set_word (heard k))

        is : (j : ℕ) → member j (range 64) ≡ true → (bit_at (value_set_word values) j && in_set words j k) ≡ bit_at both j
        is j m = rw (at_value j k (omega (arith, from_member j 0 64 m)) h) (sym (bit-and (value_set_word values) (value_set_word (heard k)) j))

    gathered_none : (s all : ℕ) → Gathers words s all → (k : ℕ) → n ≤ k → bit_at all k ≡ false
    gathered_none s all G k h =
        G k
        ∙ not-true-false (some (λ j. bit_at s j && in_set words j k) (range 64))
        (λ q. let (j, m, t) = some-elim (λ j. bit_at s j && in_set words j k) (range 64) q in
        false≢true (sym (N.are j k (omega (arith, from_member j 0 64 m)) ∙ rw (le-ltb k n h)) ∙ and_right (bit_at s j) (in_set words j k) t))

    -- what is left without those of the send's thread is the set of the send
    pub set-gathered : branch_kind w b ≡ 1 → (s all t own : ℕ) → s ≡ value_set_word values → Gathers words s all → all < 2 ^ 64 → t ≡ branch_thread_at w x b
        → own ≡ word words (64 + t) → bit_xor all (bit_and all own) ≡ partner_set w x b
    set-gathered e s all t own es G small et eo =
        bit-same 64 (bit_xor all (bit_and all own)) (partner_set w x b) (xor_lt 64 all (bit_and all own) small (omega (arith, small, and_le_l all own)))
        (omega (arith, set_word w x L.accepted b)) (λ k l. bit-without all own k ∙ go k (dec_lt k n))
      where
        H : Gathers words (value_set_word values) all
        H = rw (← es) G

        own_is : own ≡ word words (64 + branch_thread_at w x b)
        own_is = rw (← et) eo

        meet : (c d : Bool) → (not c && not d) ≡ pick c false (not d)
        meet true d = refl
        meet false d = refl

        go : (k : ℕ) → Dec (k < n) → (bit_at all k && not (bit_at own k)) ≡ bit_at (partner_set w x b) k
        go k (yes h) =
            rw (gathered all H k h, own_is, at-thread k h) (meet (is_empty (common_reach values (heard k))) (same (thread k) (branch_thread_at w x b)))
            ∙ sym (set-has w x b (same-yes (branch_kind w b) 1 e) k h)
        go k (no h) = rw (gathered_none s all G k (omega arith)) (sym (bit_past n (partner_set w x b) k (set-few w x b) (omega arith)))
