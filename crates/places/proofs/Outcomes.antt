-- What `plan` and `measure` answer, as code meets it: where the plan stands, where the table is refused, where the lent words are too few.
use Rattle.std.specs.Prelude.{⊤}
use Rattle.std.proofs.Common.{◌≡◌, ℕ, ◌<◌, ◌≤◌, Bool, true, false, leb, List, Result, Ok, Err, IsErrAnd, ◌++◌, length, drop, refl, ap, ◌∙◌, arith, le-leb, leb-true}
use borrow.Author.Tests.{lt-leb}
use Rattle.lists.specs.Lists.{pick, same}
use Rattle.lists.proofs.Tests.{same_true, same-yes, same-no, same_false, false-true}
use Rattle.table.specs.Answer.{cause_number}
use Rattle.table.specs.Causes.{cause}
use Rattle.table.specs.declared.Cause.{Cause}
use Rattle.table.specs.declared.Cause.TheVariants.{Short, Counts, Layout, Kinds, Ranges, Shape, Binding, Scope, Calls}
use Rattle.places.specs.Plan.{plan_end, plan_words, Laid}
use Rattle.places.specs.Sides.{pairs_end, pair_words}
use Rattle.places.specs.Inner.Counting.{Pairs}
use Rattle.places.specs.Answers.{Sums, sums_of, net_sums, Answer, ready, counted, refused, short, Outcome, outcome, Measurement, measurement}
use Rattle.places.specs.Answers.{planned, measured, plan_outcome, measure_outcome}
use Rattle.places.specs.declared.count.Totals.{Totals}
use Rattle.places.specs.declared.Refusal.{Refusal}
use Rattle.places.specs.declared.Refusal.TheVariants.{Table, NoRoom}
use Rattle.places.proofs.Plans.{laid-with, plan-laid}
use Rattle.places.proofs.Meeting.{pairs-filled, pairs-same}

-- the kinds of answers apart: the plan stands, the table is refused, there is no room
abbrev kind : Answer → ℕ
kind ready = 0
kind (counted s) = 0
kind (refused n) = 1
kind short = 2

-- the number of a refusal
abbrev number : Answer → ℕ
number ready = 0
number (counted s) = 0
number (refused n) = n
number short = 0

-- the counts of an answer
abbrev counts : Answer → Sums → Sums
counts ready d = d
counts (counted s) d = s
counts (refused n) d = d
counts short d = d

-- a cause is not 0
named : (v : Cause) → 0 < cause_number v
named Short = omega arith
named Counts = omega arith
named Layout = omega arith
named Kinds = omega arith
named Ranges = omega arith
named Shape = omega arith
named Binding = omega arith
named Scope = omega arith
named Calls = omega arith

not-accepted : (w : List ℕ) (v : Cause) → cause_number v ≡ cause w → cause w ≡ 0 → ⊥
not-accepted w v e z = omega (arith, named v)

-- ---- what `plan` answers

module _ (w lent : List ℕ) where
  pub is-refused : (v : Cause) → cause_number v ≡ cause w → (r : Result ⊤ Refusal) → IsErrAnd r (λ q. q ≡ Table v) → planned r lent ≡ plan_outcome w lent
  unfolding plan_outcome
  is-refused v e (Ok u) h = absurd h
  is-refused v e (Err q) h = rw (h, e, same-no (cause w) 0 (not-accepted w v e))

  pub is-short : cause w ≡ 0 → length lent < plan_end → outcome short lent ≡ plan_outcome w lent
  unfolding plan_outcome
  is-short h l = rw (same-yes (cause w) 0 h, lt-leb plan_end (length lent) l)

  pub is-laid : cause w ≡ 0 → plan_end ≤ length lent → outcome ready (plan_words w ++ drop plan_end lent) ≡ plan_outcome w lent
  unfolding plan_outcome
  is-laid h l = rw (same-yes (cause w) 0 h, le-leb plan_end (length lent) l)

  module _ (a : Answer) (left : List ℕ) (right : outcome a left ≡ plan_outcome w lent) where
    abbrev Cases : Bool → Bool → Type 0
    Cases c l = outcome a left ≡ pick c (pick l (outcome ready (plan_words w ++ drop plan_end lent)) (outcome short lent)) (outcome (refused (cause w)) lent)

    cases : Cases (same (cause w) 0) (leb plan_end (length lent))
    unfolding plan_outcome
    cases = right

    kinds : {o p : Outcome} → o ≡ p → kind o.answer ≡ kind p.answer
    kinds e = ap (λ (o : Outcome). kind o.answer) e

    stands-told : kind a ≡ 0 → (cause w ≡ 0) × (plan_end ≤ length lent) × (left ≡ plan_words w ++ drop plan_end lent)
    stands-told k = go (same (cause w) 0) (leb plan_end (length lent)) refl refl cases
      where
        go : (c l : Bool) → same (cause w) 0 ≡ c → leb plan_end (length lent) ≡ l → Cases c l
            → (cause w ≡ 0) × (plan_end ≤ length lent) × (left ≡ plan_words w ++ drop plan_end lent)
        go true true e f q = (same_true (cause w) 0 e, leb-true plan_end (length lent) f, ap (λ (o : Outcome). o.left) q)
        go true false e f q = absurd (omega (arith, kinds q, k))
        go false l e f q = absurd (omega (arith, kinds q, k))

    refused-told : kind a ≡ 1 → (a ≡ refused (cause w)) × (cause w ≡ 0 → ⊥) × (left ≡ lent)
    refused-told k = go (same (cause w) 0) (leb plan_end (length lent)) refl cases
      where
        go : (c l : Bool) → same (cause w) 0 ≡ c → Cases c l → (a ≡ refused (cause w)) × (cause w ≡ 0 → ⊥) × (left ≡ lent)
        go true true e q = absurd (omega (arith, kinds q, k))
        go true false e q = absurd (omega (arith, kinds q, k))
        go false l e q =
            (ap (λ (o : Outcome). o.answer) q, λ z. false-true e (same-yes (cause w) 0 z), ap (λ (o : Outcome). o.left) q)

    short-told : kind a ≡ 2 → (cause w ≡ 0) × (plan_end ≤ length lent → ⊥) × (left ≡ lent)
    short-told k = go (same (cause w) 0) (leb plan_end (length lent)) refl refl cases
      where
        go : (c l : Bool) → same (cause w) 0 ≡ c → leb plan_end (length lent) ≡ l → Cases c l
            → (cause w ≡ 0) × (plan_end ≤ length lent → ⊥) × (left ≡ lent)
        go true true e f q = absurd (omega (arith, kinds q, k))
        go true false e f q =
            (same_true (cause w) 0 e, λ room. false-true f (le-leb plan_end (length lent) room), ap (λ (o : Outcome). o.left) q)
        go false l e f q = absurd (omega (arith, kinds q, k))

module _ (w lent left : List ℕ) (r : Result ⊤ Refusal) (right : planned r left ≡ plan_outcome w lent) where
  ready-told : (u : ⊤) → r ≡ Ok u → (cause w ≡ 0) × (plan_end ≤ length lent) × (left ≡ plan_words w ++ drop plan_end lent)
  ready-told u e = stands-told w lent ready left (rw e at right) refl

  pub plan-ready : (u : ⊤) → r ≡ Ok u → Laid w left
  plan-ready u e = let t = ready-told u e in laid-with w left (drop plan_end lent) t.0 t.2

  pub plan-refused : (v : Cause) → r ≡ Err (Table v) → (cause_number v ≡ cause w) × (cause w ≡ 0 → ⊥)
  plan-refused v e =
      let t = refused-told w lent (refused (cause_number v)) left (rw e at right) refl in
      (ap number t.0, t.1)

  pub plan-short : r ≡ Err NoRoom → plan_end ≤ length lent → ⊥
  plan-short e = (short-told w lent short left (rw e at right) refl).1

-- ---- what `measure` answers

module _ (w lent pairs : List ℕ) where
  pub no_room : cause w ≡ 0 → length pairs < pairs_end → measured (Err NoRoom) lent pairs ≡ measure_outcome w lent pairs
  unfolding measure_outcome
  no_room e h = rw (same-yes (cause w) 0 e, lt-leb pairs_end (length pairs) h) (go (leb plan_end (length lent)))
    where
      go : (l : Bool) → measurement short lent pairs ≡ pick l (measurement short lent pairs) (measurement short lent pairs)
      go true = refl
      go false = refl

  pub cause-first : (v : Cause) → cause_number v ≡ cause w → (r : Result Totals Refusal) → IsErrAnd r (λ q. q ≡ Table v)
      → measured r lent pairs ≡ measure_outcome w lent pairs
  unfolding measure_outcome
  cause-first v e (Ok t) h = absurd h
  cause-first v e (Err q) h = rw (h, e, same-no (cause w) 0 (not-accepted w v e))

  is-measured : cause w ≡ 0 → plan_end ≤ length lent → pairs_end ≤ length pairs
      → measurement (counted (net_sums w)) (plan_words w ++ drop plan_end lent) (pair_words w (plan_words w) pairs) ≡ measure_outcome w lent pairs
  unfolding measure_outcome
  is-measured h l m = rw (same-yes (cause w) 0 h, le-leb plan_end (length lent) l, le-leb pairs_end (length pairs) m)

  -- as `measure` goes on from what `plan` answered
  module _ (left : List ℕ) (r : Result ⊤ Refusal) (right : planned r left ≡ plan_outcome w lent) where
    pub measure-net : (u : ⊤) → r ≡ Ok u → pairs_end ≤ length pairs → (after : List ℕ) → after ≡ pair_words w left pairs → (t : Totals) → sums_of t ≡ net_sums w
        → measured (Ok t) left after ≡ measure_outcome w lent pairs
    measure-net u e m after f t s =
        let o = ready-told w lent left r right u e in
        let p : after ≡ pair_words w (plan_words w) pairs =
        f ∙ pairs-same w left (plan_words w) (plan-ready w lent left r right u e)
        (plan-laid w o.0) pairs in
        ap (λ (z : Sums). measurement (counted z) left after) s ∙ ap (λ (l : List ℕ). measurement (counted (net_sums w)) l after) o.2
        ∙ ap (measurement (counted (net_sums w)) (plan_words w ++ drop plan_end lent)) p ∙ is-measured o.0 o.1 m

    not-planned : (q : Refusal) → r ≡ Err q → measured (Err q) left pairs ≡ measure_outcome w lent pairs
    unfolding measure_outcome
    not-planned (Table v) e =
        let t = refused-told w lent (refused (cause_number v)) left (rw e at right) refl in
        ap (λ (l : List ℕ). measurement (refused (cause_number v)) l pairs) t.2
        ∙ ap (λ (a : Answer). measurement a lent pairs) t.0 ∙ rw (same-no (cause w) 0 t.1)
    not-planned NoRoom e =
        let t = short-told w lent short left (rw e at right) refl in
        ap (λ (l : List ℕ). measurement short l pairs) t.2
        ∙ rw (same-yes (cause w) 0 t.0, lt-leb plan_end (length lent) (omega (arith, t.1)))

    pub measure-refused : (q : Refusal) → r ≡ Err q → (s : Result Totals Refusal) → IsErrAnd s (λ p. p ≡ q) → measured s left pairs ≡ measure_outcome w lent pairs
    measure-refused q e (Ok t) h = absurd h
    measure-refused q e (Err p) h = rw h (not-planned q e)

-- what an answer tells
module _ (w lent pairs left after : List ℕ) (a : Answer) (right : measurement a left after ≡ measure_outcome w lent pairs) where
  abbrev Ways : Bool → Bool → Bool → Type 0
  Ways c l m =
      measurement a left after
      ≡ pick c
      (pick l
      (pick m (measurement (counted (net_sums w)) (plan_words w ++ drop plan_end lent) (pair_words w (plan_words w) pairs)) (measurement short lent pairs))
      (measurement short lent pairs))
      (measurement (refused (cause w)) lent pairs)

  ways : Ways (same (cause w) 0) (leb plan_end (length lent)) (leb pairs_end (length pairs))
  unfolding measure_outcome
  ways = right

  answer-kinds : {o p : Measurement} → o ≡ p → kind o.answer ≡ kind p.answer
  answer-kinds e = ap (λ (o : Measurement). kind o.answer) e

  net-told : kind a ≡ 0 → (cause w ≡ 0) × (pairs_end ≤ length pairs) × (a ≡ counted (net_sums w)) × (left ≡ plan_words w ++ drop plan_end lent)
      × (after ≡ pair_words w (plan_words w) pairs)
  net-told k = go (same (cause w) 0) (leb plan_end (length lent)) (leb pairs_end (length pairs)) refl refl ways
    where
      go : (c l m : Bool) → same (cause w) 0 ≡ c → leb pairs_end (length pairs) ≡ m → Ways c l m
          → (cause w ≡ 0) × (pairs_end ≤ length pairs) × (a ≡ counted (net_sums w)) × (left ≡ plan_words w ++ drop plan_end lent)
          × (after ≡ pair_words w (plan_words w) pairs)
      go true true true e f q = (
        same_true (cause w) 0 e,
        leb-true pairs_end (length pairs) f,
        ap (λ (o : Measurement). o.answer) q,
        ap (λ (o : Measurement). o.left) q,
        ap (λ (o : Measurement). o.pairs) q,
      )
      go true true false e f q = absurd (omega (arith, answer-kinds q, k))
      go true false m e f q = absurd (omega (arith, answer-kinds q, k))
      go false l m e f q = absurd (omega (arith, answer-kinds q, k))

  refusal-told : kind a ≡ 1 → (a ≡ refused (cause w)) × (cause w ≡ 0 → ⊥)
  refusal-told k = go (same (cause w) 0) (leb plan_end (length lent)) (leb pairs_end (length pairs)) refl ways
    where
      go : (c l m : Bool) → same (cause w) 0 ≡ c → Ways c l m → (a ≡ refused (cause w)) × (cause w ≡ 0 → ⊥)
      go true true true e q = absurd (omega (arith, answer-kinds q, k))
      go true true false e q = absurd (omega (arith, answer-kinds q, k))
      go true false m e q = absurd (omega (arith, answer-kinds q, k))
      go false l m e q = (ap (λ (o : Measurement). o.answer) q, same_false (cause w) 0 e)

  no-room-told : kind a ≡ 2 → plan_end ≤ length lent → pairs_end ≤ length pairs → ⊥
  no-room-told k room more = go (same (cause w) 0) (leb plan_end (length lent)) (leb pairs_end (length pairs)) refl refl ways
    where
      go : (c l m : Bool) → leb plan_end (length lent) ≡ l → leb pairs_end (length pairs) ≡ m → Ways c l m → ⊥
      go true true true e f q = omega (arith, answer-kinds q, k)
      go true true false e f q = false-true f (le-leb pairs_end (length pairs) more)
      go true false m e f q = false-true e (le-leb plan_end (length lent) room)
      go false l m e f q = omega (arith, answer-kinds q, k)

module _ (w lent pairs left after : List ℕ) (r : Result Totals Refusal) (right : measured r left after ≡ measure_outcome w lent pairs) where
  pub measured-net : (t : Totals) → r ≡ Ok t → Laid w left × (sums_of t ≡ net_sums w) × Pairs w left after
  measured-net t e =
      let q = net-told w lent pairs left after (counted (sums_of t)) (rw e at right) refl in
      let L = laid-with w left (drop plan_end lent) q.0 q.3 in
      let P = plan-laid w q.0 in (
        L,
        ap (λ (a : Answer). counts a (net_sums w)) q.2,
        pairs-filled w left L pairs after q.1 (q.4 ∙ pairs-same w (plan_words w) left P L pairs),
      )

  pub measured-refused : (v : Cause) → r ≡ Err (Table v) → (cause_number v ≡ cause w) × (cause w ≡ 0 → ⊥)
  measured-refused v e =
      let t = refusal-told w lent pairs left after (refused (cause_number v)) (rw e at right) refl in
      (ap number t.0, t.1)

  pub measured-short : r ≡ Err NoRoom → plan_end ≤ length lent → pairs_end ≤ length pairs → ⊥
  measured-short e = no-room-told w lent pairs left after short (rw e at right) refl
