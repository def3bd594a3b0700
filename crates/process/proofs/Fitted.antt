-- Branches gathered and labels fitted into a lent buffer, and the outcome of listing the open steps, refusal by refusal.
use mathlib.Core.Path.{◌≡◌, refl, ap, ◌∙◌}
use mathlib.Core.Bool.{true, false}
use mathlib.Core.List.{List, [], ◌++◌}
use mathlib.Core.Option.{some}
use Prim.Native.Nat.{ℕ, ◌+◌, ◌/◌, ◌≤◌, ◌<◌}
use native.Mathlib.Decide.{dec_lt}
use native.Mathlib.Omega.{arith}
use lib.ListN.{length, take, drop, length-append, length-drop}
use lib.Seq.{length-take-le}
use borrow.Author.Tests.{lt-ltb, le-ltb}
use Rattle.lists.specs.Lists.{range, flat}
use Rattle.lists.proofs.Tests.{same_self}
use Rattle.lists.proofs.Slices.{slice-between}
use Rattle.scheme.specs.Words.{branches}
use Rattle.table.specs.Causes.{cause}
use Rattle.scheme.specs.Scheme.{scheme}
use Rattle.table.proofs.Accepted.{accepted}
use Rattle.process.specs.States.{State}
use Rattle.process.specs.Labels.{open_step_list, open_labels}
use Rattle.process.specs.StateWords.{state_of, is_well_formed}
use Rattle.process.specs.Outcomes.{answered, open_outcome, refusal}
use Rattle.process.specs.Inner.Listed.{Listed, list_words, standing, Fitted}
use Rattle.process.proofs.Sets.{sets-whole}
use Rattle.process.proofs.Listed.{listed-length}
use Rattle.process.proofs.Opened.{listed-open, labels_length}

-- ---- gathered and listed

few-branches : (w : List ℕ) → cause w ≡ 0 → branches w ≤ 256
unfolding scheme
few-branches w ok = (accepted w ok).few-branches

module _ (w : List ℕ) (ok : cause w ≡ 0) (words before after : List ℕ) (r : ℕ) (L : Listed (branches w) words before 0 after r)
    (l : length before ≡ 256) where
  -- the branches gathered are the first words
  gathered-words : take r after ≡ words
  gathered-words =
      let h : length words ≤ length before = omega (arith, few-branches w ok, L.next, L.few) in
      rw (L.written, L.next, sets-whole before words h)
      (slice-between [] words (drop (length words) before) 0 (0 + length words) refl refl)

  pub gathered-reach : r ≤ length after
  gathered-reach = omega (arith, few-branches w ok, L.few, listed-length words before 0 after r (branches w) L)

  pub gathered-few : length (take r after) ≤ 256
  gathered-few = omega (arith, few-branches w ok, L.few, length-take-le r after gathered-reach)

-- what is listed with the branches gathered is what is open
pub opened-words : (w : List ℕ) (s : State) (ok : cause w ≡ 0) (b₁ sends : List ℕ) (n₁ : ℕ) (b₂ receives : List ℕ) (n₂ : ℕ)
    → Listed (branches w) (flat (standing w s 1) (range (branches w))) b₁ 0 sends n₁ → length b₁ ≡ 256
    → Listed (branches w) (flat (standing w s 2) (range (branches w))) b₂ 0 receives n₂ → length b₂ ≡ 256
    → open_labels (scheme w) s ≡ list_words (scheme w) s (take n₁ sends) (take n₂ receives)
opened-words w s ok b₁ sends n₁ b₂ receives n₂ L₁ l₁ L₂ l₂ =
    rw (gathered-words w ok _ b₁ sends n₁ L₁ l₁, gathered-words w ok _ b₂ receives n₂ L₂ l₂) (listed-open w s ok)

pub fitted_short : (words lent : List ℕ) (r : ℕ) → r ≡ length words → length lent < r → Fitted words lent lent r
fitted_short words lent r e h =
    let k : length lent < length words = omega arith in
    record { size = e; left = rw (lt-ltb (length lent) (length words) k) }

pub fitted-full : (m : ℕ) (words out after : List ℕ) (r q : ℕ) → Listed m words out 0 after r → q ≡ length words → q ≤ length out
    → Fitted words out after r
fitted-full m words out after r q L e h =
    let k : length words ≤ length out = omega arith in
    record { size = omega (arith, L.next); left = L.written ∙ sets-whole out words k ∙ rw (le-ltb (length out) (length words) k) }

fitted-length : (words lent after : List ℕ) (r : ℕ) → Fitted words lent after r → length after ≡ length lent
fitted-length words lent after r F = go (dec_lt (length lent) (length words))
  where
    go : Dec (length lent < length words) → length after ≡ length lent
    go (yes l) = ap length F.left ∙ rw (lt-ltb (length lent) (length words) l)
    go (no l) =
        let k : length words ≤ length lent = omega arith in
        let full = le-ltb (length lent) (length words) k in
        ap length F.left ∙ rw (full, length-append words (drop (length words) lent), length-drop (length words) lent) (omega arith)

-- ---- the outcome

module _ (w ws lent : List ℕ) where
  module _ (e : cause w ≡ 0) where
    pub open-malformed : is_well_formed (scheme w) ws ≡ false → refusal 18 lent ≡ open_outcome w ws lent
    unfolding open_outcome
    open-malformed f = rw (e, same_self 0, f)

    module _ (f : is_well_formed (scheme w) ws ≡ true) (after : List ℕ) (r : ℕ) (F : Fitted (open_labels (scheme w) (state_of (scheme w) ws)) lent after r) where
      pub open-short : length after < r → refusal 10 after ≡ open_outcome w ws lent
      unfolding open_outcome answered
      open-short l =
          let words = open_labels (scheme w) (state_of (scheme w) ws) in
          let k = lt-ltb (length lent) (length words) (omega (arith, F.size, fitted-length words lent after r F)) in
          let same-words : after ≡ lent = F.left ∙ rw k in
          rw (e, same_self 0, f, k, same-words)

      pub open-written : r ≤ length after → record { number = 0; value = some (r / 3); left = after } ≡ open_outcome w ws lent
      unfolding open_outcome answered
      open-written l =
          let words = open_labels (scheme w) (state_of (scheme w) ws) in
          let k = le-ltb (length lent) (length words) (omega (arith, F.size, fitted-length words lent after r F)) in
          let three = labels_length (scheme w) (state_of (scheme w) ws) in
          let t : r / 3 ≡ length (open_step_list (scheme w) (state_of (scheme w) ws)) = omega (arith, F.size, three) in
          let all_words : after ≡ words ++ drop (length words) lent = F.left ∙ rw k in
          rw (e, same_self 0, f, k, all_words, t)
