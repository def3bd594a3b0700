-- Every text that the listing program prints has room in 262,144 bytes: an image of at most 16,384 words is listed in six bytes a word and thirty more.
use mathlib.Core.Path.{◌≡◌, sym, ap, subst, ◌∙◌}
use mathlib.Core.Bool.{Bool, true, false, ◌||◌}
use mathlib.Core.List.{List, [], ◌∷◌}
use mathlib.Core.Logic.{◌⊎◌, inl, inr}
use mathlib.Core.Option.{some}
use Prim.Native.Nat.{ℕ, ◌≤◌, ◌<◌}
use native.Mathlib.Decide.{dec_le}
use native.Mathlib.Omega.{arith}
use lib.ListN.{length, drop, length-append}
use borrow.Author.Tests.{lt-ltb, le-ltb}
use Rattle.lists.specs.Lists.{pick, same}
use Rattle.lists.proofs.Tests.{true-or-false, same_true}
use Rattle.scheme.specs.Scheme.{Scheme, scheme}
use Rattle.table.specs.Causes.{are_counts_right, first_failed, tests, cause_sparing, cause}
use Rattle.table.proofs.Accepted.{accepted}
use Rattle.rewriting.specs.Rewriting.{rewritten}
use Rattle.rewriting.specs.Outcomes.{rewrite_cause}
use Rattle.rewriting.proofs.Theorem.{rewritten-accepted}
use Rattle.net.specs.Image.{Label, label_of}
use Rattle.net.specs.Net.{transition_at, encode}
use Rattle.net.proofs.Encode as Encode
use Rattle.places.specs.Values.{Values}
use Rattle.places.specs.Reach.{values_for}
use Rattle.places.specs.Transitions.{Description, skip, descriptions}
use Rattle.places.specs.Image.{net_with, image_of}
use Rattle.places.proofs.Rows.{places-length}
use Rattle.places.proofs.Controls.{nodes-are, control-few}
use Rattle.places.proofs.Ascends.{net-ascends, transition-count, label_is, image-is}
use Rattle.print.specs.Answers.{Outcome, done, written, answered}
use Rattle.print.specs.Words.{words_of}
use Rattle.print.specs.Listing.{listing}
use Rattle.print.specs.Program.{is_odd, odd_cause, program_cause, image_text, program_text}
use Rattle.print.proofs.Lengths.{Each, SmallLabel, refusal-length, listing-length}
use Rattle.print.proofs.Labels.{label-of, labels-small}
use Rattle.print.proofs.Programs.{odd-some}

-- ---- refusals

failed-few : (ts : List (ℕ × Bool)) → Each (λ t. t.0 ≤ 9) ts → first_failed ts ≤ 9
unfolding first_failed
failed-few [] h = omega arith
failed-few (t ∷ ts) h = go t.1 (failed-few ts h.1)
  where
    go : (b : Bool) → first_failed ts ≤ 9 → pick b (first_failed ts) t.0 ≤ 9
    go true l = l
    go false l = h.0

cause-few : (w : List ℕ) → cause_sparing w true ≤ 9
unfolding cause_sparing
cause-few w = failed-few (tests w true)
    (omega arith, (omega arith, (omega arith, (omega arith, (omega arith, (omega arith, (omega arith, (omega arith, (omega arith, tt)))))))))

pick-few : (b : Bool) (m n : ℕ) → m ≤ 9 → n ≤ 9 → pick b m n ≤ 9
pick-few true m n k l = k
pick-few false m n k l = l

program-few : (bytes : List ℕ) → program_cause bytes ≤ 9
unfolding program_cause rewrite_cause
program-few bytes =
    let w = words_of bytes in
    let c = cause_sparing w true in
    let l = cause-few w in
    pick-few (is_odd bytes) _ _ (pick-few (same c 1 || same c 2) c 3 l (omega arith))
    (pick-few (same c 0) _ c (pick-few (are_counts_right (rewritten w)) 0 2 (omega arith) (omega arith)) l)

-- nothing refused: no odd byte, and the rewritten table is accepted
program-none : (bytes : List ℕ) → program_cause bytes ≡ 0 → rewrite_cause (words_of bytes) ≡ 0
unfolding program_cause
program-none bytes h = go (is_odd bytes) h
  where
    go : (b : Bool) → pick b (odd_cause (cause_sparing (words_of bytes) true)) (rewrite_cause (words_of bytes)) ≡ 0 → rewrite_cause (words_of bytes) ≡ 0
    go true e = absurd (odd-some _ e)
    go false e = e

-- ---- listings

module _ (w : List ℕ) (h : cause w ≡ 0) where
  abbrev S : Scheme
  S = scheme w

  abbrev U : Values
  U = values_for (scheme w)

  -- stands past the last description
  abbrev none : Description
  none = record { label = label_of 0 0 0; moves = []; tests = []; command = skip }

  few-places : (net_with S U).places ≤ 65536
  unfolding net_with
  few-places = omega (arith, places-length S U, nodes-are w, control-few w h S.nodes (omega (arith, nodes-are w)))

  labels : (k : ℕ) → k < length (net_with S U).transitions → SmallLabel (transition_at (net_with S U) k).label
  labels k l =
      let i : k < length (descriptions S U) = omega (arith, Encode.transition-count (net_with S U), transition-count S U) in
      subst (λ (x : Label). SmallLabel x) (sym (label_is S U none k i) ∙ Encode.label-at (net_with S U) k l)
      (label-of (descriptions S U) none k (labels-small S U (accepted w h)) i)

  listing-few : length (image_of w) ≤ 16384 → length (listing (image_of w)) ≤ 98334
  listing-few l =
      let f : length (encode (net_with S U)) ≤ 16384 = rw (image-is w) at l in
      rw (image-is w) (omega (arith, listing-length (net_with S U) f few-places (net-ascends S U) labels))

  image-few : length (image_text (image_of w)) ≤ 98334
  image-few = go (dec_le (length (image_of w)) 16384)
    where
      go : Dec (length (image_of w) ≤ 16384) → length (image_text (image_of w)) ≤ 98334
      go (yes l) = rw (le-ltb 16384 (length (image_of w)) l) (listing-few l)
      go (no l) = rw (lt-ltb 16384 (length (image_of w)) (omega arith)) (omega (arith, refusal-length 10 (omega arith)))

-- the buffer of the listing program holds every text that it prints
pub program-fits : (bytes : List ℕ) → length (program_text bytes) ≤ 262144
unfolding program_text
program-fits bytes = go (true-or-false (same (program_cause bytes) 0))
  where
    go : (same (program_cause bytes) 0 ≡ true) ⊎ (same (program_cause bytes) 0 ≡ false) → length (program_text bytes) ≤ 262144
    go (inl p) =
        let w = words_of bytes in
        let h = rewritten-accepted w (program-none bytes (same_true _ _ p)) in
        rw p (omega (arith, image-few (rewritten w) h))
    go (inr p) = let l = program-few bytes in rw p (omega (arith, refusal-length (program_cause bytes) (omega arith)))

-- so the answer is never that there is no room
pub whole-text : (bytes lent : List ℕ) → length lent ≡ 262144 → {o : Outcome} → o ≡ answered (program_text bytes) lent → o ≡ written (program_text bytes) lent
unfolding answered
whole-text bytes lent n e = e ∙ rw (le-ltb (length lent) (length (program_text bytes)) (omega (arith, program-fits bytes)))

-- what is written lies within the output
pub printed-within : (bytes lent left : List ℕ) (size : ℕ) → done size left ≡ written (program_text bytes) lent → size ≤ length left
printed-within bytes lent left size e =
    let text = program_text bytes in
    let v : some size ≡ some (length text) = ap (λ (o : Outcome). o.value) e in
    let n : size ≡ length text = cc in
    omega (arith, ap (λ (o : Outcome). length o.left) e, length-append text (drop (length text) lent))
