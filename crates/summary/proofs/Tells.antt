-- What the marking's summary tells: the transition that a search finds, how many are enabled; and that a check lets no other summary through.
use Rattle.std.proofs.Common.{◌≡◌, ℕ, zero, suc, ◌+◌, ◌-◌, ◌*◌, ◌<◌, ◌≤◌, Bool, true, false, not, List, ◌++◌, length, refl, ap, ◌∙◌, append-nil, arith, le-ltb, lt-ltb}
use mathlib.Core.Option.{Option, none, some}
use Rattle.lists.specs.Lists.{pick, same, range, from, keep, first_from}
use Rattle.lists.proofs.Tests.{and_both, same_self, same-no}
use Rattle.lists.proofs.Ranges.{from-append, from_member}
use Rattle.lists.proofs.Members.{keep_append, keep_same, keep-none}
use Rattle.lists.proofs.First.{first-here, first_more, first-none, first-same}
use Rattle.net.specs.Image.{place_count_of, transition_count, is_header_right, record_right, are_records_right, inputs_at}
use Rattle.net.specs.Firing.{is_marking, is_enabled, lowest, malformed, search_from, lowest_enabled}
use Rattle.net.proofs.Images.{record_of}
use Rattle.summary.specs.Sets.{is_in_set, words_of, lowest_in, number_in}
use Rattle.summary.specs.Summary.{Summary, set_length, is_on, summary_of, alike, same_summary}
use Rattle.summary.specs.Calls.{are_lengths_right, check_cause}
use Rattle.summary.specs.Claims.{found_by, Tells}
use Rattle.summary.proofs.Tested.{words-length, is-in}
use Rattle.summary.proofs.Entries.{alike-true}

same-is : (s t : Summary) → same_summary s t ≡ true → s ≡ t
unfolding same_summary
same-is s t e =
    let a = and_both (alike s.counts t.counts) (alike s.enabled t.enabled) e in
    rw (alike-true s.counts t.counts a.0, alike-true s.enabled t.enabled a.1) refl

module _ (w m : List ℕ) where
  on_below : (u : ℕ) → u < transition_count w → is_on w m u ≡ is_enabled m (inputs_at w u)
  on_below u h = rw (lt-ltb u (transition_count w) h) refl

  on-past : (u : ℕ) → transition_count w ≤ u → is_on w m u ≡ false
  on-past u h = rw (le-ltb u (transition_count w) h) refl

  -- ---- the lowest

  -- the first number from t on that is in the set, or none of its bits
  abbrev told : ℕ → ℕ → Option ℕ
  told bits k = pick (same k bits) none (some k)

  search-tells : are_records_right w ≡ true → (bits : ℕ) → transition_count w ≤ bits → (left t : ℕ) → t + left ≡ transition_count w
      → told bits (first_from (bits - t) (is_on w m) t bits) ≡ found_by (search_from w m left t)
  unfolding search_from
  search-tells R bits b zero t e =
      rw (first-none (is_on w m) bits (bits - t) t (λ i l k. on-past i (omega arith)), same_self bits) refl
  search-tells R bits b (suc left) t e =
      go (is_enabled m (inputs_at w t)) refl (search-tells R bits b left (t + 1) (omega arith))
    where
      below : t < transition_count w
      below = omega arith

      go : (a : Bool) → is_enabled m (inputs_at w t) ≡ a
          → told bits (first_from (bits - (t + 1)) (is_on w m) (t + 1) bits) ≡ found_by (search_from w m left (t + 1))
          → told bits (first_from (bits - t) (is_on w m) t bits)
          ≡ found_by (pick (not (record_right w t)) malformed (pick (is_enabled m (inputs_at w t)) (lowest t) (search_from w m left (t + 1))))
      go true p ih =
          rw (
            record_of w R t below,
            p,
            first-here (is_on w m) bits t bits (omega arith) (on_below t below ∙ p),
            same-no t bits (λ q. omega arith),
          ) refl
      go false p ih =
          rw (record_of w R t below, p, first_more (is_on w m) bits t bits (omega arith) (on_below t below ∙ p)) ih

  lowest-told : are_records_right w ≡ true → lowest_in (summary_of w m).enabled ≡ found_by (lowest_enabled w m)
  unfolding lowest_in summary_of lowest_enabled
  lowest-told R =
      ap (λ (k : ℕ). told (64 * k) (first_from (64 * k) (is_in_set (words_of (is_on w m) (set_length w))) 0 (64 * k))) (words-length (is_on w m) (set_length w))
      ∙ ap (told (64 * set_length w))
      (first-same (is_in_set (words_of (is_on w m) (set_length w))) (is_on w m) (64 * set_length w) (64 * set_length w) 0
      (λ i l k. is-in (is_on w m) (set_length w) i (omega arith)) ∙ ap (λ (k : ℕ). first_from k (is_on w m) 0 (64 * set_length w)) whole)
      ∙ search-tells R (64 * set_length w) (omega arith) (transition_count w) 0 (omega arith)
    where
      whole : 64 * set_length w ≡ 64 * set_length w - 0
      whole = omega arith

  -- ---- their number

  number-told : number_in (summary_of w m).enabled ≡ length (keep (λ t. is_enabled m (inputs_at w t)) (range (transition_count w)))
  unfolding number_in summary_of
  number-told =
      let n = transition_count w in
      let rest = 64 * set_length w - n in
      let e : 64 * set_length w ≡ n + rest = omega arith in
      rw (words-length (is_on w m) (set_length w))
      (ap length
      (keep_same (is_in_set (words_of (is_on w m) (set_length w))) (is_on w m) (range (64 * set_length w))
      (λ x k. is-in (is_on w m) (set_length w) x (omega (arith, (from_member x 0 (64 * set_length w) k).1)))
      ∙ ap (λ (k : ℕ). keep (is_on w m) (range k)) e
      ∙ ap (keep (is_on w m)) (from-append 0 n rest)
      ∙ keep_append (is_on w m) (range n) (from (0 + n) rest)
      ∙ ap (λ (l : List ℕ). keep (is_on w m) (range n) ++ l)
      (keep-none (is_on w m) (from (0 + n) rest) (λ x k. on-past x (omega (arith, (from_member x (0 + n) rest k).0))))
      ∙ append-nil (keep (is_on w m) (range n))
      ∙ keep_same (is_on w m) (λ t. is_enabled m (inputs_at w t)) (range n) (λ x k. on_below x (omega (arith, (from_member x 0 n k).1)))))

  -- ---- a summary that a check lets through

  checked-is : (s : Summary) → check_cause w m s ≡ 0 → s ≡ summary_of w m
  unfolding check_cause
  checked-is s h =
      go (not (is_header_right w)) (not (is_marking (place_count_of w) m)) (not (are_lengths_right w s)) (not (are_records_right w)) (same_summary s (summary_of w m)) refl h
    where
      go : (a b c d r : Bool) → same_summary s (summary_of w m) ≡ r
          → ◌≡◌ {A = ℕ} (pick a 11 (pick b 13 (pick c 20 (pick d 12 (pick (not r) 20 0))))) 0 → s ≡ summary_of w m
      go true b c d r e z = let y : ◌≡◌ {A = ℕ} 11 0 = z in absurd (omega arith)
      go false true c d r e z = let y : ◌≡◌ {A = ℕ} 13 0 = z in absurd (omega arith)
      go false false true d r e z = let y : ◌≡◌ {A = ℕ} 20 0 = z in absurd (omega arith)
      go false false false true r e z = let y : ◌≡◌ {A = ℕ} 12 0 = z in absurd (omega arith)
      go false false false false false e z = let y : ◌≡◌ {A = ℕ} 20 0 = z in absurd (omega arith)
      go false false false false true e z = same-is s (summary_of w m) e

  pub tells : Tells w m
  tells = record { lowest = lowest-told; number = number-told; checked = checked-is }
