-- "If the summary was the marking's, it is so after any accepted firing; a refused one changes none of it." (document 02, Item 5)
use Rattle.std.proofs.Common.{◌≡◌, ℕ, ◌*◌, ◌<◌, Bool, true, false, not, ◌&&◌, ltb, List, map, refl, ◌∙◌, arith, le-ltb, lt-ltb}
use native.Mathlib.Decide.{dec_lt}
use Rattle.lists.specs.Lists.{pick, word, range}
use Rattle.lists.proofs.Stores.{word-range}
use Rattle.net.specs.Image.{place_count_of, transition_count, is_header_right, are_records_right, inputs_at, outputs_at}
use Rattle.net.specs.Firing.{is_marking, is_enabled, moved, Step, made, refused, step}
use Rattle.net.proofs.Outcomes.{makes}
use Rattle.summary.specs.Sets.{is_in_set, words_of}
use Rattle.summary.specs.Summary.{Summary, unmarked, is_on, summary_of, shares, worked_out, set_length}
use Rattle.summary.specs.Calls.{are_lengths_right, KeepOutcome, keeps, fire_with}
use Rattle.summary.specs.Claims.{Stays}
use Rattle.summary.proofs.Frame.{frame-enabled, frame-unmarked}
use Rattle.summary.proofs.Tested.{map-range-same, is-in, words_same}

module _ (w m : List ℕ) (t : ℕ) where
  abbrev after : List ℕ
  after = moved m (inputs_at w t) (outputs_at w t)

  stays-summary : worked_out w (shares w t) after (summary_of w m) ≡ summary_of w after
  unfolding worked_out summary_of
  stays-summary = rw (counts, set) refl
    where
      count : (u : ℕ) → u < transition_count w → (b : Bool) → shares w t u ≡ b
          → pick b (unmarked after (inputs_at w u)) (word (map (λ v. unmarked m (inputs_at w v)) (range (transition_count w))) u)
          ≡ unmarked after (inputs_at w u)
      count u l true e = refl
      count u l false e = word-range (λ v. unmarked m (inputs_at w v)) (transition_count w) u l ∙ frame-unmarked w m t u e

      counts : map (λ u. pick (shares w t u) (unmarked after (inputs_at w u)) (word (map (λ v. unmarked m (inputs_at w v)) (range (transition_count w))) u))
          (range (transition_count w)) ≡ map (λ u. unmarked after (inputs_at w u)) (range (transition_count w))
      counts = map-range-same _ _ (transition_count w) (λ u y. count u y (shares w t u) refl)

      on : (u : ℕ) → u < 64 * set_length w → Dec (u < transition_count w) → (b : Bool) → shares w t u ≡ b
          → pick (ltb u (transition_count w) && b) (is_enabled after (inputs_at w u)) (is_in_set (words_of (is_on w m) (set_length w)) u) ≡ is_on w after u
      on u l (yes k) true e = rw (lt-ltb u (transition_count w) k) refl
      on u l (yes k) false e = rw (is-in (is_on w m) (set_length w) u l, lt-ltb u (transition_count w) k) (frame-enabled w m t u e)
      on u l (no k) b e = rw (is-in (is_on w m) (set_length w) u l, le-ltb u (transition_count w) (omega arith)) refl

      set : words_of (λ u. pick (ltb u (transition_count w) && shares w t u) (is_enabled after (inputs_at w u)) (is_in_set (words_of (is_on w m) (set_length w)) u))
          (set_length w) ≡ words_of (is_on w after) (set_length w)
      set = words_same _ _ (set_length w) (λ u l. on u l (dec_lt u (transition_count w)) (shares w t u) refl)

  -- what a firing answers and leaves, by the results of its tests
  module _ (s : Summary) where
    abbrev last : Step → KeepOutcome
    last r = elim r [ made next ↦ keeps 0 1 next (worked_out w (shares w t) next s) | refused cause ↦ keeps cause 0 m s ]

    abbrev all : Bool → Bool → Bool → Bool → Bool → Step → KeepOutcome
    all a b c d e r =
        pick a (keeps 11 0 m s) (pick b (keeps 13 0 m s) (pick c (keeps 20 0 m s) (pick d (keeps 14 0 m s) (pick e (keeps 12 0 m s) (last r)))))

  -- a firing with the marking's summary leaves the summary of the marking that it leaves
  kept-summary : (fire_with w m (summary_of w m) t).left ≡ summary_of w (fire_with w m (summary_of w m) t).marking
  unfolding fire_with
  kept-summary =
      go (not (is_header_right w)) (not (is_marking (place_count_of w) m)) (not (are_lengths_right w (summary_of w m))) (not (ltb t (transition_count w)))
      (not (are_records_right w)) (step w m t) refl
    where
      go : (a b c d e : Bool) (r : Step) → step w m t ≡ r
          → (all (summary_of w m) a b c d e r).left ≡ summary_of w (all (summary_of w m) a b c d e r).marking
      go true b c d e r q = refl
      go false true c d e r q = refl
      go false false true d e r q = refl
      go false false false true e r q = refl
      go false false false false true r q = refl
      go false false false false false (refused c) q = refl
      go false false false false false (made x) q = let n = (makes w m t x q).next-is in rw n stays-summary

  -- a refusal leaves all as it was
  kept-lent : (s : Summary) → (fire_with w m s t).firings ≡ 0 → fire_with w m s t ≡ keeps (fire_with w m s t).cause 0 m s
  unfolding fire_with
  kept-lent s =
      go (not (is_header_right w)) (not (is_marking (place_count_of w) m)) (not (are_lengths_right w s)) (not (ltb t (transition_count w))) (not (are_records_right w))
      (step w m t)
    where
      go : (a b c d e : Bool) (r : Step) → (all s a b c d e r).firings ≡ 0 → all s a b c d e r ≡ keeps (all s a b c d e r).cause 0 m s
      go true b c d e r z = refl
      go false true c d e r z = refl
      go false false true d e r z = refl
      go false false false true e r z = refl
      go false false false false true r z = refl
      go false false false false false (refused c) z = refl
      go false false false false false (made x) z = let y : ◌≡◌ {A = ℕ} 1 0 = z in absurd (omega arith)

  pub stays : (s : Summary) → Stays w m t s
  stays s = record { accepted = λ e. rw e kept-summary; refused = kept-lent s }
