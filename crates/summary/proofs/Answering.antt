-- What the calls answer, cause by cause.
use Rattle.std.proofs.Common.{◌≡◌, ℕ, ◌<◌, ◌≤◌, Bool, true, false, not, ◌&&◌, ltb, List, ◌++◌, length, drop, sym, refl, ap, ◌∙◌, le-ltb, lt-ltb}
use Rattle.lists.specs.Lists.{pick, same}
use Rattle.lists.proofs.Tests.{and_both, and_intro, or-true, same_true, same-yes}
use Rattle.net.specs.Image.{place_count_of, transition_count, is_header_right, are_records_right}
use Rattle.net.specs.Firing.{is_marking, Step, made, refused, step}
use Rattle.net.specs.declared.Cause.{Cause}
use Rattle.net.specs.Answers.{cause_number}
use Rattle.net.specs.Lent.{lent_cause}
use Rattle.net.proofs.Lent.{refused_first}
use Rattle.net.proofs.Steps.{marking-length}
use Rattle.summary.specs.Summary.{Summary, summary, set_length, summary_of, same_summary, worked_out, shares}
use Rattle.summary.specs.Calls as Calls
use Rattle.summary.specs.Calls.{keeps, are_lengths_right, make_summary, fire_with, check_cause}
use Rattle.std.specs.Prelude.{Ok}
use Rattle.summary.specs.Answers.{keep_outcome}
use Rattle.summary.specs.Inner.Marks.{Sound, Fits}

-- ---- what the tests before it tell

pub records-known : (w : List ℕ) (r : Bool) → is_header_right w ≡ true → r ≡ (is_header_right w && are_records_right w) → are_records_right w ≡ r
records-known w r a e = sym (e ∙ ap (λ (b : Bool). b && are_records_right w) a)

pub sound : (w m : List ℕ) → is_header_right w ≡ true → is_marking (place_count_of w) m ≡ true → are_records_right w ≡ true → Sound w m
sound w m a b d = record { header = a; records = d; places = marking-length (place_count_of w) m b }

pub fits : (w counts enabled : List ℕ) → are_lengths_right w (summary counts enabled) ≡ true → Fits w counts enabled
fits w counts enabled h =
    let e = and_both (same (length counts) (transition_count w)) (same (length enabled) (set_length w)) h in
    record { counted = same_true (length counts) (transition_count w) e.0; words = same_true (length enabled) (set_length w) e.1 }

-- ---- a summary made

module _ (w m : List ℕ) (s : Summary) where
  pub make_refused : (x : Cause) → cause_number x ≡ lent_cause w m → Calls.makes (cause_number x) 0 s ≡ make_summary w m s
  unfolding make_summary
  make_refused x e = refused_first w m x e (λ c. Calls.makes c 0 s) _

  module _ (a : is_header_right w ≡ true) where
    module _ (b : is_marking (place_count_of w) m ≡ true) where
      pub make-no-record : are_records_right w ≡ false → make_summary w m s ≡ Calls.makes 12 0 s
      unfolding make_summary
      make-no-record d = rw (a, b, d)

      module _ (d : are_records_right w ≡ true) where
        pub make-few-counts : length s.counts < transition_count w → make_summary w m s ≡ Calls.makes 10 0 s
        unfolding make_summary
        make-few-counts h = rw (a, b, d, lt-ltb (length s.counts) (transition_count w) h)

        pub make-few-words : length s.enabled < set_length w → make_summary w m s ≡ Calls.makes 10 0 s
        unfolding make_summary
        make-few-words h = rw (a, b, d, lt-ltb (length s.enabled) (set_length w) h, or-true (ltb (length s.counts) (transition_count w)))

        pub make-whole : transition_count w ≤ length s.counts → set_length w ≤ length s.enabled → (counts enabled : List ℕ)
            → summary counts enabled ≡ summary_of w m
            → make_summary w m s ≡ Calls.makes 0 (transition_count w)
            (summary (counts ++ drop (transition_count w) s.counts) (enabled ++ drop (set_length w) s.enabled))
        unfolding make_summary
        make-whole h k counts enabled e =
            rw (a, b, d, le-ltb (length s.counts) (transition_count w) h, le-ltb (length s.enabled) (set_length w) k, ← e) refl

-- ---- a firing with a summary

module _ (w m : List ℕ) (s : Summary) (t : ℕ) where
  pub keep_refused : (x : Cause) → cause_number x ≡ lent_cause w m → keeps (cause_number x) 0 m s ≡ fire_with w m s t
  unfolding fire_with
  keep_refused x e = refused_first w m x e (λ c. keeps c 0 m s) _

  module _ (a : is_header_right w ≡ true) where
    module _ (b : is_marking (place_count_of w) m ≡ true) where
      pub keep-no-lengths : are_lengths_right w s ≡ false → fire_with w m s t ≡ keeps 20 0 m s
      unfolding fire_with
      keep-no-lengths c = rw (a, b, c)

      module _ (c : are_lengths_right w s ≡ true) where
        pub keep-no-number : transition_count w ≤ t → fire_with w m s t ≡ keeps 14 0 m s
        unfolding fire_with
        keep-no-number h = rw (a, b, c, le-ltb t (transition_count w) h)

        module _ (h : t < transition_count w) where
          pub keep-no-record : are_records_right w ≡ false → fire_with w m s t ≡ keeps 12 0 m s
          unfolding fire_with
          keep-no-record d = rw (a, b, c, lt-ltb t (transition_count w) h, d)

          module _ (d : are_records_right w ≡ true) where
            keep-step : fire_with w m s t
                ≡ elim (step w m t) [ made next ↦ keeps 0 1 next (worked_out w (shares w t) next s) | refused cause ↦ keeps cause 0 m s ]
            unfolding fire_with
            keep-step = rw (a, b, c, lt-ltb t (transition_count w) h, d) refl

            -- as one firing goes
            pub keep-made : (next : List ℕ) → step w m t ≡ made next → fire_with w m s t ≡ keeps 0 1 next (worked_out w (shares w t) next s)
            keep-made next e =
                keep-step
                ∙ ap (λ (r : Step). elim r [ made x ↦ keeps 0 1 x (worked_out w (shares w t) x s) | refused cause ↦ keeps cause 0 m s ]) e

            pub keep-refused : (j : ℕ) → step w m t ≡ refused j → fire_with w m s t ≡ keeps j 0 m s
            keep-refused j e =
                keep-step
                ∙ ap (λ (r : Step). elim r [ made x ↦ keeps 0 1 x (worked_out w (shares w t) x s) | refused cause ↦ keeps cause 0 m s ]) e

-- what the call leaves, as its answer
pub answer-made : (m next counts enabled : List ℕ) (s : Summary) → m ≡ next → summary counts enabled ≡ s → keep_outcome (Ok tt) m counts enabled ≡ keeps 0 1 next s
answer-made m next counts enabled s p q = rw (p, q) refl

-- lists of the lengths asked for
pub lengths-known : (w counts enabled : List ℕ) → Fits w counts enabled → are_lengths_right w (summary counts enabled) ≡ true
lengths-known w counts enabled f =
    and_intro (same (length counts) (transition_count w)) (same (length enabled) (set_length w)) (same-yes (length counts) (transition_count w) f.counted)
    (same-yes (length enabled) (set_length w) f.words)

-- ---- a summary checked

module _ (w m : List ℕ) (s : Summary) where
  pub check_refused : (x : Cause) → cause_number x ≡ lent_cause w m → cause_number x ≡ check_cause w m s
  unfolding check_cause
  check_refused x e = refused_first w m x e (λ c. c) _

  module _ (a : is_header_right w ≡ true) where
    module _ (b : is_marking (place_count_of w) m ≡ true) where
      pub check-no-lengths : are_lengths_right w s ≡ false → check_cause w m s ≡ 20
      unfolding check_cause
      check-no-lengths c = rw (a, b, c)

      module _ (c : are_lengths_right w s ≡ true) where
        pub check-no-record : are_records_right w ≡ false → check_cause w m s ≡ 12
        unfolding check_cause
        check-no-record d = rw (a, b, c, d)

        pub check-contents : are_records_right w ≡ true → (r : Bool) → r ≡ same_summary s (summary_of w m) → check_cause w m s ≡ pick (not r) 20 0
        unfolding check_cause
        check-contents d r e = rw (a, b, c, d, ← e) refl
