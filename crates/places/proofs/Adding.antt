-- Counts only grow, so a part of a sum is as small as the whole; and one turn of the loops that count.
use Rattle.std.proofs.Common.{◌≡◌, ℕ, ◌+◌, ◌-◌, ◌<◌, ◌≤◌, Bool, true, false, not, ◌&&◌, List, [], ◌∷◌, map, length, drop, refl, ap, ◌∙◌, subst, arith}
use Rattle.lists.specs.Lists.{pick, same, word, from, range}
use Rattle.lists.proofs.Ranges.{from_more, from-done, from-whole}
use Rattle.lists.proofs.Tests.{same-yes, same-no}
use Rattle.lists.proofs.Slices.{drop-step, drop-none}
use Rattle.scheme.specs.Words.{branches, branch_kind, is_stop_node, is_choice, is_new, is_silent, is_send, is_receive, node_first, node_second}
use Rattle.scheme.specs.Words.{channel, branch_name, arguments_of}
use Rattle.scheme.specs.Owners.{held, branch_thread_of}
use Rattle.places.specs.Inner.Plan.{privates_word, values, read_names_word}
use Rattle.places.specs.Answers.{Sums}
use Rattle.places.specs.Inner.Counting.{Few, add_times, over, release_sums, copy_sums, silent_sums, node_sums}
use Rattle.places.specs.Inner.Counting.{bound_bit, public_count, private_count, pair_sums, partner_sums, send_sums}

pub silent-yes : (w : List ℕ) (s : Sums) (b : ℕ) → branch_kind w b ≡ 0 → silent_sums w s b ≡ add_times s 1 1 1
unfolding silent_sums
silent-yes w s b e = rw (same-yes (branch_kind w b) 0 e)

pub silent-no : (w : List ℕ) (s : Sums) (b : ℕ) → (branch_kind w b ≡ 0 → ⊥) → silent_sums w s b ≡ s
unfolding silent_sums
silent-no w s b e = rw (same-no (branch_kind w b) 0 e)

-- ---- growth

pub record Grows (s t : Sums) : Type 0 where
  pub more-transitions : s.transitions ≤ t.transitions
  pub more-inputs : s.inputs ≤ t.inputs
  pub more-outputs : s.outputs ≤ t.outputs

pub grows_self : (s : Sums) → Grows s s
grows_self s = record { more-transitions = omega arith; more-inputs = omega arith; more-outputs = omega arith }

pub grows-on : (s t u : Sums) → Grows s t → Grows t u → Grows s u
grows-on s t u a b = record {
  more-transitions = omega (arith, a.more-transitions, b.more-transitions);
  more-inputs = omega (arith, a.more-inputs, b.more-inputs);
  more-outputs = omega (arith, a.more-outputs, b.more-outputs);
}

pub few-part : (s t : Sums) → Grows s t → Few t → Few s
few-part s t g f = record {
  few-transitions = omega (arith, g.more-transitions, f.few-transitions);
  few-inputs = omega (arith, g.more-inputs, f.few-inputs);
  few-outputs = omega (arith, g.more-outputs, f.few-outputs);
}

pub grows-times : (s : Sums) (times i o : ℕ) → Grows s (add_times s times i o)
grows-times s times i o = record { more-transitions = omega arith; more-inputs = omega arith; more-outputs = omega arith }

grows-pick : (b : Bool) (s t u : Sums) → Grows s t → Grows s u → Grows s (pick b t u)
grows-pick true s t u g h = g
grows-pick false s t u g h = h

grows-twice : (s : Sums) (n i o m j p : ℕ) → Grows s (add_times (add_times s n i o) m j p)
grows-twice s n i o m j p = grows-on s (add_times s n i o) (add_times (add_times s n i o) m j p) (grows-times s n i o) (grows-times (add_times s n i o) m j p)

-- ---- a step for each number

module _ (step : Sums → ℕ → Sums) where
  pub over-one : (s : Sums) (x : ℕ) (xs : List ℕ) → over step s (x ∷ xs) ≡ over step (step s x) xs
  unfolding over
  over-one s x xs = refl

  pub over_none : (s : Sums) → over step s [] ≡ s
  unfolding over
  over_none s = refl

  pub range-whole : (s : Sums) (e : ℕ) → over step s (range e) ≡ over step s (from 0 (e - 0))
  range-whole s e = ap (over step s) (from-whole e)

  pub range-more : (s : Sums) (i e : ℕ) → i < e → over step s (from i (e - i)) ≡ over step (step s i) (from (i + 1) (e - (i + 1)))
  range-more s i e h = rw (from_more i e h) (over-one s i (from (i + 1) (e - (i + 1))))

  pub range-done : (s : Sums) (i e : ℕ) → e ≤ i → over step s (from i (e - i)) ≡ s
  range-done s i e h = rw (from-done i e h) (over_none s)

  -- numbers made from a range
  pub map_more : (f : ℕ → ℕ) (s : Sums) (i e : ℕ) → i < e
      → over step s (map f (from i (e - i))) ≡ over step (step s (f i)) (map f (from (i + 1) (e - (i + 1))))
  map_more f s i e h = rw (from_more i e h) (over-one s (f i) (map f (from (i + 1) (e - (i + 1)))))

  pub map-done : (f : ℕ → ℕ) (s : Sums) (i e : ℕ) → e ≤ i → over step s (map f (from i (e - i))) ≡ s
  map-done f s i e h = rw (from-done i e h) (over_none s)

  -- the words of a list
  pub rest-more : (s : Sums) (xs : List ℕ) (i : ℕ) → i < length xs → over step s (drop i xs) ≡ over step (step s (word xs i)) (drop (i + 1) xs)
  rest-more s xs i h = rw (drop-step xs i h) (over-one s (word xs i) (drop (i + 1) xs))

  pub rest-done : (s : Sums) (xs : List ℕ) (i : ℕ) → length xs ≤ i → over step s (drop i xs) ≡ s
  rest-done s xs i h = rw (drop-none xs i h) (over_none s)

  module _ (grows : (s : Sums) (x : ℕ) → Grows s (step s x)) where
    pub over-grows : (s : Sums) (xs : List ℕ) → Grows s (over step s xs)
    unfolding over
    over-grows s [] = grows_self s
    over-grows s (x ∷ xs) = grows-on s (step s x) (over step (step s x) xs) (grows s x) (over-grows (step s x) xs)

    -- what is counted so far is few if all is
    pub over-few : (all s : Sums) (xs : List ℕ) → all ≡ over step s xs → Few all → Few s
    over-few all s xs e f = few-part s (over step s xs) (over-grows s xs) (subst Few e f)

    -- one turn over a range: what it counts is few, and the rest is left
    pub range-few : (all s : Sums) (i e : ℕ) → all ≡ over step s (from i (e - i)) → i < e → Few all → Few (step s i)
    range-few all s i e h l f = over-few all (step s i) (from (i + 1) (e - (i + 1))) (h ∙ range-more s i e l) f

    pub map-few : (f : ℕ → ℕ) (all s : Sums) (i e x : ℕ) → all ≡ over step s (map f (from i (e - i))) → i < e → x ≡ f i → Few all → Few (step s x)
    map-few f all s i e x h l q k = rw q (over-few all (step s (f i)) (map f (from (i + 1) (e - (i + 1)))) (h ∙ map_more f s i e l) k)

    pub rest-few : (all s : Sums) (xs : List ℕ) (i x : ℕ) → all ≡ over step s (drop i xs) → i < length xs → x ≡ word xs i → Few all → Few (step s x)
    rest-few all s xs i x h l q f = rw q (over-few all (step s (word xs i)) (drop (i + 1) xs) (h ∙ rest-more s xs i l) f)

  pub range-on : (all s t : Sums) (i e : ℕ) → all ≡ over step s (from i (e - i)) → i < e → t ≡ step s i → all ≡ over step t (from (i + 1) (e - (i + 1)))
  range-on all s t i e h l q = h ∙ range-more s i e l ∙ rw q

  pub map_on : (f : ℕ → ℕ) (all s t : Sums) (i e x : ℕ) → all ≡ over step s (map f (from i (e - i))) → i < e → x ≡ f i → t ≡ step s x
      → all ≡ over step t (map f (from (i + 1) (e - (i + 1))))
  map_on f all s t i e x h l q r = h ∙ map_more f s i e l ∙ rw (r, q)

  pub rest-on : (all s t : Sums) (xs : List ℕ) (i x : ℕ) → all ≡ over step s (drop i xs) → i < length xs → x ≡ word xs i → t ≡ step s x
      → all ≡ over step t (drop (i + 1) xs)
  rest-on all s t xs i x h l q r = h ∙ rest-more s xs i l ∙ rw (r, q)

-- ---- the steps of the counts

module _ (w : List ℕ) where
  pub release-grows : (s : Sums) (z : ℕ) → Grows s (release_sums w s z)
  unfolding release_sums
  release-grows s z = grows-twice s (public_count w (values w z)) 2 1 (private_count w (values w z)) 2 2

  pub copy-grows : (s : Sums) (a : ℕ) → Grows s (copy_sums w s a)
  unfolding copy_sums
  copy-grows s a =
      grows-twice s (public_count w (values w a)) (bound_bit w a + 1) (bound_bit w a + 2) (private_count w (values w a)) (bound_bit w a + 2) (bound_bit w a + 2)

  pub silent-grows : (s : Sums) (b : ℕ) → Grows s (silent_sums w s b)
  unfolding silent_sums
  silent-grows s b = grows-pick (is_silent w b) s (add_times s 1 1 1) s (grows-times s 1 1 1) (grows_self s)

  pub node-grows : (s : Sums) (n : ℕ) → Grows s (node_sums w s n)
  unfolding node_sums
  node-grows s n =
      grows-pick (is_stop_node w n) s _ _ (over-grows (release_sums w) release-grows s (held w n))
      (grows-pick (is_choice w n) s _ _ (over-grows (silent_sums w) silent-grows s (from (node_first w n) (node_second w n)))
      (grows-pick (is_new w n) s _ _ (grows-times s (privates_word w) (read_names_word w + 2) (read_names_word w + 2))
      (grows-on s called _
      (grows-on s (add_times s 1 1 1) called (grows-times s 1 1 1) (over-grows (copy_sums w) copy-grows (add_times s 1 1 1) (arguments_of w n)))
      (over-grows (release_sums w) release-grows called (held w n)))))
    where
      called : Sums
      called = over (copy_sums w) (add_times s 1 1 1) (arguments_of w n)

  pub pair-grows : (b : ℕ) (s : Sums) (r : ℕ) → Grows s (pair_sums w b s r)
  unfolding pair_sums
  pair-grows b s r =
      grows-pick (same (branch_name w b) (channel w b)) s _ _ (grows-twice s _ _ _ _ _ _) (grows-twice s _ _ _ _ _ _)

  pub partner-grows : (b : ℕ) (s : Sums) (r : ℕ) → Grows s (partner_sums w b s r)
  unfolding partner_sums
  partner-grows b s r =
      grows-pick (is_receive w r && not (same (branch_thread_of w r) (branch_thread_of w b))) s (pair_sums w b s r) s (pair-grows b s r) (grows_self s)

  pub send-grows : (s : Sums) (b : ℕ) → Grows s (send_sums w s b)
  unfolding send_sums
  send-grows s b =
      grows-pick (is_send w b) s (over (partner_sums w b) s (range (branches w))) s (over-grows (partner_sums w b) (partner-grows b) s (range (branches w)))
      (grows_self s)
