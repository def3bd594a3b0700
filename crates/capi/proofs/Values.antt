-- A word has its whole value where the value fits 56 bits, and what `build`, `size`, `look`, `summary_make`, `start`, `step`, `read`, `rewrite` and the calls
-- for originals tell always does: of a look and of a summary since the words of an image have 32 bits. The other calls count no more than the elements of a
-- buffer, or the bits of a set.
use mathlib.Core.Path.{◌≡◌, refl}
use mathlib.Core.Bool.{Bool, true, false, not, ◌||◌}
use mathlib.Core.Logic.{◌⊎◌, inl, inr}
use mathlib.Core.Option.{some}
use mathlib.Core.List.{List, [], ◌++◌}
use Prim.Native.Nat.{ℕ, ◌+◌, ◌*◌, ◌≤◌, ◌<◌, ◌^◌}
use native.Mathlib.Nat.{mod-eq_of_lt}
use native.Mathlib.Omega.{arith}
use lib.Dec.{ltb}
use lib.ListN.{length, drop}
use borrow.Author.Tests.{ltb-true}
use Rattle.lists.specs.Lists.{pick, same, word, range, member}
use Rattle.lists.proofs.Tests.{same_true}
use Rattle.lists.proofs.Ranges.{from_member}
use Rattle.lists.proofs.Members.{member-get_or, append-member}
use Rattle.scheme.specs.Words.{threads, bounds}
use Rattle.table.specs.Causes.{cause}
use Rattle.scheme.specs.Scheme.{scheme}
use Rattle.table.proofs.Accepted.{accepted}
use Rattle.table.proofs.Passed.{passed}
use Rattle.table.proofs.Inside.{Counted, counted}
use Rattle.net.specs.Firing.{is_marking, fire}
use Rattle.net.specs.Firing as Net
use Rattle.net.specs.Image.{place_count_of, transition_count, is_header_right, are_records_right}
use Rattle.summary.specs.Summary.{Summary, summary, set_length, summary_of}
use Rattle.summary.specs.Calls.{MakeOutcome, makes, make_summary}
use Rattle.net.specs.Looking.{looked, shown, look}
use Rattle.places.specs.Reach.{values_for}
use Rattle.places.specs.Places.{places}
use Rattle.places.specs.Image.{image_of}
use Rattle.builder.specs.Answer as Build
use Rattle.builder.specs.Answer.{build_outcome, size_outcome}
use Rattle.places.proofs.Size.{image-below}
use Rattle.process.specs.States.{State}
use Rattle.process.specs.Steps.{take, is_step_open}
use Rattle.process.specs.Labels.{step_of}
use Rattle.process.specs.StateWords.{state_words, state_of, is_well_formed}
use Rattle.process.specs.Outcomes.{Outcome, refusal, answered, checked, start_outcome, step_outcome}
use Rattle.process.proofs.Stepping.{state-words-length}
use Rattle.readback.specs.Answers.{read_into, read_outcome}
use Rattle.readback.specs.Configurations.{state_shown}
use Rattle.readback.specs.Reading.{refused, words, marked, configuration, stands_for_state, reading_back}
use Rattle.rewriting.specs.Rewriting.{rewritten, node_origins, branch_origins, name_origins}
use Rattle.rewriting.specs.Outcomes.{rewrite_cause, rewrite_outcome, origin_outcome, origin_at, node_origin, branch_origin, name_origin}
use Rattle.rewriting.proofs.Reading
use Rattle.rewriting.proofs.Family.{node_of, branch-of, name_of}
use Rattle.rewriting.proofs.Theorem.{rewritten-accepted}
use Rattle.capi.specs.Returned.{packed, value_or0}

pub whole : (value code : ℕ) → value < 2 ^ 56 → packed value code ≡ value * 256 + code
unfolding packed
whole value code h = rw (mod-eq_of_lt h)

pub build-fits : (w lent : List ℕ) → (build_outcome w lent).words < 2 ^ 56
unfolding build_outcome
build-fits w lent = go (same (cause w) 0) refl
  where
    laid : cause w ≡ 0 → (b : Bool) →
        (pick b (Build.outcome 10 0 lent) (Build.outcome 0 (length (image_of w)) (image_of w ++ drop (length (image_of w)) lent))).words < 2 ^ 56
    laid h true = omega arith
    laid h false = omega (arith, image-below w h)

    go : (b : Bool) → same (cause w) 0 ≡ b → (pick b (Build.laid_outcome w lent) (Build.outcome (cause w) 0 lent)).words < 2 ^ 56
    go true e = laid (same_true (cause w) 0 e) (ltb (length lent) (length (image_of w)))
    go false e = omega arith

pub size_fits : (w : List ℕ) → (size_outcome w).words < 2 ^ 56
unfolding size_outcome
size_fits w = go (same (cause w) 0) refl
  where
    go : (b : Bool) → same (cause w) 0 ≡ b → (pick b (Build.extent 0 (length (image_of w))) (Build.extent (cause w) 0)).words < 2 ^ 56
    go true e = omega (arith, image-below w (same_true (cause w) 0 e))
    go false e = omega arith

pub look-fits : (w m : List ℕ) (t : ℕ) (next : List ℕ) → place_count_of w < 2 ^ 32 → (look w m t next).bytes < 2 ^ 56
unfolding look shown
look-fits w m t next h = go (not (same o.cause 0)) (ltb (length next) (place_count_of w))
  where
    o : Net.Outcome
    o = fire w m t

    go : (b c : Bool) →
        (pick b (looked o.cause 0 next) (pick c (looked 10 0 next) (looked 0 (place_count_of w) (o.marking ++ drop (place_count_of w) next)))).bytes < 2 ^ 56
    go true c = omega arith
    go false true = omega arith
    go false false = omega arith

pub make-fits : (w m : List ℕ) (s : Summary) → transition_count w < 2 ^ 32 → (make_summary w m s).transitions < 2 ^ 56
unfolding make_summary
make-fits w m s h =
    go (not (is_header_right w)) (not (is_marking (place_count_of w) m)) (not (are_records_right w))
    (ltb (length s.counts) (transition_count w) || ltb (length s.enabled) (set_length w))
  where
    whole : MakeOutcome
    whole =
        makes 0 (transition_count w) (summary
        ((summary_of w m).counts ++ drop (transition_count w) s.counts)
        ((summary_of w m).enabled ++ drop (set_length w) s.enabled))

    go : (a b c d : Bool) → (pick a (makes 11 0 s) (pick b (makes 13 0 s) (pick c (makes 12 0 s) (pick d (makes 10 0 s) whole)))).transitions < 2 ^ 56
    go true b c d = omega arith
    go false true c d = omega arith
    go false false true d = omega arith
    go false false false true = omega arith
    go false false false false = omega arith

-- ---- calls on states

pub record Fits (o : Outcome) : Type 0 where
  pub fits : value_or0 o.value < 2 ^ 56

either : (b : Bool) {x y : Outcome} → Fits x → Fits y → Fits (pick b x y)
either true fx fy = fx
either false fx fy = fy

refusal-fits : (number : ℕ) (lent : List ℕ) → Fits (refusal number lent)
refusal-fits number lent = record { fits = omega arith }

answered-fits : (value : ℕ) (ws lent : List ℕ) → value < 2 ^ 56 → Fits (answered value ws lent)
unfolding answered
answered-fits value ws lent h = either (ltb (length lent) (length ws)) (refusal-fits 10 lent) (record { fits = h })

checked-fits : (w lent : List ℕ) (rest : Outcome) → (cause w ≡ 0 → Fits rest) → Fits (checked w lent rest)
checked-fits w lent rest f = go (same (cause w) 0) refl
  where
    go : (b : Bool) → same (cause w) 0 ≡ b → Fits (pick b rest (refusal (cause w) lent))
    go true e = f (same_true (cause w) 0 e)
    go false e = refusal-fits (cause w) lent

state-fits : (w : List ℕ) → cause w ≡ 0 → threads w + bounds w < 2 ^ 56
unfolding scheme
state-fits w h = omega (arith, (accepted w h).few-threads, (accepted w h).few-bounds)

pub start_fits : (w lent : List ℕ) → Fits (start_outcome w lent)
unfolding start_outcome scheme
start_fits w lent = checked-fits w lent _ (λ h. answered-fits _ _ lent (state-fits w h))

pub step_fits : (w ws : List ℕ) (kind a b : ℕ) (lent : List ℕ) → Fits (step_outcome w ws kind a b lent)
unfolding step_outcome scheme
step_fits w ws kind a b lent =
    let S = scheme w in
    let x = step_of S kind a b in
    let after = state_words S (take S x (state_of S ws)) in
    checked-fits w lent _ (λ h.
    either (is_well_formed S ws)
    (either (is_step_open S (state_of S ws) x) (answered-fits (S.threads + S.bounds) after lent (state-fits w h)) (refusal-fits 19 lent))
    (refusal-fits 18 lent))

words-fit : (w : List ℕ) (s : State) → cause w ≡ 0 → length (state_words (scheme w) s) < 2 ^ 56
words-fit w s h = omega (arith, state-words-length w s, state-fits w h)

into : (lent : List ℕ) (b c : Bool) (ws : List ℕ) → length ws < 2 ^ 56 → Fits (read_into lent (pick b (refused 13) (pick c (refused 17) (words ws))))
into lent true c ws h = refusal-fits 13 lent
into lent false true ws h = refusal-fits 17 lent
into lent false false ws h = answered-fits (length ws) ws lent h

pub read_fits : (w m lent : List ℕ) → Fits (read_outcome w m lent)
unfolding read_outcome reading_back
read_fits w m lent =
    let S = scheme w in
    let U = values_for S in
    let ms = marked (places S U) m in
    let shown = state_shown S (S.publics + U.privates) (configuration S U ms) in
    checked-fits w lent (read_into lent (reading_back w m)) (λ h.
    into lent (not (is_marking (length (places S U)) m)) (not (stands_for_state S U ms)) (state_words S shown) (words-fit w shown h))

-- ---- rewriting

few : (w : List ℕ) → rewrite_cause w ≡ 0 → Counted (rewritten w)
few w h = counted (rewritten w) (passed (rewritten w) (rewritten-accepted w h)).counts

-- the room that holds every rewritten table
pub rewritten-longest : (w : List ℕ) → rewrite_cause w ≡ 0 → length (rewritten w) ≤ 2229
rewritten-longest w h =
    let c = few w h in
    omega (
      arith,
      Reading.whole_length w,
      Reading.bounds-new w,
      Reading.definitions-new w,
      Reading.threads-new w,
      Reading.nodes-new w,
      Reading.branches-new w,
      Reading.arguments-new w,
      c.few-bounds,
      c.few-definitions,
      c.few-threads,
      c.few-nodes,
      c.few-branches,
      c.few-arguments,
    )

pub rewrite-fits : (w lent : List ℕ) → Fits (rewrite_outcome w lent)
unfolding rewrite_outcome
rewrite-fits w lent = go (same (rewrite_cause w) 0) refl
  where
    go : (b : Bool) → same (rewrite_cause w) 0 ≡ b
        → Fits (pick b (answered (length (rewritten w)) (rewritten w) lent) (refusal (rewrite_cause w) lent))
    go true e = answered-fits (length (rewritten w)) (rewritten w) lent (omega (arith, rewritten-longest w (same_true (rewrite_cause w) 0 e)))
    go false e = refusal-fits (rewrite_cause w) lent

-- originals: the numbers below a count, and copies of such
module _ (n : ℕ) (copies : List ℕ) (small : n ≤ 256) (old : (x : ℕ) → member x copies ≡ true → x < n) where
  original-below : (i : ℕ) → i < length (range n ++ copies) → word (range n ++ copies) i < 256
  original-below i l = go (append-member (word (range n ++ copies) i) (range n) copies (member-get_or (range n ++ copies) i l))
    where
      go : (member (word (range n ++ copies) i) (range n) ≡ true) ⊎ (member (word (range n ++ copies) i) copies ≡ true) → word (range n ++ copies) i < 256
      go (inl m) = omega (arith, (from_member (word (range n ++ copies) i) 0 n m).1)
      go (inr m) = omega (arith, old (word (range n ++ copies) i) m)

  original-fits : (number : ℕ) → Fits (origin_at (range n ++ copies) number)
  unfolding origin_at
  original-fits number = go (ltb number (length (range n ++ copies))) refl
    where
      go : (b : Bool) → ltb number (length (range n ++ copies)) ≡ b
          → Fits (pick b (record { number = 0; value = some (word (range n ++ copies) number); left = [] }) (refusal 5 []))
      go true e = record { fits = omega (arith, original-below number (ltb-true number (length (range n ++ copies)) e)) }
      go false e = refusal-fits 5 []

checked-origin : (w origins : List ℕ) (number : ℕ) → (rewrite_cause w ≡ 0 → Fits (origin_at origins number)) → Fits (origin_outcome w origins number)
unfolding origin_outcome
checked-origin w origins number f = go (same (rewrite_cause w) 0) refl
  where
    go : (b : Bool) → same (rewrite_cause w) 0 ≡ b → Fits (pick b (origin_at origins number) (refusal (rewrite_cause w) []))
    go true e = f (same_true (rewrite_cause w) 0 e)
    go false e = refusal-fits (rewrite_cause w) []

pub original-node-fits : (w : List ℕ) (number : ℕ) → Fits (node_origin w number)
unfolding node_origins
original-node-fits w number =
    checked-origin w (node_origins w) number (λ h.
    original-fits _ _ (omega (arith, (few w h).few-nodes, Reading.nodes-new w)) (λ x m. (node_of w x m).0) number)

pub original-branch-fits : (w : List ℕ) (number : ℕ) → Fits (branch_origin w number)
unfolding branch_origins
original-branch-fits w number =
    checked-origin w (branch_origins w) number (λ h.
    original-fits _ _ (omega (arith, (few w h).few-branches, Reading.branches-new w)) (λ x m. (branch-of w x m).0) number)

pub original-name-fits : (w : List ℕ) (number : ℕ) → Fits (name_origin w number)
unfolding name_origins
original-name-fits w number =
    checked-origin w (name_origins w) number (λ h.
    original-fits _ _ (omega (arith, (few w h).few-publics, (few w h).few-bounds, Reading.names-new w)) (λ x m. (name_of w x m).1) number)
