-- Demand 3: one claim about every list of firings, runs and replays on a net's image. The built image of every accepted table meets it (proofs/Theorem.antt).
use Rattle.std.specs.Prelude.{◌≡◌, Bool, true, not, ◌&&◌, ◌||◌, List, [], ◌∷◌, ◌++◌, map, ℕ, suc, ◌+◌, ◌*◌, ◌^◌, ◌≤◌, leb, length}
use Rattle.lists.specs.Lists.{pick, same, every}
use Rattle.scheme.specs.Words.{publics, bounds}
use Rattle.scheme.specs.Scheme.{scheme}
use Rattle.process.specs.States.{State, start}
use Rattle.process.specs.Steps.{Step, is_step_open}
use Rattle.process.specs.Labels.{label_of}
use Rattle.process.specs.StateWords.{state_words}
use Rattle.readback.specs.Reading.{reading_back, words}
use Rattle.fidelity.specs.Calls.{Call, fire, Answer, label_words, step_at, is_quiet, advance, World, after, world}

-- a call that no cause refuses
abbrev pub is_answer_accepted : Answer → Bool
is_answer_accepted a = same a.cause 0

-- a table's words and an image's
module _ (w image : List ℕ) where
  -- each firing is bookkeeping, or the step that its label names, open when its turn comes
  unfoldable pub lawful : State → List ℕ → Bool
  lawful s [] = true
  lawful s (number ∷ numbers) = (is_quiet w image number || is_step_open (scheme w) s (step_at w image number)) && lawful (advance w image s number) numbers

  -- no more than `most` bookkeeping firings follow in a row; `row` have come last
  unfoldable pub rows_within : ℕ → ℕ → List ℕ → Bool
  rows_within most row [] = leb row most
  rows_within most row (number ∷ numbers) = leb row most && rows_within most (pick (is_quiet w image number) (suc row) 0) numbers

  -- what further calls answer, made one by one where the list has led
  abbrev pub answers_from : World → List Call → List Answer
  answers_from v calls = (after w image (record { marking = v.marking; plain = v.plain; answers = [] }) calls).answers

  -- "A step can be fired after k firings if some k bookkeeping numbers, then one with its label, are accepted in turn.": each by a call of its own
  pub record CanFire (v : World) (step : Step) : Type 0 where
    pub before : List ℕ
    pub number : ℕ
    pub few : length before ≤ bounds w
    pub quiet : every (is_quiet w image) before ≡ true
    pub label : label_words w image number ≡ label_of (scheme w) step
    pub names : step_at w image number ≡ step
    pub accepted : every is_answer_accepted (answers_from v (map fire (before ++ (number ∷ [])))) ≡ true

  pub record Demand3 (calls : List Call) : Type 0 where
    -- no call answers 16
    pub safe : every (λ a. not (same a.cause 16)) (world w image calls).answers ≡ true
    -- "After the list, reading back gives this state's words."
    pub reads : reading_back w (world w image calls).marking ≡ words (state_words (scheme w) (world w image calls).plain.state)
    -- each firing made is bookkeeping or the one open step that its label names
    pub steps : lawful (start (scheme w)) (world w image calls).plain.made ≡ true
    -- each open step can be fired after at most B bookkeeping firings
    pub live : (step : Step) → is_step_open (scheme w) (world w image calls).plain.state step ≡ true → CanFire (world w image calls) step
    -- never more than 2B bookkeeping firings in a row
    pub settles : rows_within (2 * bounds w) 0 (world w image calls).plain.made ≡ true
    -- the image has at most (table words + public names)⁴ words
    pub small : length image ≤ (length w + publics w) ^ 4
