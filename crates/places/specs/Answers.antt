-- What `plan` and `measure` answer, and what they leave in the lent words.
use Rattle.std.specs.Prelude.{ℕ, List, Result, Ok, Err, ⊤, ◌++◌, length, drop, nat_le}
use Rattle.lists.specs.Lists.{pick, same}
use Rattle.scheme.specs.Scheme.{scheme}
use Rattle.table.specs.Answer.{cause_number}
use Rattle.table.specs.Causes.{cause}
use Rattle.net.specs.Net.{input_total, output_total}
use Rattle.places.specs.Image.{net_of}
use Rattle.places.specs.Plan.{plan_words, plan_end}
use Rattle.places.specs.Sides.{pair_words, pairs_end}
use Rattle.places.specs.declared.count.Totals.{Totals}
use Rattle.places.specs.declared.Refusal.{Refusal}
use Rattle.places.specs.declared.Refusal.TheVariants.{Table, NoRoom}

-- the counts of a net's transitions and arcs
pub record Sums : Type 0 where
  pub transitions : ℕ
  pub inputs : ℕ
  pub outputs : ℕ

abbrev pub sums : ℕ → ℕ → ℕ → Sums
sums t i o = record { transitions = t; inputs = i; outputs = o }

abbrev pub sums_of : Totals → Sums
sums_of t = sums t.transitions t.inputs t.outputs

-- "Header: places, transitions, input arcs, output arcs"
unfoldable pub net_sums : List ℕ → Sums
net_sums w = let net = net_of (scheme w) in sums (length net.transitions) (input_total net) (output_total net)

-- the plan stands, without or with the counts; the table is refused, by its cause; the lent words are too few
pub data Answer : Type 0 where
  ready : Answer
  counted : Sums → Answer
  refused : ℕ → Answer
  short : Answer

-- an answer, and the lent words as the call leaves them
pub record Outcome : Type 0 where
  pub answer : Answer
  pub left : List ℕ

abbrev pub outcome : Answer → List ℕ → Outcome
outcome answer left = record { answer = answer; left = left }

abbrev pub refusal : Refusal → Answer
refusal (Table cause) = refused (cause_number cause)
refusal NoRoom = short

abbrev pub planned : Result ⊤ Refusal → List ℕ → Outcome
planned (Ok _) left = outcome ready left
planned (Err r) left = outcome (refusal r) left

-- "Checking a table precedes checking anything else"; then whether there is room. A refusal leaves the lent words.
unfoldable pub plan_outcome : List ℕ → List ℕ → Outcome
plan_outcome w lent =
    pick (same (cause w) 0) (pick (nat_le plan_end (length lent)) (outcome ready (plan_words w ++ drop plan_end lent)) (outcome short lent))
    (outcome (refused (cause w)) lent)

-- an answer, and the words lent for the plan and those lent for the pairs as the call leaves them
pub record Measurement : Type 0 where
  pub answer : Answer
  pub left : List ℕ
  pub pairs : List ℕ

abbrev pub measurement : Answer → List ℕ → List ℕ → Measurement
measurement answer left pairs = record { answer = answer; left = left; pairs = pairs }

abbrev pub answered : Result Totals Refusal → Answer
answered (Ok t) = counted (sums_of t)
answered (Err r) = refusal r

abbrev pub measured : Result Totals Refusal → List ℕ → List ℕ → Measurement
measured r left pairs = measurement (answered r) left pairs

-- the same order: the table, then whether there is room for the plan and for the pairs. A refusal leaves all lent words.
unfoldable pub measure_outcome : List ℕ → List ℕ → List ℕ → Measurement
measure_outcome w lent pairs =
    pick (same (cause w) 0)
    (pick (nat_le plan_end (length lent))
    (pick (nat_le pairs_end (length pairs))
    (measurement (counted (net_sums w)) (plan_words w ++ drop plan_end lent) (pair_words w (plan_words w) pairs))
    (measurement short lent pairs))
    (measurement short lent pairs))
    (measurement (refused (cause w)) lent pairs)
