-- Whether a table can be rewritten, by its cause and its counts, and what the calls answer then.
use mathlib.Core.Path.{◌≡◌, sym, ap, ◌∙◌}
use mathlib.Core.Bool.{true, false}
use mathlib.Core.Logic.{◌⊎◌, inl, inr}
use mathlib.Core.Option.{some}
use mathlib.Core.List.{List, [], ◌++◌}
use Prim.Native.Nat.{ℕ, ◌+◌, ◌-◌, ◌≤◌, ◌<◌}
use native.Mathlib.Omega.{arith}
use lib.ListN.{length, length-append, get_or-append}
use lib.Seq.{sets, get_or-append-add}
use borrow.Author.Tests.{lt-ltb, le-ltb, le-leb}
use Rattle.lists.specs.Lists.{word, range}
use Rattle.lists.proofs.Tests.{true-or-false, same-yes, same-no}
use Rattle.lists.proofs.Ranges.{from-length, from-get_or}
use Rattle.scheme.specs.Words.{publics, bounds, definitions, threads, nodes, branches, arguments}
use Rattle.table.specs.Answer.{cause_number}
use Rattle.table.specs.Causes.{cause_sparing, are_counts_right}
use Rattle.table.specs.declared.Cause.{Cause}
use Rattle.table.specs.declared.Cause.TheVariants.{Short, Counts, Layout, Kinds, Ranges, Shape, Binding, Scope, Calls}
use Rattle.table.proofs.Inside.{Counted, counted}
use Rattle.process.specs.Outcomes.{Outcome, refusal, answered}
use Rattle.process.proofs.Sets.{sets-whole}
use Rattle.rewriting.specs.Rewriting.{rewritten}
use Rattle.rewriting.specs.Outcomes.{rewrite_cause, rewrite_outcome, origin_at, origin_outcome}
use Rattle.scheme.specs.Index.{IsIndex}
use Rattle.rewriting.specs.Inner.Copying.{Rows}
use Rattle.rewriting.specs.Inner.Counting.{Summed, Small, counts_within, size_with}
use Rattle.rewriting.specs.Inner.Preparing.{PreparedRight}
use Rattle.rewriting.specs.declared.copies.Counts as Copies
use Rattle.std.specs.Prelude.{Result, Ok, Err}
use Rattle.std.specs.Result.{IsErrAnd}
use Rattle.rewriting.specs.Answers.{outcome_of}
use Rattle.rewriting.specs.declared.Refusal.{Refusal}
use Rattle.rewriting.specs.declared.Refusal.TheVariants.{Table}
use Rattle.rewriting.proofs.Family.{sound}
use Rattle.rewriting.proofs.Reading

-- ---- causes

-- a cause has a number of its own
named : (cause : Cause) → 0 < cause_number cause
named Short = omega arith
named Counts = omega arith
named Layout = omega arith
named Kinds = omega arith
named Ranges = omega arith
named Shape = omega arith
named Binding = omega arith
named Scope = omega arith
named Calls = omega arith

pub ready-here : (w : List ℕ) → cause_sparing w true ≡ 0 → are_counts_right (rewritten w) ≡ true → rewrite_cause w ≡ 0
unfolding rewrite_cause
ready-here w ok h = rw (same-yes (cause_sparing w true) 0 ok, h)

pub beyond-here : (w : List ℕ) → cause_sparing w true ≡ 0 → are_counts_right (rewritten w) ≡ false → (2 ≡ rewrite_cause w) × (rewrite_cause w ≡ 0 → ⊥)
unfolding rewrite_cause
beyond-here w ok h =
    let k : rewrite_cause w ≡ 2 = rw (same-yes (cause_sparing w true) 0 ok, h) in
    (sym k, λ z. omega (arith, k, z))

-- ---- counts

module _ (w list : List ℕ) (copies counts : Copies.Counts) (R : Rows w list copies) (S : Summed w copies counts) where
  all-names : counts.names ≡ bounds (rewritten w)
  all-names = S.all-names ∙ rw R.name-row.count-is (sym (Reading.bounds-new w))

  all-definitions : counts.definitions ≡ definitions (rewritten w)
  all-definitions = S.all-definitions ∙ rw R.definition-row.count-is (sym (Reading.definitions-new w))

  all-nodes : counts.nodes ≡ nodes (rewritten w)
  all-nodes = S.all-nodes ∙ rw R.node_row.count-is (sym (Reading.nodes-new w))

  all-branches : counts.branches ≡ branches (rewritten w)
  all-branches = S.all-branches ∙ rw R.branch_row.count-is (sym (Reading.branches-new w))

  all-arguments : counts.arguments ≡ arguments (rewritten w)
  all-arguments = S.all-arguments ∙ rw R.argument-row.count-is (sym (Reading.arguments-new w))

  few : Counted w
  few = counted w (sound w R.ok).counts

  pub within-is : counts_within counts ≡ are_counts_right (rewritten w)
  unfolding counts_within are_counts_right
  within-is =
      rw (
        all-names,
        all-definitions,
        all-nodes,
        all-branches,
        all-arguments,
        le-leb (publics (rewritten w)) 32 (rw (Reading.publics-new w) few.few-publics),
        le-leb 1 (threads (rewritten w)) (rw (Reading.threads-new w) few.some-thread),
        le-leb (threads (rewritten w)) 8 (rw (Reading.threads-new w) few.few-threads),
        le-leb 1 (nodes (rewritten w)) (omega (arith, Reading.nodes-new w, few.some-node)),
      )

  pub small-counts : rewrite_cause w ≡ 0 → Small w counts
  small-counts z =
      let c = counted (rewritten w) (within z) in
      record {
        few = record {
          few-definitions = omega (arith, all-definitions, c.few-definitions);
          few-names = omega (arith, all-names, c.few-bounds);
          few-nodes = omega (arith, all-nodes, c.few-nodes);
          few-branches = omega (arith, all-branches, c.few-branches);
          few-arguments = omega (arith, all-arguments, c.few-arguments);
        };
        few-publics = few.few-publics;
        few-threads = few.few-threads;
      }
    where
      within : rewrite_cause w ≡ 0 → are_counts_right (rewritten w) ≡ true
      within e = go (true-or-false (are_counts_right (rewritten w)))
        where
          go : (are_counts_right (rewritten w) ≡ true) ⊎ (are_counts_right (rewritten w) ≡ false) → are_counts_right (rewritten w) ≡ true
          go (inl h) = h
          go (inr h) = absurd ((beyond-here w R.ok h).1 e)

  pub size_is : size_with w counts ≡ length (rewritten w)
  unfolding size_with
  size_is =
      rw (S.all-names, S.all-definitions, S.all-nodes, S.all-branches, S.all-arguments, R.name-row.count-is, R.definition-row.count-is)
      (rw (R.node_row.count-is, R.branch_row.count-is, R.argument-row.count-is) (sym (Reading.whole_length w)))

-- ---- what was prepared, by its case

pub table-refused : (w index list : List ℕ) (v : Cause) → cause_number v ≡ cause_sparing w true → (x : Result Copies.Counts Cause)
    → IsErrAnd x (λ e. e ≡ v) → PreparedRight w index list x
unfolding rewrite_cause
table-refused w index list v e (Err q) h =
    let d : cause_sparing w true ≡ 0 → ⊥ = λ z. omega (arith, named v) in
    let k : rewrite_cause w ≡ cause_sparing w true = rw (same-no (cause_sparing w true) 0 d) in
    (rw h (e ∙ sym k), λ z. d (sym k ∙ z))
table-refused w index list v e (Ok c) h = absurd h

module _ (w index list : List ℕ) (x : Result Copies.Counts Cause) (right : PreparedRight w index list x) where
  pub prepared-ready : (c : Copies.Counts) → x ≡ Ok c → (rewrite_cause w ≡ 0) × IsIndex w index × Rows w list c
  prepared-ready c e = rw e at right

  pub prepared-refused : (v : Cause) → x ≡ Err v → (cause_number v ≡ rewrite_cause w) × (rewrite_cause w ≡ 0 → ⊥)
  prepared-refused v e = rw e at right

-- ---- answers

pub ready-origin : (w origins : List ℕ) (number : ℕ) → rewrite_cause w ≡ 0 → origin_at origins number ≡ origin_outcome w origins number
unfolding origin_outcome
ready-origin w origins number e = rw (same-yes (rewrite_cause w) 0 e)

pub no_room : (w lent : List ℕ) (n : ℕ) → rewrite_cause w ≡ 0 → n ≡ length (rewritten w) → length lent < n → refusal 10 lent ≡ rewrite_outcome w lent
unfolding rewrite_outcome answered
no_room w lent n e f l = rw (same-yes (rewrite_cause w) 0 e, lt-ltb (length lent) (length (rewritten w)) (omega (arith, f)))

pub all-written : (w lent after : List ℕ) (n : ℕ) → rewrite_cause w ≡ 0 → n ≡ length (rewritten w) → n ≤ length lent → after ≡ sets lent 0 (rewritten w)
    → ◌≡◌ {A = Outcome} (record { number = 0; value = some n; left = after }) (rewrite_outcome w lent)
unfolding rewrite_outcome answered
all-written w lent after n e f l s =
    let k : length (rewritten w) ≤ length lent = omega (arith, f) in
    rw (same-yes (rewrite_cause w) 0 e, le-ltb (length lent) (length (rewritten w)) k, s ∙ sets-whole lent (rewritten w) k, f)

-- the cause passed on
module _ (w : List ℕ) (v : Cause) (n : cause_number v ≡ rewrite_cause w) (d : rewrite_cause w ≡ 0 → ⊥) where
  pub rewriting-refused : (lent : List ℕ) (r : Result ℕ Refusal) → IsErrAnd r (λ e. e ≡ Table v) → outcome_of r lent ≡ rewrite_outcome w lent
  unfolding rewrite_outcome
  rewriting-refused lent (Err q) h = rw (h, same-no (rewrite_cause w) 0 d, n)
  rewriting-refused lent (Ok c) h = absurd h

  pub origin-refused : (origins : List ℕ) (number : ℕ) (r : Result ℕ Refusal) → IsErrAnd r (λ e. e ≡ Table v) → outcome_of r [] ≡ origin_outcome w origins number
  unfolding origin_outcome
  origin-refused origins number (Err q) h = rw (h, same-no (rewrite_cause w) 0 d, n)
  origin-refused origins number (Ok c) h = absurd h

-- ---- originals

module _ (old number : ℕ) (originals : List ℕ) where
  origins-length : length (range old ++ originals) ≡ old + length originals
  origins-length = length-append (range old) originals ∙ rw (from-length 0 old)

  pub itself : number < old → ◌≡◌ {A = Outcome} (record { number = 0; value = some number; left = [] }) (origin_at (range old ++ originals) number)
  unfolding origin_at
  itself l =
      let e : word (range old ++ originals) number ≡ number =
      get_or-append (range old) originals 0 number (rw (from-length 0 old) l) ∙ from-get_or 0 old number l ∙ omega arith in
      rw (origins-length, lt-ltb number (old + length originals) (omega arith), e)

  pub of-copy : (r : ℕ) → old ≤ number → number - old < length originals → r ≡ word originals (number - old)
      → ◌≡◌ {A = Outcome} (record { number = 0; value = some r; left = [] }) (origin_at (range old ++ originals) number)
  unfolding origin_at
  of-copy r h l s =
      let k : number ≡ length (range old) + (number - old) = rw (from-length 0 old) (omega arith) in
      let e : word (range old ++ originals) number ≡ r =
      ap (word (range old ++ originals)) k ∙ get_or-append-add (range old) originals (number - old) 0 ∙ sym s in
      rw (origins-length, lt-ltb number (old + length originals) (omega arith), e)

  pub missing : old ≤ number → length originals ≤ number - old → refusal 5 [] ≡ origin_at (range old ++ originals) number
  unfolding origin_at
  missing h l = rw (origins-length, le-ltb number (old + length originals) (omega arith))
