use mathlib.Core.Path.{◌≡◌, sym, ap}
use mathlib.Core.List.{List}
use Prim.Native.Nat.{ℕ, ◌≤◌, ◌%◌, min}
use lib.ListN.{length, take, replicate, length-replicate}
use lib.Seq.{sets, length-take-le}
use Rattle.process.specs.Outcomes as process
use Rattle.rewriting.specs.Outcomes.{rewrite_outcome}
use Rattle.rewriting.specs.Answers.{outcome_of}
use Rattle.rewriting.specs.declared.Refusal.{Refusal}
use Rattle.std.specs.Prelude.{Result, Ok}
use Rattle.print.specs.Text.{refusal}
use Rattle.print.specs.Words.{words_of}
use Rattle.print.specs.Program.{program_text}
use Rattle.print.specs.Inner.Parts.{net_text}
use Rattle.print.proofs.Programs.{taken-words, odd-text, refused-text, rewritten-text}
use Rattle.print.proofs.list.Goals as goal

-- the words that are looked at
module _ (bytes table : List ℕ) (count taken : ℕ) (filled : table ≡ sets (replicate 4096 0) 0 (words_of bytes)) (counted : count ≡ length (words_of bytes))
    (least : taken ≡ min count 4096) where
  first-words : take taken table ≡ take 4096 (words_of bytes)
  first-words = taken-words (replicate 4096 0) (words_of bytes) table count taken 4096 (length-replicate {A = ℕ} 4096 0) filled counted least

  -- what `rewrite` answered
  module _ (even : length bytes % 2 ≡ 1 → ⊥) (left : List ℕ) (answer : Result ℕ Refusal)
      (was : outcome_of answer left ≡ rewrite_outcome (take taken table) (replicate 2229 0)) where
    text-refused : (m n : ℕ) → outcome_of answer left ≡ process.refusal m left → n ≡ m → refusal n ≡ program_text bytes
    text-refused = refused-text bytes _ first-words even (replicate 2229 0) left answer (length-replicate {A = ℕ} 2229 0) was

    text-rewritten : (n : ℕ) → answer ≡ Ok n → (n ≤ length left) × (net_text (take n left) ≡ program_text bytes)
    text-rewritten = rewritten-text bytes _ first-words even (replicate 2229 0) left answer (length-replicate {A = ℕ} 2229 0) was

pub returns-then-bytes-eq1 : goal.returns-then-bytes-eq1
returns-then-bytes-eq1 c =
    let f = c.fill_words in
    let first = first-words c.args.bytes.now _ _ _ f.ensures.out_after f.ensures.value c.min-count.ensures in
    rw (odd-text _ _ first c.if-bytes-eq1.true _ _ c.check_sparing.ensures c.odd_number.ensures) at c.refusal.ensures

pub slice_bounds-rewritten-end : goal.slice_bounds-rewritten-end
slice_bounds-rewritten-end c =
    let f = c.fill_words in
    (text-rewritten _ _ _ _ f.ensures.out_after f.ensures.value c.min-count.ensures c.if-bytes-eq1.false _ _ c.rewrite.ensures _ c.in-Ok.is).0

pub slice_bounds-list_net-end : goal.slice_bounds-list_net-end
slice_bounds-list_net-end c =
    let f = c.fill_words in
    let t = text-rewritten _ _ _ _ f.ensures.out_after f.ensures.value c.min-count.ensures c.if-bytes-eq1.false _ _ c.rewrite.ensures _ c.in-Ok.is in
    sym (length-take-le _ c.rewrite.new.out t.0)

pub returns-in-Ok : goal.returns-in-Ok
returns-in-Ok c =
    let f = c.fill_words in
    let t = text-rewritten _ _ _ _ f.ensures.out_after f.ensures.value c.min-count.ensures c.if-bytes-eq1.false _ _ c.rewrite.ensures _ c.in-Ok.is in
    rw t.1 at c.list_net.ensures

pub returns-in-Err : goal.returns-in-Err
returns-in-Err c =
    let f = c.fill_words in
    let a = ap (λ (x : Result ℕ Refusal). outcome_of x c.rewrite.new.out) c.in-Err.is in
    rw (text-refused _ _ _ _ f.ensures.out_after f.ensures.value c.min-count.ensures c.if-bytes-eq1.false _ _ c.rewrite.ensures _ _ a c.from.ensures) at c.refusal-in-Err.ensures
