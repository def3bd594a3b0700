-- Laws of what the listing program prints: its words stand in a table of 4,096, longer input is told by its first words, and each answer of `rewrite` and of
-- `build` has its text.
use mathlib.Core.Path.{◌≡◌, refl, sym, ap, ◌∙◌}
use mathlib.Core.Bool.{true, false}
use mathlib.Core.List.{List, [], ◌∷◌, ◌++◌, append-nil}
use mathlib.Core.Logic.{◌⊎◌, inl, inr}
use mathlib.Core.Option.{none, some}
use Prim.Native.Nat.{ℕ, suc, ◌+◌, ◌%◌, ◌≤◌, ◌<◌, min}
use native.Mathlib.Decide.{dec_le}
use native.Mathlib.Omega.{arith}
use lib.Dec.{eqb}
use lib.ListN.{length, take, drop, take-append-drop, length-append}
use lib.Seq.{sets, set_out, take_all, take-append_seam, take-take, get_or-take, length-take-le, length-sets, sets-eq}
use borrow.Author.Tests.{le-leb, lt-ltb, le-ltb, eq-eqb, ne_eqb}
use Rattle.lists.specs.Lists.{pick, same}
use Rattle.lists.proofs.Tests.{same-yes, same-no, same_true, true-or-false, false-true}
use Rattle.lists.proofs.Stores.{sets-append}
use Rattle.table.specs.Causes.{cause_sparing, cause, first_failed, long_enough, are_counts_right, is_layout_right}
use Rattle.table.proofs.Inside.{counted}
use Rattle.table.proofs.Sizes.{whole_length}
use Rattle.table.proofs.Passed.{passed}
use Rattle.process.specs.Outcomes as process
use Rattle.rewriting.specs.Rewriting.{rewritten}
use Rattle.rewriting.specs.Outcomes.{rewrite_cause, rewrite_outcome}
use Rattle.rewriting.specs.Answers.{outcome_of}
use Rattle.rewriting.specs.declared.Refusal.{Refusal}
use Rattle.rewriting.proofs.Family.{sound}
use Rattle.rewriting.proofs.Theorem.{rewritten-accepted}
use Rattle.places.specs.Image.{image_of}
use Rattle.places.proofs.WholeSums.{image-words}
use Rattle.builder.specs.Answer.{BuildOutcome, outcome, built_outcome, build_outcome}
use Rattle.builder.specs.declared.Refusal as builder
use Rattle.std.specs.Prelude.{Result, Ok}
use Rattle.print.specs.Text.{refusal}
use Rattle.print.specs.Words.{words_of}
use Rattle.print.specs.Listing.{listing}
use Rattle.print.specs.Program.{is_odd, odd_cause, program_cause, program_text}
use Rattle.print.specs.Inner.Parts.{net_text}

-- ---- an odd number of bytes

odd_is : (bytes : List ℕ) → eqb (length bytes % 2) 1 ≡ is_odd bytes
unfolding is_odd
odd_is [] = refl
odd_is (low ∷ []) = refl
odd_is (low ∷ high ∷ rest) = let e : suc (suc (length rest)) % 2 ≡ length rest % 2 = omega arith in rw e (odd_is rest)

-- it is always refused
pub odd-some : (c : ℕ) → odd_cause c ≡ 0 → ⊥
odd-some c h = go (true-or-false (same c 1)) (true-or-false (same c 2))
  where
    go : (same c 1 ≡ true) ⊎ (same c 1 ≡ false) → (same c 2 ≡ true) ⊎ (same c 2 ≡ false) → ⊥
    go (inl p) q = omega (arith, same_true c 1 p, (rw p at h))
    go (inr p) (inl q) = omega (arith, same_true c 2 q, (rw (p, q) at h))
    go (inr p) (inr q) = let z : ◌≡◌ {A = ℕ} 3 0 = rw (p, q) at h in omega arith

-- ---- words in a table of k

sets-out : (out : List ℕ) (i : ℕ) (words : List ℕ) → length out ≤ i → sets out i words ≡ out
sets-out out i [] h = refl
sets-out out i (w ∷ words) h = rw (set_out out i w h) (sets-out out (suc i) words (omega arith))

module _ (l ws : List ℕ) where
  fits : length ws ≤ length l → sets l 0 ws ≡ ws ++ drop (length ws) l
  fits h = let h' : 0 + length ws ≤ length l = omega arith in sets-eq ws l 0 h' ∙ (let e : 0 + length ws ≡ length ws = omega arith in rw e)

sets-long : (l ws : List ℕ) → length l ≤ length ws → sets l 0 ws ≡ take (length l) ws
sets-long l ws h =
    let k = length l in
    let n : length (take k ws) ≡ k = length-take-le k ws h in
    let d : drop (length (take k ws)) l ≡ [] = ap (λ (j : ℕ). drop j l) n ∙ drop_all l in
    ap (sets l 0) (sym (take-append-drop k ws))
    ∙ sets-append l 0 (take k ws) (drop k ws)
    ∙ sets-out (sets l 0 (take k ws)) (0 + length (take k ws)) (drop k ws) (omega (arith, length-of, n))
    ∙ fits l (take k ws) (omega (arith, n))
    ∙ rw d (append-nil (take k ws))
  where
    drop_all : (xs : List ℕ) → drop (length xs) xs ≡ []
    drop_all [] = refl
    drop_all (x ∷ xs) = drop_all xs

    length-of : length (sets l 0 (take (length l) ws)) ≡ length l
    length-of = length-sets l 0 (take (length l) ws)

-- the first words, as the code takes them
first-words : (l ws : List ℕ) (n : ℕ) → n ≡ min (length ws) (length l) → take n (sets l 0 ws) ≡ take (length l) ws
first-words l ws n e = go (dec_le (length ws) (length l))
  where
    go : Dec (length ws ≤ length l) → take n (sets l 0 ws) ≡ take (length l) ws
    go (yes h) =
        let m : n ≡ length ws = omega arith in
        rw (m, fits l ws h) (take-append_seam ws (drop (length ws) l) ∙ sym (take_all (length l) ws h))
    go (no d) =
        let m : n ≡ length l = omega arith in
        rw (m, sets-long l ws (omega arith)) (take-take (length l) (length l) ws (omega arith))

pub taken-words : (l ws table : List ℕ) (count taken k : ℕ) → length l ≡ k → table ≡ sets l 0 ws → count ≡ length ws → taken ≡ min count k
    → take taken table ≡ take k ws
taken-words l ws table count taken k n t c m =
    let e : taken ≡ min (length ws) (length l) = omega arith in
    rw t (first-words l ws taken e ∙ rw n)

-- ---- input longer than any table

short : (w : List ℕ) → are_counts_right w ≡ true → is_layout_right w ≡ true → length w ≤ 2229
short w c l =
    let k = counted w c in
    omega (arith, whole_length w l, k.few-bounds, k.few-definitions, k.few-threads, k.few-nodes, k.few-branches, k.few-arguments)

long-cause : (w : List ℕ) → 2229 < length w → cause_sparing w true ≡ pick (are_counts_right w) 3 2
unfolding cause_sparing first_failed long_enough
long-cause w h = go (true-or-false (are_counts_right w))
  where
    layout : are_counts_right w ≡ true → (is_layout_right w ≡ true) ⊎ (is_layout_right w ≡ false) → is_layout_right w ≡ false
    layout c (inl e) = absurd (omega (arith, short w c e))
    layout c (inr e) = e

    go : (are_counts_right w ≡ true) ⊎ (are_counts_right w ≡ false) → cause_sparing w true ≡ pick (are_counts_right w) 3 2
    go (inl c) = rw (le-leb 13 (length w) (omega arith), c, layout c (true-or-false (is_layout_right w)))
    go (inr c) = rw (le-leb 13 (length w) (omega arith), c)

same-counts : (w : List ℕ) (k : ℕ) → 7 ≤ k → are_counts_right (take k w) ≡ are_counts_right w
unfolding are_counts_right
same-counts w k h =
    rw (
      get_or-take k w 0 0 (omega arith),
      get_or-take k w 1 0 (omega arith),
      get_or-take k w 2 0 (omega arith),
      get_or-take k w 3 0 (omega arith),
      get_or-take k w 4 0 (omega arith),
      get_or-take k w 5 0 (omega arith),
      get_or-take k w 6 0 (omega arith),
    )

-- the cause of the first 4,096 words is that of all
same-cause : (w : List ℕ) → cause_sparing (take 4096 w) true ≡ cause_sparing w true
same-cause w = go (dec_le (length w) 4096)
  where
    go : Dec (length w ≤ 4096) → cause_sparing (take 4096 w) true ≡ cause_sparing w true
    go (yes h) = ap (λ (u : List ℕ). cause_sparing u true) (take_all 4096 w h)
    go (no d) =
        let n : length (take 4096 w) ≡ 4096 = length-take-le 4096 w (omega arith) in
        long-cause (take 4096 w) (omega (arith, n)) ∙ rw (same-counts w 4096 (omega arith)) (sym (long-cause w (omega arith)))

-- ---- the rewriting of the first words

own-cause : (w : List ℕ) → (cause_sparing w true ≡ 0 → ⊥) → rewrite_cause w ≡ cause_sparing w true
unfolding rewrite_cause
own-cause w d = rw (same-no (cause_sparing w true) 0 d)

whole_words : (w : List ℕ) → cause_sparing w true ≡ 0 → take 4096 w ≡ w
whole_words w h = let s = sound w h in take_all 4096 w (omega (arith, short w s.counts s.layout))

same-rewriting : (w : List ℕ) → (rewrite_cause (take 4096 w) ≡ rewrite_cause w) × (rewrite_cause w ≡ 0 → take 4096 w ≡ w)
same-rewriting w = go (true-or-false (same (cause_sparing w true) 0))
  where
    go : (same (cause_sparing w true) 0 ≡ true) ⊎ (same (cause_sparing w true) 0 ≡ false)
        → (rewrite_cause (take 4096 w) ≡ rewrite_cause w) × (rewrite_cause w ≡ 0 → take 4096 w ≡ w)
    go (inl p) = let e = whole_words w (same_true _ _ p) in (ap rewrite_cause e, λ z. e)
    go (inr p) =
        let d : (cause_sparing w true ≡ 0 → ⊥) = λ z. false-true p (same-yes _ _ z) in
        let k = own-cause w d in
        (own-cause (take 4096 w) (λ z. d (sym (same-cause w) ∙ z)) ∙ same-cause w ∙ sym k, λ z. absurd (d (sym k ∙ z)))

rewritten-short : (w : List ℕ) → rewrite_cause w ≡ 0 → length (rewritten w) ≤ 2229
rewritten-short w h = let p = passed (rewritten w) (rewritten-accepted w h) in short (rewritten w) p.counts p.layout

-- what `rewrite` answers where there is room
abbrev roomy : List ℕ → List ℕ → process.Outcome
roomy w lent = pick (same (rewrite_cause w) 0) (process.written (length (rewritten w)) (rewritten w) lent) (process.refusal (rewrite_cause w) lent)

-- so it is for the first words, into 2,229 words
first-outcome : (w lent : List ℕ) → length lent ≡ 2229 → rewrite_outcome (take 4096 w) lent ≡ roomy w lent
unfolding rewrite_outcome process.answered
first-outcome w lent n = go (true-or-false (same (rewrite_cause w) 0))
  where
    go : (same (rewrite_cause w) 0 ≡ true) ⊎ (same (rewrite_cause w) 0 ≡ false) → rewrite_outcome (take 4096 w) lent ≡ roomy w lent
    go (inl p) =
        let h = same_true (rewrite_cause w) 0 p in
        rw ((same-rewriting w).1 h, p, le-ltb (length lent) (length (rewritten w)) (omega (arith, rewritten-short w h)))
    go (inr p) = rw ((same-rewriting w).0, p)

-- ---- the text of a net

-- what `build` answered of a table, into 16,384 words
module _ (w lent left : List ℕ) (built : Result ℕ builder.Refusal) (Lent-is : length lent ≡ 16384) (was : built_outcome built left ≡ build_outcome w lent) where
  pub net-refused : (m n : ℕ) → built_outcome built left ≡ outcome m 0 left → n ≡ m → refusal n ≡ net_text w
  unfolding build_outcome net_text
  net-refused m n a b = go (true-or-false (same (cause w) 0)) (dec_le (length (image_of w)) 16384)
    where
      e : outcome m 0 left ≡ build_outcome w lent
      e = sym a ∙ was

      go : (same (cause w) 0 ≡ true) ⊎ (same (cause w) 0 ≡ false) → Dec (length (image_of w) ≤ 16384) → refusal n ≡ net_text w
      go (inr p) l = let k = ap (λ (o : BuildOutcome). o.number) (rw p at e) in rw (p, b, k)
      go (inl p) (yes l) =
          let k = ap (λ (o : BuildOutcome). o.words) (rw (p, le-ltb (length lent) (length (image_of w)) (omega arith)) at e) in
          absurd (omega (arith, k, image-words w (same_true _ _ p)))
      go (inl p) (no l) =
          let k = ap (λ (o : BuildOutcome). o.number) (rw (p, lt-ltb (length lent) (length (image_of w)) (omega arith)) at e) in
          rw (p, lt-ltb 16384 (length (image_of w)) (omega arith), b, k)

  pub net-listed : (n : ℕ) → built ≡ Ok n → (n ≤ length left) × (listing (take n left) ≡ net_text w)
  unfolding build_outcome net_text
  net-listed n a = go (true-or-false (same (cause w) 0)) (dec_le (length (image_of w)) 16384)
    where
      e : outcome 0 n left ≡ build_outcome w lent
      e = sym (ap (λ (b : Result ℕ builder.Refusal). built_outcome b left) a) ∙ was

      go : (same (cause w) 0 ≡ true) ⊎ (same (cause w) 0 ≡ false) → Dec (length (image_of w) ≤ 16384)
          → (n ≤ length left) × (listing (take n left) ≡ net_text w)
      go (inr p) l = let k = ap (λ (o : BuildOutcome). o.number) (rw p at e) in false-true p (same-yes _ _ (sym k))
      go (inl p) (yes l) =
          let k = rw (p, le-ltb (length lent) (length (image_of w)) (omega arith)) at e in
          let m = ap (λ (o : BuildOutcome). o.words) k in
          let f = ap (λ (o : BuildOutcome). o.buffer) k in
          let rest = drop (length (image_of w)) lent in (
            rw (m, f) (omega (arith, length-append (image_of w) rest)),
            rw (p, le-ltb 16384 (length (image_of w)) l, m, f, take-append_seam (image_of w) rest),
          )
      go (inl p) (no l) =
          let k = ap (λ (o : BuildOutcome). o.number) (rw (p, lt-ltb (length lent) (length (image_of w)) (omega arith)) at e) in
          absurd (omega arith)

-- ---- the text of the program

module _ (bytes first : List ℕ) (first-is : first ≡ take 4096 (words_of bytes)) where
  abbrev w : List ℕ
  w = words_of bytes

  pub odd-text : length bytes % 2 ≡ 1 → (c n : ℕ) → c ≡ cause_sparing first true → n ≡ odd_cause c → refusal n ≡ program_text bytes
  unfolding program_text program_cause
  odd-text o c n e f =
      let i : is_odd bytes ≡ true = sym (odd_is bytes) ∙ eq-eqb _ _ o in
      let k : c ≡ cause_sparing w true = e ∙ rw first-is (same-cause w) in
      rw (i, f, k, same-no (odd_cause (cause_sparing w true)) 0 (odd-some (cause_sparing w true)))

  -- what `rewrite` answered of the first words, into 2,229 words
  module _ (even : length bytes % 2 ≡ 1 → ⊥) (lent left : List ℕ) (answer : Result ℕ Refusal) (Lent-is : length lent ≡ 2229)
      (was : outcome_of answer left ≡ rewrite_outcome first lent) where
    not-odd : is_odd bytes ≡ false
    not-odd = sym (odd_is bytes) ∙ ne_eqb _ _ even

    answered : outcome_of answer left ≡ roomy w lent
    answered = was ∙ rw first-is (first-outcome w lent Lent-is)

    pub refused-text : (m n : ℕ) → outcome_of answer left ≡ process.refusal m left → n ≡ m → refusal n ≡ program_text bytes
    unfolding program_text program_cause
    refused-text m n a b = go (true-or-false (same (rewrite_cause w) 0))
      where
        go : (same (rewrite_cause w) 0 ≡ true) ⊎ (same (rewrite_cause w) 0 ≡ false) → refusal n ≡ program_text bytes
        go (inl p) =
            let k : none ≡ some (length (rewritten w)) = ap (λ (o : process.Outcome). o.value) (sym a ∙ (rw p at answered)) in
            let z : ◌≡◌ {A = ℕ} 0 1 = cc in
            absurd (omega arith)
        go (inr p) = let k = ap (λ (o : process.Outcome). o.number) (sym a ∙ (rw p at answered)) in rw (not-odd, p, b, k)

    pub rewritten-text : (n : ℕ) → answer ≡ Ok n → (n ≤ length left) × (net_text (take n left) ≡ program_text bytes)
    unfolding program_text program_cause net_text
    rewritten-text n a = go (true-or-false (same (rewrite_cause w) 0))
      where
        is : outcome_of answer left ≡ outcome_of (Ok n) left
        is = ap (λ (x : Result ℕ Refusal). outcome_of x left) a

        go : (same (rewrite_cause w) 0 ≡ true) ⊎ (same (rewrite_cause w) 0 ≡ false) → (n ≤ length left) × (net_text (take n left) ≡ program_text bytes)
        go (inl p) =
            let k = sym is ∙ (rw p at answered) in
            let v : some n ≡ some (length (rewritten w)) = ap (λ (o : process.Outcome). o.value) k in
            let m : n ≡ length (rewritten w) = cc in
            let f : left ≡ rewritten w ++ drop (length (rewritten w)) lent = ap (λ (o : process.Outcome). o.left) k in
            let rest = drop (length (rewritten w)) lent in (
              rw (m, f) (omega (arith, length-append (rewritten w) rest)),
              rw (not-odd, p, m, f, take-append_seam (rewritten w) rest, same-yes _ _ (rewritten-accepted w (same_true _ _ p))),
            )
        go (inr p) = let k = ap (λ (o : process.Outcome). o.number) (sym is ∙ (rw p at answered)) in false-true p (same-yes _ _ (sym k))
