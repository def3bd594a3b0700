-- A table without self-calls is rewritten to itself.
use mathlib.Core.Path.{◌≡◌, refl, sym, ap, ◌∙◌}
use mathlib.Core.Bool.{Bool, true, false, ◌&&◌}
use mathlib.Core.List.{List, [], ◌∷◌, ◌++◌}
use mathlib.Core.Logic.{◌⊎◌, inl, inr}
use Prim.Native.Nat.{ℕ, zero, suc, ◌+◌, ◌-◌, ◌*◌, ◌≤◌, ◌<◌}
use native.Mathlib.Decide.{dec_lt}
use native.Mathlib.Nat.{mul-suc, mul-zero}
use native.Mathlib.Omega.{arith}
use lib.ListN.{length, get_or-append}
use lib.Seq.{get_or-append-add}
use Rattle.lists.specs.Lists.{pick, same, word, from, range, every, some, flat, member}
use Rattle.lists.proofs.Tests.{true-or-false, not-true-false, and_intro, and_left, all_hold, same-yes, same-no, same_true}
use Rattle.lists.proofs.Ranges.{from-length, from_member, below-every}
use Rattle.lists.proofs.Members.{member-nil, member-here, member-there, keep-none}
use Rattle.scheme.specs.Words.{publics, bounds, definitions, threads, nodes, branches, arguments, definition_thread, node_first, is_call_node}
use Rattle.scheme.specs.Owners.{definition}
use Rattle.table.specs.Causes.{is_layout_right, is_entry_right, call_right_in, is_call_right, are_calls_right, cause}
use Rattle.table.proofs.Passed.{Passed, passed}
use Rattle.table.proofs.Uses
use Rattle.rewriting.specs.Rewriting.{is_self_calling, copied, appended, name_copies, node_copies, branch_copies, argument_copies, definition_words}
use Rattle.rewriting.specs.Rewriting.{definition_copy, node_words, node_copy, branch_words, branch_copy, definition_part, name_part, thread_part}
use Rattle.rewriting.specs.Rewriting.{argument_part, name_definition_of, branch_definition, argument_definition, node_part, branch_part, rewritten}
use Rattle.rewriting.proofs.Runs.{flat-words}
use Rattle.rewriting.proofs.Reading
use Rattle.rewriting.proofs.Family.{Sound, self-copied, definition-inside}

-- lists with the same words
same-list : (xs ys : List ℕ) → length xs ≡ length ys → ((i : ℕ) → i < length xs → word xs i ≡ word ys i) → xs ≡ ys
same-list [] [] l f = refl
same-list [] (y ∷ ys) l f = absurd (omega arith)
same-list (x ∷ xs) [] l f = absurd (omega arith)
same-list (x ∷ xs) (y ∷ ys) l f =
    let h : x ≡ y = f 0 (omega arith) in
    rw (h, same-list xs ys (omega arith) (λ i u. f (suc i) (omega arith)))

-- entries of k words that are the words of g, one after the other
strides : (f : ℕ → List ℕ) (k : ℕ) (g : ℕ → ℕ) → ((x : ℕ) → length (f x) ≡ k) → (a n : ℕ)
    → ((x j : ℕ) → a ≤ x → x < a + n → j < k → word (f x) j ≡ g (k * x + j))
    → (i : ℕ) → i < k * n → word (flat f (from a n)) i ≡ g (k * a + i)
unfolding flat from
strides f k g len a zero h i l = absurd (omega (arith, mul-zero k))
strides f k g len a (suc n) h i l = go (dec_lt i k) (strides f k g len (a + 1) n (λ x j u v. h x j (omega arith) (omega arith)))
  where
    go : Dec (i < k) → ((i : ℕ) → i < k * n → word (flat f (from (a + 1) n)) i ≡ g (k * (a + 1) + i)) → word (f a ++ flat f (from (a + 1) n)) i ≡ g (k * a + i)
    go (yes u) ih = get_or-append (f a) (flat f (from (a + 1) n)) 0 i (rw (len a) u) ∙ h a i (omega arith) (omega arith) u
    go (no u) ih =
        let e : i ≡ length (f a) + (i - k) = omega (arith, len a) in
        let q : i - k < k * n = omega (arith, mul-suc k n) in
        let z : a + 1 ≡ suc a = omega arith in
        let r : k * (a + 1) + (i - k) ≡ k * a + i = rw z (omega (arith, mul-suc k a)) in
        ap (word (f a ++ flat f (from (a + 1) n))) e ∙ get_or-append-add (f a) (flat f (from (a + 1) n)) (i - k) 0 ∙ ih (i - k) q ∙ ap g r

-- P at each of the n numbers from a on
abbrev Each : (ℕ → Type 0) → ℕ → ℕ → Type 0
Each P a zero = Unit {0}
Each P a (suc n) = P a × Each P (a + 1) n

below : (P : ℕ → Type 0) (a n : ℕ) → Each P a n → (i : ℕ) → a ≤ i → i < a + n → P i
below P a zero h i l u = absurd (omega arith)
below P a (suc n) h i l u = go (Rattle.lists.proofs.Tests.true-or-false (same i a)) (below P (a + 1) n h.1 i)
  where
    go : (same i a ≡ true) ⊎ (same i a ≡ false) → (a + 1 ≤ i → i < a + 1 + n → P i) → P i
    go (inl e) ih = rw (same_true i a e) h.0
    go (inr e) ih = let d : i ≡ a → ⊥ = Rattle.lists.proofs.Tests.same_false i a e in ih (omega arith) (omega arith)

module _ (w : List ℕ) (p : Sound w) (none : copied w ≡ []) where
  abbrev o1 : ℕ
  o1 = 13 + bounds w

  record Offsets : Type 0 where
    at7 : word w 7 ≡ 13
    at8 : word w 8 ≡ 13 + bounds w
    at9 : word w 9 ≡ 13 + bounds w + 4 * definitions w
    at10 : word w 10 ≡ 13 + bounds w + 4 * definitions w + threads w
    at11 : word w 11 ≡ 13 + bounds w + 4 * definitions w + threads w + 3 * nodes w
    at12 : word w 12 ≡ 13 + bounds w + 4 * definitions w + threads w + 3 * nodes w + 4 * branches w
    long : length w ≡ 13 + bounds w + 4 * definitions w + threads w + 3 * nodes w + 4 * branches w + arguments w

  offsets : Offsets
  unfolding is_layout_right
  offsets =
      let y = p.layout in
      let t =
      all_hold (same (word w 7) 13)
      (same (word w 8) (word w 7 + bounds w) ∷ same (word w 9) (word w 8 + 4 * definitions w) ∷ same (word w 10) (word w 9 + threads w) ∷
      same (word w 11) (word w 10 + 3 * nodes w) ∷ same (word w 12) (word w 11 + 4 * branches w) ∷ same (length w) (word w 12 + arguments w) ∷ []) y in
      let a = same_true _ _ t.0 in
      let b = same_true _ _ t.1.0 in
      let c = same_true _ _ t.1.1.0 in
      let d = same_true _ _ t.1.1.1.0 in
      let e = same_true _ _ t.1.1.1.1.0 in
      let f = same_true _ _ t.1.1.1.1.1.0 in
      let g = same_true _ _ t.1.1.1.1.1.1 in
      record {
        at7 = a;
        at8 = omega (arith, a, b);
        at9 = omega (arith, a, b, c);
        at10 = omega (arith, a, b, c, d);
        at11 = omega (arith, a, b, c, d, e);
        at12 = omega (arith, a, b, c, d, e, f);
        long = omega (arith, a, b, c, d, e, f, g);
      }

  no_copies : (of : ℕ → ℕ) (xs : List ℕ) → length (appended w of xs) ≡ 0
  unfolding appended flat
  no_copies of xs = rw none

  no-definitions : length (copied w) ≡ 0
  no-definitions = rw none

  abbrev HeaderSame : ℕ → Type 0
  HeaderSame i = word (rewritten w) i ≡ word w i

  names-none : length (name_copies w) ≡ 0
  names-none = no_copies (name_definition_of w) (from (publics w) (bounds w))

  nodes-none : length (node_copies w) ≡ 0
  nodes-none = no_copies (definition w) (range (nodes w))

  branches-none : length (branch_copies w) ≡ 0
  branches-none = no_copies (branch_definition w) (range (branches w))

  arguments-none : length (argument_copies w) ≡ 0
  arguments-none = no_copies (argument_definition w) (range (arguments w))

  header-all : Each HeaderSame 0 13
  header-all =
      let f = offsets in (
        Reading.publics-new w,
        (
          omega (arith, Reading.bounds-new w, names-none),
          (
            omega (arith, Reading.definitions-new w, no-definitions),
            (
              Reading.threads-new w,
              (
                omega (arith, Reading.nodes-new w, nodes-none),
                (
                  omega (arith, Reading.branches-new w, branches-none),
                  (
                    omega (arith, Reading.arguments-new w, arguments-none),
                    (
                      omega (arith, Reading.off-names w, f.at7),
                      (
                        omega (arith, Reading.off-definitions w, f.at8, names-none),
                        (
                          omega (arith, Reading.off-threads w, f.at9, names-none, no-definitions),
                          (
                            omega (arith, Reading.off-nodes w, f.at10, names-none, no-definitions),
                            (
                              omega (arith, Reading.off-branches w, f.at11, names-none, no-definitions, nodes-none),
                              (omega (arith, Reading.off-arguments w, f.at12, names-none, no-definitions, nodes-none, branches-none), tt),
                            ),
                          ),
                        ),
                      ),
                    ),
                  ),
                ),
              ),
            ),
          ),
        ),
      )

  -- ---- the sections

  -- past an offset of a section, a word of the rewritten table is a word of its part
  moved : (i off off' : ℕ) → off ≡ off' → off ≤ i → i ≡ off' + (i - off)
  moved i off off' e l = omega arith

  quiet : (n : ℕ) → n < nodes w → is_self_calling w n ≡ false
  quiet n l = not-true-false (is_self_calling w n) (λ c. member-nil (definition w n) (rw none at (self-copied w n l (definition-inside w p n) c)))

  definition-entry : (d j : ℕ) → j < 4 → word (definition_words w d) j ≡ word w (word w 8 + (4 * d + j))
  unfolding definition_words
  definition-entry d j l =
      below (λ j. word (definition_words w d) j ≡ word w (word w 8 + (4 * d + j))) 0 4
      (ap (word w) (omega arith), (ap (word w) (omega arith), (ap (word w) (omega arith), (ap (word w) (omega arith), tt)))) j (omega arith) (omega arith)

  node-entry : (n j : ℕ) → n < nodes w → j < 3 → word (node_words w n) j ≡ word w (word w 10 + (3 * n + j))
  unfolding node_words
  node-entry n j u l =
      below (λ j. word (node_words w n) j ≡ word w (word w 10 + (3 * n + j))) 0 3
      (ap (word w) (omega arith), (rw (quiet n u) (ap (word w) (omega arith)), (ap (word w) (omega arith), tt))) j (omega arith) (omega arith)

  branch-entry : (b j : ℕ) → j < 4 → word (branch_words w b) j ≡ word w (word w 11 + (4 * b + j))
  unfolding branch_words
  branch-entry b j l =
      below (λ j. word (branch_words w b) j ≡ word w (word w 11 + (4 * b + j))) 0 4
      (ap (word w) (omega arith), (ap (word w) (omega arith), (ap (word w) (omega arith), (ap (word w) (omega arith), tt)))) j (omega arith) (omega arith)

  definition-part : (i : ℕ) → i < 4 * definitions w → word (definition_part w) i ≡ word w (word w 8 + i)
  unfolding definition_part definition_words
  definition-part i l =
      get_or-append (flat (definition_words w) (range (definitions w))) (flat (definition_copy w) (copied w)) 0 i
      (omega (arith, l, flat-words (definition_words w) 4 (λ x. refl) (range (definitions w)), from-length 0 (definitions w)))
      ∙ strides (definition_words w) 4 (λ i. word w (word w 8 + i)) (λ x. refl) 0 (definitions w) (λ x j a b c. definition-entry x j c) i l
      ∙ ap (word w) (omega arith)

  node-part : (i : ℕ) → i < 3 * nodes w → word (node_part w) i ≡ word w (word w 10 + i)
  unfolding node_part node_words
  node-part i l =
      get_or-append (flat (node_words w) (range (nodes w))) (flat (node_copy w) (node_copies w)) 0 i
      (omega (arith, l, flat-words (node_words w) 3 (λ x. refl) (range (nodes w)), from-length 0 (nodes w)))
      ∙ strides (node_words w) 3 (λ i. word w (word w 10 + i)) (λ x. refl) 0 (nodes w) (λ x j a b c. node-entry x j (omega arith) c) i l
      ∙ ap (word w) (omega arith)

  branch-part : (i : ℕ) → i < 4 * branches w → word (branch_part w) i ≡ word w (word w 11 + i)
  unfolding branch_part branch_words
  branch-part i l =
      get_or-append (flat (branch_words w) (range (branches w))) (flat (branch_copy w) (branch_copies w)) 0 i
      (omega (arith, l, flat-words (branch_words w) 4 (λ x. refl) (range (branches w)), from-length 0 (branches w)))
      ∙ strides (branch_words w) 4 (λ i. word w (word w 11 + i)) (λ x. refl) 0 (branches w) (λ x j a b c. branch-entry x j c) i l
      ∙ ap (word w) (omega arith)

  name-part : (i : ℕ) → i < bounds w → word (name_part w) i ≡ word w (word w 7 + i)
  name-part i l = Reading.name-part-old w i l ∙ ap (word w) (let e : publics w + i - publics w ≡ i = omega arith in omega (arith, e))

  -- ---- every word

  abbrev b2 : ℕ
  b2 = 13 + bounds w

  abbrev b3 : ℕ
  b3 = 13 + bounds w + 4 * definitions w

  abbrev b4 : ℕ
  b4 = 13 + bounds w + 4 * definitions w + threads w

  abbrev b5 : ℕ
  b5 = 13 + bounds w + 4 * definitions w + threads w + 3 * nodes w

  abbrev b6 : ℕ
  b6 = 13 + bounds w + 4 * definitions w + threads w + 3 * nodes w + 4 * branches w

  -- a word of the rewritten table at an offset that is the same there
  there : (off off' i j : ℕ) → off ≡ off' → i ≡ off' + j → (x : ℕ) → word (rewritten w) (off + j) ≡ x → x ≡ word w (off' + j) → word (rewritten w) i ≡ word w i
  there off off' i j e k x f g =
      let z : off + j ≡ i = omega arith in
      let y : off' + j ≡ i = omega arith in
      sym (ap (word (rewritten w)) z) ∙ f ∙ g ∙ ap (word w) y

  word_same : (i : ℕ) → i < length w → word (rewritten w) i ≡ word w i
  word_same i l = go (dec_lt i 13) (dec_lt i b2) (dec_lt i b3) (dec_lt i b4) (dec_lt i b5) (dec_lt i b6)
    where
      f : Offsets
      f = offsets

      go : Dec (i < 13) → Dec (i < b2) → Dec (i < b3) → Dec (i < b4) → Dec (i < b5) → Dec (i < b6) → word (rewritten w) i ≡ word w i
      go (yes a) x2 x3 x4 x5 x6 = below HeaderSame 0 13 header-all i (omega arith) (omega arith)
      go (no a) (yes b) x3 x4 x5 x6 =
          there 13 13 i (i - 13) refl (omega arith) (word (name_part w) (i - 13)) (Reading.name-there w (i - 13) (omega arith))
          (name-part (i - 13) (omega arith) ∙ ap (word w) (omega (arith, f.at7)))
      go (no a) (no b) (yes c) x4 x5 x6 =
          there (13 + (bounds w + length (name_copies w))) b2 i (i - b2) (omega (arith, names-none)) (omega arith) (word (definition_part w) (i - b2))
          (Reading.definition-there w (i - b2) (omega (arith, no-definitions)))
          (definition-part (i - b2) (omega arith) ∙ ap (word w) (omega (arith, f.at8)))
      go (no a) (no b) (no c) (yes d) x5 x6 =
          there (13 + (bounds w + length (name_copies w)) + 4 * (definitions w + length (copied w))) b3 i (i - b3)
          (omega (arith, names-none, no-definitions)) (omega arith)
          (word (thread_part w) (i - b3)) (Reading.thread-there w (i - b3) (omega arith))
          (Reading.thread-part w (i - b3) (omega arith) ∙ ap (word w) (omega (arith, f.at9)))
      go (no a) (no b) (no c) (no d) (yes e) x6 =
          there (13 + (bounds w + length (name_copies w)) + 4 * (definitions w + length (copied w)) + threads w) b4 i (i - b4)
          (omega (arith, names-none, no-definitions)) (omega arith)
          (word (node_part w) (i - b4)) (Reading.node-there w (i - b4) (omega (arith, nodes-none)))
          (node-part (i - b4) (omega arith) ∙ ap (word w) (omega (arith, f.at10)))
      go (no a) (no b) (no c) (no d) (no e) (yes g) =
          there (13 + (bounds w + length (name_copies w)) + 4 * (definitions w + length (copied w)) + threads w + 3 * (nodes w + length (node_copies w))) b5 i
          (i - b5)
          (omega (arith, names-none, no-definitions, nodes-none)) (omega arith) (word (branch_part w) (i - b5))
          (Reading.branch-there w (i - b5) (omega (arith, branches-none)))
          (branch-part (i - b5) (omega arith) ∙ ap (word w) (omega (arith, f.at11)))
      go (no a) (no b) (no c) (no d) (no e) (no g) =
          there (13 + (bounds w + length (name_copies w)) + 4 * (definitions w + length (copied w)) + threads w + 3 * (nodes w + length (node_copies w)) + 4 *
          (branches w + length (branch_copies w))) b6 i (i - b6)
          (omega (arith, names-none, no-definitions, nodes-none, branches-none)) (omega arith) (word (argument_part w) (i - b6))
          (Reading.argument-there w (i - b6))
          (Reading.argument-part-old w (i - b6) (omega (arith, f.long)) ∙ ap (word w) (omega (arith, f.at12)))

  length-same : length (rewritten w) ≡ length w
  length-same = let f = offsets in omega (arith, Reading.whole_length w, f.long, names-none, no-definitions, nodes-none, branches-none, arguments-none)

  pub no-copies-same : rewritten w ≡ w
  no-copies-same = same-list (rewritten w) w length-same (λ i l. word_same i (omega (arith, length-same)))

-- ---- an accepted table has no self-call

none-some : (q : ℕ → Bool) (xs : List ℕ) → ((x : ℕ) → member x xs ≡ true → q x ≡ false) → some q xs ≡ false
unfolding some
none-some q [] h = refl
none-some q (x ∷ xs) h = rw (h x (member-here x xs), none-some q xs (λ y m. h y (member-there y x xs m)))

module _ (w : List ℕ) (p : Passed w) where
  no-self-call : (n : ℕ) → n < nodes w → is_self_calling w n ≡ false
  unfolding is_self_calling
  no-self-call n l = go (true-or-false (is_call_node w n))
    where
      go : (is_call_node w n ≡ true) ⊎ (is_call_node w n ≡ false) → (is_call_node w n && same (node_first w n) (definition w n)) ≡ false
      go (inl k) = rw (k, same-no (node_first w n) (definition w n) (Uses.call-own w p.calls n l k).1)
      go (inr k) = rw k

  nothing_copied : copied w ≡ []
  unfolding copied
  nothing_copied =
      keep-none (λ d. some (λ n. is_self_calling w n && same (definition w n) d) (range (nodes w))) (range (definitions w))
      (λ d m. none-some (λ n. is_self_calling w n && same (definition w n) d) (range (nodes w))
      (λ n k. rw (no-self-call n (omega (arith, (from_member n 0 (nodes w) k).1)))))

  spares : (n : ℕ) → n < nodes w → is_call_right w true n ≡ true
  unfolding is_call_right call_right_in
  spares n l = go (true-or-false (is_call_node w n))
    where
      go : (is_call_node w n ≡ true) ⊎ (is_call_node w n ≡ false)
          → pick (is_call_node w n) (same (definition_thread w (node_first w n)) (definition_thread w (definition w n)) && true) true ≡ true
      go (inl k) = rw (k, same-yes _ _ (Uses.call-own w p.calls n l k).0)
      go (inr k) = rw k

  still-sound : Sound w
  unfolding are_calls_right
  still-sound = record {
    long = p.long;
    counts = p.counts;
    layout = p.layout;
    kinds = p.kinds;
    ranges = p.ranges;
    shape = p.shape;
    binding = p.binding;
    scope = p.scope;
    calls = and_intro _ _ (let c = p.calls in and_left (every (is_entry_right w) (range (threads w))) (every (is_call_right w false) (range (nodes w))) c)
        (below-every (is_call_right w true) (nodes w) spares);
  }

-- "a table without self-calls": one that cause 9 passes as it stands
pub unchanged : (w : List ℕ) → cause w ≡ 0 → rewritten w ≡ w
unchanged w h = let p = passed w h in no-copies-same w (still-sound w p) (nothing_copied w p)
