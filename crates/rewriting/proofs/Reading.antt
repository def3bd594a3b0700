-- The rewritten table read entry by entry: the old ones as they were but for self-calls, the copies with their numbers read as copies.
use mathlib.Core.Path.{◌≡◌, refl, sym, ap, ◌∙◌}
use mathlib.Core.Bool.{true}
use mathlib.Core.List.{List, [], ◌∷◌, ◌++◌, map}
use Prim.Native.Nat.{ℕ, zero, suc, ◌+◌, ◌-◌, ◌*◌, ◌≤◌, ◌<◌}
use native.Mathlib.Omega.{arith}
use native.Mathlib.Nat.{mul-add}
use lib.ListN.{length, length-append, length-map, get_or-append}
use lib.Seq.{get_or-append-add}
use borrow.Author.Tests.{le-leb}
use Rattle.lists.proofs.Tests.{and_intro, same-yes}
use Rattle.lists.specs.Lists.{pick, same, word, from, range, flat, member}
use Rattle.lists.proofs.Ranges.{from-length, from-get_or}
use Rattle.scheme.specs.Words.{publics, bounds, definitions, threads, nodes, branches, arguments, names, name_kind_of, definition_thread, root, first_formal}
use Rattle.scheme.specs.Words.{formal_count, entry, node_kind, node_first, node_second, is_choice, is_new, branch_kind, channel, branch_name, next, is_silent}
use Rattle.scheme.specs.Words.{argument, argument_count_of}
use Rattle.table.specs.Causes.{long_enough, is_layout_right}
use Rattle.process.specs.StateWords.{place}
use Rattle.rewriting.specs.Rewriting.{is_self_calling, copied, name_copies, node_copies, branch_copies, argument_copies, copy_name_of, copy_definition_of, copy_node_of}
use Rattle.rewriting.specs.Rewriting.{copy_branch_of, copy_argument_of, definition_words, definition_copy, node_words, node_copy, branch_words, branch_copy}
use Rattle.rewriting.specs.Rewriting.{name_part, definition_part, thread_part, node_part, branch_part, argument_part, header_of, rewritten_header, rewritten}
use Rattle.rewriting.proofs.Appended.{place_inside, place-holds}
use Rattle.rewriting.proofs.Runs.{flat-words, flat_word}

-- ---- parts of a list

skip : (xs ys : List ℕ) (n i : ℕ) → length xs ≡ n → word (xs ++ ys) (n + i) ≡ word ys i
skip xs ys n i e = ap (λ (k : ℕ). word (xs ++ ys) (k + i)) (sym e) ∙ get_or-append-add xs ys i 0

stay : (xs ys : List ℕ) (n i : ℕ) → length xs ≡ n → i < n → word (xs ++ ys) i ≡ word xs i
stay xs ys n i e l = get_or-append xs ys 0 i (omega (arith, e))

map-word : (g : ℕ → ℕ) (xs : List ℕ) (i : ℕ) → i < length xs → word (map g xs) i ≡ g (word xs i)
map-word g [] i l = absurd (omega arith)
map-word g (x ∷ xs) zero l = refl
map-word g (x ∷ xs) (suc i) l = map-word g xs i (omega arith)

range-word : (n i : ℕ) → i < n → word (range n) i ≡ i
range-word n i l = from-get_or 0 n i l ∙ omega arith

module _ (f g : ℕ → List ℕ) (k : ℕ) (lf : (x : ℕ) → length (f x) ≡ k) (lg : (x : ℕ) → length (g x) ≡ k) (n : ℕ) (xs : List ℕ) where
  part_length : length (flat f (range n) ++ flat g xs) ≡ k * (n + length xs)
  part_length =
      length-append (flat f (range n)) (flat g xs) ∙ rw (flat-words f k lf (range n), flat-words g k lg xs, from-length 0 n) (sym (mul-add k n (length xs)))

  part-old : (i j : ℕ) → i < n → j < k → k * i + j < k * n → word (flat f (range n) ++ flat g xs) (k * i + j) ≡ word (f i) j
  part-old i j l u h =
      stay (flat f (range n)) (flat g xs) (k * n) (k * i + j) (flat-words f k lf (range n) ∙ rw (from-length 0 n)) h
      ∙ flat_word f k lf (range n) i j (rw (from-length 0 n) l) u
      ∙ rw (range-word n i l)

  part-copy : (x j : ℕ) → member x xs ≡ true → j < k → word (flat f (range n) ++ flat g xs) (k * (n + place x xs) + j) ≡ word (g x) j
  part-copy x j m u =
      let e : k * (n + place x xs) + j ≡ k * n + (k * place x xs + j) = omega (arith, mul-add k n (place x xs)) in
      rw e
      (skip (flat f (range n)) (flat g xs) (k * n) (k * place x xs + j) (flat-words f k lf (range n) ∙ rw (from-length 0 n))
      ∙ flat_word g k lg xs (place x xs) j (place_inside x xs m) u
      ∙ rw (place-holds x xs m))

-- six sections after a header
module _ (H N D T M C A : List ℕ) (h b d t m c : ℕ) (lH : length H ≡ h) (lN : length N ≡ b) (lD : length D ≡ d) (lT : length T ≡ t) (lM : length M ≡ m)
    (lC : length C ≡ c) where
  abbrev whole : List ℕ
  whole = H ++ (N ++ (D ++ (T ++ (M ++ (C ++ A)))))

  at_names : (i : ℕ) → i < b → word whole (h + i) ≡ word N i
  at_names i l = skip H (N ++ (D ++ (T ++ (M ++ (C ++ A))))) h i lH ∙ stay N (D ++ (T ++ (M ++ (C ++ A)))) b i lN l

  past-names : (i : ℕ) → word whole (h + b + i) ≡ word (D ++ (T ++ (M ++ (C ++ A)))) i
  past-names i =
      let e : h + b + i ≡ h + (b + i) = omega arith in
      rw e (skip H (N ++ (D ++ (T ++ (M ++ (C ++ A))))) h (b + i) lH ∙ skip N (D ++ (T ++ (M ++ (C ++ A)))) b i lN)

  at-definitions : (i : ℕ) → i < d → word whole (h + b + i) ≡ word D i
  at-definitions i l = past-names i ∙ stay D (T ++ (M ++ (C ++ A))) d i lD l

  past-definitions : (i : ℕ) → word whole (h + b + d + i) ≡ word (T ++ (M ++ (C ++ A))) i
  past-definitions i =
      let e : h + b + d + i ≡ h + b + (d + i) = omega arith in
      rw e (past-names (d + i) ∙ skip D (T ++ (M ++ (C ++ A))) d i lD)

  at-threads : (i : ℕ) → i < t → word whole (h + b + d + i) ≡ word T i
  at-threads i l = past-definitions i ∙ stay T (M ++ (C ++ A)) t i lT l

  past-threads : (i : ℕ) → word whole (h + b + d + t + i) ≡ word (M ++ (C ++ A)) i
  past-threads i =
      let e : h + b + d + t + i ≡ h + b + d + (t + i) = omega arith in
      rw e (past-definitions (t + i) ∙ skip T (M ++ (C ++ A)) t i lT)

  at-nodes : (i : ℕ) → i < m → word whole (h + b + d + t + i) ≡ word M i
  at-nodes i l = past-threads i ∙ stay M (C ++ A) m i lM l

  past-nodes : (i : ℕ) → word whole (h + b + d + t + m + i) ≡ word (C ++ A) i
  past-nodes i =
      let e : h + b + d + t + m + i ≡ h + b + d + t + (m + i) = omega arith in
      rw e (past-threads (m + i) ∙ skip M (C ++ A) m i lM)

  at-branches : (i : ℕ) → i < c → word whole (h + b + d + t + m + i) ≡ word C i
  at-branches i l = past-nodes i ∙ stay C A c i lC l

  at-arguments : (i : ℕ) → word whole (h + b + d + t + m + c + i) ≡ word A i
  at-arguments i =
      let e : h + b + d + t + m + c + i ≡ h + b + d + t + m + (c + i) = omega arith in
      rw e (past-nodes (c + i) ∙ skip C A c i lC)

module _ (w : List ℕ) where
  abbrev v : List ℕ
  v = rewritten w

  -- ---- the counts

  pub publics-new : publics (rewritten w) ≡ publics w
  unfolding rewritten rewritten_header header_of
  publics-new = refl

  pub bounds-new : bounds (rewritten w) ≡ bounds w + length (name_copies w)
  unfolding rewritten rewritten_header header_of
  bounds-new = refl

  pub definitions-new : definitions (rewritten w) ≡ definitions w + length (copied w)
  unfolding rewritten rewritten_header header_of
  definitions-new = refl

  pub threads-new : threads (rewritten w) ≡ threads w
  unfolding rewritten rewritten_header header_of
  threads-new = refl

  pub nodes-new : nodes (rewritten w) ≡ nodes w + length (node_copies w)
  unfolding rewritten rewritten_header header_of
  nodes-new = refl

  pub branches-new : branches (rewritten w) ≡ branches w + length (branch_copies w)
  unfolding rewritten rewritten_header header_of
  branches-new = refl

  pub arguments-new : arguments (rewritten w) ≡ arguments w + length (argument_copies w)
  unfolding rewritten rewritten_header header_of
  arguments-new = refl

  pub names-new : names (rewritten w) ≡ names w + length (name_copies w)
  names-new = omega (arith, publics-new, bounds-new)

  -- ---- the sections

  name-length : length (name_part w) ≡ bounds w + length (name_copies w)
  unfolding name_part
  name-length =
      length-map (from (publics w) (bounds w) ++ name_copies w) (name_kind_of w)
      ∙ length-append (from (publics w) (bounds w)) (name_copies w)
      ∙ rw (from-length (publics w) (bounds w))

  definition-length : length (definition_part w) ≡ 4 * (definitions w + length (copied w))
  unfolding definition_part definition_words definition_copy
  definition-length = part_length (definition_words w) (definition_copy w) 4 (λ x. refl) (λ x. refl) (definitions w) (copied w)

  thread-length : length (thread_part w) ≡ threads w
  unfolding thread_part
  thread-length = length-map (range (threads w)) (entry w) ∙ from-length 0 (threads w)

  node-length : length (node_part w) ≡ 3 * (nodes w + length (node_copies w))
  unfolding node_part node_words node_copy
  node-length = part_length (node_words w) (node_copy w) 3 (λ x. refl) (λ x. refl) (nodes w) (node_copies w)

  branch-length : length (branch_part w) ≡ 4 * (branches w + length (branch_copies w))
  unfolding branch_part branch_words branch_copy
  branch-length = part_length (branch_words w) (branch_copy w) 4 (λ x. refl) (λ x. refl) (branches w) (branch_copies w)

  argument-length : length (argument_part w) ≡ arguments w + length (argument_copies w)
  unfolding argument_part
  argument-length =
      length-append (map (argument w) (range (arguments w))) (map (λ a. copy_name_of w (argument w a)) (argument_copies w))
      ∙ rw (length-map (range (arguments w)) (argument w), from-length 0 (arguments w), length-map (argument_copies w) (λ a. copy_name_of w (argument w a)))

  pub header-length : length (rewritten_header w) ≡ 13
  unfolding rewritten_header header_of
  header-length = refl

  pub off-names : word (rewritten w) 7 ≡ 13
  unfolding rewritten rewritten_header header_of
  off-names = refl

  pub off-definitions : word (rewritten w) 8 ≡ 13 + (bounds w + length (name_copies w))
  unfolding rewritten rewritten_header header_of
  off-definitions = refl

  pub off-threads : word (rewritten w) 9 ≡ 13 + (bounds w + length (name_copies w)) + 4 * (definitions w + length (copied w))
  unfolding rewritten rewritten_header header_of
  off-threads = refl

  pub off-nodes : word (rewritten w) 10 ≡ 13 + (bounds w + length (name_copies w)) + 4 * (definitions w + length (copied w)) + threads w
  unfolding rewritten rewritten_header header_of
  off-nodes = refl

  pub off-branches : word (rewritten w) 11
      ≡ 13 + (bounds w + length (name_copies w)) + 4 * (definitions w + length (copied w)) + threads w + 3 * (nodes w + length (node_copies w))
  unfolding rewritten rewritten_header header_of
  off-branches = refl

  pub off-arguments : word (rewritten w) 12
      ≡ 13 + (bounds w + length (name_copies w)) + 4 * (definitions w + length (copied w)) + threads w + 3 * (nodes w + length (node_copies w))
      + 4 * (branches w + length (branch_copies w))
  unfolding rewritten rewritten_header header_of
  off-arguments = refl

  -- cause 3 and cause 1
  pub whole_length : length (rewritten w) ≡ 13 + (bounds w + length (name_copies w)) + 4 * (definitions w + length (copied w)) + threads w + 3 *
      (nodes w + length (node_copies w)) + 4 * (branches w + length (branch_copies w)) + (arguments w + length (argument_copies w))
  unfolding rewritten
  whole_length =
      omega (
        arith,
        length-append (rewritten_header w) (name_part w ++ (definition_part w ++ (thread_part w ++ (node_part w ++ (branch_part w ++ argument_part w))))),
        length-append (name_part w) (definition_part w ++ (thread_part w ++ (node_part w ++ (branch_part w ++ argument_part w)))),
        length-append (definition_part w) (thread_part w ++ (node_part w ++ (branch_part w ++ argument_part w))),
        length-append (thread_part w) (node_part w ++ (branch_part w ++ argument_part w)),
        length-append (node_part w) (branch_part w ++ argument_part w),
        length-append (branch_part w) (argument_part w),
        header-length,
        name-length,
        definition-length,
        thread-length,
        node-length,
        branch-length,
        argument-length,
      )

  pub long-new : long_enough (rewritten w) ≡ true
  unfolding long_enough
  long-new = le-leb 13 (length (rewritten w)) (omega (arith, whole_length))

  pub layout-new : is_layout_right (rewritten w) ≡ true
  unfolding is_layout_right
  layout-new =
      and_intro _ _ (same-yes _ _ off-names)
      (and_intro _ _ (same-yes _ _ (omega (arith, off-names, off-definitions, bounds-new)))
      (and_intro _ _ (same-yes _ _ (omega (arith, off-definitions, off-threads, definitions-new)))
      (and_intro _ _ (same-yes _ _ (omega (arith, off-threads, off-nodes, threads-new)))
      (and_intro _ _ (same-yes _ _ (omega (arith, off-nodes, off-branches, nodes-new)))
      (and_intro _ _ (same-yes _ _ (omega (arith, off-branches, off-arguments, branches-new)))
      (same-yes _ _ (omega (arith, off-arguments, arguments-new, whole_length))))))))

  -- ---- names

  pub name-there : (i : ℕ) → i < (bounds w + length (name_copies w)) → word (rewritten w) (13 + i) ≡ word (name_part w) i
  unfolding rewritten
  name-there i l = at_names (rewritten_header w) (name_part w) (definition_part w) (thread_part w) (node_part w) (branch_part w) (argument_part w) 13
      (bounds w + length (name_copies w)) (4 * (definitions w + length (copied w))) (threads w) (3 * (nodes w + length (node_copies w)))
      (4 * (branches w + length (branch_copies w))) header-length name-length definition-length thread-length node-length branch-length i l

  name-word : (i : ℕ) → i < (bounds w + length (name_copies w)) → word (rewritten w) (word (rewritten w) 7 + i) ≡ word (name_part w) i
  name-word i l = rw off-names (name-there i l)

  -- ---- definitions

  pub definition-there : (i : ℕ) → i < 4 * (definitions w + length (copied w))
      → word (rewritten w) (13 + (bounds w + length (name_copies w)) + i) ≡ word (definition_part w) i
  unfolding rewritten
  definition-there i l = at-definitions (rewritten_header w) (name_part w) (definition_part w) (thread_part w) (node_part w) (branch_part w) (argument_part w) 13
      (bounds w + length (name_copies w)) (4 * (definitions w + length (copied w))) (threads w) (3 * (nodes w + length (node_copies w)))
      (4 * (branches w + length (branch_copies w))) header-length name-length definition-length thread-length node-length branch-length i l

  definition-word : (i : ℕ) → i < 4 * (definitions w + length (copied w)) → word (rewritten w) (word (rewritten w) 8 + i) ≡ word (definition_part w) i
  definition-word i l = rw off-definitions (definition-there i l)

  definition-part-old : (d j : ℕ) → d < definitions w → j < 4 → word (definition_part w) (4 * d + j) ≡ word (definition_words w d) j
  unfolding definition_part definition_words definition_copy
  definition-part-old d j l u = part-old (definition_words w) (definition_copy w) 4 (λ x. refl) (λ x. refl) (definitions w) (copied w) d j l u (omega arith)

  definition-part-copy : (d j : ℕ) → member d (copied w) ≡ true → j < 4 → word (definition_part w) (4 * copy_definition_of w d + j) ≡ word (definition_copy w d) j
  unfolding definition_part definition_words definition_copy
  definition-part-copy d j m u = part-copy (definition_words w) (definition_copy w) 4 (λ x. refl) (λ x. refl) (definitions w) (copied w) d j m u

  definition-old : (d j : ℕ) → d < definitions w → j < 4 → word (rewritten w) (word (rewritten w) 8 + 4 * d + j) ≡ word (definition_words w d) j
  definition-old d j l u =
      let e : word (rewritten w) 8 + 4 * d + j ≡ word (rewritten w) 8 + (4 * d + j) = omega arith in
      rw e (definition-word (4 * d + j) (omega arith) ∙ definition-part-old d j l u)

  definition-copy : (d j : ℕ) → member d (copied w) ≡ true → j < 4
      → word (rewritten w) (word (rewritten w) 8 + 4 * copy_definition_of w d + j) ≡ word (definition_copy w d) j
  definition-copy d j m u =
      let e : word (rewritten w) 8 + 4 * copy_definition_of w d + j ≡ word (rewritten w) 8 + (4 * copy_definition_of w d + j) = omega arith in
      rw e (definition-word (4 * copy_definition_of w d + j) (omega (arith, place_inside d (copied w) m)) ∙ definition-part-copy d j m u)

  -- ---- threads

  pub thread-there : (i : ℕ) → i < threads w
      → word (rewritten w) (13 + (bounds w + length (name_copies w)) + 4 * (definitions w + length (copied w)) + i) ≡ word (thread_part w) i
  unfolding rewritten
  thread-there i l = at-threads (rewritten_header w) (name_part w) (definition_part w) (thread_part w) (node_part w) (branch_part w) (argument_part w) 13
      (bounds w + length (name_copies w)) (4 * (definitions w + length (copied w))) (threads w) (3 * (nodes w + length (node_copies w)))
      (4 * (branches w + length (branch_copies w))) header-length name-length definition-length thread-length node-length branch-length i l

  thread-word : (i : ℕ) → i < threads w → word (rewritten w) (word (rewritten w) 9 + i) ≡ word (thread_part w) i
  thread-word i l = rw off-threads (thread-there i l)

  -- ---- nodes

  pub node-there : (i : ℕ) → i < 3 * (nodes w + length (node_copies w))
      → word (rewritten w) (13 + (bounds w + length (name_copies w)) + 4 * (definitions w + length (copied w)) + threads w + i) ≡ word (node_part w) i
  unfolding rewritten
  node-there i l = at-nodes (rewritten_header w) (name_part w) (definition_part w) (thread_part w) (node_part w) (branch_part w) (argument_part w) 13
      (bounds w + length (name_copies w)) (4 * (definitions w + length (copied w))) (threads w) (3 * (nodes w + length (node_copies w)))
      (4 * (branches w + length (branch_copies w))) header-length name-length definition-length thread-length node-length branch-length i l

  node-word : (i : ℕ) → i < 3 * (nodes w + length (node_copies w)) → word (rewritten w) (word (rewritten w) 10 + i) ≡ word (node_part w) i
  node-word i l = rw off-nodes (node-there i l)

  node-part-old : (d j : ℕ) → d < nodes w → j < 3 → word (node_part w) (3 * d + j) ≡ word (node_words w d) j
  unfolding node_part node_words node_copy
  node-part-old d j l u = part-old (node_words w) (node_copy w) 3 (λ x. refl) (λ x. refl) (nodes w) (node_copies w) d j l u (omega arith)

  node-part-copy : (d j : ℕ) → member d (node_copies w) ≡ true → j < 3 → word (node_part w) (3 * copy_node_of w d + j) ≡ word (node_copy w d) j
  unfolding node_part node_words node_copy
  node-part-copy d j m u = part-copy (node_words w) (node_copy w) 3 (λ x. refl) (λ x. refl) (nodes w) (node_copies w) d j m u

  node-old : (d j : ℕ) → d < nodes w → j < 3 → word (rewritten w) (word (rewritten w) 10 + 3 * d + j) ≡ word (node_words w d) j
  node-old d j l u =
      let e : word (rewritten w) 10 + 3 * d + j ≡ word (rewritten w) 10 + (3 * d + j) = omega arith in
      rw e (node-word (3 * d + j) (omega arith) ∙ node-part-old d j l u)

  node-copy : (d j : ℕ) → member d (node_copies w) ≡ true → j < 3
      → word (rewritten w) (word (rewritten w) 10 + 3 * copy_node_of w d + j) ≡ word (node_copy w d) j
  node-copy d j m u =
      let e : word (rewritten w) 10 + 3 * copy_node_of w d + j ≡ word (rewritten w) 10 + (3 * copy_node_of w d + j) = omega arith in
      rw e (node-word (3 * copy_node_of w d + j) (omega (arith, place_inside d (node_copies w) m)) ∙ node-part-copy d j m u)

  -- ---- branches

  pub branch-there : (i : ℕ) → i < 4 * (branches w + length (branch_copies w))
      → word (rewritten w) (13 + (bounds w + length (name_copies w)) + 4 * (definitions w + length (copied w)) + threads w + 3 *
      (nodes w + length (node_copies w)) + i) ≡ word (branch_part w) i
  unfolding rewritten
  branch-there i l = at-branches (rewritten_header w) (name_part w) (definition_part w) (thread_part w) (node_part w) (branch_part w) (argument_part w) 13
      (bounds w + length (name_copies w)) (4 * (definitions w + length (copied w))) (threads w) (3 * (nodes w + length (node_copies w)))
      (4 * (branches w + length (branch_copies w))) header-length name-length definition-length thread-length node-length branch-length i l

  branch-word : (i : ℕ) → i < 4 * (branches w + length (branch_copies w)) → word (rewritten w) (word (rewritten w) 11 + i) ≡ word (branch_part w) i
  branch-word i l = rw off-branches (branch-there i l)

  branch-part-old : (d j : ℕ) → d < branches w → j < 4 → word (branch_part w) (4 * d + j) ≡ word (branch_words w d) j
  unfolding branch_part branch_words branch_copy
  branch-part-old d j l u = part-old (branch_words w) (branch_copy w) 4 (λ x. refl) (λ x. refl) (branches w) (branch_copies w) d j l u (omega arith)

  branch-part-copy : (d j : ℕ) → member d (branch_copies w) ≡ true → j < 4 → word (branch_part w) (4 * copy_branch_of w d + j) ≡ word (branch_copy w d) j
  unfolding branch_part branch_words branch_copy
  branch-part-copy d j m u = part-copy (branch_words w) (branch_copy w) 4 (λ x. refl) (λ x. refl) (branches w) (branch_copies w) d j m u

  branch-old : (d j : ℕ) → d < branches w → j < 4 → word (rewritten w) (word (rewritten w) 11 + 4 * d + j) ≡ word (branch_words w d) j
  branch-old d j l u =
      let e : word (rewritten w) 11 + 4 * d + j ≡ word (rewritten w) 11 + (4 * d + j) = omega arith in
      rw e (branch-word (4 * d + j) (omega arith) ∙ branch-part-old d j l u)

  branch-copy : (d j : ℕ) → member d (branch_copies w) ≡ true → j < 4
      → word (rewritten w) (word (rewritten w) 11 + 4 * copy_branch_of w d + j) ≡ word (branch_copy w d) j
  branch-copy d j m u =
      let e : word (rewritten w) 11 + 4 * copy_branch_of w d + j ≡ word (rewritten w) 11 + (4 * copy_branch_of w d + j) = omega arith in
      rw e (branch-word (4 * copy_branch_of w d + j) (omega (arith, place_inside d (branch_copies w) m)) ∙ branch-part-copy d j m u)

  -- ---- arguments

  pub argument-there : (i : ℕ)
      → word (rewritten w) (13 + (bounds w + length (name_copies w)) + 4 * (definitions w + length (copied w)) + threads w + 3 *
      (nodes w + length (node_copies w)) + 4 * (branches w + length (branch_copies w)) + i) ≡ word (argument_part w) i
  unfolding rewritten
  argument-there i = at-arguments (rewritten_header w) (name_part w) (definition_part w) (thread_part w) (node_part w) (branch_part w) (argument_part w) 13
      (bounds w + length (name_copies w)) (4 * (definitions w + length (copied w))) (threads w) (3 * (nodes w + length (node_copies w)))
      (4 * (branches w + length (branch_copies w))) header-length name-length definition-length thread-length node-length branch-length i

  argument-word : (i : ℕ) → word (rewritten w) (word (rewritten w) 12 + i) ≡ word (argument_part w) i
  argument-word i = rw off-arguments (argument-there i)

  -- ---- the fields of definitions

  pub definition_thread-old : (d : ℕ) → d < definitions w → definition_thread (rewritten w) d ≡ definition_thread w d
  unfolding definition_words
  definition_thread-old d l = definition-old d 0 l (omega arith)

  pub definition_thread-copy : (d : ℕ) → member d (copied w) ≡ true → definition_thread (rewritten w) (copy_definition_of w d) ≡ definition_thread w d
  unfolding definition_copy
  definition_thread-copy d m = definition-copy d 0 m (omega arith)

  pub root-old : (d : ℕ) → d < definitions w → root (rewritten w) d ≡ root w d
  unfolding definition_words
  root-old d l = definition-old d 1 l (omega arith)

  pub root-copy : (d : ℕ) → member d (copied w) ≡ true → root (rewritten w) (copy_definition_of w d) ≡ copy_node_of w (root w d)
  unfolding definition_copy
  root-copy d m = definition-copy d 1 m (omega arith)

  pub first_formal-old : (d : ℕ) → d < definitions w → first_formal (rewritten w) d ≡ first_formal w d
  unfolding definition_words
  first_formal-old d l = definition-old d 2 l (omega arith)

  pub first_formal-copy : (d : ℕ) → member d (copied w) ≡ true
      → first_formal (rewritten w) (copy_definition_of w d) ≡ pick (same (formal_count w d) 0) 0 (copy_name_of w (first_formal w d))
  unfolding definition_copy
  first_formal-copy d m = definition-copy d 2 m (omega arith)

  pub formal_count-old : (d : ℕ) → d < definitions w → formal_count (rewritten w) d ≡ formal_count w d
  unfolding definition_words
  formal_count-old d l = definition-old d 3 l (omega arith)

  pub formal_count-copy : (d : ℕ) → member d (copied w) ≡ true → formal_count (rewritten w) (copy_definition_of w d) ≡ formal_count w d
  unfolding definition_copy
  formal_count-copy d m = definition-copy d 3 m (omega arith)

  -- ---- the fields of nodes

  pub node_kind-old : (n : ℕ) → n < nodes w → node_kind (rewritten w) n ≡ node_kind w n
  unfolding node_words
  node_kind-old n l = node-old n 0 l (omega arith)

  pub node_kind-copy : (n : ℕ) → member n (node_copies w) ≡ true → node_kind (rewritten w) (copy_node_of w n) ≡ node_kind w n
  unfolding node_copy
  node_kind-copy n m = node-copy n 0 m (omega arith)

  pub node_first-old : (n : ℕ) → n < nodes w → node_first (rewritten w) n ≡ pick (is_self_calling w n) (copy_definition_of w (node_first w n)) (node_first w n)
  unfolding node_words
  node_first-old n l = node-old n 1 l (omega arith)

  pub node_first-copy : (n : ℕ) → member n (node_copies w) ≡ true
      → node_first (rewritten w) (copy_node_of w n) ≡ pick (is_choice w n) (copy_branch_of w (node_first w n))
      (pick (is_new w n) (copy_name_of w (node_first w n)) (node_first w n))
  unfolding node_copy
  node_first-copy n m = node-copy n 1 m (omega arith)

  pub node_second-old : (n : ℕ) → n < nodes w → node_second (rewritten w) n ≡ node_second w n
  unfolding node_words
  node_second-old n l = node-old n 2 l (omega arith)

  pub node_second-copy : (n : ℕ) → member n (node_copies w) ≡ true
      → node_second (rewritten w) (copy_node_of w n) ≡ pick (is_new w n) (copy_node_of w (node_second w n))
      (pick (same (argument_count_of w n) 0) (node_second w n) (copy_argument_of w (node_second w n)))
  unfolding node_copy
  node_second-copy n m = node-copy n 2 m (omega arith)

  -- ---- the fields of branches

  pub branch_kind-old : (b : ℕ) → b < branches w → branch_kind (rewritten w) b ≡ branch_kind w b
  unfolding branch_words
  branch_kind-old b l = branch-old b 0 l (omega arith)

  pub branch_kind-copy : (b : ℕ) → member b (branch_copies w) ≡ true → branch_kind (rewritten w) (copy_branch_of w b) ≡ branch_kind w b
  unfolding branch_copy
  branch_kind-copy b m = branch-copy b 0 m (omega arith)

  pub channel-old : (b : ℕ) → b < branches w → channel (rewritten w) b ≡ channel w b
  unfolding branch_words
  channel-old b l = branch-old b 1 l (omega arith)

  pub channel-copy : (b : ℕ) → member b (branch_copies w) ≡ true
      → channel (rewritten w) (copy_branch_of w b) ≡ pick (is_silent w b) (channel w b) (copy_name_of w (channel w b))
  unfolding branch_copy
  channel-copy b m = branch-copy b 1 m (omega arith)

  pub branch_name-old : (b : ℕ) → b < branches w → branch_name (rewritten w) b ≡ branch_name w b
  unfolding branch_words
  branch_name-old b l = branch-old b 2 l (omega arith)

  pub branch_name-copy : (b : ℕ) → member b (branch_copies w) ≡ true
      → branch_name (rewritten w) (copy_branch_of w b) ≡ pick (is_silent w b) (branch_name w b) (copy_name_of w (branch_name w b))
  unfolding branch_copy
  branch_name-copy b m = branch-copy b 2 m (omega arith)

  pub next-old : (b : ℕ) → b < branches w → next (rewritten w) b ≡ next w b
  unfolding branch_words
  next-old b l = branch-old b 3 l (omega arith)

  pub next-copy : (b : ℕ) → member b (branch_copies w) ≡ true → next (rewritten w) (copy_branch_of w b) ≡ copy_node_of w (next w b)
  unfolding branch_copy
  next-copy b m = branch-copy b 3 m (omega arith)

  pub name-part-old : (i : ℕ) → i < bounds w → word (name_part w) i ≡ name_kind_of w (publics w + i)
  unfolding name_part
  name-part-old i l =
      map-word (name_kind_of w) (from (publics w) (bounds w) ++ name_copies w) i
      (omega (arith, length-append (from (publics w) (bounds w)) (name_copies w), from-length (publics w) (bounds w)))
      ∙ ap (name_kind_of w) (stay (from (publics w) (bounds w)) (name_copies w) (bounds w) i (from-length (publics w) (bounds w)) l
      ∙ from-get_or (publics w) (bounds w) i l)

  name-part-copy : (x : ℕ) → member x (name_copies w) ≡ true → word (name_part w) (bounds w + place x (name_copies w)) ≡ name_kind_of w x
  unfolding name_part
  name-part-copy x m =
      map-word (name_kind_of w) (from (publics w) (bounds w) ++ name_copies w) (bounds w + place x (name_copies w))
      (omega (arith, place_inside x (name_copies w) m, length-append (from (publics w) (bounds w)) (name_copies w), from-length (publics w) (bounds w)))
      ∙ ap (name_kind_of w) (skip (from (publics w) (bounds w)) (name_copies w) (bounds w) (place x (name_copies w)) (from-length (publics w) (bounds w))
      ∙ place-holds x (name_copies w) m)

  pub thread-part : (t : ℕ) → t < threads w → word (thread_part w) t ≡ entry w t
  unfolding thread_part
  thread-part t l = map-word (entry w) (range (threads w)) t (rw (from-length 0 (threads w)) l) ∙ ap (entry w) (range-word (threads w) t l)

  pub argument-part-old : (a : ℕ) → a < arguments w → word (argument_part w) a ≡ argument w a
  unfolding argument_part
  argument-part-old a l =
      stay (map (argument w) (range (arguments w))) (map (λ a. copy_name_of w (argument w a)) (argument_copies w)) (arguments w) a
      (length-map (range (arguments w)) (argument w) ∙ from-length 0 (arguments w)) l
      ∙ map-word (argument w) (range (arguments w)) a (rw (from-length 0 (arguments w)) l)
      ∙ ap (argument w) (range-word (arguments w) a l)

  argument-part-copy : (a : ℕ) → member a (argument_copies w) ≡ true → word (argument_part w) (copy_argument_of w a) ≡ copy_name_of w (argument w a)
  unfolding argument_part
  argument-part-copy a m =
      skip (map (argument w) (range (arguments w))) (map (λ a. copy_name_of w (argument w a)) (argument_copies w)) (arguments w) (place a (argument_copies w))
      (length-map (range (arguments w)) (argument w) ∙ from-length 0 (arguments w))
      ∙ map-word (λ a. copy_name_of w (argument w a)) (argument_copies w) (place a (argument_copies w)) (place_inside a (argument_copies w) m)
      ∙ ap (λ (a : ℕ). copy_name_of w (argument w a)) (place-holds a (argument_copies w) m)

  -- ---- names, entries and arguments

  pub name-old : (x : ℕ) → publics w ≤ x → x < names w → name_kind_of (rewritten w) x ≡ name_kind_of w x
  name-old x l u = rw publics-new (name-word (x - publics w) (omega arith) ∙ there)
    where
      e : publics w + (x - publics w) ≡ x
      e = omega arith

      there : word (name_part w) (x - publics w) ≡ name_kind_of w x
      there = name-part-old (x - publics w) (omega arith) ∙ rw e

  pub name-copy : (x : ℕ) → member x (name_copies w) ≡ true → name_kind_of (rewritten w) (names w + place x (name_copies w)) ≡ name_kind_of w x
  name-copy x m =
      let e : names w + place x (name_copies w) - publics w ≡ bounds w + place x (name_copies w) = omega arith in
      rw (publics-new, e) (name-word (bounds w + place x (name_copies w)) (omega (arith, place_inside x (name_copies w) m)) ∙ name-part-copy x m)

  pub entry_old : (t : ℕ) → t < threads w → entry (rewritten w) t ≡ entry w t
  entry_old t l = thread-word t l ∙ thread-part t l

  pub argument-old : (a : ℕ) → a < arguments w → argument (rewritten w) a ≡ argument w a
  argument-old a l = argument-word a ∙ argument-part-old a l

  pub argument-copy : (a : ℕ) → member a (argument_copies w) ≡ true → argument (rewritten w) (copy_argument_of w a) ≡ copy_name_of w (argument w a)
  argument-copy a m = argument-word (copy_argument_of w a) ∙ argument-part-copy a m
