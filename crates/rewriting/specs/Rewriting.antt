-- The rewriting step (document 02, Item 1): "Accept such tables by a rewriting step. Each definition with a direct self-call gets a copy, appended in
-- definition order, with its names, nodes, branches and arguments appended in their old order. Self-calls of the original go to the copy, those of the
-- copy to the original. Other calls keep their target."
use Rattle.std.specs.Prelude.{Bool, ◌&&◌, List, [], ◌∷◌, ◌++◌, map, ℕ, ◌+◌, ◌*◌, ltb, leb, length}
use Rattle.lists.specs.Lists.{pick, same, from, range, some, keep, flat, first_from}
use Rattle.scheme.specs.Words.{publics, bounds, definitions, threads, nodes, branches, arguments, names, is_public, name_kind_of, definition_thread, root}
use Rattle.scheme.specs.Words.{first_formal, formal_count, entry, node_kind, node_first, node_second, is_choice, is_new, is_call_node, branch_kind, channel, branch_name}
use Rattle.scheme.specs.Words.{next, is_silent}
use Rattle.scheme.specs.Words.{argument, argument_count_of}
use Rattle.scheme.specs.Owners.{home, definition}
use Rattle.scheme.specs.Scheme.{Binder, by_new, by_receive, by_formal, unbound, binder_of}
use Rattle.process.specs.StateWords.{place}

-- a header: the counts, then the offsets that they give
unfoldable pub header_of : ℕ → ℕ → ℕ → ℕ → ℕ → ℕ → ℕ → List ℕ
header_of p b d t m c a =
    p ∷ b ∷ d ∷ t ∷ m ∷ c ∷ a ∷ 13 ∷ (13 + b) ∷ (13 + b + 4 * d) ∷ (13 + b + 4 * d + t) ∷ (13 + b + 4 * d + t + 3 * m) ∷
    (13 + b + 4 * d + t + 3 * m + 4 * c) ∷ []

module _ (w : List ℕ) where
  -- a Call of the definition that it stands in
  unfoldable pub is_self_calling : ℕ → Bool
  is_self_calling n = is_call_node w n && same (node_first w n) (definition w n)

  -- the definitions with a direct self-call, in definition order
  unfoldable pub copied : List ℕ
  copied = keep (λ d. some (λ n. is_self_calling n && same (definition w n) d) (range (nodes w))) (range (definitions w))

  -- the definition that a branch, an argument, a name belongs to
  abbrev pub branch_definition : ℕ → ℕ
  branch_definition b = definition w (home w b)

  unfoldable pub caller : ℕ → ℕ
  caller a = first_from (nodes w) (λ n. is_call_node w n && (leb (node_second w n) a && ltb a (node_second w n + argument_count_of w n))) 0 0

  abbrev pub argument_definition : ℕ → ℕ
  argument_definition a = definition w (caller a)

  abbrev pub binder_definition : Binder → ℕ
  binder_definition (by_new n) = definition w n
  binder_definition (by_receive b) = branch_definition b
  binder_definition (by_formal d) = d
  binder_definition unbound = definitions w

  abbrev pub name_definition_of : ℕ → ℕ
  name_definition_of x = binder_definition (binder_of w x)

  -- the numbers whose copies are appended to a section: per copied definition those that belong to it, in their old order
  unfoldable pub appended : (ℕ → ℕ) → List ℕ → List ℕ
  appended of numbers = flat (λ d. keep (λ i. same (of i) d) numbers) copied

  abbrev pub name_copies : List ℕ
  name_copies = appended name_definition_of (from (publics w) (bounds w))

  abbrev pub node_copies : List ℕ
  node_copies = appended (definition w) (range (nodes w))

  abbrev pub branch_copies : List ℕ
  branch_copies = appended branch_definition (range (branches w))

  abbrev pub argument_copies : List ℕ
  argument_copies = appended argument_definition (range (arguments w))

  -- the number that a copy has; public names have no copies
  abbrev pub copy_name_of : ℕ → ℕ
  copy_name_of x = pick (is_public w x) x (names w + place x name_copies)

  abbrev pub copy_definition_of : ℕ → ℕ
  copy_definition_of d = definitions w + place d copied

  abbrev pub copy_node_of : ℕ → ℕ
  copy_node_of n = nodes w + place n node_copies

  abbrev pub copy_branch_of : ℕ → ℕ
  copy_branch_of b = branches w + place b branch_copies

  abbrev pub copy_argument_of : ℕ → ℕ
  copy_argument_of a = arguments w + place a argument_copies

  -- the words of a definition, a node and a branch, and those of their copies; fields that name nothing stay 0
  unfoldable pub definition_words : ℕ → List ℕ
  definition_words d = definition_thread w d ∷ root w d ∷ first_formal w d ∷ formal_count w d ∷ []

  unfoldable pub definition_copy : ℕ → List ℕ
  definition_copy d =
      definition_thread w d ∷ copy_node_of (root w d) ∷ pick (same (formal_count w d) 0) 0 (copy_name_of (first_formal w d)) ∷ formal_count w d ∷ []

  -- "Self-calls of the original go to the copy"
  unfoldable pub node_words : ℕ → List ℕ
  node_words n = node_kind w n ∷ pick (is_self_calling n) (copy_definition_of (node_first w n)) (node_first w n) ∷ node_second w n ∷ []

  -- "those of the copy to the original. Other calls keep their target.": in a copy no call changes its target
  unfoldable pub node_copy : ℕ → List ℕ
  node_copy n =
      node_kind w n ∷ pick (is_choice w n) (copy_branch_of (node_first w n)) (pick (is_new w n) (copy_name_of (node_first w n)) (node_first w n)) ∷
      pick (is_new w n) (copy_node_of (node_second w n)) (pick (same (argument_count_of w n) 0) (node_second w n) (copy_argument_of (node_second w n))) ∷ []

  unfoldable pub branch_words : ℕ → List ℕ
  branch_words b = branch_kind w b ∷ channel w b ∷ branch_name w b ∷ next w b ∷ []

  unfoldable pub branch_copy : ℕ → List ℕ
  branch_copy b =
      branch_kind w b ∷ pick (is_silent w b) (channel w b) (copy_name_of (channel w b)) ∷ pick (is_silent w b) (branch_name w b) (copy_name_of (branch_name w b)) ∷
      copy_node_of (next w b) ∷ []

  -- the sections: what was there, then the copies
  unfoldable pub name_part : List ℕ
  name_part = map (name_kind_of w) (from (publics w) (bounds w) ++ name_copies)

  unfoldable pub definition_part : List ℕ
  definition_part = flat definition_words (range (definitions w)) ++ flat definition_copy copied

  unfoldable pub thread_part : List ℕ
  thread_part = map (entry w) (range (threads w))

  unfoldable pub node_part : List ℕ
  node_part = flat node_words (range (nodes w)) ++ flat node_copy node_copies

  unfoldable pub branch_part : List ℕ
  branch_part = flat branch_words (range (branches w)) ++ flat branch_copy branch_copies

  unfoldable pub argument_part : List ℕ
  argument_part = map (argument w) (range (arguments w)) ++ map (λ a. copy_name_of (argument w a)) argument_copies

  unfoldable pub rewritten_header : List ℕ
  rewritten_header =
      header_of (publics w) (bounds w + length name_copies) (definitions w + length copied) (threads w) (nodes w + length node_copies)
      (branches w + length branch_copies) (arguments w + length argument_copies)

  unfoldable pub rewritten : List ℕ
  rewritten = rewritten_header ++ (name_part ++ (definition_part ++ (thread_part ++ (node_part ++ (branch_part ++ argument_part)))))

  -- "a copy's nodes, branches and names can be read back as their originals, others as themselves": by the numbers of the rewritten table
  unfoldable pub node_origins : List ℕ
  node_origins = range (nodes w) ++ node_copies

  unfoldable pub branch_origins : List ℕ
  branch_origins = range (branches w) ++ branch_copies

  unfoldable pub name_origins : List ℕ
  name_origins = range (names w) ++ name_copies
