-- Causes 1 to 9: each one test over the whole table, which holds where the table passes (document 01, Causes of refusal).
use Rattle.std.specs.Prelude.{Bool, true, not, ◌&&◌, ◌||◌, List, [], ◌∷◌, ◌++◌, ℕ, ◌+◌, ◌*◌, ltb, leb, length}
use Rattle.std.proofs.Math.Bool.{false}
use Rattle.lists.specs.Lists.{pick, bit, same, word, from, range, every, flat, member, times}
use Rattle.scheme.specs.Words.{publics, bounds, definitions, threads, nodes, branches, arguments, names, is_public, is_bound_name, name_kind_of, definition_thread, root, first_formal, formal_count, formals, entry, node_first, node_second, is_stop_node, is_choice, is_new, is_call_node, branches_of, branch_kind, channel, branch_name, next, is_silent, is_receive, argument, arguments_of, branch_count_of, argument_count_of}
use Rattle.scheme.specs.Owners.{held, definition}

-- the number of the first test that does not hold, 0 if all hold
unfoldable pub first_failed : List (ℕ × Bool) → ℕ
first_failed [] = 0
first_failed (t ∷ ts) = pick t.1 (first_failed ts) t.0

module _ (w : List ℕ) where
  -- 1: "under 13 words"
  unfoldable pub long_enough : Bool
  long_enough = leb 13 (length w)

  -- 2: "a count beyond its bound". "P, B and D at most 32; T 1 to 8; M 1 to 256; C and A at most 256."
  unfoldable pub are_counts_right : Bool
  are_counts_right =
      leb (publics w) 32 && (leb (bounds w) 32 && (leb (definitions w) 32 && (leb 1 (threads w) && (leb (threads w) 8 &&
      (leb 1 (nodes w) && (leb (nodes w) 256 && (leb (branches w) 256 && leb (arguments w) 256)))))))

  -- 3: "an offset or the table's length not as the counts give"
  unfoldable pub is_layout_right : Bool
  is_layout_right =
      same (word w 7) 13 && (same (word w 8) (word w 7 + bounds w) && (same (word w 9) (word w 8 + 4 * definitions w) &&
      (same (word w 10) (word w 9 + threads w) && (same (word w 11) (word w 10 + 3 * nodes w) &&
      (same (word w 12) (word w 11 + 4 * branches w) && same (length w) (word w 12 + arguments w))))))

  -- 4: "unknown kind; a field that must be 0 is not; choice of 0 branches"
  unfoldable pub is_name_kind_right : ℕ → Bool
  is_name_kind_right x = leb (name_kind_of w x) 2

  -- "First formal is 0 where there are no formals"
  unfoldable pub are_formals_zero : ℕ → Bool
  are_formals_zero d = not (same (formal_count w d) 0) || same (first_formal w d) 0

  -- "first argument is 0 where the definition called has none (else 4; a call of no definition is 5)"
  unfoldable pub is_call_zero : ℕ → Bool
  is_call_zero n = not (ltb (node_first w n) (definitions w)) || (not (same (formal_count w (node_first w n)) 0) || same (node_second w n) 0)

  unfoldable pub is_node_kind_right : ℕ → Bool
  is_node_kind_right n =
      pick (is_stop_node w n) (same (node_first w n) 0 && same (node_second w n) 0)
      (pick (is_choice w n) (not (same (node_second w n) 0))
      (pick (is_new w n) true
      (pick (is_call_node w n) (is_call_zero n) false)))

  unfoldable pub is_branch_kind_right : ℕ → Bool
  is_branch_kind_right b = pick (is_silent w b) (same (channel w b) 0 && same (branch_name w b) 0) (leb (branch_kind w b) 2)

  unfoldable pub are_kinds_right : Bool
  are_kinds_right =
      every is_name_kind_right (from (publics w) (bounds w)) && (every are_formals_zero (range (definitions w)) &&
      (every is_node_kind_right (range (nodes w)) && every is_branch_kind_right (range (branches w))))

  -- 5: "a number or range outside its section; New, receive or formal names no bound name"
  unfoldable pub are_formals_inside : ℕ → Bool
  are_formals_inside d = same (formal_count w d) 0 || (leb (publics w) (first_formal w d) && leb (first_formal w d + formal_count w d) (names w))

  unfoldable pub is_definition_inside : ℕ → Bool
  is_definition_inside d = ltb (definition_thread w d) (threads w) && (ltb (root w d) (nodes w) && are_formals_inside d)

  unfoldable pub is_entry_inside : ℕ → Bool
  is_entry_inside t = ltb (entry w t) (definitions w)

  unfoldable pub is_node_inside : ℕ → Bool
  is_node_inside n =
      pick (is_choice w n) (leb (node_first w n + node_second w n) (branches w))
      (pick (is_new w n) (is_bound_name w (node_first w n) && ltb (node_second w n) (nodes w))
      (pick (is_call_node w n) (ltb (node_first w n) (definitions w) && leb (node_second w n + formal_count w (node_first w n)) (arguments w)) true))

  unfoldable pub is_branch_inside : ℕ → Bool
  is_branch_inside b =
      ltb (next w b) (nodes w) &&
      pick (is_silent w b) true
      (ltb (channel w b) (names w) && pick (is_receive w b) (is_bound_name w (branch_name w b)) (ltb (branch_name w b) (names w)))

  unfoldable pub is_argument_inside : ℕ → Bool
  is_argument_inside a = ltb (argument w a) (names w)

  unfoldable pub are_ranges_right : Bool
  are_ranges_right =
      every is_definition_inside (range (definitions w)) && (every is_entry_inside (range (threads w)) &&
      (every is_node_inside (range (nodes w)) && (every is_branch_inside (range (branches w)) && every is_argument_inside (range (arguments w)))))

  -- 6: "a node not exactly once a root or child; child not above its parent; branch ranges, or non-empty argument ranges, not consecutive
  -- from 0 to the count in node order"
  unfoldable pub root_nodes : List ℕ
  root_nodes = flat (λ d. root w d ∷ []) (range (definitions w))

  unfoldable pub new_children : List ℕ
  new_children = flat (λ n. pick (is_new w n) (node_second w n ∷ []) []) (range (nodes w))

  unfoldable pub next_nodes : List ℕ
  next_nodes = flat (λ b. next w b ∷ []) (range (branches w))

  unfoldable pub is_owned_once : ℕ → Bool
  is_owned_once k = same (times k (root_nodes ++ (new_children ++ next_nodes))) 1

  unfoldable pub are_children_above : ℕ → Bool
  are_children_above n = pick (is_new w n) (ltb n (node_second w n)) (every (λ b. ltb n (next w b)) (branches_of w n))

  -- the ranges of some nodes, each given by its first number and its size, are consecutive from a to the end; empty ones are passed over
  unfoldable pub consecutive : (ℕ → ℕ) → (ℕ → ℕ) → ℕ → ℕ → List ℕ → Bool
  consecutive first size end a [] = same a end
  consecutive first size end a (n ∷ ns) =
      pick (same (size n) 0) (consecutive first size end a ns) (same (first n) a && consecutive first size end (a + size n) ns)

  unfoldable pub is_shape_right : Bool
  is_shape_right =
      consecutive (node_first w) (branch_count_of w) (branches w) 0 (range (nodes w)) &&
      (consecutive (node_second w) (argument_count_of w) (arguments w) 0 (range (nodes w)) &&
      (every is_owned_once (range (nodes w)) && every are_children_above (range (nodes w))))

  -- 7: "a bound name not bound exactly once, by its own kind": binders of its kind 1, of the other kinds 0
  unfoldable pub new_names : List ℕ
  new_names = flat (λ n. pick (is_new w n) (node_first w n ∷ []) []) (range (nodes w))

  unfoldable pub received_names : List ℕ
  received_names = flat (λ b. pick (is_receive w b) (branch_name w b ∷ []) []) (range (branches w))

  unfoldable pub formal_names : List ℕ
  formal_names = flat (formals w) (range (definitions w))

  unfoldable pub bound_right : List ℕ → ℕ → ℕ → Bool
  bound_right binders kind x = same (times x binders) (bit (same (name_kind_of w x) kind))

  unfoldable pub is_binding_right : Bool
  is_binding_right =
      every (bound_right new_names 0) (from (publics w) (bounds w)) &&
      (every (bound_right received_names 1) (from (publics w) (bounds w)) && every (bound_right formal_names 2) (from (publics w) (bounds w)))

  -- 8: "a name used where not held (publics are held everywhere)"
  unfoldable pub usable : ℕ → ℕ → Bool
  usable n x = is_public w x || member x (held w n)

  unfoldable pub is_branch_scoped : ℕ → ℕ → Bool
  is_branch_scoped n b = pick (is_silent w b) true (usable n (channel w b) && pick (is_receive w b) true (usable n (branch_name w b)))

  unfoldable pub is_node_scoped : ℕ → Bool
  is_node_scoped n = pick (is_call_node w n) (every (usable n) (arguments_of w n)) (every (is_branch_scoped n) (branches_of w n))

  unfoldable pub is_scope_right : Bool
  is_scope_right = every is_node_scoped (range (nodes w))

  -- 9: "entry definition of another thread or with formals; call into another thread or to the caller's own definition"
  unfoldable pub is_entry_right : ℕ → Bool
  is_entry_right t = same (definition_thread w (entry w t)) t && same (formal_count w (entry w t)) 0

  -- node n, which is in definition d. "Only here and in the listing, which rewrites first, does cause 9 spare self-calls." (document 02, Item 1):
  -- where they are spared, a call to the caller's own definition passes
  unfoldable pub call_right_in : Bool → ℕ → ℕ → Bool
  call_right_in spared d n =
      pick (is_call_node w n) (same (definition_thread w (node_first w n)) (definition_thread w d) && (spared || not (same (node_first w n) d))) true

  unfoldable pub is_call_right : Bool → ℕ → Bool
  is_call_right spared n = call_right_in spared (definition w n) n

  unfoldable pub are_calls_right : Bool → Bool
  are_calls_right spared = every is_entry_right (range (threads w)) && every (is_call_right spared) (range (nodes w))

  -- each cause's number, and whether the table passes its test, in the order of testing
  abbrev pub tests : Bool → List (ℕ × Bool)
  tests spared =
      (1, long_enough) ∷
      (2, are_counts_right) ∷
      (3, is_layout_right) ∷
      (4, are_kinds_right) ∷
      (5, are_ranges_right) ∷
      (6, is_shape_right) ∷
      (7, is_binding_right) ∷
      (8, is_scope_right) ∷
      (9, are_calls_right spared) ∷
      []

  -- "Checked in number order save as said below, each over the whole table before the next": the first cause that applies, 0 if none
  unfoldable pub cause_sparing : Bool → ℕ
  unfolding first_failed
  cause_sparing spared = first_failed (tests spared)

  -- the same with no self-call spared
  unfoldable pub cause : ℕ
  unfolding cause_sparing
  cause = cause_sparing false
