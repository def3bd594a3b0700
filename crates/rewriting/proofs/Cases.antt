-- Worked rewritings, computed.
use mathlib.Core.Path.{◌≡◌, refl}
use mathlib.Core.List.{List, [], ◌∷◌}
use mathlib.Core.Option.{some}
use Prim.Native.Nat.{ℕ}
use lib.ListN.{replicate}
use Rattle.lists.specs.Lists as Lists
use Rattle.lists.specs.Lists.{every}
use Rattle.scheme.specs.Words.{formals, branches_of, arguments_of}
use Rattle.scheme.specs.Owners.{home, owner, pick_owner, held_names_by, definition_by, held, definition}
use Rattle.scheme.specs.Scheme.{pick_binder, binder_of}
use Rattle.table.specs.Causes
use Rattle.process.specs.Outcomes.{answered}
use Rattle.rewriting.specs.Rewriting
use Rattle.process.specs.StateWords.{place}
use Rattle.rewriting.specs.Rewriting.{is_self_calling, copied, caller, appended, definition_words, definition_copy, node_words, node_copy, branch_words}
use Rattle.rewriting.specs.Rewriting.{branch_copy, name_part, definition_part, thread_part, node_part, branch_part, argument_part, rewritten_header}
use Rattle.rewriting.specs.Rewriting.{rewritten, node_origins, branch_origins, name_origins}
use Rattle.rewriting.specs.Outcomes.{rewrite_cause, rewrite_outcome, origin_at, origin_outcome, node_origin, branch_origin}

-- one definition that is a call of itself
abbrev pub table_loop : List ℕ
table_loop = 0 ∷ 0 ∷ 1 ∷ 1 ∷ 1 ∷ 0 ∷ 0 ∷ 13 ∷ 13 ∷ 17 ∷ 18 ∷ 21 ∷ 21 ∷ 0 ∷ 0 ∷ 0 ∷ 0 ∷ 0 ∷ 3 ∷ 0 ∷ 0 ∷ []

abbrev pub table_loop_rewritten : List ℕ
table_loop_rewritten =
    0 ∷ 0 ∷ 2 ∷ 1 ∷ 2 ∷ 0 ∷ 0 ∷ 13 ∷ 13 ∷ 21 ∷ 22 ∷ 28 ∷ 28 ∷ 0 ∷ 0 ∷ 0 ∷ 0 ∷ 0 ∷ 1 ∷ 0 ∷ 0 ∷ 0 ∷ 3 ∷ 1 ∷ 0 ∷ 3 ∷ 0 ∷ 0 ∷ []

-- two definitions that call themselves and each other; with no public names, name 0 is bound
abbrev table_two : List ℕ
table_two = 0 ∷ 1 ∷ 2 ∷ 1 ∷ 2 ∷ 0 ∷ 1 ∷ 13 ∷ 14 ∷ 22 ∷ 23 ∷ 29 ∷ 29 ∷ 2 ∷ 0 ∷ 1 ∷ 0 ∷ 0 ∷ 0 ∷ 0 ∷ 0 ∷ 1 ∷ 0 ∷ 3 ∷ 1 ∷ 0 ∷ 3 ∷ 0 ∷ 0 ∷ 0 ∷ []

abbrev table_two_rewritten : List ℕ
table_two_rewritten = 0 ∷ 2 ∷ 4 ∷ 1 ∷ 4 ∷ 0 ∷ 2 ∷ 13 ∷ 15 ∷ 31 ∷ 32 ∷ 44 ∷ 44 ∷ 2 ∷ 2 ∷ 0 ∷ 1 ∷ 0 ∷ 0 ∷ 0 ∷ 0 ∷ 0 ∷ 1 ∷ 0 ∷ 2 ∷ 0 ∷ 0 ∷ 0 ∷ 3 ∷ 1 ∷ 1 ∷ 0 ∷
    3 ∷ 3 ∷ 0 ∷ 3 ∷ 2 ∷ 0 ∷ 3 ∷ 0 ∷ 0 ∷ 3 ∷ 1 ∷ 1 ∷ 0 ∷ 1 ∷ []

-- New, send, receive and arguments
abbrev table_all : List ℕ
table_all = 0 ∷ 6 ∷ 2 ∷ 1 ∷ 6 ∷ 2 ∷ 3 ∷ 13 ∷ 19 ∷ 27 ∷ 28 ∷ 46 ∷ 54 ∷ 1 ∷ 2 ∷ 2 ∷ 2 ∷ 0 ∷ 0 ∷ 0 ∷ 1 ∷ 1 ∷ 3 ∷ 0 ∷ 0 ∷ 0 ∷ 0 ∷ 1 ∷ 2 ∷ 4 ∷ 4 ∷ 2 ∷ 5 ∷ 2 ∷ 1 ∷
    0 ∷ 2 ∷ 3 ∷ 1 ∷ 0 ∷ 3 ∷ 1 ∷ 0 ∷ 3 ∷ 0 ∷ 0 ∷ 2 ∷ 3 ∷ 0 ∷ 3 ∷ 1 ∷ 5 ∷ 2 ∷ 5 ∷ 2 ∷ 5 ∷ 1 ∷ []

abbrev table_all_rewritten : List ℕ
table_all_rewritten = 0 ∷ 12 ∷ 4 ∷ 1 ∷ 12 ∷ 4 ∷ 6 ∷ 13 ∷ 25 ∷ 41 ∷ 42 ∷ 78 ∷ 94 ∷ 1 ∷ 2 ∷ 2 ∷ 2 ∷ 0 ∷ 0 ∷ 1 ∷ 2 ∷ 2 ∷ 2 ∷ 0 ∷ 0 ∷ 0 ∷ 1 ∷ 1 ∷ 3 ∷ 0 ∷ 0 ∷ 0 ∷
    0 ∷ 0 ∷ 6 ∷ 7 ∷ 3 ∷ 0 ∷ 10 ∷ 0 ∷ 0 ∷ 1 ∷ 2 ∷ 4 ∷ 4 ∷ 2 ∷ 5 ∷ 2 ∷ 1 ∷ 0 ∷ 2 ∷ 3 ∷ 1 ∷ 0 ∷ 3 ∷ 3 ∷ 0 ∷ 3 ∷ 2 ∷ 0 ∷ 2 ∷ 10 ∷ 7 ∷ 1 ∷ 2 ∷ 2 ∷ 3 ∷ 1 ∷ 0 ∷
    3 ∷ 0 ∷ 3 ∷ 2 ∷ 11 ∷ 11 ∷ 3 ∷ 1 ∷ 0 ∷ 2 ∷ 3 ∷ 0 ∷ 3 ∷ 1 ∷ 5 ∷ 2 ∷ 5 ∷ 2 ∷ 9 ∷ 6 ∷ 8 ∷ 1 ∷ 10 ∷ 8 ∷ 9 ∷ 2 ∷ 5 ∷ 1 ∷ 8 ∷ 10 ∷ 7 ∷ []

pub right : (rewritten table_loop ≡ table_loop_rewritten) × (rewritten table_two ≡ table_two_rewritten) × (rewritten table_all ≡ table_all_rewritten)
unfolding Lists.same Lists.from Lists.some Lists.keep Lists.flat Lists.member Lists.first_from home owner pick_owner held_names_by definition_by definition
    pick_binder binder_of place is_self_calling copied caller appended definition_words definition_copy node_words node_copy branch_words branch_copy name_part
    definition_part thread_part node_part branch_part argument_part Rewriting.header_of rewritten_header rewritten branches_of formals
right = (refl, refl, refl)

-- what the calls answer for the loop: 28 words, 10 in 27, node 1 is a copy of node 0, there is no node 2 and no branch
pub loop-answers : ((rewrite_outcome table_loop (replicate 28 7)).left ≡ table_loop_rewritten) × ((rewrite_outcome table_loop (replicate 27 7)).number ≡ 10)
    × ((node_origin table_loop 1).value ≡ some 0) × ((node_origin table_loop 2).number ≡ 5) × ((branch_origin table_loop 0).number ≡ 5)
unfolding Lists.same Lists.from Lists.some Lists.keep Lists.flat Lists.member Lists.first_from home owner pick_owner held_names_by definition_by definition
    pick_binder binder_of place is_self_calling copied caller appended definition_words definition_copy node_words node_copy branch_words branch_copy name_part
    definition_part thread_part node_part branch_part argument_part Rewriting.header_of rewritten_header rewritten branches_of formals Lists.every Lists.times
    arguments_of held rewrite_cause rewrite_outcome origin_at origin_outcome node_origins branch_origins name_origins answered Causes.first_failed Causes.long_enough
    Causes.are_counts_right Causes.is_layout_right Causes.is_name_kind_right Causes.are_formals_zero Causes.is_call_zero Causes.is_node_kind_right Causes.is_branch_kind_right
    Causes.are_kinds_right Causes.are_formals_inside Causes.is_definition_inside Causes.is_entry_inside Causes.is_node_inside Causes.is_branch_inside Causes.is_argument_inside
    Causes.are_ranges_right Causes.root_nodes Causes.new_children Causes.next_nodes Causes.is_owned_once Causes.are_children_above Causes.consecutive Causes.is_shape_right
    Causes.new_names Causes.received_names Causes.formal_names Causes.bound_right Causes.is_binding_right Causes.usable Causes.is_branch_scoped Causes.is_node_scoped
    Causes.is_scope_right Causes.is_entry_right Causes.call_right_in Causes.is_call_right Causes.are_calls_right Causes.cause_sparing
loop-answers = (refl, refl, refl, refl, refl)
