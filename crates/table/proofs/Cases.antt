-- Document 01's worked table cases, computed: table E and its variants.
use mathlib.Core.Path.{◌≡◌, refl}
use mathlib.Core.Bool.{true}
use mathlib.Core.List.{List, [], ◌∷◌}
use Prim.Native.Nat.{ℕ}
use lib.ListN.{set, take}
use Rattle.lists.specs.Lists.{same, from, every, flat, member, times, first_from}
use Rattle.scheme.specs.Words.{formals, branches_of, arguments_of}
use Rattle.scheme.specs.Owners.{home, owner, pick_owner, held_names_by, definition_by, held, definition}
use Rattle.table.specs.Causes

-- "ν r.p⟨r⟩.0 beside p(x).0"
abbrev pub table_e : List ℕ
table_e =
    1 ∷ 2 ∷ 2 ∷ 2 ∷ 5 ∷ 2 ∷ 0 ∷ 13 ∷ 15 ∷ 23 ∷ 25 ∷ 40 ∷ 48 ∷ 0 ∷ 1 ∷ 0 ∷ 0 ∷ 0 ∷ 0 ∷ 1 ∷ 3 ∷ 0 ∷ 0 ∷ 0 ∷ 1 ∷
    2 ∷ 1 ∷ 1 ∷ 1 ∷ 0 ∷ 1 ∷ 0 ∷ 0 ∷ 0 ∷ 1 ∷ 1 ∷ 1 ∷ 0 ∷ 0 ∷ 0 ∷ 1 ∷ 0 ∷ 1 ∷ 2 ∷ 2 ∷ 0 ∷ 2 ∷ 4 ∷ []

-- one Stop, no names
abbrev pub table_stop : List ℕ
table_stop = 0 ∷ 0 ∷ 1 ∷ 1 ∷ 1 ∷ 0 ∷ 0 ∷ 13 ∷ 13 ∷ 17 ∷ 18 ∷ 21 ∷ 21 ∷ 0 ∷ 0 ∷ 0 ∷ 0 ∷ 0 ∷ 0 ∷ 0 ∷ 0 ∷ []

-- a table and the cause that it is refused with, 0 where it is accepted
pub record Case : Type 0 where
  pub table : List ℕ
  pub answer : ℕ

abbrev case : List ℕ → ℕ → Case
case t a = record { table = t; answer = a }

abbrev cases : List Case
cases =
    case table_e 0 ∷
    -- "Its first 12 words 1, first 13 words 3"
    case (take 12 table_e) 1 ∷ case (take 13 table_e) 3 ∷
    -- "P set to 33: 2; to 32: 5"
    case (set table_e 0 33) 2 ∷ case (set table_e 0 32) 5 ∷
    -- "Branch 0 sending name 2: 8. Its next node 0: 6"
    case (set table_e 42 2) 8 ∷ case (set table_e 43 0) 6 ∷
    -- the smallest table; "its node made 3 0 0: 9"
    case table_stop 0 ∷ case (set table_stop 18 3) 9 ∷ []

pub right : every (λ c. same (Causes.cause c.table) c.answer) cases ≡ true
unfolding same from every flat member times first_from formals branches_of arguments_of home owner pick_owner held_names_by definition_by held definition Causes.cause Causes.cause_sparing Causes.first_failed Causes.long_enough Causes.are_counts_right Causes.is_layout_right Causes.is_name_kind_right Causes.are_formals_zero Causes.is_call_zero Causes.is_node_kind_right Causes.is_branch_kind_right Causes.are_kinds_right Causes.are_formals_inside Causes.is_definition_inside Causes.is_entry_inside Causes.is_node_inside Causes.is_branch_inside Causes.is_argument_inside Causes.are_ranges_right Causes.root_nodes Causes.new_children Causes.next_nodes Causes.is_owned_once Causes.are_children_above Causes.consecutive Causes.is_shape_right Causes.new_names Causes.received_names Causes.formal_names Causes.bound_right Causes.is_binding_right Causes.usable Causes.is_branch_scoped Causes.is_node_scoped Causes.is_scope_right Causes.is_entry_right Causes.call_right_in Causes.is_call_right Causes.are_calls_right
right = refl
