-- What the listing program prints, computed: table E, a table that calls itself, and input that is refused, with and without an odd last byte.
use mathlib.Core.Path.{◌≡◌, refl}
use mathlib.Core.List.{List, [], ◌∷◌, ◌++◌}
use Prim.Native.Nat.{ℕ}
use lib.ListN.{take, drop, replicate}
use Rattle.lists.specs.Lists as ListsL
use Rattle.scheme.specs.Words as WordsT
use Rattle.scheme.specs.Owners as OwnersT
use Rattle.scheme.specs.Scheme as SchemeT
use Rattle.table.specs.Causes as CausesT
use Rattle.process.specs.StateWords.{place}
use Rattle.rewriting.specs.Rewriting as RewritingR
use Rattle.rewriting.specs.Outcomes as OutcomesR
use Rattle.rewriting.proofs.Cases.{table_loop}
use Rattle.net.specs.Image as ImageN
use Rattle.net.specs.Net as NetN
use Rattle.places.specs.Values as ValuesB
use Rattle.places.specs.Held as HeldB
use Rattle.places.specs.Reach as ReachB
use Rattle.places.specs.Places as PlacesB
use Rattle.places.specs.Transitions as TransitionsB
use Rattle.places.specs.Image as ImageB
use Rattle.print.specs.Text.{digits_of, line, refusal}
use Rattle.print.specs.Words.{words_of}
use Rattle.print.specs.Listing.{header_line, transition_line, listing}
use Rattle.print.specs.Program.{is_odd, program_cause, program_text}

abbrev table_e : List ℕ
table_e =
    1 ∷ 2 ∷ 2 ∷ 2 ∷ 5 ∷ 2 ∷ 0 ∷ 13 ∷ 15 ∷ 23 ∷ 25 ∷ 40 ∷ 48 ∷ 0 ∷ 1 ∷ 0 ∷ 0 ∷ 0 ∷ 0 ∷ 1 ∷ 3 ∷ 0 ∷ 0 ∷ 0 ∷ 1 ∷
    2 ∷ 1 ∷ 1 ∷ 1 ∷ 0 ∷ 1 ∷ 0 ∷ 0 ∷ 0 ∷ 1 ∷ 1 ∷ 1 ∷ 0 ∷ 0 ∷ 0 ∷ 1 ∷ 0 ∷ 1 ∷ 2 ∷ 2 ∷ 0 ∷ 2 ∷ 4 ∷ []

-- its image: 106 words
abbrev image_e : List ℕ
image_e =
    15 ∷ 8 ∷ 22 ∷ 22 ∷ 6 ∷ 8 ∷ 14 ∷ 62 ∷ 4 ∷ 5 ∷ 6 ∷ 7 ∷ 8 ∷ 12
    ∷ 2 ∷ 0 ∷ 1 ∷ 62 ∷ 3 ∷ 3 ∷ 2 ∷ 0 ∷ 1 ∷ 68 ∷ 3 ∷ 3 ∷ 1 ∷ 2 ∷ 1 ∷ 74 ∷ 2 ∷ 2 ∷ 1 ∷ 2 ∷ 1 ∷ 78 ∷ 2 ∷ 2
    ∷ 1 ∷ 4 ∷ 2 ∷ 82 ∷ 2 ∷ 2 ∷ 1 ∷ 4 ∷ 2 ∷ 86 ∷ 2 ∷ 2 ∷ 4 ∷ 0 ∷ 1 ∷ 90 ∷ 4 ∷ 4 ∷ 4 ∷ 0 ∷ 1 ∷ 98 ∷ 4 ∷ 4
    ∷ 4 ∷ 6 ∷ 8 ∷ 0 ∷ 4 ∷ 9 ∷ 5 ∷ 7 ∷ 8 ∷ 1 ∷ 5 ∷ 9 ∷ 0 ∷ 10 ∷ 6 ∷ 11 ∷ 1 ∷ 10 ∷ 7 ∷ 11 ∷ 2 ∷ 13 ∷ 4 ∷ 14 ∷ 3 ∷ 13 ∷ 5 ∷ 14
    ∷ 0 ∷ 4 ∷ 9 ∷ 12 ∷ 0 ∷ 2 ∷ 10 ∷ 13 ∷ 1 ∷ 5 ∷ 9 ∷ 12 ∷ 1 ∷ 3 ∷ 10 ∷ 13 ∷ []

-- the text of the table that is a call of itself, a comment above each line
abbrev text_loop : List ℕ
text_loop =
    -- 2 2 2 2 1
    50 ∷ 32 ∷ 50 ∷ 32 ∷ 50 ∷ 32 ∷ 50 ∷ 32 ∷ 49 ∷ 10
    -- 0 5 0 0 : 0 > 1
    ∷ 48 ∷ 32 ∷ 53 ∷ 32 ∷ 48 ∷ 32 ∷ 48 ∷ 32 ∷ 58 ∷ 32 ∷ 48 ∷ 32 ∷ 62 ∷ 32 ∷ 49 ∷ 10
    -- 1 5 1 0 : 1 > 0
    ∷ 49 ∷ 32 ∷ 53 ∷ 32 ∷ 49 ∷ 32 ∷ 48 ∷ 32 ∷ 58 ∷ 32 ∷ 49 ∷ 32 ∷ 62 ∷ 32 ∷ 48 ∷ 10
    ∷ []

-- a definition with 17 formals that calls itself: rewritten, the table has 34 bound names
abbrev table_many : List ℕ
table_many =
    1 ∷ 17 ∷ 2 ∷ 1 ∷ 2 ∷ 0 ∷ 17 ∷ 13 ∷ 30 ∷ 38 ∷ 39 ∷ 45 ∷ 45 ∷
    (replicate 17 2 ++ (0 ∷ 0 ∷ 0 ∷ 0 ∷ 0 ∷ 1 ∷ 1 ∷ 17 ∷ 0 ∷ 0 ∷ 0 ∷ 0 ∷ 3 ∷ 1 ∷ 0 ∷ replicate 17 0))

-- the bytes of words below 256
abbrev bytes : List ℕ → List ℕ
bytes ws = ListsL.flat (λ w. w ∷ 0 ∷ []) ws

-- input, and the text printed
record Case : Type 0 where
  input : List ℕ
  text : List ℕ

abbrev case : List ℕ → List ℕ → Case
case input text = record { input = input; text = text }

abbrev cases : List Case
cases =
    case (bytes table_e) (listing image_e)
    ∷ case (bytes table_e ++ (0 ∷ [])) (refusal 3)
    ∷ case [] (refusal 1)
    ∷ case (bytes (take 12 table_e) ++ (7 ∷ [])) (refusal 1)
    ∷ case (bytes (take 13 table_e)) (refusal 3)
    ∷ case (bytes (33 ∷ drop 1 table_e)) (refusal 2)
    ∷ case (bytes (33 ∷ drop 1 table_e) ++ (0 ∷ [])) (refusal 2)
    ∷ case (bytes (32 ∷ drop 1 table_e)) (refusal 5)
    ∷ case (bytes (32 ∷ drop 1 table_e) ++ (0 ∷ [])) (refusal 3)
    ∷ case (bytes table_loop) text_loop
    ∷ case (bytes table_loop ++ (0 ∷ [])) (refusal 3)
    ∷ case (bytes table_many) (refusal 2)
    ∷ case (bytes table_many ++ (0 ∷ [])) (refusal 3)
    ∷ []

abbrev AllRight : List Case → Type 0
AllRight [] = Unit {0}
AllRight (c ∷ cs) = (program_text c.input ≡ c.text) × AllRight cs

all_right : AllRight cases
unfolding ListsL.same ListsL.from ListsL.every ListsL.some ListsL.keep ListsL.flat ListsL.member ListsL.times ListsL.first_from ListsL.positions_from
    ListsL.ascends ListsL.total WordsT.formals WordsT.branches_of WordsT.arguments_of OwnersT.home OwnersT.pick_owner OwnersT.owner OwnersT.held_names_by
    OwnersT.definition_by OwnersT.held OwnersT.definition SchemeT.node_at SchemeT.branch_at SchemeT.arguments_from SchemeT.pick_binder SchemeT.binder_of
    SchemeT.scheme CausesT.first_failed CausesT.long_enough CausesT.are_counts_right CausesT.is_layout_right CausesT.is_name_kind_right CausesT.are_formals_zero CausesT.is_call_zero
    CausesT.is_node_kind_right CausesT.is_branch_kind_right CausesT.are_kinds_right CausesT.are_formals_inside CausesT.is_definition_inside CausesT.is_entry_inside CausesT.is_node_inside
    CausesT.is_branch_inside CausesT.is_argument_inside CausesT.are_ranges_right CausesT.root_nodes CausesT.new_children CausesT.next_nodes CausesT.is_owned_once
    CausesT.are_children_above CausesT.consecutive CausesT.is_shape_right CausesT.new_names CausesT.received_names CausesT.formal_names CausesT.bound_right
    CausesT.is_binding_right CausesT.usable CausesT.is_branch_scoped CausesT.is_node_scoped CausesT.is_scope_right CausesT.is_entry_right CausesT.call_right_in CausesT.is_call_right
    CausesT.are_calls_right CausesT.cause_sparing place RewritingR.header_of RewritingR.is_self_calling RewritingR.copied RewritingR.caller RewritingR.appended
    RewritingR.definition_words RewritingR.definition_copy RewritingR.node_words RewritingR.node_copy RewritingR.branch_words RewritingR.branch_copy
    RewritingR.name_part RewritingR.definition_part RewritingR.thread_part RewritingR.node_part RewritingR.branch_part RewritingR.argument_part
    RewritingR.rewritten_header RewritingR.rewritten OutcomesR.rewrite_cause ImageN.is_header_right ImageN.record_right NetN.records_from NetN.encode
    NetN.is_ascending HeldB.largest HeldB.held_counts HeldB.most_held HeldB.private_count ReachB.overlaps ReachB.is_sent ReachB.passes
    ReachB.is_passed ReachB.comes ReachB.tabled ReachB.look ReachB.is_new ReachB.rounds ReachB.reach_table ReachB.values_for ValuesB.values_of
    ValuesB.private_values_of ValuesB.shares
    PlacesB.controls PlacesB.control_places PlacesB.row PlacesB.rows PlacesB.places TransitionsB.is_input TransitionsB.is_output
    TransitionsB.releases TransitionsB.copies TransitionsB.descriptions ImageB.net_with ImageB.net_of ImageB.image_of
    digits_of line header_line transition_line listing words_of is_odd program_cause program_text
all_right = (refl, (refl, (refl, (refl, (refl, (refl, (refl, (refl, (refl, (refl, (refl, (refl, (refl, tt)))))))))))))
