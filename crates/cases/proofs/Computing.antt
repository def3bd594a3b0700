-- What the cases open. `unfolding` of one of these names opens all that stands on its own line.
use Rattle.lists.specs.Lists.{same, from, every, some, keep, flat, member, times, first_from, positions_from, total, ascends}
use Rattle.scheme.specs.Words.{formals, branches_of, arguments_of}
use Rattle.scheme.specs.Owners.{home, owner, pick_owner, held_names_by, definition_by, held, definition}
use Rattle.scheme.specs.Scheme.{scheme, node_at, branch_at, arguments_from, pick_binder, binder_of}
use Rattle.table.specs.Causes.{first_failed, long_enough, are_counts_right, is_layout_right, cause_sparing, cause}
use Rattle.table.specs.Causes.{is_name_kind_right, are_formals_zero, is_call_zero, is_node_kind_right, is_branch_kind_right, are_kinds_right}
use Rattle.table.specs.Causes.{are_formals_inside, is_definition_inside, is_entry_inside, is_node_inside, is_branch_inside, is_argument_inside, are_ranges_right}
use Rattle.table.specs.Causes.{root_nodes, new_children, next_nodes, is_owned_once, are_children_above, consecutive, is_shape_right}
use Rattle.table.specs.Causes.{new_names, received_names, formal_names, bound_right, is_binding_right, usable, is_branch_scoped, is_node_scoped, is_scope_right}
use Rattle.table.specs.Causes.{is_entry_right, call_right_in, is_call_right, are_calls_right}
use Rattle.net.specs.Image.{is_header_right, record_right, are_records_right}
use Rattle.net.specs.Net.{records_from, encode, is_ascending}
use Rattle.net.specs.Firing as Firing
use Rattle.net.specs.Firing.{is_marking, is_enabled, has_contact, step, in_turn, initial_marking, search_from, lowest_enabled, quiet_from, settle_first, run_by, run_of}
use Rattle.summary.specs.Sets as Sets
use Rattle.summary.specs.Sets.{has_bit, is_in_set, packed}
use Rattle.summary.specs.Summary as Summaries
use Rattle.summary.specs.Summary.{unmarked, summary_of, worked_out}
use Rattle.summary.specs.Calls.{make_summary, fire_with}
use Rattle.places.specs.Values.{values_of, private_values_of, shares}
use Rattle.places.specs.Held.{largest, held_counts, most_held, private_count}
use Rattle.places.specs.Reach.{overlaps, is_sent, passes, is_passed, comes, tabled, look, is_new, rounds, reach_table, values_for}
use Rattle.places.specs.Places.{controls, control_places, row, rows, places}
use Rattle.places.specs.Transitions.{is_input, is_output, releases, copies, descriptions}
use Rattle.places.specs.Image.{net_with, net_of, image_of}
use Rattle.builder.specs.Answer.{build_outcome}
use Rattle.process.specs.States as States
use Rattle.process.specs.StateWords.{state_words, place, noted, value_words}
use Rattle.process.specs.Outcomes.{answered}
use Rattle.readback.specs.Configurations.{state_shown}
use Rattle.readback.specs.Reading.{marked, has, spots, values, configuration, stands_for_state, reading_back}
use Rattle.readback.specs.Answers.{read_outcome}
use Rattle.rewriting.specs.Rewriting.{header_of, is_self_calling, copied, caller, appended, definition_words, definition_copy, node_words, node_copy, branch_words}
use Rattle.rewriting.specs.Rewriting.{branch_copy, name_part, definition_part, thread_part, node_part, branch_part, argument_part, rewritten_header, rewritten}
use Rattle.rewriting.specs.Rewriting.{node_origins, branch_origins}
use Rattle.rewriting.specs.Outcomes.{rewrite_cause, rewrite_outcome, origin_at, origin_outcome}
use Rattle.print.specs.Text.{digits_of, line, refusal}
use Rattle.print.specs.Words.{words_of}
use Rattle.print.specs.Listing.{header_line, transition_line, listing}
use Rattle.print.specs.Program.{is_odd, program_cause, program_text}

unfoldable pub lists : Unit {0}
unfolding same from every some keep flat member times first_from positions_from total ascends
lists = tt

unfoldable pub decoding : Unit {0}
unfolding formals branches_of arguments_of home owner pick_owner held_names_by definition_by held definition scheme node_at branch_at arguments_from pick_binder binder_of
decoding = tt

unfoldable pub kinds : Unit {0}
unfolding first_failed long_enough are_counts_right is_layout_right is_name_kind_right are_formals_zero is_call_zero is_node_kind_right is_branch_kind_right are_kinds_right cause_sparing cause
kinds = tt

unfoldable pub shapes : Unit {0}
unfolding are_formals_inside is_definition_inside is_entry_inside is_node_inside is_branch_inside is_argument_inside are_ranges_right root_nodes new_children next_nodes is_owned_once
    are_children_above consecutive is_shape_right
shapes = tt

unfoldable pub scopes : Unit {0}
unfolding new_names received_names formal_names bound_right is_binding_right usable is_branch_scoped is_node_scoped is_scope_right is_entry_right call_right_in is_call_right are_calls_right
scopes = tt

unfoldable pub nets : Unit {0}
unfolding largest held_counts most_held private_count overlaps is_sent passes is_passed comes tabled look is_new rounds reach_table values_for
    values_of private_values_of shares controls control_places row rows places
    is_input is_output releases copies descriptions net_with net_of image_of build_outcome
nets = tt

unfoldable pub firings : Unit {0}
unfolding records_from encode is_ascending is_header_right record_right is_marking is_enabled has_contact Firing.put Firing.step_of step in_turn initial_marking
    Firing.fire Firing.replay search_from lowest_enabled quiet_from settle_first run_by run_of
firings = tt

unfoldable pub summaries : Unit {0}
unfolding are_records_right has_bit is_in_set packed Sets.words_of unmarked summary_of worked_out Summaries.shares make_summary fire_with
summaries = tt

unfoldable pub readings : Unit {0}
unfolding States.put state_words place noted value_words answered marked has spots values configuration stands_for_state reading_back state_shown read_outcome
readings = tt

unfoldable pub rewritings : Unit {0}
unfolding header_of is_self_calling copied caller appended definition_words definition_copy node_words node_copy branch_words branch_copy name_part definition_part
    thread_part node_part branch_part argument_part rewritten_header rewritten node_origins branch_origins rewrite_cause rewrite_outcome origin_at origin_outcome
rewritings = tt

unfoldable pub texts : Unit {0}
unfolding digits_of line refusal words_of header_line transition_line listing is_odd program_cause program_text
texts = tt

-- all of them
unfoldable pub everything : Unit {0}
unfolding lists decoding kinds shapes scopes nets firings summaries readings rewritings texts
everything = tt
