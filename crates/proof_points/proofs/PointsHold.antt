-- Every point of the table holds of the definitions: one claim, computed. Assumes nothing.
use mathlib.Core.Path.{◌≡◌, refl}
use mathlib.Core.Bool.{true}
use Rattle.base_words.specs.All.{all}
use Rattle.base_words.specs.Sum.{sum}
use Rattle.base_words.specs.Each.{total, each, tab, joined, those}
use Rattle.base_words.specs.Iter.{iter}
use Rattle.base_words.specs.Pick.{if◌then◌or_else◌}
use Rattle.base_words.specs.Seek.{seek}
use Rattle.base_words.specs.Writes.{writes}
use Rattle.base_kinds.specs.Kinds.{kind_of, used}
use Rattle.base_kinds.specs.Moves.{mode_of, is_rule, rule_of, move_of}
use Rattle.base_table.specs.Table.{has_number, pool_of, limit_of, entry_count, exit_count}
use Rattle.meaning.specs.Values.{sum_of, difference_of, equal_of, less_of, is_true, is_false, is_defined, number_in}
use Rattle.meaning.specs.Tuples.{value_of, same_tuple}
use Rattle.meaning.specs.Messages.{has, without, times}
use Rattle.meaning.specs.Queues.{messages_of, message_word, messages_word, queue_word, with_messages, tidied}
use Rattle.meaning.specs.Expressions.{field_of, operand_of, expression_of}
use Rattle.meaning.specs.Conditions.{condition_of, default_at, left_out, other_false, holds}
use Rattle.meaning.specs.Templates.{binds, item_value, gathered, evaluated, bind_one, bound}
use Rattle.meaning.specs.Assignments.{assigned_value, assign_one, assigned}
use Rattle.meaning.specs.Requirements.{touched, first_touched, branch_count, instance_named, has_token, has_tokens, can_lower, waits, is_alone, counts_permit, granted, below_limit, edge_has_room, has_rooms, can_raise, roomy}
use Rattle.meaning.specs.Changes.{expected, received, worked, message_sent, take_one, taken, more, count_changed, active_changed, ready_changed, put_one, puts, cleared, moved}
use Rattle.meaning.specs.Refusals.{first_refusal}
use Rattle.meaning.specs.Step.{element_named, move_named, instance_of, shared_of, before, site_of, exists, template, work, sent, defined, matches, after_taking, queued, space, refusals_at, refusals, instance_after, made_after, instances_after, queues_after, traffic, step}
use Rattle.check_occurrences.specs.Occurrences.{condition_count, received_count, sent_count, of_kind, as_exit, as_entry, as_first, as_task, as_received, as_sent, is_default, defaults, default_once, binds_field, times_bound, template_once, bound_once}
use Rattle.check_model.specs.Checks.{check1, check2, check3, edge_right, check4, check5, pool_receives, pool_sends, not_sent_there, check6, check7, check8, lowest}
use Rattle.text_lexer.specs.Lexer.{is_blank, is_sign, is_word, token_of, token_here, token_at, if_word, if_sign, if_assign, if_end}
use Rattle.base_bytes.specs.Bytes.{among, between, is_digit, is_letter, past}
use Rattle.text_numerals.specs.Numerals.{value_from, leading_zero, number_of, is_field_letter, field_behind, field_from, field_of as fieldOf-of-numerals, as_number, as_field, operand_of as operandOf-of-numerals, if_value, if_too_large, if_number, if_field, if_out_of_range}
use Rattle.base_bytes.specs.Bytes.{same_bytes}
use Rattle.text_readers.specs.Reading.{if_at, onward, ◌then◌, sign_at, assign_at, end_at, keep_number, number, field, keep_operand, operand, mode_named, keep_mode, mode, is_spelled, starts_number, starts_field, starts_sign}
use Rattle.text_terms.specs.Terms.{joint, expression, bind, template_item, comparison, condition, assignment, guarded}
use Rattle.text_bounds.specs.Bounds.{starts, one_too_many, too_many, counted}
use Rattle.text_parts.specs.Parts.{item_of, items_from, items, inside, series, message, receiving, receiving_branches, one_edge, task_part, part_of}
use Rattle.text_elements.specs.Elements.{is_keyword, kind_named, blank, parts_from, parts_of, element_of, element, starts_element}
use Rattle.text_passes.specs.Model.{put_before, barred, element_alone, elements_at, pool_word, opening, closing, closed, inside_pool, pool_of_word, pool, starts_pool, pools_at, model, flat, filled, pool_table, table_of}
use Rattle.text_ends.specs.Rewriting.{is_end_snd, times_in, mentioned, is_unused, first_from, lowest_unused, with_one, sending_to, end_of, first_end, treated, end_sends, all_treated, rewritten, unused_count, room_for, has_room as hasRoom-of-ends}
use Rattle.text_read.specs.Notation.{checked, judged, read_into}
use Rattle.step_names.specs.Names.{step_name, named_by, offered, accepted}
use Rattle.step_list.specs.Listing.{queue_places, values_at, by_place, by_branch, by_phase, by_element, by_instance, by_pool, step_names, listed, chosen}
use Rattle.step_run.specs.Run.{whether, one_step, ran_by, ran}
use Rattle.write_decimals.specs.Decimals.{shown_from, shown, fold_digits}
use Rattle.write_shown.specs.Shown.{lead, separated, shown_field, shown_operand, shown_pair, shown_expression, shown_item, shown_condition, shown_tuple, shown_message, shown_entries, shown_exits, shown_guarded, shown_guarded_list, shown_receiving, shown_receiving_list, shown_mode, shown_assignment, shown_assignments, shown_task, shown_part, shown_parts, shown_element, shown_elements, shown_limit, shown_pool, shown_pools, shown_table}
use Rattle.proof_points.specs.Points.{Point, points}

pub points_hold : each (λ (p : Point). p.holds) points ≡ true
unfolding is_end_snd times_in mentioned is_unused first_from lowest_unused with_one sending_to end_of first_end treated end_sends all_treated rewritten unused_count room_for hasRoom-of-ends all sum total each tab joined those iter if◌then◌or_else◌ seek writes kind_of used mode_of is_rule rule_of move_of has_number pool_of limit_of entry_count exit_count sum_of difference_of equal_of less_of is_true is_false is_defined number_in value_of same_tuple has without times messages_of message_word messages_word queue_word with_messages tidied field_of operand_of expression_of condition_of default_at left_out other_false holds binds item_value gathered evaluated bind_one bound assigned_value assign_one assigned touched first_touched branch_count instance_named has_token has_tokens can_lower waits is_alone counts_permit granted below_limit edge_has_room has_rooms can_raise roomy expected received worked message_sent take_one taken more count_changed active_changed ready_changed put_one puts cleared moved first_refusal element_named move_named instance_of shared_of before site_of exists template work sent defined matches after_taking queued space refusals_at refusals instance_after made_after instances_after queues_after traffic step condition_count received_count sent_count of_kind as_exit as_entry as_first as_task as_received as_sent is_default defaults default_once binds_field times_bound template_once bound_once check1 check2 check3 edge_right check4 check5 pool_receives pool_sends not_sent_there check6 check7 check8 lowest among between is_blank is_sign is_digit is_letter is_word past token_of token_here token_at if_word if_sign if_assign if_end value_from leading_zero number_of same_bytes as_number is_field_letter field_behind field_from fieldOf-of-numerals as_field operandOf-of-numerals if_value if_too_large if_number if_field if_out_of_range if_at onward ◌then◌ sign_at assign_at end_at keep_number number field keep_operand operand mode_named keep_mode mode is_spelled starts_number starts_field starts_sign joint expression bind template_item comparison condition assignment guarded starts one_too_many too_many counted item_of items_from items inside series message receiving receiving_branches one_edge task_part part_of is_keyword kind_named blank parts_from parts_of element_of element starts_element put_before barred element_alone elements_at pool_word opening closing closed inside_pool pool_of_word pool starts_pool pools_at model flat filled pool_table table_of checked judged read_into step_name named_by offered accepted queue_places values_at by_place by_branch by_phase by_element by_instance by_pool step_names listed chosen whether one_step ran_by ran shown_from shown fold_digits lead separated shown_field shown_operand shown_pair shown_expression shown_item shown_condition shown_tuple shown_message shown_entries shown_exits shown_guarded shown_guarded_list shown_receiving shown_receiving_list shown_mode shown_assignment shown_assignments shown_task shown_part shown_parts shown_element shown_elements shown_limit shown_pool shown_pools shown_table
points_hold = refl
