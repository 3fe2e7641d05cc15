-- The old history of the points was accepted, so that its log is lawful now; and what a send does at the bound is as the points say. Computed. Assumes nothing.
use Prim.Native.Nat.{ℕ, ◌*◌, ◌≤◌}
use mathlib.Core.Path.{◌≡◌, refl}
use mathlib.Core.Bool.{Bool, true, false}
use mathlib.Core.List.{List, [], ◌∷◌, ◌++◌, map}
use native.Mathlib.Omega.{arith}
use lib.ListN.{length, get_or, length-append}
use Rattle.base_words.specs.All.{all}
use Rattle.base_words.specs.Sum.{sum, one_if}
use Rattle.base_words.specs.Each.{total, each, tab, joined, those}
use Rattle.base_words.specs.Iter.{iter}
use Rattle.base_words.specs.Pick.{if◌then◌or_else◌}
use Rattle.base_words.specs.Seek.{seek}
use Rattle.base_words.specs.Writes.{writes}
use Rattle.base_kinds.specs.Kinds.{kind_of, used}
use Rattle.base_kinds.specs.Moves.{mode_of, is_rule, rule_of, move_of}
use Rattle.base_table.specs.Table.{has_number, pool_of, limit_of, entry_count, exit_count}
use Rattle.meaning.specs.declared.Name.{Name}
use Rattle.meaning.specs.Values.{sum_of, difference_of, equal_of, less_of, is_true, is_false, is_defined, number_in}
use Rattle.meaning.specs.Tuples.{value_of, same_tuple}
use Rattle.meaning.specs.Messages.{has, without, times}
use Rattle.meaning.specs.Queues.{messages_of, message_word, messages_word, queue_word, with_messages, tidied}
use Rattle.meaning.specs.Expressions.{field_of, operand_of, expression_of}
use Rattle.meaning.specs.Conditions.{condition_of, default_at, left_out, other_false, holds}
use Rattle.meaning.specs.Templates.{binds, item_value, gathered, evaluated, bind_one, bound}
use Rattle.meaning.specs.Assignments.{assigned_value, assign_one, assigned}
use Rattle.meaning.specs.Requirements.{touched, first_touched, branch_count, instance_named, has_token, has_tokens, can_lower, waits, is_alone, counts_permit, granted, below_limit, edge_has_room, has_rooms, can_raise, roomy}
use Rattle.meaning.specs.Changes.{expected, received, worked, message_sent, take_one, taken, more, count_changed, active_changed, ready_changed, put_one, puts, cleared, moved}
use Rattle.meaning.specs.Refusals.{first_refusal}
use Rattle.meaning.specs.Step.{element_named, move_named, instance_of, shared_of, before, site_of, exists, template, work, sent, defined, matches, after_taking, queued, space, refusals_at, refusals, instance_after, made_after, instances_after, queues_after, traffic, step}
use Rattle.check_occurrences.specs.Occurrences.{condition_count, received_count, sent_count, of_kind, as_exit, as_entry, as_first, as_task, as_received, as_sent, is_default, defaults, default_once, binds_field, times_bound, template_once, bound_once}
use Rattle.check_model.specs.Checks.{check1, check2, check3, edge_right, check4, check5, pool_receives, pool_sends, not_sent_there, check6, check7, check8, lowest}
use Rattle.text_lexer.specs.Lexer.{is_blank, is_sign, is_word, token_of, token_here, token_at, if_word, if_sign, if_assign, if_end}
use Rattle.base_bytes.specs.Bytes.{among, between, is_digit, is_letter, past}
use Rattle.text_numerals.specs.Numerals.{value_from, leading_zero, number_of, is_field_letter, field_behind, field_from, field_of as fieldOf-of-numerals, as_number, as_field, operand_of as operandOf-of-numerals, if_value, if_too_large, if_number, if_field, if_out_of_range}
use Rattle.base_bytes.specs.Bytes.{same_bytes}
use Rattle.text_readers.specs.Reading.{if_at, onward, ◌then◌, sign_at, assign_at, end_at, keep_number, number, field, keep_operand, operand, mode_named, keep_mode, mode, is_spelled, starts_number, starts_field, starts_sign}
use Rattle.text_terms.specs.Terms.{joint, expression, bind, template_item, comparison, condition, assignment, guarded}
use Rattle.text_bounds.specs.Bounds.{starts, one_too_many, too_many, counted}
use Rattle.text_parts.specs.Parts.{item_of, items_from, items, inside, series, message, receiving, receiving_branches, one_edge, task_part, part_of}
use Rattle.text_elements.specs.Elements.{is_keyword, kind_named, blank, parts_from, parts_of, element_of, element, starts_element}
use Rattle.text_passes.specs.Model.{no_pool, put_before, barred, element_alone, elements_at, pool_word, opening, closing, closed, inside_pool, pool_of_word, pool, starts_pool, pools_at, model, flat, filled, pool_table, table_of}
use Rattle.text_ends.specs.Rewriting.{is_end_snd, times_in, mentioned, is_unused, first_from, lowest_unused, with_one, sending_to, end_of, first_end, treated, end_sends, all_treated, rewritten, unused_count, room_for, has_room as hasRoom-of-ends}
use Rattle.text_read.specs.Notation.{checked, judged, read_into}
use Rattle.base_state.specs.Versions.{present, is_version}
use Rattle.state_fits.specs.Fits.{is_start, start_place, has_start}
use Rattle.state_fits.specs.Fresh.{start_edge, pool_begun, fresh}
use Rattle.write_lines.specs.Lines.{step_line}
use Rattle.write_lines.proofs.LineLaws.{step_short}
use Rattle.log_write.specs.Times.{stamp_text}
use Rattle.log_write.specs.Xes.{opening as opening-of-log, extension, time_extension, global, classifier, trace_opening, header, event_opening, event_closing, event_text, events_text, footer, log_text, event_most}
use Rattle.log_text.specs.Logs.{log_most}
use Rattle.log_judge.specs.Judge.{lawful}
use Rattle.engine.specs.Engine.{leaving}
use Rattle.engine.specs.Calls.{Act, a_step, judged_to}
use Rattle.proof_logs.specs.Told.{AllPosted}
use Rattle.proof_oldlogs.specs.OldLogs.{old_stepped, old_did, old_line, all_old_accepted, old_told, is_step_of, steps_at}
use Rattle.proof_oldlogs.specs.Points.{text, said, old, steps, acts, points}
use Rattle.proof_oldlogs.proofs.Theorems.{old_history_lawful}

pub points_hold : each (λ (b : Bool). b) points ≡ true
unfolding is_end_snd times_in mentioned is_unused first_from lowest_unused with_one sending_to end_of first_end treated end_sends all_treated rewritten unused_count room_for hasRoom-of-ends all sum total each tab joined those iter if◌then◌or_else◌ seek writes kind_of used mode_of is_rule rule_of move_of has_number pool_of limit_of entry_count exit_count sum_of difference_of equal_of less_of is_true is_false is_defined number_in value_of same_tuple has without times messages_of message_word messages_word queue_word with_messages tidied field_of operand_of expression_of condition_of default_at left_out other_false holds binds item_value gathered evaluated bind_one bound assigned_value assign_one assigned touched first_touched branch_count instance_named has_token has_tokens can_lower waits is_alone counts_permit granted below_limit edge_has_room has_rooms can_raise roomy expected received worked message_sent take_one taken more count_changed active_changed ready_changed put_one puts cleared moved first_refusal element_named move_named instance_of shared_of before site_of exists template work sent defined matches after_taking queued space refusals_at refusals instance_after made_after instances_after queues_after traffic step condition_count received_count sent_count of_kind as_exit as_entry as_first as_task as_received as_sent is_default defaults default_once binds_field times_bound template_once bound_once check1 check2 check3 edge_right check4 check5 pool_receives pool_sends not_sent_there check6 check7 check8 lowest among between is_blank is_sign is_digit is_letter is_word past token_of token_here token_at if_word if_sign if_assign if_end value_from leading_zero number_of same_bytes as_number is_field_letter field_behind field_from fieldOf-of-numerals as_field operandOf-of-numerals if_value if_too_large if_number if_field if_out_of_range if_at onward ◌then◌ sign_at assign_at end_at keep_number number field keep_operand operand mode_named keep_mode mode is_spelled starts_number starts_field starts_sign joint expression bind template_item comparison condition assignment guarded starts one_too_many too_many counted item_of items_from items inside series message receiving receiving_branches one_edge task_part part_of is_keyword kind_named blank parts_from parts_of element_of element starts_element put_before barred element_alone elements_at pool_word opening closing closed inside_pool pool_of_word pool starts_pool pools_at model flat filled pool_table table_of checked judged read_into
points_hold = refl

-- THE HISTORY: its six steps were accepted, and the log that was printed of it is lawful
steps_most : (number i e : ℕ) (xs : List Act) → steps_at number i e xs ≤ length xs
unfolding steps_at total
steps_most number i e [] = omega arith
steps_most number i e (x ∷ xs) = omega (arith, steps_most number i e xs, one (is_step_of number i e x))
  where
    one : (b : Bool) → one_if b ≤ 1
    one true = omega arith
    one false = omega arith

accepted : all_old_accepted old acts (fresh old present) ≡ true
unfolding all_old_accepted old_did old_stepped leaving is_start start_place has_start start_edge pool_begun fresh is_end_snd times_in mentioned is_unused first_from lowest_unused with_one sending_to end_of first_end treated end_sends all_treated rewritten unused_count room_for hasRoom-of-ends all sum total each tab joined those iter if◌then◌or_else◌ seek writes kind_of used mode_of is_rule rule_of move_of has_number pool_of limit_of entry_count exit_count sum_of difference_of equal_of less_of is_true is_false is_defined number_in value_of same_tuple has without times messages_of message_word messages_word queue_word with_messages tidied field_of operand_of expression_of condition_of default_at left_out other_false holds binds item_value gathered evaluated bind_one bound assigned_value assign_one assigned touched first_touched branch_count instance_named has_token has_tokens can_lower waits is_alone counts_permit granted below_limit edge_has_room has_rooms can_raise roomy expected received worked message_sent take_one taken more count_changed active_changed ready_changed put_one puts cleared moved first_refusal element_named move_named instance_of shared_of before site_of exists template work sent defined matches after_taking queued space refusals_at refusals instance_after made_after instances_after queues_after traffic step condition_count received_count sent_count of_kind as_exit as_entry as_first as_task as_received as_sent is_default defaults default_once binds_field times_bound template_once bound_once check1 check2 check3 edge_right check4 check5 pool_receives pool_sends not_sent_there check6 check7 check8 lowest among between is_blank is_sign is_digit is_letter is_word past token_of token_here token_at if_word if_sign if_assign if_end value_from leading_zero number_of same_bytes as_number is_field_letter field_behind field_from fieldOf-of-numerals as_field operandOf-of-numerals if_value if_too_large if_number if_field if_out_of_range if_at onward ◌then◌ sign_at assign_at end_at keep_number number field keep_operand operand mode_named keep_mode mode is_spelled starts_number starts_field starts_sign joint expression bind template_item comparison condition assignment guarded starts one_too_many too_many counted item_of items_from items inside series message receiving receiving_branches one_edge task_part part_of is_keyword kind_named blank parts_from parts_of element_of element starts_element put_before barred element_alone elements_at pool_word opening closing closed inside_pool pool_of_word pool starts_pool pools_at model flat filled pool_table table_of checked judged read_into
accepted = refl

read : (read_into text []).number ≡ 0
unfolding is_end_snd times_in mentioned is_unused first_from lowest_unused with_one sending_to end_of first_end treated end_sends all_treated rewritten unused_count room_for hasRoom-of-ends all sum total each tab joined those iter if◌then◌or_else◌ seek writes kind_of used mode_of is_rule rule_of move_of has_number pool_of limit_of entry_count exit_count sum_of difference_of equal_of less_of is_true is_false is_defined number_in value_of same_tuple has without times messages_of message_word messages_word queue_word with_messages tidied field_of operand_of expression_of condition_of default_at left_out other_false holds binds item_value gathered evaluated bind_one bound assigned_value assign_one assigned touched first_touched branch_count instance_named has_token has_tokens can_lower waits is_alone counts_permit granted below_limit edge_has_room has_rooms can_raise roomy expected received worked message_sent take_one taken more count_changed active_changed ready_changed put_one puts cleared moved first_refusal element_named move_named instance_of shared_of before site_of exists template work sent defined matches after_taking queued space refusals_at refusals instance_after made_after instances_after queues_after traffic step condition_count received_count sent_count of_kind as_exit as_entry as_first as_task as_received as_sent is_default defaults default_once binds_field times_bound template_once bound_once check1 check2 check3 edge_right check4 check5 pool_receives pool_sends not_sent_there check6 check7 check8 lowest among between is_blank is_sign is_digit is_letter is_word past token_of token_here token_at if_word if_sign if_assign if_end value_from leading_zero number_of same_bytes as_number is_field_letter field_behind field_from fieldOf-of-numerals as_field operandOf-of-numerals if_value if_too_large if_number if_field if_out_of_range if_at onward ◌then◌ sign_at assign_at end_at keep_number number field keep_operand operand mode_named keep_mode mode is_spelled starts_number starts_field starts_sign joint expression bind template_item comparison condition assignment guarded starts one_too_many too_many counted item_of items_from items inside series message receiving receiving_branches one_edge task_part part_of is_keyword kind_named blank parts_from parts_of element_of element starts_element put_before barred element_alone elements_at pool_word opening closing closed inside_pool pool_of_word pool starts_pool pools_at model flat filled pool_table table_of checked judged read_into
read = refl

-- no event has a moment; a step's line is not long
abbrev none : ℕ → ℕ
none k = 0

events_short : (ns : List Name) (z : List ℕ) → length (events_text none (old_told old (map a_step ns) z)) ≤ event_most * length ns
unfolding old_told old_line events_text event_text event_opening event_closing stamp_text if◌then◌or_else◌
events_short [] z = omega arith
events_short (n ∷ ns) z =
    let line : List ℕ = step_line n (old_stepped old z n).answer in
    let a = length-append (event_text 0 line) (events_text none (old_told old (map a_step ns) (old_did old (a_step n) z).state)) in
    let b = length-append (event_opening ++ line) (event_closing 0) in
    let c = length-append event_opening line in
    omega (arith, a, b, c, step_short n (old_stepped old z n).answer, events_short ns (old_did old (a_step n) z).state)

short : length (log_text none (old_told old acts (fresh old present))) ≤ log_most
unfolding log_text header opening-of-log extension time_extension global classifier trace_opening footer
short =
    let ws : List (List ℕ) = old_told old acts (fresh old present) in
    omega (arith, length-append (header ++ events_text none ws) footer, length-append header (events_text none ws), events_short steps (fresh old present))

pub history_lawful : judged_to (read_into text []).table present (log_text none (old_told old acts (fresh old present))) ≡ lawful
history_lawful =
    old_history_lawful text [] read present (unfold is_version in refl) none acts
    (record { accepted = accepted; posted = unfold AllPosted in tt; few = λ p i e is. (let m = steps_most (get_or said p no_pool).number i e acts in omega (arith, m)) })
    short
