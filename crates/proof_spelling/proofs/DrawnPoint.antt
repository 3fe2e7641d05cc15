-- ONE DRAWING FROM END TO END, computed: nothing is amiss in it or beyond the limits, so that `draw` gives of it what `read` gives of the text that it is spelled as. Assumes nothing.
use Rattle.std.specs.Prelude.{Ok}
use Prim.Native.Nat.{ℕ}
use mathlib.Core.Path.{◌≡◌, refl, sym, ◌∙◌, ap}
use mathlib.Core.Bool.{true, false}
use mathlib.Core.List.{List}
use lib.Dec.{ltb}
use lib.ListN.{length}
use Rattle.text_read.specs.Notation.{read_into}
use Rattle.base_words.specs.Text.{bytes}
use Rattle.draw_read.specs.Drawings.{draw_into}
use Rattle.base_words.specs.Iter.{iter}
use Rattle.base_words.specs.Pick.{if◌then◌or_else◌}
use Rattle.base_words.specs.Seek.{seek}
use Rattle.base_words.specs.Sum.{sum}
use Rattle.base_words.specs.Each.{each, joined, those}
use Rattle.base_words.specs.All.{all}
use Rattle.text_lexer.specs.Lexer.{is_blank, is_sign, is_word, token_of, token_here, token_at, if_word, if_sign, if_assign, if_end, sign_behind}
use Rattle.base_bytes.specs.Bytes.{among, between, is_digit, is_letter, past}
use Rattle.text_numerals.specs.Numerals.{value_from, leading_zero, number_of, is_field_letter, field_behind, field_from, field_of, as_number, as_field, operand_of, grown, digits_from, number_by, numeral_at, operand_at, if_value, if_too_large, if_number, if_field, if_out_of_range}
use Rattle.base_bytes.specs.Bytes.{same_bytes}
use Rattle.xml_characters.specs.Names.{is_blank as isBlank-of-xml-characters-names, is_control, begins_name, is_name}
use Rattle.xml_characters.specs.References.{digit, base, more, number_from, numbered, character_of, is_character}
use Rattle.xml_scanner.specs.Openings.{behind_less, behind_bracket, in_opening}
use Rattle.xml_scanner.specs.Passages.{in_comment, in_data, in_target, in_instruction}
use Rattle.xml_scanner.specs.Tags.{closing, behind, named, behind_blank, is_quote, equals, is_reference, in_value, in_value_reference, in_tag, behind_end, in_end, in_reference}
use Rattle.xml_scanner.specs.Moves.{at_begin, step}
use Rattle.xml_markup.specs.Tokens.{end_of, whole_in_tag, whole_in_instruction, whole, move_to, moved, if_on, if_attribute, is_named, found_from, found, is_found, twice, first, lower, says_xml, is_declaration, reserved, is_faulty}
use Rattle.xml_markup.specs.Markup.{advance, scan_from, scan, begins_at, closes_data, opens_markup, text_from, placed, markup}
use Rattle.xml_markup.specs.Spans.{is_of, run, after, has_second, name_from, name_at, bytes_of, opens_name, second, opener, behind_colon, local_from, local_of, is_called, same_name, quote_at, value_at, value_of, attribute}
use Rattle.xml_skip.specs.Skipping.{part_by, part_of, part_for, part_at, tag_by, tag_of, go_on as behind-of-xml-skip-skipping, by_tag, element_by as elementBy-of-xml-skip-skipping, by_part, content_by, content_in, content_at, element_at, skipped}
use Rattle.xml_document.specs.Document.{other_by, other_of, opens_data, tag_for, tag_at, outside_at, further, outside_in, outside}
use Rattle.xml_document.specs.Around.{root_by, root_at, last_by, last_from}
use Rattle.xml_document.specs.Decoding.{narrow, behind_line, plain_at, referred_at, decoded_at}
use Rattle.draw_things.specs.Things.{is_node, narrow as narrow-of-draw-things-things, one_more, added}
use Rattle.draw_things.specs.Names.{rows, row_from, row_named, row_of, is_false, is_one, differs, value_bytes, value_behind, differs_at, differs_from, draws_another, is_event, family, named_in, named_at, drawn_as}
use Rattle.draw_walk.specs.Walk.{walk_told, is_number, judged, multiplicity_by, multiplicity, is_passed, passed, tag_from, entered, noted, counted, by_tag as byTag-of-draw-walk-walk, thing_by, by_end, walk_on as behind-of-draw-walk-walk, by_part as byPart-of-draw-walk-walk, content_by as contentBy-of-draw-walk-walk, content_in as contentIn-of-draw-walk-walk, content_at as contentAt-of-draw-walk-walk, thing_at, walk}
use Rattle.draw_links.specs.Links.{if_is, has_id, may_name, or_none, meant, named as named-of-draw-links-links, flow_joined as joined-of-draw-links-links, owned, linked, links}
use Rattle.draw_kinds.specs.Counting.{is_with, count_with, first_with, of_sort, count_sort}
use Rattle.draw_kinds.specs.Roles.{flows_in, flows_out, messages_of, terminates_of, shape_of, flows, defines, when, start_drawn, end_drawn, intermediate, activity, splits, joins, gateway, kind_by, caught_as, kind_drawn, kind_settled, roles}
use Rattle.draw_conditions.specs.Outline.{outline_from, outline, if_past}
use Rattle.draw_conditions.specs.Saying.{forward, plain_step, is_skipped, tag_step, skip_by, skip_markup, skip_step, step_by, markup_step, text_step, section_step, step_at, further as further-of-draw-conditions-saying, said_in, said, seen, said_by, said_at}
use Rattle.draw_conditions.specs.Words.{is_of as isOf-of-draw-conditions-words, behind as behind-of-draw-conditions-words, letters, spelt, goes_on, grown as grown-of-draw-conditions-words, place_said, is_over, side_of, side_at}
use Rattle.draw_conditions.specs.Conditions.{alone, leftmost, both, form_of, second as second-of-draw-conditions-conditions, joined as joined-of-draw-conditions-conditions, compared, condition_of, condition_at}
use Rattle.draw_faults.specs.Amiss.{has, is_second, is_strange, is_read_sort, is_read, is_taken, is_repeated, is_second_collaboration, is_lost, is_unowned, is_second_multiplicity, is_of_no_kind, has_wrong_default, is_unheard, is_untold, is_loose, is_wrong_branch, is_second_condition, is_wrong_form, is_wrong_condition, is_outside, may_send, may_receive, is_wrong_message, amiss_as_flow, amiss_as_node, amiss_as_pool, is_amiss, is_right, is_drawing}
use Rattle.draw_numbers.specs.Who.{has_participants, is_pool, is_of_kind, is_split, sends, receives, is_sender, is_receiver, has_pool}
use Rattle.draw_numbers.specs.Numbers.{count_before, is_element, is_task, is_edge, is_start, is_before_first, is_of as isOf-of-draw-limits-numbers, task_of, edge_of, first_edge_of, message_of, maximum_of, default_of}
use Rattle.draw_model.specs.Content.{process_of}
use Rattle.draw_read.specs.Drawings.{walked_text, settled_by, things_of}
use Rattle.write_decimals.specs.Decimals.{shown_from, shown}
use Rattle.write_shown.specs.Shown.{shown_field}
use Rattle.draw_limits.specs.Excess.{is_fifth_pool, is_one_too_many, is_start_beyond, is_node_beyond, is_ninth, is_flow_beyond, is_used, is_message_beyond, is_limit, is_maximum_beyond, is_guarded, is_condition_beyond, is_beyond, value_place, beyond_at, first_beyond}
use Rattle.proof_spelling.specs.Spelling.{Participant, said_on, collaboration_in, collaboration_of, parted, first_at, foremost, numbered_flows, flows_before, edge, starts_before, first_edge, tasks_before, work, received, sent, flows_into, flows_from, entries, exits, operand, comparison, condition, guard, guarded, choices, caught, catches, element_by, element, elements_in, elements, pool, pools_from, spell}
use Rattle.proof_spelling.specs.Points.{line}
use Rattle.proof_spelling.proofs.Spelled.{Judged, Full, passed_judged, spelled_due}

line_read : (walked_text line).end ≡ Ok (length line)
unfolding iter if◌then◌or_else◌ seek sum each joined those all among between is_blank is_sign is_digit is_letter is_word past token_of token_here token_at if_word if_sign if_assign if_end sign_behind value_from leading_zero number_of same_bytes is_field_letter field_behind field_from field_of as_number as_field operand_of grown digits_from number_by numeral_at operand_at if_value if_too_large if_number if_field if_out_of_range isBlank-of-xml-characters-names is_control begins_name is_name digit base more number_from numbered character_of is_character behind_less behind_bracket in_opening in_comment in_data in_target in_instruction closing behind named behind_blank is_quote equals is_reference in_value in_value_reference in_tag behind_end in_end in_reference at_begin step end_of whole_in_tag whole_in_instruction whole move_to moved if_on if_attribute is_named found_from found is_found twice first lower says_xml is_declaration reserved is_faulty advance scan_from scan begins_at closes_data opens_markup text_from placed markup is_of run after has_second name_from name_at bytes_of opens_name second opener behind_colon local_from local_of is_called same_name quote_at value_at value_of attribute part_by part_of part_for part_at tag_by tag_of behind-of-xml-skip-skipping by_tag elementBy-of-xml-skip-skipping by_part content_by content_in content_at element_at skipped other_by other_of opens_data tag_for tag_at outside_at further outside_in outside root_by root_at last_by last_from narrow behind_line plain_at referred_at decoded_at is_node narrow-of-draw-things-things one_more added rows row_from row_named row_of is_false is_one differs value_bytes value_behind differs_at differs_from draws_another is_event family named_in named_at drawn_as walk_told is_number judged multiplicity_by multiplicity is_passed passed tag_from entered noted counted byTag-of-draw-walk-walk thing_by by_end behind-of-draw-walk-walk byPart-of-draw-walk-walk contentBy-of-draw-walk-walk contentIn-of-draw-walk-walk contentAt-of-draw-walk-walk thing_at walk if_is has_id may_name or_none meant named-of-draw-links-links joined-of-draw-links-links owned linked links is_with count_with first_with of_sort count_sort flows_in flows_out messages_of terminates_of shape_of flows defines when start_drawn end_drawn intermediate activity splits joins gateway kind_by caught_as kind_drawn kind_settled roles outline_from outline if_past forward plain_step is_skipped tag_step skip_by skip_markup skip_step step_by markup_step text_step section_step step_at further-of-draw-conditions-saying said_in said seen said_by said_at isOf-of-draw-conditions-words behind-of-draw-conditions-words letters spelt goes_on grown-of-draw-conditions-words place_said is_over side_of side_at alone leftmost both form_of second-of-draw-conditions-conditions joined-of-draw-conditions-conditions compared condition_of condition_at has is_second is_strange is_read_sort is_read is_taken is_repeated has_participants is_pool is_second_collaboration is_lost is_unowned is_second_multiplicity is_of_kind is_of_no_kind is_split has_wrong_default sends receives is_sender is_receiver is_unheard is_untold is_loose is_wrong_branch is_second_condition is_wrong_form is_wrong_condition is_outside may_send may_receive is_wrong_message amiss_as_flow amiss_as_node amiss_as_pool is_amiss is_right has_pool is_drawing count_before is_element is_task is_edge is_start is_before_first isOf-of-draw-limits-numbers task_of edge_of first_edge_of message_of maximum_of default_of process_of walked_text settled_by things_of shown_from shown shown_field is_fifth_pool is_one_too_many is_start_beyond is_node_beyond is_ninth is_flow_beyond is_used is_message_beyond is_limit is_maximum_beyond is_guarded is_condition_beyond is_beyond value_place beyond_at first_beyond said_on collaboration_in collaboration_of parted first_at foremost numbered_flows flows_before edge starts_before first_edge tasks_before work received sent flows_into flows_from entries exits operand comparison condition guard guarded choices caught catches element_by element elements_in elements pool pools_from spell
line_read = refl

line_drawn : is_drawing line (things_of line) (walked_text line).count ≡ true
unfolding iter if◌then◌or_else◌ seek sum each joined those all among between is_blank is_sign is_digit is_letter is_word past token_of token_here token_at if_word if_sign if_assign if_end sign_behind value_from leading_zero number_of same_bytes is_field_letter field_behind field_from field_of as_number as_field operand_of grown digits_from number_by numeral_at operand_at if_value if_too_large if_number if_field if_out_of_range isBlank-of-xml-characters-names is_control begins_name is_name digit base more number_from numbered character_of is_character behind_less behind_bracket in_opening in_comment in_data in_target in_instruction closing behind named behind_blank is_quote equals is_reference in_value in_value_reference in_tag behind_end in_end in_reference at_begin step end_of whole_in_tag whole_in_instruction whole move_to moved if_on if_attribute is_named found_from found is_found twice first lower says_xml is_declaration reserved is_faulty advance scan_from scan begins_at closes_data opens_markup text_from placed markup is_of run after has_second name_from name_at bytes_of opens_name second opener behind_colon local_from local_of is_called same_name quote_at value_at value_of attribute part_by part_of part_for part_at tag_by tag_of behind-of-xml-skip-skipping by_tag elementBy-of-xml-skip-skipping by_part content_by content_in content_at element_at skipped other_by other_of opens_data tag_for tag_at outside_at further outside_in outside root_by root_at last_by last_from narrow behind_line plain_at referred_at decoded_at is_node narrow-of-draw-things-things one_more added rows row_from row_named row_of is_false is_one differs value_bytes value_behind differs_at differs_from draws_another is_event family named_in named_at drawn_as walk_told is_number judged multiplicity_by multiplicity is_passed passed tag_from entered noted counted byTag-of-draw-walk-walk thing_by by_end behind-of-draw-walk-walk byPart-of-draw-walk-walk contentBy-of-draw-walk-walk contentIn-of-draw-walk-walk contentAt-of-draw-walk-walk thing_at walk if_is has_id may_name or_none meant named-of-draw-links-links joined-of-draw-links-links owned linked links is_with count_with first_with of_sort count_sort flows_in flows_out messages_of terminates_of shape_of flows defines when start_drawn end_drawn intermediate activity splits joins gateway kind_by caught_as kind_drawn kind_settled roles outline_from outline if_past forward plain_step is_skipped tag_step skip_by skip_markup skip_step step_by markup_step text_step section_step step_at further-of-draw-conditions-saying said_in said seen said_by said_at isOf-of-draw-conditions-words behind-of-draw-conditions-words letters spelt goes_on grown-of-draw-conditions-words place_said is_over side_of side_at alone leftmost both form_of second-of-draw-conditions-conditions joined-of-draw-conditions-conditions compared condition_of condition_at has is_second is_strange is_read_sort is_read is_taken is_repeated has_participants is_pool is_second_collaboration is_lost is_unowned is_second_multiplicity is_of_kind is_of_no_kind is_split has_wrong_default sends receives is_sender is_receiver is_unheard is_untold is_loose is_wrong_branch is_second_condition is_wrong_form is_wrong_condition is_outside may_send may_receive is_wrong_message amiss_as_flow amiss_as_node amiss_as_pool is_amiss is_right has_pool is_drawing count_before is_element is_task is_edge is_start is_before_first isOf-of-draw-limits-numbers task_of edge_of first_edge_of message_of maximum_of default_of process_of walked_text settled_by things_of shown_from shown shown_field is_fifth_pool is_one_too_many is_start_beyond is_node_beyond is_ninth is_flow_beyond is_used is_message_beyond is_limit is_maximum_beyond is_guarded is_condition_beyond is_beyond value_place beyond_at first_beyond said_on collaboration_in collaboration_of parted first_at foremost numbered_flows flows_before edge starts_before first_edge tasks_before work received sent flows_into flows_from entries exits operand comparison condition guard guarded choices caught catches element_by element elements_in elements pool pools_from spell
line_drawn = refl

line_within : ltb (first_beyond line (things_of line) (walked_text line).count) (walked_text line).count ≡ false
unfolding iter if◌then◌or_else◌ seek sum each joined those all among between is_blank is_sign is_digit is_letter is_word past token_of token_here token_at if_word if_sign if_assign if_end sign_behind value_from leading_zero number_of same_bytes is_field_letter field_behind field_from field_of as_number as_field operand_of grown digits_from number_by numeral_at operand_at if_value if_too_large if_number if_field if_out_of_range isBlank-of-xml-characters-names is_control begins_name is_name digit base more number_from numbered character_of is_character behind_less behind_bracket in_opening in_comment in_data in_target in_instruction closing behind named behind_blank is_quote equals is_reference in_value in_value_reference in_tag behind_end in_end in_reference at_begin step end_of whole_in_tag whole_in_instruction whole move_to moved if_on if_attribute is_named found_from found is_found twice first lower says_xml is_declaration reserved is_faulty advance scan_from scan begins_at closes_data opens_markup text_from placed markup is_of run after has_second name_from name_at bytes_of opens_name second opener behind_colon local_from local_of is_called same_name quote_at value_at value_of attribute part_by part_of part_for part_at tag_by tag_of behind-of-xml-skip-skipping by_tag elementBy-of-xml-skip-skipping by_part content_by content_in content_at element_at skipped other_by other_of opens_data tag_for tag_at outside_at further outside_in outside root_by root_at last_by last_from narrow behind_line plain_at referred_at decoded_at is_node narrow-of-draw-things-things one_more added rows row_from row_named row_of is_false is_one differs value_bytes value_behind differs_at differs_from draws_another is_event family named_in named_at drawn_as walk_told is_number judged multiplicity_by multiplicity is_passed passed tag_from entered noted counted byTag-of-draw-walk-walk thing_by by_end behind-of-draw-walk-walk byPart-of-draw-walk-walk contentBy-of-draw-walk-walk contentIn-of-draw-walk-walk contentAt-of-draw-walk-walk thing_at walk if_is has_id may_name or_none meant named-of-draw-links-links joined-of-draw-links-links owned linked links is_with count_with first_with of_sort count_sort flows_in flows_out messages_of terminates_of shape_of flows defines when start_drawn end_drawn intermediate activity splits joins gateway kind_by caught_as kind_drawn kind_settled roles outline_from outline if_past forward plain_step is_skipped tag_step skip_by skip_markup skip_step step_by markup_step text_step section_step step_at further-of-draw-conditions-saying said_in said seen said_by said_at isOf-of-draw-conditions-words behind-of-draw-conditions-words letters spelt goes_on grown-of-draw-conditions-words place_said is_over side_of side_at alone leftmost both form_of second-of-draw-conditions-conditions joined-of-draw-conditions-conditions compared condition_of condition_at has is_second is_strange is_read_sort is_read is_taken is_repeated has_participants is_pool is_second_collaboration is_lost is_unowned is_second_multiplicity is_of_kind is_of_no_kind is_split has_wrong_default sends receives is_sender is_receiver is_unheard is_untold is_loose is_wrong_branch is_second_condition is_wrong_form is_wrong_condition is_outside may_send may_receive is_wrong_message amiss_as_flow amiss_as_node amiss_as_pool is_amiss is_right has_pool is_drawing count_before is_element is_task is_edge is_start is_before_first isOf-of-draw-limits-numbers task_of edge_of first_edge_of message_of maximum_of default_of process_of walked_text settled_by things_of shown_from shown shown_field is_fifth_pool is_one_too_many is_start_beyond is_node_beyond is_ninth is_flow_beyond is_used is_message_beyond is_limit is_maximum_beyond is_guarded is_condition_beyond is_beyond value_place beyond_at first_beyond said_on collaboration_in collaboration_of parted first_at foremost numbered_flows flows_before edge starts_before first_edge tasks_before work received sent flows_into flows_from entries exits operand comparison condition guard guarded choices caught catches element_by element elements_in elements pool pools_from spell
line_within = refl

line_full : (t : List ℕ) → Full line t
unfolding iter if◌then◌or_else◌ seek sum each joined those all among between is_blank is_sign is_digit is_letter is_word past token_of token_here token_at if_word if_sign if_assign if_end sign_behind value_from leading_zero number_of same_bytes is_field_letter field_behind field_from field_of as_number as_field operand_of grown digits_from number_by numeral_at operand_at if_value if_too_large if_number if_field if_out_of_range isBlank-of-xml-characters-names is_control begins_name is_name digit base more number_from numbered character_of is_character behind_less behind_bracket in_opening in_comment in_data in_target in_instruction closing behind named behind_blank is_quote equals is_reference in_value in_value_reference in_tag behind_end in_end in_reference at_begin step end_of whole_in_tag whole_in_instruction whole move_to moved if_on if_attribute is_named found_from found is_found twice first lower says_xml is_declaration reserved is_faulty advance scan_from scan begins_at closes_data opens_markup text_from placed markup is_of run after has_second name_from name_at bytes_of opens_name second opener behind_colon local_from local_of is_called same_name quote_at value_at value_of attribute part_by part_of part_for part_at tag_by tag_of behind-of-xml-skip-skipping by_tag elementBy-of-xml-skip-skipping by_part content_by content_in content_at element_at skipped other_by other_of opens_data tag_for tag_at outside_at further outside_in outside root_by root_at last_by last_from narrow behind_line plain_at referred_at decoded_at is_node narrow-of-draw-things-things one_more added rows row_from row_named row_of is_false is_one differs value_bytes value_behind differs_at differs_from draws_another is_event family named_in named_at drawn_as walk_told is_number judged multiplicity_by multiplicity is_passed passed tag_from entered noted counted byTag-of-draw-walk-walk thing_by by_end behind-of-draw-walk-walk byPart-of-draw-walk-walk contentBy-of-draw-walk-walk contentIn-of-draw-walk-walk contentAt-of-draw-walk-walk thing_at walk if_is has_id may_name or_none meant named-of-draw-links-links joined-of-draw-links-links owned linked links is_with count_with first_with of_sort count_sort flows_in flows_out messages_of terminates_of shape_of flows defines when start_drawn end_drawn intermediate activity splits joins gateway kind_by caught_as kind_drawn kind_settled roles outline_from outline if_past forward plain_step is_skipped tag_step skip_by skip_markup skip_step step_by markup_step text_step section_step step_at further-of-draw-conditions-saying said_in said seen said_by said_at isOf-of-draw-conditions-words behind-of-draw-conditions-words letters spelt goes_on grown-of-draw-conditions-words place_said is_over side_of side_at alone leftmost both form_of second-of-draw-conditions-conditions joined-of-draw-conditions-conditions compared condition_of condition_at has is_second is_strange is_read_sort is_read is_taken is_repeated has_participants is_pool is_second_collaboration is_lost is_unowned is_second_multiplicity is_of_kind is_of_no_kind is_split has_wrong_default sends receives is_sender is_receiver is_unheard is_untold is_loose is_wrong_branch is_second_condition is_wrong_form is_wrong_condition is_outside may_send may_receive is_wrong_message amiss_as_flow amiss_as_node amiss_as_pool is_amiss is_right has_pool is_drawing count_before is_element is_task is_edge is_start is_before_first isOf-of-draw-limits-numbers task_of edge_of first_edge_of message_of maximum_of default_of process_of walked_text settled_by things_of shown_from shown shown_field is_fifth_pool is_one_too_many is_start_beyond is_node_beyond is_ninth is_flow_beyond is_used is_message_beyond is_limit is_maximum_beyond is_guarded is_condition_beyond is_beyond value_place beyond_at first_beyond said_on collaboration_in collaboration_of parted first_at foremost numbered_flows flows_before edge starts_before first_edge tasks_before work received sent flows_into flows_from entries exits operand comparison condition guard guarded choices caught catches element_by element elements_in elements pool pools_from spell
line_full t = refl

line_spelled : spell (collaboration_of line) ≡ bytes "pool(1,start(3,1)|task(1,1,a,true,{},2)|end(2))\n"
unfolding iter if◌then◌or_else◌ seek sum each joined those all among between is_blank is_sign is_digit is_letter is_word past token_of token_here token_at if_word if_sign if_assign if_end sign_behind value_from leading_zero number_of same_bytes is_field_letter field_behind field_from field_of as_number as_field operand_of grown digits_from number_by numeral_at operand_at if_value if_too_large if_number if_field if_out_of_range isBlank-of-xml-characters-names is_control begins_name is_name digit base more number_from numbered character_of is_character behind_less behind_bracket in_opening in_comment in_data in_target in_instruction closing behind named behind_blank is_quote equals is_reference in_value in_value_reference in_tag behind_end in_end in_reference at_begin step end_of whole_in_tag whole_in_instruction whole move_to moved if_on if_attribute is_named found_from found is_found twice first lower says_xml is_declaration reserved is_faulty advance scan_from scan begins_at closes_data opens_markup text_from placed markup is_of run after has_second name_from name_at bytes_of opens_name second opener behind_colon local_from local_of is_called same_name quote_at value_at value_of attribute part_by part_of part_for part_at tag_by tag_of behind-of-xml-skip-skipping by_tag elementBy-of-xml-skip-skipping by_part content_by content_in content_at element_at skipped other_by other_of opens_data tag_for tag_at outside_at further outside_in outside root_by root_at last_by last_from narrow behind_line plain_at referred_at decoded_at is_node narrow-of-draw-things-things one_more added rows row_from row_named row_of is_false is_one differs value_bytes value_behind differs_at differs_from draws_another is_event family named_in named_at drawn_as walk_told is_number judged multiplicity_by multiplicity is_passed passed tag_from entered noted counted byTag-of-draw-walk-walk thing_by by_end behind-of-draw-walk-walk byPart-of-draw-walk-walk contentBy-of-draw-walk-walk contentIn-of-draw-walk-walk contentAt-of-draw-walk-walk thing_at walk if_is has_id may_name or_none meant named-of-draw-links-links joined-of-draw-links-links owned linked links is_with count_with first_with of_sort count_sort flows_in flows_out messages_of terminates_of shape_of flows defines when start_drawn end_drawn intermediate activity splits joins gateway kind_by caught_as kind_drawn kind_settled roles outline_from outline if_past forward plain_step is_skipped tag_step skip_by skip_markup skip_step step_by markup_step text_step section_step step_at further-of-draw-conditions-saying said_in said seen said_by said_at isOf-of-draw-conditions-words behind-of-draw-conditions-words letters spelt goes_on grown-of-draw-conditions-words place_said is_over side_of side_at alone leftmost both form_of second-of-draw-conditions-conditions joined-of-draw-conditions-conditions compared condition_of condition_at has is_second is_strange is_read_sort is_read is_taken is_repeated has_participants is_pool is_second_collaboration is_lost is_unowned is_second_multiplicity is_of_kind is_of_no_kind is_split has_wrong_default sends receives is_sender is_receiver is_unheard is_untold is_loose is_wrong_branch is_second_condition is_wrong_form is_wrong_condition is_outside may_send may_receive is_wrong_message amiss_as_flow amiss_as_node amiss_as_pool is_amiss is_right has_pool is_drawing count_before is_element is_task is_edge is_start is_before_first isOf-of-draw-limits-numbers task_of edge_of first_edge_of message_of maximum_of default_of process_of walked_text settled_by things_of shown_from shown shown_field is_fifth_pool is_one_too_many is_start_beyond is_node_beyond is_ninth is_flow_beyond is_used is_message_beyond is_limit is_maximum_beyond is_guarded is_condition_beyond is_beyond value_place beyond_at first_beyond said_on collaboration_in collaboration_of parted first_at foremost numbered_flows flows_before edge starts_before first_edge tasks_before work received sent flows_into flows_from entries exits operand comparison condition guard guarded choices caught catches element_by element elements_in elements pool pools_from spell
line_spelled = refl

pub line_drawn_whole : (t : List ℕ) → draw_into line t ≡ read_into (bytes "pool(1,start(3,1)|task(1,1,a,true,{},2)|end(2))\n") t
line_drawn_whole t = sym (spelled_due line t (passed_judged line (length line) refl line_read line_drawn line_within) (line_full t)) ∙ ap (λ (s : List ℕ). read_into s t) line_spelled
