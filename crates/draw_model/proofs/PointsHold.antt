-- Every row of the table of points holds. Assumes nothing.
use mathlib.Core.Path.{◌≡◌, refl}
use mathlib.Core.List.{map}
use lib.ListN.{replicate}
use Rattle.base_table.specs.Places.{element_words}
use Rattle.base_words.specs.Pick.{if◌then◌or_else◌}
use Rattle.base_words.specs.Seek.{seek}
use Rattle.base_words.specs.Sum.{sum}
use Rattle.text_lexer.specs.Lexer.{is_blank, is_word, is_sign, token_of, token_here, token_at, if_word, if_sign, if_assign, if_end}
use Rattle.base_bytes.specs.Bytes.{between, is_letter, is_digit, past, among}
use Rattle.text_numerals.specs.Numerals.{value_from, leading_zero, number_of, is_field_letter, field_behind, field_from, field_of, if_value, as_number, as_field, operand_of, if_too_large, if_number, if_field, if_out_of_range}
use Rattle.base_bytes.specs.Bytes.{same_bytes}
use Rattle.xml_characters.specs.Names.{is_blank as isBlank-of-names, is_control, begins_name, is_name}
use Rattle.xml_scanner.specs.Openings.{behind_less, behind_bracket, in_opening}
use Rattle.xml_scanner.specs.Passages.{in_comment, in_data, in_target, in_instruction}
use Rattle.xml_scanner.specs.Tags.{closing, behind, named, behind_blank, is_quote, equals, is_reference, in_value, in_value_reference, in_tag, behind_end, in_end, in_reference}
use Rattle.xml_scanner.specs.Moves.{at_begin, step}
use Rattle.xml_markup.specs.Tokens.{end_of, whole_in_tag, whole_in_instruction, whole, move_to, moved, if_on, if_attribute, is_named, found_from, found, is_found, twice, first, lower, says_xml, is_declaration, reserved, is_faulty}
use Rattle.xml_markup.specs.Spans.{is_of, run, after, behind_colon, local_from, local_of, quote_at, value_at, value_of, attribute}
use Rattle.draw_things.specs.Things.{is_node, one_more}
use Rattle.draw_links.specs.Links.{if_is, has_id, may_name, or_none, meant, named as named-of-links}
use Rattle.draw_kinds.specs.Counting.{is_with, count_with, of_sort, count_sort, first_with}
use Rattle.draw_numbers.specs.Who.{is_pool, is_of_kind, is_split, sends, receives, is_sender, is_receiver}
use Rattle.draw_numbers.specs.Numbers.{count_before, is_element, is_task, is_edge, is_start, is_before_first, is_of as isOf-of-numbers, task_of, edge_of, first_edge_of, message_of, maximum_of, default_of}
use Rattle.draw_limits.specs.Excess.{is_fifth_pool, is_one_too_many, is_start_beyond, is_ninth, is_used, is_message_beyond, is_limit, is_maximum_beyond, is_guarded, value_place, beyond_at}
use Rattle.xml_characters.specs.References.{digit, base, more, number_from, numbered, character_of, is_character}
use Rattle.xml_markup.specs.Markup.{advance, scan_from, scan, begins_at, closes_data, opens_markup, text_from, placed, markup}
use Rattle.xml_document.specs.Decoding.{narrow, behind_line, plain_at, referred_at, decoded_at}
use Rattle.draw_conditions.specs.Outline.{outline_from, outline, if_past}
use Rattle.draw_conditions.specs.Saying.{forward, plain_step, step_by, markup_step, text_step, section_step, step_at, further, said_in, said, said_by, said_at}
use Rattle.draw_conditions.specs.Words.{is_of as isOf-of-words, behind as behind-of-words, letters, place_said, is_over, side_of, side_at}
use Rattle.draw_conditions.specs.Conditions.{alone, leftmost, both, form_of, second, joined, compared, condition_of, condition_at}
use Rattle.base_words.specs.Iter.{iter}
use Rattle.base_kinds.specs.Kinds.{kind_of, used}
use Rattle.text_readers.specs.Reading.{if_at, onward, ◌then◌, sign_at, assign_at, end_at, keep_number, number, field, keep_operand, operand, mode_named, keep_mode, mode, is_spelled, starts_number, starts_field, starts_sign}
use Rattle.text_terms.specs.Terms.{joint, expression, bind, template_item, comparison, condition, assignment, guarded}
use Rattle.text_bounds.specs.Bounds.{starts, one_too_many, too_many, counted}
use Rattle.text_parts.specs.Parts.{item_of, items_from, items, inside, series, message, receiving, receiving_branches, one_edge, task_part, part_of}
use Rattle.text_elements.specs.Elements.{is_keyword, kind_named, blank, parts_from, parts_of, element_of, element, starts_element}
use Rattle.draw_model.specs.Drawn.{with_edge, received_by, sent_by, with_message, with_form, with_task, with_first, head_of, with_term, with_condition, said_or_true, guarded_by, with_guard, exit_behind, with_branch, exit_by, entering_by, leaving_by, by_flow, element_drawn}
use Rattle.draw_model.specs.Points.{Point, points}

pub points_hold : map (λ (p : Point). element_drawn p.text p.things p.count 2) points ≡ map (λ (p : Point). (element p.says 0 (replicate element_words 0)).words) points
unfolding if◌then◌or_else◌ seek sum between is_letter is_digit past among is_blank is_word is_sign token_of token_here token_at if_word if_sign if_assign if_end value_from leading_zero number_of same_bytes if_value is_field_letter field_behind field_from field_of as_number as_field operand_of if_too_large if_number if_field if_out_of_range isBlank-of-names is_control begins_name is_name behind_less behind_bracket in_opening in_comment in_data in_target in_instruction closing behind named behind_blank is_quote equals is_reference in_value in_value_reference in_tag behind_end in_end in_reference at_begin step end_of whole_in_tag whole_in_instruction whole move_to moved if_on if_attribute is_named found_from found is_found twice first lower says_xml is_declaration reserved is_faulty is_of run after behind_colon local_from local_of quote_at value_at value_of attribute is_node one_more if_is has_id may_name or_none meant named-of-links is_with count_with of_sort count_sort first_with is_pool is_of_kind is_split sends receives is_sender is_receiver count_before is_element is_task is_edge is_start is_before_first isOf-of-numbers task_of edge_of first_edge_of message_of maximum_of default_of is_fifth_pool is_one_too_many is_start_beyond is_ninth is_used is_message_beyond is_limit is_maximum_beyond is_guarded value_place beyond_at digit base more number_from numbered character_of is_character advance scan_from scan begins_at closes_data opens_markup text_from placed markup narrow behind_line plain_at referred_at decoded_at outline_from outline if_past forward plain_step step_by markup_step text_step section_step step_at further said_in said said_by said_at isOf-of-words behind-of-words letters place_said is_over side_of side_at alone leftmost both form_of second joined compared condition_of condition_at iter kind_of used if_at onward ◌then◌ sign_at assign_at end_at keep_number number field keep_operand operand mode_named keep_mode mode is_spelled starts_number starts_field starts_sign joint expression bind template_item comparison condition assignment guarded starts one_too_many too_many counted item_of items_from items inside series message receiving receiving_branches one_edge task_part part_of is_keyword kind_named blank parts_from parts_of element_of element starts_element with_edge received_by sent_by with_message with_form with_task with_first head_of with_term with_condition said_or_true guarded_by with_guard exit_behind with_branch exit_by entering_by leaving_by by_flow element_drawn
points_hold = refl
