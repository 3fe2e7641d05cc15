-- Every row of the table of points holds. Assumes nothing.
use mathlib.Core.Path.{◌≡◌, refl}
use mathlib.Core.List.{map}
use Rattle.base_words.specs.Each.{joined}
use Rattle.base_words.specs.Pick.{if◌then◌or_else◌}
use Rattle.base_words.specs.Seek.{seek}
use Rattle.base_words.specs.Sum.{sum}
use Rattle.write_buffer.specs.Buffers.{lesser}
use Rattle.write_decimals.specs.Decimals.{shown_from, shown}
use Rattle.base_bytes.specs.Bytes.{between, is_letter, is_digit, past}
use Rattle.text_numerals.specs.Numerals.{value_from, leading_zero, number_of, if_value}
use Rattle.base_bytes.specs.Bytes.{same_bytes}
use Rattle.xml_characters.specs.Names.{is_blank, is_control, begins_name, is_name}
use Rattle.xml_scanner.specs.Openings.{behind_less, behind_bracket, in_opening}
use Rattle.xml_scanner.specs.Passages.{in_comment, in_data, in_target, in_instruction}
use Rattle.xml_scanner.specs.Tags.{closing, behind, named as named_in, behind_blank, is_quote, equals, is_reference, in_value, in_value_reference, in_tag, behind_end, in_end, in_reference}
use Rattle.xml_scanner.specs.Moves.{at_begin, step}
use Rattle.xml_markup.specs.Tokens.{end_of, whole_in_tag, whole_in_instruction, whole, move_to, moved, if_on, if_attribute, is_named, found_from, found}
use Rattle.xml_markup.specs.Spans.{is_of as isAlike, run, after, behind_colon, local_from, local_of, quote_at, value_at, value_of, attribute}
use Rattle.draw_things.specs.Things.{is_node, one_more}
use Rattle.draw_links.specs.Links.{if_is}
use Rattle.draw_kinds.specs.Counting.{is_with, count_with, of_sort, count_sort}
use Rattle.draw_faults.specs.Amiss.{has, is_outside}
use Rattle.draw_numbers.specs.Who.{has_participants, is_pool, is_of_kind}
use Rattle.draw_numbers.specs.Numbers.{count_before, is_element, is_edge, is_of, edge_of, message_of}
use Rattle.draw_model.specs.Content.{process_of}
use Rattle.draw_map.specs.Map.{next, numbers, line, within_line, element_line, branch_line, branch_lines, belonging, with_belonging, element_lines, is_message_end, end_place, with_end, end_lines, edge_line, lines_of, all_of, inside, with_inside, pool_lines, outside_line, message_line, part_of, every_of, map_of}
use Rattle.draw_map.specs.Points.{Point, points}

pub points_hold : map (λ (p : Point). p.found) points ≡ map (λ (p : Point). p.due) points
unfolding joined if◌then◌or_else◌ seek sum lesser shown_from shown between is_letter is_digit past value_from leading_zero number_of same_bytes if_value is_blank is_control begins_name is_name behind_less behind_bracket in_opening in_comment in_data in_target in_instruction closing behind named_in behind_blank is_quote equals is_reference in_value in_value_reference in_tag behind_end in_end in_reference at_begin step end_of whole_in_tag whole_in_instruction whole move_to moved if_on if_attribute is_named found_from found isAlike run after behind_colon local_from local_of quote_at value_at value_of attribute is_node one_more if_is is_with count_with of_sort count_sort has has_participants is_pool is_of_kind is_outside count_before is_element is_edge is_of edge_of message_of process_of next numbers line within_line element_line branch_line branch_lines belonging with_belonging element_lines is_message_end end_place with_end end_lines edge_line lines_of all_of inside with_inside pool_lines outside_line message_line part_of every_of map_of
points_hold = refl
