-- Every row of the table of points holds. Assumes nothing.
use mathlib.Core.Path.{◌≡◌, refl}
use mathlib.Core.List.{map}
use Rattle.base_words.specs.Pick.{if◌then◌or_else◌}
use Rattle.base_words.specs.Seek.{seek}
use Rattle.base_words.specs.Sum.{sum}
use Rattle.base_bytes.specs.Bytes.{between, is_letter, is_digit, past}
use Rattle.text_numerals.specs.Numerals.{value_from, leading_zero, number_of, if_value}
use Rattle.base_bytes.specs.Bytes.{same_bytes}
use Rattle.xml_characters.specs.Names.{is_blank, is_control, begins_name, is_name}
use Rattle.xml_scanner.specs.Openings.{behind_less, behind_bracket, in_opening}
use Rattle.xml_scanner.specs.Passages.{in_comment, in_data, in_target, in_instruction}
use Rattle.xml_scanner.specs.Tags.{closing, behind, named as named_in, behind_blank, is_quote, equals, is_reference, in_value, in_value_reference, in_tag, behind_end, in_end, in_reference}
use Rattle.xml_scanner.specs.Moves.{at_begin, step}
use Rattle.xml_markup.specs.Tokens.{end_of, whole_in_tag, whole_in_instruction, whole, move_to, moved, if_on, if_attribute, is_named, found_from, found}
use Rattle.xml_markup.specs.Spans.{is_of as isAlike, run, after, behind_colon, local_from, local_of, quote_at, value_at, value_of, attribute}
use Rattle.draw_things.specs.Things.{is_node, one_more}
use Rattle.draw_links.specs.Links.{if_is, has_id, may_name, or_none, meant, named}
use Rattle.draw_kinds.specs.Counting.{is_with, count_with, of_sort, count_sort}
use Rattle.draw_numbers.specs.Who.{is_pool, is_of_kind, is_split}
use Rattle.draw_numbers.specs.Numbers.{count_before, is_element, is_task, is_edge, is_start, is_before_first, is_of, task_of, edge_of, first_edge_of, message_of, maximum_of, default_of}
use Rattle.draw_limits.specs.Excess.{is_fifth_pool, is_one_too_many, is_start_beyond, is_ninth, is_used, is_message_beyond, is_limit, is_maximum_beyond, is_guarded, value_place, beyond_at}
use Rattle.draw_limits.specs.Points.{Point, points}

pub points_hold : map (λ (p : Point). p.tried) points ≡ map (λ (p : Point). p.is) points
unfolding if◌then◌or_else◌ seek sum between is_letter is_digit past value_from leading_zero number_of same_bytes if_value is_blank is_control begins_name is_name behind_less behind_bracket in_opening in_comment in_data in_target in_instruction closing behind named_in behind_blank is_quote equals is_reference in_value in_value_reference in_tag behind_end in_end in_reference at_begin step end_of whole_in_tag whole_in_instruction whole move_to moved if_on if_attribute is_named found_from found isAlike run after behind_colon local_from local_of quote_at value_at value_of attribute is_node one_more if_is has_id may_name or_none meant named is_with count_with of_sort count_sort is_pool is_of_kind is_split count_before is_element is_task is_edge is_start is_before_first is_of task_of edge_of first_edge_of message_of maximum_of default_of is_fifth_pool is_one_too_many is_start_beyond is_ninth is_used is_message_beyond is_limit is_maximum_beyond is_guarded value_place beyond_at
points_hold = refl
