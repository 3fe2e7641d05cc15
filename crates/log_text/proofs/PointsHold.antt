-- Every row of the tables of points holds. Assumes nothing.
use Rattle.std.specs.Prelude.{Ok}
use Prim.Native.Nat.{ℕ}
use mathlib.Core.Path.{◌≡◌, refl}
use mathlib.Core.List.{List, map}
use lib.ListN.{length}
use Rattle.base_words.specs.Pick.{if◌then◌or_else◌}
use Rattle.base_bytes.specs.Bytes.{between as isBetween, is_letter, is_digit, past}
use Rattle.text_numerals.specs.Numerals.{value_from, leading_zero, number_of, if_value}
use Rattle.base_bytes.specs.Bytes.{same_bytes}
use Rattle.xml_characters.specs.Names.{is_blank, is_control, begins_name, is_name}
use Rattle.xml_characters.specs.References.{digit, base, more, number_from, numbered as referred, character_of, is_character}
use Rattle.xml_scanner.specs.Openings.{behind_less, behind_bracket, in_opening}
use Rattle.xml_scanner.specs.Passages.{in_comment, in_data, in_target, in_instruction}
use Rattle.xml_scanner.specs.Tags.{closing as closingTag, behind as behindValue, named as namedTag, behind_blank, is_quote, equals, is_reference, in_value, in_value_reference, in_tag, behind_end, in_end, in_reference}
use Rattle.xml_scanner.specs.Moves.{at_begin, step}
use Rattle.xml_markup.specs.Tokens.{end_of, whole_in_tag, whole_in_instruction, whole, move_to, moved, if_on, if_attribute, is_named, found_from, found, is_found, twice, first, lower, says_xml, is_declaration, reserved, is_faulty}
use Rattle.xml_markup.specs.Markup.{advance as advanceMarkup, scan_from as scanMarkupFrom, scan as scanMarkup, begins_at, closes_data, opens_markup, text_from, placed as placedMarkup, markup}
use Rattle.xml_markup.specs.Spans.{is_of, run, after, has_second, name_from, name_at, bytes_of, opens_name, second, opener, behind_colon, local_from, local_of, is_called, same_name, quote_at, value_at, value_of, attribute}
use Rattle.xml_skip.specs.Skipping.{part_by, part_of, part_for, part_at, tag_by as tag_for, tag_of, go_on, by_tag, element_by, by_part, content_by, content_in, content_at, element_at, skipped, fault_at}
use Rattle.xml_document.specs.Document.{other_by, other_of, opens_data, tag_for as outsideTag, tag_at, outside_at, further, outside_in, outside}
use Rattle.xml_document.specs.Around.{root_by, root_at, last_by, last_from}
use Rattle.log_lines.specs.Entries.{number_up_to, is_small, value_in, number_before, added, values_in, values_from, message_from, traffic_from, number_place, number_at, five_placed, all_right, step_entry, post_entry, entry_of}
use Rattle.base_words.specs.Words.{one_more}
use Rattle.log_text.specs.Inside.{ends_at, closing, between, inside_at}
use Rattle.log_text.specs.Cursors.{tag_by, lacks_by}
use Rattle.log_text.specs.Logs.{over, over_named, line_by, name_by, string_by, string_at, trace_by, event_by, is_of_log, other_at, entered_by, left_by, by_inside, advance, by_move, scan_in, scan_from, begin_by, begin, start, scan, closes_event, line_of, lines_in, lines_from, lines_of}
use Rattle.log_text.specs.Points.{Refusal, times, refusals, beginnings, Lawful, logs, Kept, kepts}

pub refusals_hold : map (λ (r : Refusal). (scan r.text).end) refusals ≡ map (λ (r : Refusal). fault_at r.place) refusals
unfolding if◌then◌or_else◌ isBetween is_letter is_digit past value_from leading_zero number_of same_bytes if_value is_blank is_control begins_name is_name digit base more number_from referred character_of is_character behind_less behind_bracket in_opening in_comment in_data in_target in_instruction closingTag behindValue namedTag behind_blank is_quote equals is_reference in_value in_value_reference in_tag behind_end in_end in_reference at_begin step end_of whole_in_tag whole_in_instruction whole move_to moved if_on if_attribute is_named found_from found is_found twice first lower says_xml is_declaration reserved is_faulty advanceMarkup scanMarkupFrom scanMarkup begins_at closes_data opens_markup text_from placedMarkup markup is_of run after has_second name_from name_at bytes_of opens_name second opener behind_colon local_from local_of is_called same_name quote_at value_at value_of attribute part_by part_of part_for part_at tag_for tag_of go_on by_tag element_by by_part content_by content_in content_at element_at skipped other_by other_of opens_data outsideTag tag_at outside_at further outside_in outside root_by root_at last_by last_from number_up_to is_small value_in number_before one_more added values_in values_from message_from traffic_from number_place number_at five_placed all_right step_entry post_entry entry_of ends_at closing between inside_at tag_by lacks_by over over_named line_by name_by string_by string_at trace_by event_by is_of_log other_at entered_by left_by by_inside advance by_move scan_in scan_from begin_by begin start scan closes_event line_of lines_in lines_from lines_of times
refusals_hold = refl

pub beginnings_hold : map (λ (t : List ℕ). (scan t).end) beginnings ≡ map (λ (t : List ℕ). fault_at (length t)) beginnings
unfolding if◌then◌or_else◌ isBetween is_letter is_digit past value_from leading_zero number_of same_bytes if_value is_blank is_control begins_name is_name digit base more number_from referred character_of is_character behind_less behind_bracket in_opening in_comment in_data in_target in_instruction closingTag behindValue namedTag behind_blank is_quote equals is_reference in_value in_value_reference in_tag behind_end in_end in_reference at_begin step end_of whole_in_tag whole_in_instruction whole move_to moved if_on if_attribute is_named found_from found is_found twice first lower says_xml is_declaration reserved is_faulty advanceMarkup scanMarkupFrom scanMarkup begins_at closes_data opens_markup text_from placedMarkup markup is_of run after has_second name_from name_at bytes_of opens_name second opener behind_colon local_from local_of is_called same_name quote_at value_at value_of attribute part_by part_of part_for part_at tag_for tag_of go_on by_tag element_by by_part content_by content_in content_at element_at skipped other_by other_of opens_data outsideTag tag_at outside_at further outside_in outside root_by root_at last_by last_from number_up_to is_small value_in number_before one_more added values_in values_from message_from traffic_from number_place number_at five_placed all_right step_entry post_entry entry_of ends_at closing between inside_at tag_by lacks_by over over_named line_by name_by string_by string_at trace_by event_by is_of_log other_at entered_by left_by by_inside advance by_move scan_in scan_from begin_by begin start scan closes_event line_of lines_in lines_from lines_of times
beginnings_hold = refl

pub logs_hold : map (λ (l : Lawful). (scan l.text).end) logs ≡ map (λ (l : Lawful). Ok (length l.text)) logs
unfolding if◌then◌or_else◌ isBetween is_letter is_digit past value_from leading_zero number_of same_bytes if_value is_blank is_control begins_name is_name digit base more number_from referred character_of is_character behind_less behind_bracket in_opening in_comment in_data in_target in_instruction closingTag behindValue namedTag behind_blank is_quote equals is_reference in_value in_value_reference in_tag behind_end in_end in_reference at_begin step end_of whole_in_tag whole_in_instruction whole move_to moved if_on if_attribute is_named found_from found is_found twice first lower says_xml is_declaration reserved is_faulty advanceMarkup scanMarkupFrom scanMarkup begins_at closes_data opens_markup text_from placedMarkup markup is_of run after has_second name_from name_at bytes_of opens_name second opener behind_colon local_from local_of is_called same_name quote_at value_at value_of attribute part_by part_of part_for part_at tag_for tag_of go_on by_tag element_by by_part content_by content_in content_at element_at skipped other_by other_of opens_data outsideTag tag_at outside_at further outside_in outside root_by root_at last_by last_from number_up_to is_small value_in number_before one_more added values_in values_from message_from traffic_from number_place number_at five_placed all_right step_entry post_entry entry_of ends_at closing between inside_at tag_by lacks_by over over_named line_by name_by string_by string_at trace_by event_by is_of_log other_at entered_by left_by by_inside advance by_move scan_in scan_from begin_by begin start scan closes_event line_of lines_in lines_from lines_of times
logs_hold = refl

pub lines_hold : map (λ (l : Lawful). lines_of l.text) logs ≡ map (λ (l : Lawful). l.lines) logs
unfolding if◌then◌or_else◌ isBetween is_letter is_digit past value_from leading_zero number_of same_bytes if_value is_blank is_control begins_name is_name digit base more number_from referred character_of is_character behind_less behind_bracket in_opening in_comment in_data in_target in_instruction closingTag behindValue namedTag behind_blank is_quote equals is_reference in_value in_value_reference in_tag behind_end in_end in_reference at_begin step end_of whole_in_tag whole_in_instruction whole move_to moved if_on if_attribute is_named found_from found is_found twice first lower says_xml is_declaration reserved is_faulty advanceMarkup scanMarkupFrom scanMarkup begins_at closes_data opens_markup text_from placedMarkup markup is_of run after has_second name_from name_at bytes_of opens_name second opener behind_colon local_from local_of is_called same_name quote_at value_at value_of attribute part_by part_of part_for part_at tag_for tag_of go_on by_tag element_by by_part content_by content_in content_at element_at skipped other_by other_of opens_data outsideTag tag_at outside_at further outside_in outside root_by root_at last_by last_from number_up_to is_small value_in number_before one_more added values_in values_from message_from traffic_from number_place number_at five_placed all_right step_entry post_entry entry_of ends_at closing between inside_at tag_by lacks_by over over_named line_by name_by string_by string_at trace_by event_by is_of_log other_at entered_by left_by by_inside advance by_move scan_in scan_from begin_by begin start scan closes_event line_of lines_in lines_from lines_of times
lines_hold = refl

pub events_hold : map (λ (k : Kept). (scan k.text).last.events) kepts ≡ map (λ (k : Kept). k.events) kepts
unfolding if◌then◌or_else◌ isBetween is_letter is_digit past value_from leading_zero number_of same_bytes if_value is_blank is_control begins_name is_name digit base more number_from referred character_of is_character behind_less behind_bracket in_opening in_comment in_data in_target in_instruction closingTag behindValue namedTag behind_blank is_quote equals is_reference in_value in_value_reference in_tag behind_end in_end in_reference at_begin step end_of whole_in_tag whole_in_instruction whole move_to moved if_on if_attribute is_named found_from found is_found twice first lower says_xml is_declaration reserved is_faulty advanceMarkup scanMarkupFrom scanMarkup begins_at closes_data opens_markup text_from placedMarkup markup is_of run after has_second name_from name_at bytes_of opens_name second opener behind_colon local_from local_of is_called same_name quote_at value_at value_of attribute part_by part_of part_for part_at tag_for tag_of go_on by_tag element_by by_part content_by content_in content_at element_at skipped other_by other_of opens_data outsideTag tag_at outside_at further outside_in outside root_by root_at last_by last_from number_up_to is_small value_in number_before one_more added values_in values_from message_from traffic_from number_place number_at five_placed all_right step_entry post_entry entry_of ends_at closing between inside_at tag_by lacks_by over over_named line_by name_by string_by string_at trace_by event_by is_of_log other_at entered_by left_by by_inside advance by_move scan_in scan_from begin_by begin start scan closes_event line_of lines_in lines_from lines_of times
events_hold = refl

pub kept_hold : map (λ (k : Kept). (scan k.text).last.kept) kepts ≡ map (λ (k : Kept). k.kept) kepts
unfolding if◌then◌or_else◌ isBetween is_letter is_digit past value_from leading_zero number_of same_bytes if_value is_blank is_control begins_name is_name digit base more number_from referred character_of is_character behind_less behind_bracket in_opening in_comment in_data in_target in_instruction closingTag behindValue namedTag behind_blank is_quote equals is_reference in_value in_value_reference in_tag behind_end in_end in_reference at_begin step end_of whole_in_tag whole_in_instruction whole move_to moved if_on if_attribute is_named found_from found is_found twice first lower says_xml is_declaration reserved is_faulty advanceMarkup scanMarkupFrom scanMarkup begins_at closes_data opens_markup text_from placedMarkup markup is_of run after has_second name_from name_at bytes_of opens_name second opener behind_colon local_from local_of is_called same_name quote_at value_at value_of attribute part_by part_of part_for part_at tag_for tag_of go_on by_tag element_by by_part content_by content_in content_at element_at skipped other_by other_of opens_data outsideTag tag_at outside_at further outside_in outside root_by root_at last_by last_from number_up_to is_small value_in number_before one_more added values_in values_from message_from traffic_from number_place number_at five_placed all_right step_entry post_entry entry_of ends_at closing between inside_at tag_by lacks_by over over_named line_by name_by string_by string_at trace_by event_by is_of_log other_at entered_by left_by by_inside advance by_move scan_in scan_from begin_by begin start scan closes_event line_of lines_in lines_from lines_of times
kept_hold = refl
