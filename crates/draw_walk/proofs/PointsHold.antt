-- Every row of the two tables of points holds. Assumes nothing.
use mathlib.Core.Path.{◌≡◌, refl}
use mathlib.Core.List.{[], map}
use lib.ListN.{length, replicate}
use Rattle.base_words.specs.Pick.{if◌then◌or_else◌}
use Rattle.base_bytes.specs.Bytes.{between, is_letter, is_digit, past}
use Rattle.text_numerals.specs.Numerals.{value_from, leading_zero, number_of}
use Rattle.base_bytes.specs.Bytes.{same_bytes}
use Rattle.xml_characters.specs.Names.{is_blank, is_control, begins_name, is_name}
use Rattle.xml_characters.specs.References.{digit, base, more, number_from, numbered, character_of, is_character}
use Rattle.xml_scanner.specs.Openings.{behind_less, behind_bracket, in_opening}
use Rattle.xml_scanner.specs.Passages.{in_comment, in_data, in_target, in_instruction}
use Rattle.xml_scanner.specs.Tags.{closing, behind as behindValue, named, behind_blank, is_quote, equals, is_reference, in_value, in_value_reference, in_tag, behind_end, in_end, in_reference}
use Rattle.xml_scanner.specs.Moves.{at_begin, step}
use Rattle.xml_markup.specs.Tokens.{end_of, whole_in_tag, whole_in_instruction, whole, move_to, moved, if_on, if_attribute, is_named, found_from, found, is_found, twice, first, lower, says_xml, is_declaration, reserved, is_faulty}
use Rattle.xml_markup.specs.Markup.{advance, scan_from, scan, begins_at, closes_data, opens_markup, text_from, placed, markup}
use Rattle.xml_markup.specs.Spans.{is_of, run, after, has_second, name_from, name_at, bytes_of, opens_name, second, opener, behind_colon, local_from, local_of, is_called, same_name, quote_at, value_at, value_of, attribute}
use Rattle.xml_skip.specs.Skipping.{part_by, part_of, part_for, part_at, tag_by, tag_of, go_on as behindSkipped, by_tag as byTagSkipped, element_by, by_part as byPartSkipped, content_by as contentSkippedBy, content_in as contentSkippedIn, content_at as contentSkipped, element_at, skipped}
use Rattle.xml_document.specs.Document.{other_by, other_of, opens_data, tag_for, tag_at, outside_at, further, outside_in, outside}
use Rattle.xml_document.specs.Around.{root_by, root_at, last_by, last_from}
use Rattle.draw_things.specs.Things.{narrow, one_more, added}
use Rattle.draw_things.specs.Names.{rows, row_from, row_named, row_of, is_false, is_one, differs, value_bytes, value_behind, differs_at, differs_from, draws_another, is_event, family, named_in, named_at, drawn_as}
use Rattle.draw_walk.specs.Walk.{Walk, walk_told, is_number, judged, multiplicity_by, multiplicity, is_passed, passed, tag_from, entered, noted, counted, by_tag, thing_by, by_end, walk_on, by_part, content_by, content_in, content_at, thing_at, walk}
use Rattle.draw_walk.specs.Points.{Refusal, DrawingPoint, times, refusals, drawings, filled}

pub refusals_hold : map (λ (r : Refusal). (walk r.text []).end) refusals ≡ map (λ (r : Refusal). r.place) refusals
unfolding if◌then◌or_else◌ between is_letter is_digit past value_from leading_zero number_of same_bytes is_blank is_control begins_name is_name digit base more number_from numbered character_of is_character behind_less behind_bracket in_opening in_comment in_data in_target in_instruction closing behindValue named behind_blank is_quote equals is_reference in_value in_value_reference in_tag behind_end in_end in_reference at_begin step end_of whole_in_tag whole_in_instruction whole move_to moved if_on if_attribute is_named found_from found is_found twice first lower says_xml is_declaration reserved is_faulty advance scan_from scan begins_at closes_data opens_markup text_from placed markup is_of run after has_second name_from name_at bytes_of opens_name second opener behind_colon local_from local_of is_called same_name quote_at value_at value_of attribute part_by part_of part_for part_at tag_by tag_of behindSkipped byTagSkipped element_by byPartSkipped contentSkippedBy contentSkippedIn contentSkipped element_at skipped other_by other_of opens_data tag_for tag_at outside_at further outside_in outside narrow one_more added rows row_from row_named row_of is_false is_one differs value_bytes value_behind differs_at differs_from draws_another is_event family named_in named_at drawn_as walk_told is_number judged multiplicity_by multiplicity is_passed passed tag_from entered noted counted by_tag thing_by by_end walk_on by_part content_by content_in content_at thing_at root_by root_at last_by last_from walk times
refusals_hold = refl

pub drawings_hold : map (λ (d : DrawingPoint). walk d.text (replicate (length d.things) 0)) drawings ≡ map filled drawings
unfolding if◌then◌or_else◌ between is_letter is_digit past value_from leading_zero number_of same_bytes is_blank is_control begins_name is_name digit base more number_from numbered character_of is_character behind_less behind_bracket in_opening in_comment in_data in_target in_instruction closing behindValue named behind_blank is_quote equals is_reference in_value in_value_reference in_tag behind_end in_end in_reference at_begin step end_of whole_in_tag whole_in_instruction whole move_to moved if_on if_attribute is_named found_from found is_found twice first lower says_xml is_declaration reserved is_faulty advance scan_from scan begins_at closes_data opens_markup text_from placed markup is_of run after has_second name_from name_at bytes_of opens_name second opener behind_colon local_from local_of is_called same_name quote_at value_at value_of attribute part_by part_of part_for part_at tag_by tag_of behindSkipped byTagSkipped element_by byPartSkipped contentSkippedBy contentSkippedIn contentSkipped element_at skipped other_by other_of opens_data tag_for tag_at outside_at further outside_in outside narrow one_more added rows row_from row_named row_of is_false is_one differs value_bytes value_behind differs_at differs_from draws_another is_event family named_in named_at drawn_as walk_told is_number judged multiplicity_by multiplicity is_passed passed tag_from entered noted counted by_tag thing_by by_end walk_on by_part content_by content_in content_at thing_at root_by root_at last_by last_from walk times
drawings_hold = refl
