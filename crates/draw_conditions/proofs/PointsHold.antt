-- Every row of the table of points holds. Assumes nothing.
use mathlib.Core.Path.{◌≡◌, refl}
use mathlib.Core.List.{map}
use Rattle.base_words.specs.Pick.{if◌then◌or_else◌}
use Rattle.text_lexer.specs.Lexer.{is_blank as isSeparator, is_word}
use Rattle.base_bytes.specs.Bytes.{among, between, is_letter, is_digit, past}
use Rattle.text_numerals.specs.Numerals.{value_from, leading_zero, number_of, is_field_letter, field_behind, field_from, field_of, as_number, as_field, operand_of}
use Rattle.base_bytes.specs.Bytes.{same_bytes}
use Rattle.xml_characters.specs.Names.{is_blank, is_control, begins_name, is_name}
use Rattle.xml_characters.specs.References.{digit, base, more, number_from, numbered, character_of, is_character}
use Rattle.xml_scanner.specs.Openings.{behind_less, behind_bracket, in_opening}
use Rattle.xml_scanner.specs.Passages.{in_comment, in_data, in_target, in_instruction}
use Rattle.xml_scanner.specs.Tags.{closing, behind as behindValue, named, behind_blank, is_quote, equals, is_reference, in_value, in_value_reference, in_tag, behind_end, in_end, in_reference}
use Rattle.xml_scanner.specs.Moves.{at_begin, step}
use Rattle.xml_markup.specs.Tokens.{end_of, whole_in_tag, whole_in_instruction, whole, move_to, moved, if_on, is_faulty}
use Rattle.xml_markup.specs.Markup.{advance, scan_from, scan, begins_at, opens_markup, placed, markup}
use Rattle.xml_markup.specs.Spans.{is_of as isOfClass, run, after, has_second, name_from, name_at, bytes_of, behind_colon, local_from, local_of, is_called}
use Rattle.xml_document.specs.Decoding.{narrow, behind_line, plain_at, referred_at, decoded_at}
use Rattle.draw_conditions.specs.Outline.{outline_from, outline, if_past}
use Rattle.draw_conditions.specs.Saying.{forward, plain_step, is_skipped, tag_step, step_by, markup_step, text_step, section_step, skip_by, skip_markup, skip_step, step_at, further, said_in, said, said_by, said_at}
use Rattle.draw_conditions.specs.Words.{is_of, behind, letters, place_said, is_over, side_of, side_at}
use Rattle.draw_conditions.specs.Conditions.{alone, leftmost, both, form_of, second, joined, compared, condition_of, condition_at}
use Rattle.draw_conditions.specs.Points.{Point, points}

pub points_hold : map (λ (p : Point). condition_at p.text p.place) points ≡ map (λ (p : Point). p.is) points
unfolding if◌then◌or_else◌ among between isSeparator is_letter is_digit is_word past value_from leading_zero number_of is_field_letter field_behind field_from field_of same_bytes as_number as_field operand_of is_blank is_control begins_name is_name digit base more number_from numbered character_of is_character behind_less behind_bracket in_opening in_comment in_data in_target in_instruction closing behindValue named behind_blank is_quote equals is_reference in_value in_value_reference in_tag behind_end in_end in_reference at_begin step end_of whole_in_tag whole_in_instruction whole move_to moved if_on is_faulty advance scan_from scan begins_at opens_markup placed markup isOfClass run after has_second name_from name_at bytes_of behind_colon local_from local_of is_called narrow behind_line plain_at referred_at decoded_at outline_from outline if_past forward plain_step is_skipped tag_step step_by markup_step text_step section_step skip_by skip_markup skip_step step_at further said_in said said_by said_at is_of behind letters place_said is_over side_of side_at alone leftmost both form_of second joined compared condition_of condition_at
points_hold = refl
