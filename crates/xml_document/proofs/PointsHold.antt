-- Every row of the tables of points holds. Assumes nothing.
use mathlib.Core.Path.{◌≡◌, refl}
use mathlib.Core.List.{map}
use Rattle.base_words.specs.Pick.{if◌then◌or_else◌}
use Rattle.base_bytes.specs.Bytes.{between, is_letter, is_digit, past}
use Rattle.base_bytes.specs.Bytes.{same_bytes}
use Rattle.xml_characters.specs.Names.{is_blank, is_control, begins_name, is_name}
use Rattle.xml_characters.specs.References.{digit, base, more, number_from, numbered, character_of, is_character}
use Rattle.xml_scanner.specs.Openings.{behind_less, behind_bracket, in_opening}
use Rattle.xml_scanner.specs.Passages.{in_comment, in_data, in_target, in_instruction}
use Rattle.xml_scanner.specs.Tags.{closing, behind, named, behind_blank, is_quote, equals, is_reference, in_value, in_value_reference, in_tag, behind_end, in_end, in_reference}
use Rattle.xml_scanner.specs.Moves.{at_begin, step}
use Rattle.xml_markup.specs.Tokens.{end_of, whole_in_tag, whole_in_instruction, whole, move_to, moved, if_on, if_attribute, is_named, found_from, found, is_found, twice, first, lower, says_xml, is_declaration, reserved, is_faulty}
use Rattle.xml_markup.specs.Markup.{advance, scan_from, scan, begins_at, closes_data, opens_markup, text_from, placed, markup}
use Rattle.xml_markup.specs.Spans.{is_of, run, after, has_second, name_from, name_at, opens_name, second, opener}
use Rattle.xml_document.specs.Document.{other_by, other_of, opens_data, tag_for, tag_at, outside_at, further, outside_in, outside}
use Rattle.xml_document.specs.Decoding.{narrow, behind_line, plain_at, referred_at, decoded_at}
use Rattle.xml_document.specs.Points.{Around, arounds, Byte, decodings}

pub arounds_hold : map (λ (p : Around). outside p.text 0) arounds ≡ map (λ (p : Around). p.is) arounds
unfolding if◌then◌or_else◌ between is_letter is_digit past same_bytes is_blank is_control begins_name is_name digit base more number_from numbered character_of is_character behind_less behind_bracket in_opening in_comment in_data in_target in_instruction closing behind named behind_blank is_quote equals is_reference in_value in_value_reference in_tag behind_end in_end in_reference at_begin step end_of whole_in_tag whole_in_instruction whole move_to moved if_on if_attribute is_named found_from found is_found twice first lower says_xml is_declaration reserved is_faulty advance scan_from scan begins_at closes_data opens_markup text_from placed markup is_of run after has_second name_from name_at opens_name second opener other_by other_of opens_data tag_for tag_at outside_at further outside_in outside
arounds_hold = refl

pub decodings_hold : map (λ (p : Byte). decoded_at p.text 0) decodings ≡ map (λ (p : Byte). p.gives) decodings
unfolding if◌then◌or_else◌ between is_letter is_digit same_bytes is_blank is_control begins_name is_name digit base more number_from numbered character_of is_character is_reference in_reference at_begin step end_of whole move_to moved if_on is_faulty advance scan_from scan opens_markup placed markup after narrow behind_line plain_at referred_at decoded_at
decodings_hold = refl
