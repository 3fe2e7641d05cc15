-- Every row of the table of points holds. Assumes nothing.
use mathlib.Core.Path.{◌≡◌, refl}
use mathlib.Core.List.{map}
use Rattle.base_words.specs.Iter.{iter}
use Rattle.base_words.specs.Pick.{if◌then◌or_else◌}
use Rattle.base_words.specs.Seek.{seek}
use Rattle.base_bytes.specs.Bytes.{between, is_letter, is_digit, past}
use Rattle.base_bytes.specs.Bytes.{same_bytes}
use Rattle.xml_characters.specs.Names.{is_blank, is_control, begins_name, is_name}
use Rattle.xml_scanner.specs.Openings.{behind_less, behind_bracket, in_opening}
use Rattle.xml_scanner.specs.Tags.{closing, behind, named as named_in, behind_blank, is_quote, equals, is_reference, in_value, in_value_reference, in_tag, behind_end, in_end, in_reference}
use Rattle.xml_scanner.specs.Moves.{at_begin, step}
use Rattle.xml_markup.specs.Tokens.{end_of, whole_in_tag, whole_in_instruction, whole, move_to, moved, if_on, if_attribute, is_named, found_from, found}
use Rattle.xml_markup.specs.Spans.{is_of, run, after, behind_colon, local_from, local_of, quote_at, value_at, value_of, attribute}
use Rattle.draw_things.specs.Things.{is_node}
use Rattle.draw_links.specs.Links.{if_is, has_id, may_name, or_none, meant, named, flow_joined, owned, linked, links}
use Rattle.draw_links.specs.Points.{Point, points, text, unlinked, linked_up}

pub points_hold : map (λ (p : Point). named p.text p.things p.count 1 p.attribute) points ≡ map (λ (p : Point). p.names) points
unfolding if◌then◌or_else◌ seek between is_letter is_digit past same_bytes is_blank is_control begins_name is_name behind_less behind_bracket in_opening closing behind named_in behind_blank is_quote equals is_reference in_value in_value_reference in_tag behind_end in_end in_reference at_begin step end_of whole_in_tag whole_in_instruction whole move_to moved if_on if_attribute is_named found_from found is_of run after behind_colon local_from local_of quote_at value_at value_of attribute is_node if_is has_id may_name or_none meant named
points_hold = refl

pub ends_stored : links text 7 unlinked ≡ linked_up
unfolding iter if◌then◌or_else◌ seek between is_letter is_digit past same_bytes is_blank is_control begins_name is_name behind_less behind_bracket in_opening closing behind named_in behind_blank is_quote equals is_reference in_value in_value_reference in_tag behind_end in_end in_reference at_begin step end_of whole_in_tag whole_in_instruction whole move_to moved if_on if_attribute is_named found_from found is_of run after behind_colon local_from local_of quote_at value_at value_of attribute is_node if_is has_id may_name or_none meant named flow_joined owned linked links
ends_stored = refl
