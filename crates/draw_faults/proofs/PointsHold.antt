-- Every row of the table of points holds. Assumes nothing.
use mathlib.Core.Path.{◌≡◌, refl}
use mathlib.Core.List.{map}
use Rattle.base_words.specs.All.{all}
use Rattle.base_words.specs.Pick.{if◌then◌or_else◌}
use Rattle.base_words.specs.Seek.{seek}
use Rattle.base_words.specs.Sum.{sum}
use Rattle.base_bytes.specs.Bytes.{between, is_letter, is_digit, past}
use Rattle.base_bytes.specs.Bytes.{same_bytes}
use Rattle.xml_characters.specs.Names.{is_blank, is_control, begins_name, is_name}
use Rattle.xml_scanner.specs.Openings.{behind_less, behind_bracket, in_opening}
use Rattle.xml_scanner.specs.Passages.{in_comment, in_data, in_target, in_instruction}
use Rattle.xml_scanner.specs.Tags.{closing, behind, named as named_in, behind_blank, is_quote, equals, is_reference, in_value, in_value_reference, in_tag, behind_end, in_end, in_reference}
use Rattle.xml_scanner.specs.Moves.{at_begin, step}
use Rattle.xml_markup.specs.Tokens.{end_of, whole_in_tag, whole_in_instruction, whole, move_to, moved, if_on, if_attribute, is_named, found_from, found}
use Rattle.xml_markup.specs.Spans.{is_of, run, after, behind_colon, local_from, local_of, quote_at, value_at, value_of, attribute}
use Rattle.draw_things.specs.Things.{is_node}
use Rattle.draw_links.specs.Links.{if_is, has_id, may_name, or_none, meant, named}
use Rattle.draw_kinds.specs.Counting.{is_with, count_with, of_sort, count_sort}
use Rattle.draw_faults.specs.Amiss.{has, is_second, is_strange, is_read_sort, is_read, is_taken, is_repeated, is_second_collaboration, is_lost, is_unowned, is_second_multiplicity, is_of_no_kind, has_wrong_default, is_unheard, is_untold, is_loose, is_wrong_branch, is_second_condition, is_wrong_form, is_wrong_condition, is_outside, may_send, may_receive, is_wrong_message, amiss_as_flow, amiss_as_node, amiss_as_pool, is_amiss, is_right, is_drawing}
use Rattle.draw_numbers.specs.Who.{has_participants, is_pool, is_of_kind, is_split, sends, receives, is_sender, is_receiver, has_pool}
use Rattle.draw_faults.specs.Points.{Point, points}

pub points_hold : map (λ (p : Point). p.tried) points ≡ map (λ (p : Point). p.is) points
unfolding all if◌then◌or_else◌ seek sum between is_letter is_digit past same_bytes is_blank is_control begins_name is_name behind_less behind_bracket in_opening in_comment in_data in_target in_instruction closing behind named_in behind_blank is_quote equals is_reference in_value in_value_reference in_tag behind_end in_end in_reference at_begin step end_of whole_in_tag whole_in_instruction whole move_to moved if_on if_attribute is_named found_from found is_of run after behind_colon local_from local_of quote_at value_at value_of attribute is_node if_is has_id may_name or_none meant named is_with count_with of_sort count_sort has is_second is_strange is_read_sort is_read is_taken is_repeated has_participants is_pool is_second_collaboration is_lost is_unowned is_second_multiplicity is_of_kind is_of_no_kind is_split has_wrong_default sends receives is_sender is_receiver is_unheard is_untold is_loose is_wrong_branch is_second_condition is_wrong_form is_wrong_condition is_outside may_send may_receive is_wrong_message amiss_as_flow amiss_as_node amiss_as_pool is_amiss is_right has_pool is_drawing
points_hold = refl
