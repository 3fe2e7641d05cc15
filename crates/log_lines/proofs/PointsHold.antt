-- Every row of the tables of points holds. Assumes nothing.
use mathlib.Core.Path.{◌≡◌, refl}
use mathlib.Core.List.{map}
use Rattle.base_words.specs.Pick.{if◌then◌or_else◌}
use Rattle.base_bytes.specs.Bytes.{between, is_digit, past}
use Rattle.text_numerals.specs.Numerals.{value_from, leading_zero, number_of, if_value}
use Rattle.base_bytes.specs.Bytes.{same_bytes}
use Rattle.xml_markup.specs.Markup.{begins_at}
use Rattle.xml_markup.specs.Spans.{is_of, run, after}
use Rattle.log_lines.specs.Entries.{number_up_to, is_small, value_in, number_before, added, values_in, values_from, message_from, traffic_from, number_place, number_at, five_placed, all_right, no_entry, step_entry, post_entry, entry_of}
use Rattle.base_words.specs.Words.{one_more}
use Rattle.log_lines.specs.Points.{Line, lines, Other, others}

pub lines_hold : map (λ (p : Line). entry_of p.line) lines ≡ map (λ (p : Line). p.is) lines
unfolding if◌then◌or_else◌ between is_digit past value_from leading_zero number_of same_bytes if_value begins_at is_of run after number_up_to is_small value_in number_before one_more added values_in values_from message_from traffic_from number_place number_at five_placed all_right step_entry post_entry entry_of
lines_hold = refl

pub others_hold : map (λ (p : Other). entry_of p.line) others ≡ map (λ (p : Other). no_entry) others
unfolding if◌then◌or_else◌ between is_digit past value_from leading_zero number_of same_bytes if_value begins_at is_of run after number_up_to is_small value_in number_before one_more added values_in values_from message_from traffic_from number_place number_at five_placed all_right step_entry post_entry entry_of
others_hold = refl
