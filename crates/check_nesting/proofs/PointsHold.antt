-- The points hold: computed. Assumes nothing.
use mathlib.Core.Path.{◌≡◌, refl}
use Rattle.base_words.specs.All.{all}
use Rattle.base_words.specs.Each.{total, tab}
use Rattle.base_words.specs.Pick.{if◌then◌or_else◌}
use Rattle.base_words.specs.Seek.{seek}
use Rattle.base_kinds.specs.Kinds.{kind_of, used}
use Rattle.base_table.specs.Table.{entry_count, exit_count}
use Rattle.check_tally.specs.Tally.{more, marked, tally}
use Rattle.check_nesting.specs.Nesting.{passes, starts, closes_all, closes_one, closes}
use Rattle.check_nesting.specs.Deciding.{entry_of, takes, taker, edges_in, same_edges, stops, elements_passed, last_in, is_block, closing_join, join_of, ahead, sequence_walk, first_of, whole_walk, last_of, each_once, meets_all, ends_at, is_nested, unnested}
use Rattle.check_nesting.specs.Points.{points, AllHold, table, offences, AllOffend}
use Rattle.check_nesting.specs.Offending.{stray_of, offending_by, offending}

pub points_hold : AllHold points
unfolding all total tab if◌then◌or_else◌ seek kind_of used entry_count exit_count more marked tally passes starts closes_all closes_one closes entry_of takes taker edges_in same_edges stops elements_passed last_in is_block closing_join join_of ahead sequence_walk first_of whole_walk last_of each_once meets_all ends_at is_nested
points_hold = (refl, (refl, (refl, (refl, (refl, (refl, (refl, (refl, (refl, (refl, (refl, (refl, (refl, (refl, record {}))))))))))))))

-- the pool in the middle is the first that is not nested
pub names_second : unnested table ≡ 1
unfolding all total tab if◌then◌or_else◌ seek kind_of used entry_count exit_count more marked tally passes starts closes_all closes_one closes entry_of takes taker edges_in same_edges stops elements_passed last_in is_block closing_join join_of ahead sequence_walk first_of whole_walk last_of each_once meets_all ends_at is_nested unnested
names_second = refl

pub offences_hold : AllOffend offences
unfolding all total tab if◌then◌or_else◌ seek kind_of used entry_count exit_count more marked tally passes starts closes_all closes_one closes entry_of takes taker edges_in same_edges stops elements_passed last_in is_block closing_join join_of ahead sequence_walk first_of whole_walk last_of stray_of offending_by offending
offences_hold = (refl, (refl, (refl, (refl, (refl, (refl, (refl, record {})))))))
