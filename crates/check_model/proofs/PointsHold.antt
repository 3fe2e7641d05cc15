-- Every point comes out: the lowest check that each model breaks, computed, is the one in its row. Assumes nothing.
use mathlib.Core.Path.{refl}
use Rattle.base_words.specs.All.{all}
use Rattle.base_words.specs.Each.{total, each}
use Rattle.base_words.specs.Pick.{if◌then◌or_else◌}
use Rattle.base_words.specs.Sum.{sum}
use Rattle.base_kinds.specs.Kinds.{kind_of, used}
use Rattle.base_table.specs.Table.{entry_count, exit_count}
use Rattle.check_occurrences.specs.Occurrences.{condition_count, received_count, sent_count, of_kind, as_exit, as_entry, as_first, as_task, as_received, as_sent, is_default, defaults, default_once, binds_field, times_bound, template_once, bound_once}
use Rattle.check_model.specs.Checks.{check1, check2, check3, edge_right, check4, check5, pool_receives, pool_sends, not_sent_there, check6, check7, check8, lowest}
use Rattle.check_model.specs.Points.{points, AllHold}

pub points_hold : AllHold points
unfolding all total each sum if◌then◌or_else◌ kind_of used entry_count exit_count condition_count received_count sent_count of_kind as_exit as_entry as_first as_task as_received as_sent is_default defaults default_once binds_field times_bound template_once bound_once check1 check2 check3 edge_right check4 check5 pool_receives pool_sends not_sent_there check6 check7 check8 lowest
points_hold = (refl, (refl, (refl, (refl, (refl, (refl, (refl, (refl, (refl, (refl, (refl, (refl, (refl, (refl, (refl, (refl, (refl, (refl, (refl, (refl, (refl, (refl, (refl, (refl, (refl, (refl, (refl, (refl, tt))))))))))))))))))))))))))))
