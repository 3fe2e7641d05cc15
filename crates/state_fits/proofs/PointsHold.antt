-- Every point comes out: what the definitions find, computed, is what is due. Assumes nothing.
use mathlib.Core.Path.{refl}
use Rattle.base_words.specs.All.{all}
use Rattle.base_words.specs.Each.{tab}
use Rattle.base_words.specs.Iter.{iter}
use Rattle.base_words.specs.Pick.{if◌then◌or_else◌}
use Rattle.base_words.specs.Seek.{seek}
use Rattle.base_kinds.specs.Kinds.{kind_of, used}
use Rattle.base_table.specs.Table.{limit_of, entry_count, exit_count}
use Rattle.meaning.specs.Tuples.{value_of}
use Rattle.state_fits.specs.Fits.{is_start, start_place, has_start, made_fits, count_places, places_of, all_marked, usable, place_fits, field_fits, fields_fit, instance_fits, shared_fits, slot_fits}
use Rattle.check_limits.specs.Points.{AllHold}
use Rattle.state_fits.specs.Points.{points}

pub points_hold : AllHold points
unfolding all tab iter if◌then◌or_else◌ seek kind_of used limit_of entry_count exit_count value_of is_start start_place has_start made_fits count_places places_of all_marked usable place_fits field_fits fields_fit instance_fits shared_fits slot_fits
points_hold = (refl, (refl, (refl, (refl, (refl, (refl, (refl, (refl, (refl, (refl, (refl, (refl, (refl, (refl, (refl, (refl, (refl, (refl, (refl, (refl, (refl, (refl, (refl, tt)))))))))))))))))))))))
