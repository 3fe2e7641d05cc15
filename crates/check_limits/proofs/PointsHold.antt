-- Every point comes out: what the definitions find, computed, is what is due. Assumes nothing.
use mathlib.Core.Path.{refl}
use Rattle.base_words.specs.All.{all}
use Rattle.base_words.specs.Pick.{if◌then◌or_else◌}
use Rattle.base_kinds.specs.Kinds.{kind_of, used}
use Rattle.check_limits.specs.Limits.{zeros, things, operand_fits, expression_fits, bind_fits, item_fits, condition_fits, message_fits, assignment_fits, count_fits, edge_fits, edges_fit, task_fits, conditions_fit, messages_fit, assignments_fit, parts_fit, element_fits, held_fits, pool_fits, table_fits}
use Rattle.check_limits.specs.Points.{points, AllHold}

pub points_hold : AllHold points
unfolding all if◌then◌or_else◌ kind_of used zeros things operand_fits expression_fits bind_fits item_fits condition_fits message_fits assignment_fits count_fits edge_fits edges_fit task_fits conditions_fit messages_fit assignments_fit parts_fit element_fits held_fits pool_fits table_fits
points_hold = (refl, (refl, (refl, (refl, (refl, (refl, (refl, (refl, (refl, (refl, (refl, (refl, (refl, (refl, (refl, (refl, (refl, (refl, (refl, (refl, (refl, (refl, (refl, (refl, tt))))))))))))))))))))))))
