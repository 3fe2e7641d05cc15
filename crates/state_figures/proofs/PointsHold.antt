-- Every point comes out: what the definitions find, computed, is what is due. Assumes nothing.
use mathlib.Core.Path.{refl}
use Rattle.base_words.specs.All.{all}
use Rattle.base_words.specs.Pick.{if◌then◌or_else◌}
use Rattle.base_words.specs.Sum.{sum}
use Rattle.check_limits.specs.Limits.{zeros}
use Rattle.check_limits.specs.Points.{AllHold}
use Rattle.state_figures.specs.Figures.{is_finished, unfinished, finished, record_of, same_record, agree, record_after, updated, followed, desk_number}
use Rattle.state_figures.specs.Points.{points}

pub points_hold : AllHold points
unfolding all if◌then◌or_else◌ sum zeros is_finished unfinished finished record_of same_record agree record_after updated followed desk_number
points_hold = (refl, (refl, (refl, (refl, (refl, (refl, (refl, (refl, (refl, (refl, (refl, (refl, (refl, (refl, (refl, (refl, (refl, (refl, (refl, (refl, (refl, tt)))))))))))))))))))))
