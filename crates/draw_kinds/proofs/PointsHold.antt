-- Every row of the table of points holds. Assumes nothing.
use mathlib.Core.Path.{◌≡◌, refl}
use mathlib.Core.List.{map}
use Rattle.base_words.specs.Iter.{iter}
use Rattle.base_words.specs.Pick.{if◌then◌or_else◌}
use Rattle.base_words.specs.Seek.{seek}
use Rattle.base_words.specs.Sum.{sum}
use Rattle.draw_things.specs.Things.{is_node, kind}
use Rattle.draw_kinds.specs.Counting.{is_with, count_with, first_with}
use Rattle.draw_kinds.specs.Roles.{flows_in, flows_out, messages_of, terminates_of, shape_of, flows, defines, when, start_drawn, end_drawn, intermediate, activity, splits, joins, gateway, kind_by, caught_as, kind_drawn, kind_settled, roles}
use Rattle.draw_kinds.specs.Points.{Point, points}

pub points_hold : map (λ (p : Point). kind_drawn p.things p.count 2) points ≡ map (λ (p : Point). p.kind) points
unfolding if◌then◌or_else◌ seek sum is_with count_with first_with flows_in flows_out messages_of terminates_of shape_of flows defines when start_drawn end_drawn intermediate activity splits joins gateway kind_by caught_as kind_drawn
points_hold = refl

-- and is stored in the things
pub points_stored : map (λ (p : Point). kind (roles p.count p.things) 2) points ≡ map (λ (p : Point). p.kind) points
unfolding if◌then◌or_else◌ iter seek sum is_node is_with count_with first_with flows_in flows_out messages_of terminates_of shape_of flows defines when start_drawn end_drawn intermediate activity splits joins gateway kind_by caught_as kind_drawn kind_settled roles
points_stored = refl
