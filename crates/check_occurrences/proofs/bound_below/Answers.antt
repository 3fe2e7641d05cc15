use Rattle.std.proofs.Common.{rules, ◌+◌, ◌&&◌}
use lib.Dec.{eqb}
use Rattle.base_words.specs.Words.{at}
use Rattle.base_words.proofs.RangeLaws.{sum_of_range}
use Rattle.base_table.specs.Places.{form_place, left_place, operand_number, binding}
use Rattle.base_table.specs.Table.{item_at}
use Rattle.check_occurrences.specs.Occurrences.{binds_field}
use Rattle.check_occurrences.proofs.bound_below.Goals as goal

pub returns : goal.returns
unfolding binds_field
returns c =
    sum_of_range c.filter.result _ _ (λ i. eqb (at (item_at c.args.el.now c.args.j i) form_place) binding && eqb (at (item_at c.args.el.now c.args.j i) (left_place + operand_number)) c.args.d) _ c.count.ensures.ran c.filter.ensures.source c.filter.ensures.closure (λ x b q k. search rules)
