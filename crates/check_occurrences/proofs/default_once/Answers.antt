use Rattle.std.proofs.Common.{rules, ap, ℕ, ◌∙◌}
use lib.Dec.{leb, eqb}
use Rattle.base_words.specs.Sum.{sum, one_if}
use Rattle.base_words.proofs.RangeLaws.{sum_of_range}
use Rattle.base_table.specs.Places.{default}
use Rattle.check_occurrences.specs.Occurrences.{condition_form, is_default, defaults, default_once}
use Rattle.check_occurrences.proofs.default_once.Goals as goal

pub returns : goal.returns
unfolding default_once defaults is_default
returns c =
    ap (λ (n : ℕ). leb n 1)
    (sum_of_range c.filter.result _ _ (λ j. eqb (condition_form c.args.el.now j) default) _ c.count-defaults.ensures.ran c.filter.ensures.source c.filter.ensures.closure (λ x b q k. search rules) ∙ ap (sum (λ j. one_if (eqb (condition_form c.args.el.now j) default))) c.condition_count.ensures)
