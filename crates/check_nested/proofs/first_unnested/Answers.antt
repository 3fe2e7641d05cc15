use Rattle.std.proofs.Common.{rules, ◌∙◌, ap}
use Rattle.base_words.specs.Seek.{seek}
use Rattle.base_words.proofs.RangeLaws.{seek_of_range}
use borrow.Author.Tests.{tests}
use mathlib.Core.Bool.{not}
use Rattle.base_table.specs.Table.{element_at, element_count}
use Rattle.check_nesting.specs.Deciding.{is_nested, unnested}
use Rattle.check_nested.proofs.first_unnested.Goals as goal

pub returns : goal.returns
unfolding unnested
returns c = c.unwrap_or.ensures ∙ seek_of_range _ _ _ (λ p. not (is_nested (element_at c.args.t.now p) (element_count c.args.t.now p))) _ c.find.ensures.ran (λ x q k. search (rules, tests)) (λ x q k. search (rules, tests)) ∙ ap (seek (λ p. not (is_nested (element_at c.args.t.now p) (element_count c.args.t.now p)))) c.pool_count-n.ensures
