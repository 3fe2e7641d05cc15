use Rattle.std.proofs.Common.{rules, ◌∙◌, ap}
use Rattle.base_words.specs.Seek.{seek}
use Rattle.base_words.proofs.RangeLaws.{seek_of_range}
use borrow.Author.Tests.{tests}
use Rattle.base_table.specs.Table.{element_at}
use Rattle.check_nesting.specs.Deciding.{takes, taker}
use Rattle.check_nested.proofs.blocks.taker.Goals as goal

pub returns : goal.returns
unfolding taker
returns c = c.unwrap_or.ensures ∙ seek_of_range _ _ _ (λ k. takes (element_at c.args.t.now c.args.p k) c.args.a) _ c.find.ensures.ran (λ x q k. search (rules, tests)) (λ x q k. search (rules, tests)) ∙ ap (seek (λ k. takes (element_at c.args.t.now c.args.p k) c.args.a)) c.element_count-n.ensures
