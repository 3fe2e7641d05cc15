use Rattle.std.proofs.Common.{rules, ◌∙◌, ap}
use Rattle.base_words.specs.Seek.{seek}
use Rattle.base_words.proofs.RangeLaws.{seek_of_range}
use borrow.Author.Tests.{tests}
use lib.Dec.{eqb}
use Rattle.base_table.specs.Table.{entry_at}
use Rattle.check_nesting.specs.Deciding.{entry_of}
use Rattle.check_nested.proofs.blocks.entry_of.Goals as goal

pub returns : goal.returns
unfolding entry_of
returns c = c.unwrap_or.ensures ∙ seek_of_range _ _ _ (λ j. eqb (entry_at c.args.el.now j) c.args.a) _ c.find.ensures.ran (λ x q k. search (rules, tests)) (λ x q k. search (rules, tests)) ∙ ap (seek (λ j. eqb (entry_at c.args.el.now j) c.args.a)) c.entry_count-n.ensures
