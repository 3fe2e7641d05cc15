use Rattle.std.proofs.Common.{◌∙◌}
use borrow.Author.Tests.{eq-eqb}
use Rattle.step_values.proofs.TupleLaws.{words_equal, words_differ}
use Rattle.meaning.specs.Templates.{binds}
use Rattle.step_expressions.specs.Suited.{item_suits}
use Rattle.step_expressions.proofs.SuitLaws.{or_first, or_second}
use Rattle.step_expressions.proofs.templates.item_suits.Goals as goal

pub returns-then-word : goal.returns-then-word
unfolding item_suits
returns-then-word c = eq-eqb _ _ c.if-word.true ∙ or_first _ (binds _ _ _) (words_equal c.args.w.values c.args.g.values _ _ _ _ _ c.wide.ensures c.wide-2.ensures c.word.ensures c.word-2.ensures c.if-word.true)

pub returns-else-word : goal.returns-else-word
unfolding item_suits
returns-else-word c = or_second _ _ _ (words_differ c.args.w.values c.args.g.values _ _ _ _ _ c.wide.ensures c.wide-2.ensures c.word.ensures c.word-2.ensures c.if-word.false) c.does_bind.ensures
