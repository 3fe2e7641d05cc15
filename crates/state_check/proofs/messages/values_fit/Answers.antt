use borrow.Author.Rules.{rules}
use Rattle.base_words.proofs.AllLaws.{all_loop}
use Rattle.state_check.proofs.CallLaws.{shown_first, shown_more, shown_fails}
use Rattle.state_check.proofs.messages.values_fit.Goals as goal

ruleset L = (rules, all_loop, shown_first, shown_more, shown_fails)

pub loop-j-init : goal.loop-j-init
loop-j-init c = search L

pub returns-then-value_at-ne0 : goal.returns-then-value_at-ne0
returns-then-value_at-ne0 c = search L

pub loop-j-preserved : goal.loop-j-preserved
loop-j-preserved c = search L

pub returns : goal.returns
returns c = search L
