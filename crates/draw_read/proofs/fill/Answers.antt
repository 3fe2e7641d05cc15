use Rattle.draw_read.proofs.AnswerLaws.{filled}
use borrow.Author.Rules.{rules}
use Rattle.draw_read.proofs.fill.Goals as goal

ruleset L = (rules, filled)

pub clear-requires : goal.clear-requires
clear-requires c = search L

pub keep_content-requires : goal.keep_content-requires
keep_content-requires c = search L

pub rewrite-requires : goal.rewrite-requires
rewrite-requires c = search L

pub returns : goal.returns
returns c = filled _ _ _ c.args.t.now _ _ _ (search L) c.clear.ensures c.keep_content.ensures c.rewrite.ensures
