use Rattle.draw_read.proofs.AnswerLaws.{table_drawn}
use Rattle.draw_read.proofs.AnswerLaws.{table_stays}
use borrow.Author.Rules.{rules}
use Rattle.draw_read.proofs.judge.Goals as goal

ruleset L = (rules, table_stays, table_drawn)

pub meant-a-requires : goal.meant-a-requires
meant-a-requires c = search L

pub returns-then-a-ne-ACCEPTED : goal.returns-then-a-ne-ACCEPTED
returns-then-a-ne-ACCEPTED c = table_stays _ _ _ _ _ c.meant-a.ensures c.if-a-ne-ACCEPTED.true

pub fill-requires : goal.fill-requires
fill-requires c = search L

pub returns : goal.returns
returns c = table_drawn _ _ _ _ _ c.meant-a.ensures _ (search L) c.fill.ensures
