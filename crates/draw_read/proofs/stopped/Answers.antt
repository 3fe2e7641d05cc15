use Rattle.draw_read.proofs.AnswerLaws.{stopped_there}
use Rattle.draw_read.proofs.AnswerLaws.{not_stopped}
use borrow.Author.Rules.{rules}
use Rattle.draw_read.proofs.stopped.Goals as goal

ruleset L = (rules, not_stopped, stopped_there)

pub enum_told-1 : goal.enum_told-1
enum_told-1 c = search L

pub answer-requires : goal.answer-requires
answer-requires c = search L

pub enum_known-end : goal.enum_known-end
enum_known-end c = search L

pub answer-requires-in-Err : goal.answer-requires-in-Err
answer-requires-in-Err c = search L

pub returns-in-Ok : goal.returns-in-Ok
returns-in-Ok c = λ q e. not_stopped _ _ _ c.in-Ok.is e

pub returns-in-Err : goal.returns-in-Err
returns-in-Err c = λ q e. stopped_there _ _ _ _ c.in-Err.is c.answer-in-Err.ensures e
