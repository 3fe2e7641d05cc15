use Rattle.draw_read.proofs.AnswerLaws.{answered_by}
use borrow.Author.Rules.{rules}
use Rattle.draw_read.proofs.checked.Goals as goal

ruleset L = (rules)

pub slice_bounds-keep_content-end : goal.slice_bounds-keep_content-end
slice_bounds-keep_content-end c = search L

pub keep_content-requires : goal.keep_content-requires
keep_content-requires c = search L

pub slice_bounds-answer_for-end : goal.slice_bounds-answer_for-end
slice_bounds-answer_for-end c = search L

pub answer_for-requires : goal.answer_for-requires
answer_for-requires c = search L

pub returns : goal.returns
returns c = answered_by _ _ _ _ _ c.keep_content.ensures c.answer_for.ensures
