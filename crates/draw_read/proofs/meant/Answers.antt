use Rattle.draw_read.proofs.AnswerLaws.{was_not}
use Rattle.draw_read.proofs.AnswerLaws.{was}
use Rattle.base_words.proofs.AllLaws.{le_ltb_by}
use Rattle.base_words.proofs.AllLaws.{lt_ltb_by}
use Rattle.base_words.proofs.PickLaws.{pick_no}
use Rattle.base_words.proofs.PickLaws.{pick_yes}
use Rattle.draw_read.specs.Drawings.{meant_by}
use borrow.Author.Rules.{rules}
use mathlib.Core.Path.{ap}
use mathlib.Core.Bool.{not}
use Rattle.draw_read.proofs.meant.Goals as goal

ruleset L = (rules, pick_yes, pick_no, lt_ltb_by, le_ltb_by, was, was_not)

pub is_drawing-requires : goal.is_drawing-requires
unfolding meant_by
is_drawing-requires c = search L

pub answer-requires : goal.answer-requires
unfolding meant_by
answer-requires c = search L

pub returns-then-not-is_drawing : goal.returns-then-not-is_drawing
unfolding meant_by
returns-then-not-is_drawing c = pick_yes _ _ _ _ (was_not _ _ c.is_drawing.ensures (ap not c.if-not-is_drawing.true)) c.answer.ensures

pub first_beyond-k-requires : goal.first_beyond-k-requires
unfolding meant_by
first_beyond-k-requires c = search L

pub beyond_at-requires : goal.beyond_at-requires
unfolding meant_by
beyond_at-requires c = search L

pub answer-requires-then-k-n : goal.answer-requires-then-k-n
unfolding meant_by
answer-requires-then-k-n c = search L

pub returns-then-k-n : goal.returns-then-k-n
unfolding meant_by
returns-then-k-n c = pick_no _ _ _ _ (was _ _ c.is_drawing.ensures (ap not c.if-not-is_drawing.false)) (pick_yes _ _ _ _ (lt_ltb_by _ _ _ c.first_beyond-k.ensures c.if-k-n.true) (rw (c.beyond_at.ensures, c.first_beyond-k.ensures) at c.answer-then-k-n.ensures))

pub checked-requires : goal.checked-requires
unfolding meant_by
checked-requires c = search L

pub returns : goal.returns
unfolding meant_by
returns c = pick_no _ _ _ _ (was _ _ c.is_drawing.ensures (ap not c.if-not-is_drawing.false)) (pick_no _ _ _ _ (le_ltb_by _ _ _ c.first_beyond-k.ensures c.if-k-n.false) (c.checked.ensures (le_ltb_by _ _ _ c.first_beyond-k.ensures c.if-k-n.false)))
