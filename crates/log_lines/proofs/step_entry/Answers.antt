use mathlib.Core.Path.{◌∙◌, refl}
use Rattle.base_words.proofs.PickLaws.{and_true, and_false_left, and_false_right}
use Rattle.log_lines.proofs.Laws.{step_not, step_is}
use Rattle.log_lines.proofs.step_entry.Goals.{else-all_right-via-then-all_right+else-g, else-all_right-via-else-all_right}
use Rattle.log_lines.proofs.step_entry.Goals as goal

pub returns-then-g : goal.returns-then-g
returns-then-g c = step_is _ _ c.numbers_of-p.ensures _ c.traffic_from-g.ensures _ c.all_right.ensures _ refl (and_true _ _ c.if-all_right.true c.if-g.true) _ c.name_of.ensures

pub returns : goal.returns
returns c = c.no_entry.ensures ∙ step_not _ _ c.numbers_of-p.ensures _ c.traffic_from-g.ensures _ c.all_right.ensures _ refl
    (elim c.else-all_right.branch [ else-all_right-via-then-all_right+else-g w ↦ and_false_right _ _ w.if-g.false | else-all_right-via-else-all_right w ↦ and_false_left _ _ w.if-all_right.false ])
