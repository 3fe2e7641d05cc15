use mathlib.Core.Path.{refl}
use Rattle.base_words.proofs.PickLaws.{flag_is, pick_no, pick_yes}
use Rattle.draw_links.proofs.TargetLaws.{retarget_out}
use Rattle.draw_links.specs.Notes.{note_of, retargeted}
use Rattle.draw_links.proofs.ids.note_id.Goals as goal

pub returns-then-w-k : goal.returns-then-w-k
unfolding retargeted
returns-then-w-k c = retarget_out (note_of c.args.text.now) _ _ c.if-w-k.true

pub returns-then-is_flow : goal.returns-then-is_flow
unfolding retargeted
returns-then-is_flow c = pick_yes _ _ _ _ (flag_is _ _ _ c.is_flow.ensures c.if-is_flow.true) refl

pub returns : goal.returns
unfolding retargeted
returns c = pick_no _ _ _ _ (flag_is _ _ _ c.is_flow.ensures c.if-is_flow.false) (rw (← c.note_of-a.ensures) c.set_target.ensures)
