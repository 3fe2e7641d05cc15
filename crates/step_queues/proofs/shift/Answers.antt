use mathlib.Core.Path.{◌∙◌}
use Rattle.base_words.proofs.WritesLaws.{writes_none, writes_on, writes_ahead, writes_done}
use Rattle.base_state.specs.Places.{slot_words}
use Rattle.step_queues.proofs.shift.Goals as goal

pub loop-j-init : goal.loop-j-init
loop-j-init c = writes_none _ _ _

pub loop-j-preserved : goal.loop-j-preserved
loop-j-preserved c = writes_on _ _ _ _ _ _ _ c.loop-j.invariant (c.word-w.ensures ∙ writes_ahead _ _ _ _ slot_words _ c.loop-j.invariant) c.put.ensures

pub returns : goal.returns
returns c = rw (← c.slot_place-i.ensures) (writes_done _ _ _ _ _ _ c.loop-j-test.false c.loop-j.auto.j-end c.loop-j.invariant)
