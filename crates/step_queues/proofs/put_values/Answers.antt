use Rattle.base_words.proofs.WritesLaws.{writes_none, writes_on, writes_done}
use Rattle.meaning.specs.Tuples.{value_of}
use Rattle.step_queues.proofs.put_values.Goals as goal

pub loop-j-init : goal.loop-j-init
loop-j-init c = writes_none _ _ _

pub loop-j-preserved : goal.loop-j-preserved
loop-j-preserved c = writes_on (value_of _) _ _ _ _ _ _ c.loop-j.invariant c.value_of.ensures c.put.ensures

pub returns : goal.returns
returns c = rw (← c.slot_place-i.ensures) (writes_done (value_of _) _ _ _ _ _ c.loop-j-test.false c.loop-j.auto.j-end c.loop-j.invariant)
