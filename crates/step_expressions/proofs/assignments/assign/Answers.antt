use Rattle.base_words.proofs.IterLaws.{iter_none, iter_more, iter_done}
use Rattle.meaning.specs.Assignments.{assigned}
use Rattle.step_expressions.proofs.assignments.assign.Goals as goal

pub loop-j-init : goal.loop-j-init
loop-j-init c = iter_none _ _

pub loop-j-preserved : goal.loop-j-preserved
loop-j-preserved c = iter_more _ _ _ _ _ c.loop-j.invariant c.assign_one-defined.ensures

pub returns : goal.returns
unfolding assigned
returns c = iter_done _ _ _ _ _ c.loop-j-test.false c.loop-j.auto.j-end c.loop-j.invariant
