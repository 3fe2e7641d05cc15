use Rattle.base_words.proofs.IterLaws.{iter_none, iter_more, iter_done}
use Rattle.meaning.specs.Templates.{bound}
use Rattle.step_expressions.proofs.templates.bind.Goals as goal

pub loop-j-init : goal.loop-j-init
loop-j-init c = iter_none _ _

pub loop-j-preserved : goal.loop-j-preserved
loop-j-preserved c = iter_more _ _ _ _ _ c.loop-j.invariant c.bind_one.ensures

pub returns : goal.returns
unfolding bound
returns c = iter_done _ _ _ _ _ c.loop-j-test.false c.loop-j.auto.j-end c.loop-j.invariant
