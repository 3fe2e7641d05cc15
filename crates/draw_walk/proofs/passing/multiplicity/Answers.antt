use Rattle.draw_walk.specs.Walk.{multiplicity_by, multiplicity}
use borrow.Author.Rules.{rules}
use Rattle.draw_walk.proofs.passing.multiplicity.Goals as goal

pub attribute-a-requires : goal.attribute-a-requires
unfolding multiplicity_by multiplicity
attribute-a-requires c = search rules

pub judged-requires : goal.judged-requires
unfolding multiplicity_by multiplicity
judged-requires c = search rules

pub skip-requires : goal.skip-requires
unfolding multiplicity_by multiplicity
skip-requires c = search rules

pub returns-in-Some : goal.returns-in-Some
unfolding multiplicity_by multiplicity
returns-in-Some c = rw (← c.attribute-a.ensures, c.in-Some.is) c.judged.ensures

pub returns-in-None : goal.returns-in-None
unfolding multiplicity_by multiplicity
returns-in-None c = rw (← c.attribute-a.ensures, c.in-None.is) c.skip.ensures
