use borrow.Author.Tests.{eq-eqb, ne_eqb}
use Rattle.base_words.specs.Pick.{if◌then◌or_else◌}
use Rattle.meaning.specs.Values.{equal_of}
use Rattle.step_values.proofs.equal.Goals as goal

pub returns-then-x-y : goal.returns-then-x-y
unfolding equal_of if◌then◌or_else◌
returns-then-x-y c = simp (c.in-Some-Some.is-0, c.in-Some-Some.is-1, eq-eqb _ _ c.if-x-y.true)

pub returns-else-x-y : goal.returns-else-x-y
unfolding equal_of if◌then◌or_else◌
returns-else-x-y c = simp (c.in-Some-Some.is-0, c.in-Some-Some.is-1, ne_eqb _ _ c.if-x-y.false)
