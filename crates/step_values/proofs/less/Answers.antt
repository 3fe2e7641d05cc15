use borrow.Author.Tests.{lt-ltb, le-ltb}
use Rattle.base_words.specs.Pick.{if◌then◌or_else◌}
use Rattle.meaning.specs.Values.{less_of}
use Rattle.step_values.proofs.less.Goals as goal

pub returns-then-x-y : goal.returns-then-x-y
unfolding less_of if◌then◌or_else◌
returns-then-x-y c = simp (c.in-Some-Some.is-0, c.in-Some-Some.is-1, lt-ltb _ _ c.if-x-y.true)

pub returns-else-x-y : goal.returns-else-x-y
unfolding less_of if◌then◌or_else◌
returns-else-x-y c = simp (c.in-Some-Some.is-0, c.in-Some-Some.is-1, le-ltb _ _ c.if-x-y.false)
