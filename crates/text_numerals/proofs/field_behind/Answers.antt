use native.Mathlib.Omega.{arith}
use borrow.Author.Tests.{lt-ltb, le-ltb}
use Rattle.base_words.specs.Pick.{if◌then◌or_else◌}
use Rattle.text_numerals.specs.Numerals.{field_behind}
use borrow.Author.Rules.{rules}
use Rattle.text_numerals.proofs.field_behind.Goals as goal

pub overflow_add-result : goal.overflow_add-result
overflow_add-result c = omega (arith, c.requires)

pub returns-then-v-count : goal.returns-then-v-count
unfolding field_behind if◌then◌or_else◌
returns-then-v-count c = rw (c.in-Value.is, lt-ltb _ _ c.if-v-count.true)

pub returns-else-v-count : goal.returns-else-v-count
unfolding field_behind if◌then◌or_else◌
returns-else-v-count c = rw (c.in-Value.is, le-ltb _ _ c.if-v-count.false)

pub returns-in-TooLarge : goal.returns-in-TooLarge
unfolding field_behind
returns-in-TooLarge c = search rules

pub returns-in-NotANumber : goal.returns-in-NotANumber
unfolding field_behind
returns-in-NotANumber c = search rules
