use Rattle.text_numerals.specs.Numerals.{as_number}
use borrow.Author.Rules.{rules}
use Rattle.text_numerals.proofs.as_number.Goals as goal

pub returns-in-Value : goal.returns-in-Value
unfolding as_number
returns-in-Value c = rw c.in-Value.is

pub returns-in-TooLarge : goal.returns-in-TooLarge
unfolding as_number
returns-in-TooLarge c = search rules

pub returns-in-NotANumber : goal.returns-in-NotANumber
unfolding as_number
returns-in-NotANumber c = search rules
