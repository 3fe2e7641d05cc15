use Rattle.text_numerals.specs.Numerals.{as_number}
use Rattle.draw_conditions.specs.Words.{side_of}
use borrow.Author.Rules.{rules}
use Rattle.draw_conditions.proofs.spelled.number_side.Goals as goal

pub within-requires : goal.within-requires
unfolding as_number side_of
within-requires c = search rules

pub out_of_range-requires : goal.out_of_range-requires
unfolding as_number side_of
out_of_range-requires c = search rules

pub none-requires : goal.none-requires
unfolding as_number side_of
none-requires c = search rules

pub returns-in-Value : goal.returns-in-Value
unfolding as_number side_of
returns-in-Value c = rw c.in-Value.is c.within.ensures

pub returns-in-TooLarge : goal.returns-in-TooLarge
unfolding as_number side_of
returns-in-TooLarge c = rw c.in-TooLarge.is c.out_of_range.ensures

pub returns-in-NotANumber : goal.returns-in-NotANumber
unfolding as_number side_of
returns-in-NotANumber c = rw c.in-NotANumber.is c.none.ensures
