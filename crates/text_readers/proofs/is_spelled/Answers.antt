use Rattle.text_readers.specs.Reading.{is_spelled}
use Rattle.text_readers.proofs.is_spelled.Goals as goal

pub returns-in-Value : goal.returns-in-Value
unfolding is_spelled
returns-in-Value c = rw c.in-Value.is

pub returns-in-TooLarge : goal.returns-in-TooLarge
unfolding is_spelled
returns-in-TooLarge c = rw c.in-TooLarge.is

pub returns-in-NotANumber : goal.returns-in-NotANumber
unfolding is_spelled
returns-in-NotANumber c = rw c.in-NotANumber.is
