use Rattle.draw_numbers.proofs.ValueLaws.{no_value, value_is}
use Rattle.draw_numbers.proofs.numbers.value_of.Goals as goal

pub returns-in_default : goal.returns-in_default
returns-in_default c = no_value _ _ c.number_of-number.ensures c.in_default.not-Value

pub returns : goal.returns
returns c = value_is _ _ _ c.number_of-number.ensures c.in-Value.is
