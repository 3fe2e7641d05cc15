use mathlib.Core.Path.{refl}
use Rattle.draw_walk.specs.Walk.{is_number}
use Rattle.draw_walk.proofs.passing.is_number.Goals as goal

pub returns-in-Value : goal.returns-in-Value
unfolding is_number
returns-in-Value c = rw c.in-Value.is refl

pub returns-in-TooLarge : goal.returns-in-TooLarge
unfolding is_number
returns-in-TooLarge c = rw c.in-TooLarge.is refl

pub returns-in-NotANumber : goal.returns-in-NotANumber
unfolding is_number
returns-in-NotANumber c = rw c.in-NotANumber.is refl
