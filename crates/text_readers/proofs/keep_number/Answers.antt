use borrow.Author.Tests.{le-leb, lt-leb}
use mathlib.Core.Logic.{⊎_elim}
use Rattle.text_readers.proofs.KeepLaws.{number_within, number_below, number_above, number_too_large, number_none}
use Rattle.text_readers.proofs.keep_number.Goals as goal

pub returns-then-v-most : goal.returns-then-v-most
returns-then-v-most c = number_within _ _ _ _ _ _ _ _ c.in-Value.is _ c.if-least-v.true (le-leb _ _ c.if-v-most.true) c.put.ensures

pub returns-else-least-v : goal.returns-else-least-v
returns-else-least-v c = ⊎_elim (λ a. number_above _ _ _ _ _ _ _ _ c.in-Value.is (lt-leb _ _ a.1)) (λ a. number_below _ _ _ _ _ _ _ _ c.in-Value.is a) c.else-least-v.either

pub returns-in-TooLarge : goal.returns-in-TooLarge
returns-in-TooLarge c = number_too_large _ _ _ _ _ _ _ c.in-TooLarge.is

pub returns-in-NotANumber : goal.returns-in-NotANumber
returns-in-NotANumber c = number_none _ _ _ _ _ _ _ c.in-NotANumber.is
