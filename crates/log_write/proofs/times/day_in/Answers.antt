use Rattle.log_write.specs.Times.{day_in}
use Rattle.base_words.proofs.PickLaws.{pick_yes, pick_no}
use borrow.Author.Tests.{le-leb, lt-leb}
use mathlib.Core.Path.{refl}
use Rattle.log_write.proofs.times.day_in.Goals as goal

pub returns-then-month-le12 : goal.returns-then-month-le12
unfolding day_in
returns-then-month-le12 c = pick_yes _ _ _ _ (le-leb _ _ c.if-month-le12.true) refl

pub returns : goal.returns
unfolding day_in
returns c = pick_no _ _ _ _ (lt-leb _ _ c.if-month-le12.false) refl
