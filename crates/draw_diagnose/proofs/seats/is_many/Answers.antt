use Rattle.draw_diagnose.specs.Seats.{is_many}
use borrow.Author.Rules.{rules}
use Rattle.draw_diagnose.proofs.seats.is_many.Goals as goal

pub first_with-requires : goal.first_with-requires
unfolding is_many
first_with-requires c = search rules

pub returns : goal.returns
unfolding is_many
returns c = rw c.first_with.ensures
