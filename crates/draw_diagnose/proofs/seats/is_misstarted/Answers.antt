use Rattle.draw_diagnose.specs.Seats.{is_misstarted}
use borrow.Author.Rules.{rules}
use Rattle.draw_diagnose.proofs.seats.is_misstarted.Goals as goal

pub count_kind-plain-requires : goal.count_kind-plain-requires
unfolding is_misstarted
count_kind-plain-requires c = search rules

pub count_kind-receiving-requires : goal.count_kind-receiving-requires
unfolding is_misstarted
count_kind-receiving-requires c = search rules

pub returns : goal.returns
unfolding is_misstarted
returns c = rw (c.count_kind-plain.ensures, c.count_kind-receiving.ensures)
