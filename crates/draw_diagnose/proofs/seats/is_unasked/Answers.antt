use Rattle.base_words.proofs.PickLaws.{and_yes}
use Rattle.base_words.proofs.PickLaws.{eqb_same}
use Rattle.base_words.proofs.PickLaws.{flag_is}
use Rattle.draw_diagnose.specs.Seats.{is_unasked}
use Rattle.draw_links.proofs.TestLaws.{and_told}
use mathlib.Core.Bool.{not}
use mathlib.Core.Path.{ap}
use borrow.Author.Rules.{rules}
use Rattle.draw_diagnose.proofs.seats.is_unasked.Goals as goal

pub is_many-requires : goal.is_many-requires
unfolding is_unasked
is_many-requires c = search rules

pub count_kind-requires : goal.count_kind-requires
unfolding is_unasked
count_kind-requires c = search rules

pub returns-then-is_many : goal.returns-then-is_many
unfolding is_unasked
returns-then-is_many c = and_yes _ _ _ (flag_is _ _ _ c.is_many.ensures c.if-is_many.true) (ap not (eqb_same _ _ _ c.count_kind.ensures))

pub returns-else-is_many : goal.returns-else-is_many
unfolding is_unasked
returns-else-is_many c = and_told _ _ _ c.is_many.ensures c.if-is_many.false
