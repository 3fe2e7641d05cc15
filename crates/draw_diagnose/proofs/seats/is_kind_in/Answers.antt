use Rattle.base_words.proofs.PickLaws.{and_yes}
use Rattle.base_words.proofs.PickLaws.{eqb_same}
use Rattle.base_words.proofs.PickLaws.{flag_is}
use Rattle.draw_diagnose.specs.Seats.{is_kind_in}
use Rattle.draw_links.proofs.TestLaws.{and_told}
use borrow.Author.Rules.{rules}
use Rattle.draw_diagnose.proofs.seats.is_kind_in.Goals as goal

pub is_of_kind-requires : goal.is_of_kind-requires
unfolding is_kind_in
is_of_kind-requires c = search rules

pub within_of-requires : goal.within_of-requires
unfolding is_kind_in
within_of-requires c = search rules

pub returns-then-is_of_kind : goal.returns-then-is_of_kind
unfolding is_kind_in
returns-then-is_of_kind c = and_yes _ _ _ (flag_is _ _ _ c.is_of_kind.ensures c.if-is_of_kind.true) (eqb_same _ _ _ c.within_of.ensures)

pub returns-else-is_of_kind : goal.returns-else-is_of_kind
unfolding is_kind_in
returns-else-is_of_kind c = and_told _ _ _ c.is_of_kind.ensures c.if-is_of_kind.false
