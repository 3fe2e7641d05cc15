use Rattle.draw_faults.specs.Amiss.{is_repeated}
use Rattle.draw_links.proofs.LinkLaws.{if_absent, if_is_lem}
use Rattle.base_words.proofs.PickLaws.{and_no, and_yes, flag_no, flag_yes}
use borrow.Author.Rules.{rules}
use mathlib.Core.Path.{ap}
use mathlib.Core.Bool.{not}
use Rattle.draw_faults.proofs.ids.is_repeated.Goals as goal

pub is_read-requires : goal.is_read-requires
unfolding is_repeated
is_read-requires c = search rules

pub returns-then-not-is_read : goal.returns-then-not-is_read
unfolding is_repeated
returns-then-not-is_read c = and_no _ _ (flag_no _ _ c.is_read.ensures (ap not c.if-not-is_read.true))

pub attribute_of-a-requires : goal.attribute_of-a-requires
unfolding is_repeated
attribute_of-a-requires c = search rules

pub returns-in_default : goal.returns-in_default
unfolding is_repeated
returns-in_default c = and_yes _ _ _ (flag_yes _ _ c.is_read.ensures (ap not c.if-not-is_read.false)) (if_absent _ _ _ _ c.attribute_of-a.ensures c.in_default.is)

pub piece-requires : goal.piece-requires
unfolding is_repeated
piece-requires c = search rules

pub is_taken-requires : goal.is_taken-requires
unfolding is_repeated
is_taken-requires c = search rules

pub returns : goal.returns
unfolding is_repeated
returns c = and_yes _ _ _ (flag_yes _ _ c.is_read.ensures (ap not c.if-not-is_read.false)) (if_is_lem _ _ _ _ _ _ _ c.attribute_of-a.ensures c.in-Some.is (rw c.piece.ensures at c.is_taken.ensures))
