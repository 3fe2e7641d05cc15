use Rattle.base_words.proofs.PickLaws.{and_yes}
use Rattle.base_words.proofs.PickLaws.{flag_is}
use Rattle.draw_diagnose.specs.Seats.{has_defaults}
use Rattle.draw_links.proofs.TestLaws.{and_told}
use mathlib.Core.Bool.{not}
use mathlib.Core.Path.{ap}
use borrow.Author.Rules.{rules}
use Rattle.draw_diagnose.proofs.seats.has_defaults.Goals as goal

pub is_split-requires : goal.is_split-requires
unfolding has_defaults
is_split-requires c = search rules

pub has_one_default-requires : goal.has_one_default-requires
unfolding has_defaults
has_one_default-requires c = search rules

pub returns-then-is_split : goal.returns-then-is_split
unfolding has_defaults
returns-then-is_split c = and_yes _ _ _ (flag_is _ _ _ c.is_split.ensures c.if-is_split.true) (ap not c.has_one_default.ensures)

pub returns-else-is_split : goal.returns-else-is_split
unfolding has_defaults
returns-else-is_split c = and_told _ _ _ c.is_split.ensures c.if-is_split.false
