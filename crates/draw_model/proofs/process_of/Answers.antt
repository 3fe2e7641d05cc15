use Rattle.draw_model.specs.Content.{process_of}
use Rattle.base_words.proofs.PickLaws.{pick_no, pick_yes}
use mathlib.Core.Path.{refl}
use borrow.Author.Rules.{rules}
use Rattle.draw_model.proofs.process_of.Goals as goal

pub source_of-requires : goal.source_of-requires
unfolding process_of
source_of-requires c = search rules

pub returns-then-owned : goal.returns-then-owned
unfolding process_of
returns-then-owned c = pick_yes _ _ _ _ c.if-owned.true c.source_of.ensures

pub returns-else-owned : goal.returns-else-owned
unfolding process_of
returns-else-owned c = pick_no _ _ _ _ c.if-owned.false refl
