use borrow.Author.Tests.{le-leb, lt-leb}
use mathlib.Core.Path.{refl}
use Rattle.base_words.proofs.PickLaws.{pick_no, pick_yes}
use Rattle.xml_markup.specs.Ahead.{tried}
use borrow.Author.Rules.{rules}
use Rattle.xml_markup.proofs.ahead.tried.Goals as goal

pub returns-then-text-i : goal.returns-then-text-i
unfolding tried
returns-then-text-i c = pick_yes _ _ _ _ (le-leb _ _ c.if-text-i.true) refl

pub whole-requires : goal.whole-requires
unfolding tried
whole-requires c = search rules

pub piece-requires : goal.piece-requires
unfolding tried
piece-requires c = search rules

pub is_faulty_else-requires : goal.is_faulty_else-requires
unfolding tried
is_faulty_else-requires c = search rules

pub returns-then-is_faulty_else : goal.returns-then-is_faulty_else
unfolding tried
returns-then-is_faulty_else c = rw (← c.whole.ensures, ← c.piece.ensures, ← c.is_faulty_else.ensures) (pick_no _ _ _ _ (lt-leb _ _ c.if-text-i.false) (pick_yes _ _ _ _ c.if-is_faulty_else.true refl))

pub is_control-requires : goal.is_control-requires
unfolding tried
is_control-requires c = search rules

pub returns-then-is_control : goal.returns-then-is_control
unfolding tried
returns-then-is_control c = rw (← c.whole.ensures, ← c.piece.ensures, ← c.is_faulty_else.ensures, ← c.is_control.ensures) (pick_no _ _ _ _ (lt-leb _ _ c.if-text-i.false) (pick_no _ _ _ _ c.if-is_faulty_else.false (pick_yes _ _ _ _ c.if-is_control.true refl)))

pub moved-requires : goal.moved-requires
unfolding tried
moved-requires c = search rules

pub returns : goal.returns
unfolding tried
returns c = rw (← c.whole.ensures, ← c.piece.ensures, ← c.is_faulty_else.ensures, ← c.is_control.ensures) (pick_no _ _ _ _ (lt-leb _ _ c.if-text-i.false) (pick_no _ _ _ _ c.if-is_faulty_else.false (pick_no _ _ _ _ c.if-is_control.false c.moved.ensures)))
