use Rattle.xml_markup.proofs.ShelfLaws.{halved_low, halved_high, word_less, word_not_less}
use Rattle.xml_markup.proofs.shelf.halve.Goals as goal

pub returns-then-is_before : goal.returns-then-is_before
returns-then-is_before c = halved_low _ _ _ _ _ _ c.requires.0 c.requires.2 (word_less _ _ _ _ c.kept_name.ensures _ c.is_before.ensures c.if-is_before.true)

pub returns : goal.returns
returns c = halved_high _ _ _ _ _ _ c.requires.0 c.requires.2 (word_not_less _ _ _ _ c.kept_name.ensures _ c.is_before.ensures c.if-is_before.false)
