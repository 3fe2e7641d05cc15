use Rattle.text_elements.proofs.ElementLaws.{no_kind_lem, of_kind_lem}
use Rattle.text_elements.proofs.element_of.Goals as goal

pub returns-then-k-eq0 : goal.returns-then-k-eq0
returns-then-k-eq0 c = no_kind_lem _ _ _ _ _ _ c.blank.ensures c.if-k-eq0.true

pub returns : goal.returns
returns c = of_kind_lem _ _ _ _ _ _ c.blank.ensures _ c.if-k-eq0.false c.parts_of.ensures
