use mathlib.Core.Path.{◌∙◌, refl, sym}
use Rattle.xml_characters.proofs.ReferenceLaws.{number_on, number_none, number_end}
use Rattle.xml_characters.proofs.references.number.Goals as goal

pub loop-b-init : goal.loop-b-init
loop-b-init c = refl

pub returns-then-base-d : goal.returns-then-base-d
returns-then-base-d c = sym (number_none _ _ _ _ _ _ c.loop-b-test.true c.digit-d.ensures c.base.ensures c.if-base-d.true) ∙ c.loop-b.invariant

pub loop-b-preserved : goal.loop-b-preserved
loop-b-preserved c = sym (number_on _ _ _ _ _ _ c.loop-b-test.true c.digit-d.ensures c.base.ensures c.if-base-d.false _ c.more-v.ensures) ∙ c.loop-b.invariant

pub returns : goal.returns
returns c = sym (number_end _ _ _ _ c.loop-b-test.false) ∙ c.loop-b.invariant
