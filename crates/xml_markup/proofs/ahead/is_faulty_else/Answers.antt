use mathlib.Core.Path.{refl}
use Rattle.xml_markup.specs.Ahead.{is_faulty_else}
use Rattle.xml_markup.proofs.ahead.is_faulty_else.Goals as goal

pub returns-in-Nothing : goal.returns-in-Nothing
unfolding is_faulty_else
returns-in-Nothing c = rw c.in-Nothing.is refl

pub returns-in-Attribute : goal.returns-in-Attribute
unfolding is_faulty_else
returns-in-Attribute c = rw c.in-Attribute.is refl

pub returns-in-Target : goal.returns-in-Target
unfolding is_faulty_else
returns-in-Target c = rw c.in-Target.is c.reserved.ensures

pub returns-in-Reference : goal.returns-in-Reference
unfolding is_faulty_else
returns-in-Reference c = rw (c.in-Reference.is, ← c.speaks.ensures) refl
