use mathlib.Core.Path.{refl}
use Rattle.xml_document.specs.Around.{last_by}
use Rattle.xml_document.proofs.around.last_by.Goals as goal

pub returns-in-Element : goal.returns-in-Element
unfolding last_by
returns-in-Element c = rw c.in-Element.is refl

pub returns-in-On : goal.returns-in-On
unfolding last_by
returns-in-On c = rw c.in-On.is refl

pub returns-in-Nothing : goal.returns-in-Nothing
unfolding last_by
returns-in-Nothing c = rw c.in-Nothing.is refl

pub returns-in-Fault : goal.returns-in-Fault
unfolding last_by
returns-in-Fault c = rw c.in-Fault.is refl
