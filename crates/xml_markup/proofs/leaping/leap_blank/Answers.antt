use Rattle.xml_markup.specs.Leaps.{here}
use Rattle.xml_markup.proofs.LeapLaws.{leads_on, passes_blank}
use Rattle.xml_markup.proofs.leaping.leap_blank.Goals as goal

pub returns-then-text-i : goal.returns-then-text-i
returns-then-text-i c = rw c.stand.ensures here

pub returns-then-text-i-ne32 : goal.returns-then-text-i-ne32
returns-then-text-i-ne32 c = rw c.stand-then-text-i-ne32.ensures here

pub returns : goal.returns
returns c = leads_on _ (passes_blank _ _ _ c.if-text-i.false _ c.requires.0 c.requires.1 c.if-text-i-ne32.false) c.leap_name.ensures
