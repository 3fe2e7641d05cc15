use Rattle.xml_markup.specs.Leaps.{here}
use Rattle.xml_markup.proofs.LeapLaws.{leads_on, opens_markup_lem}
use Rattle.xml_markup.proofs.leaping.leap_begin.Goals as goal

pub returns-then-text-i : goal.returns-then-text-i
returns-then-text-i c = rw c.stand.ensures here

pub returns-then-text-i-ne60 : goal.returns-then-text-i-ne60
returns-then-text-i-ne60 c = rw c.stand-then-text-i-ne60.ensures here

pub returns : goal.returns
returns c = leads_on _ (opens_markup_lem _ _ _ c.if-text-i.false c.if-text-i-ne60.false) c.leap_open.ensures
