use Rattle.xml_markup.specs.Staying.{stays_in_tag, stays}
use Rattle.xml_markup.specs.Leaps.{here}
use Rattle.xml_markup.proofs.LeapLaws.{leads_on, leads_stay, opens_value}
use Rattle.xml_markup.proofs.leaping.leap_value.Goals as goal

pub returns-then-text-i : goal.returns-then-text-i
returns-then-text-i c = rw c.stand.ensures here

pub returns-then-text-i-ne34 : goal.returns-then-text-i-ne34
returns-then-text-i-ne34 c = rw c.stand-then-text-i-ne34.ensures here

pub returns : goal.returns
unfolding stays stays_in_tag
returns c = leads_on _ (leads_on _ (opens_value _ _ _ c.if-text-i.false c.if-text-i-ne34.false) (leads_stay _ _ _ _ c.plain_from-k.ensures)) c.leap_quote.ensures
