use Rattle.xml_markup.proofs.LeapLaws.{leads_stay}
use Rattle.xml_markup.proofs.leaping.remain.Goals as goal

pub returns : goal.returns
returns c = rw c.stand.ensures (leads_stay _ _ _ _ c.stay-k.ensures)
