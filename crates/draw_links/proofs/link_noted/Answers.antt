use Rattle.draw_links.proofs.TargetLaws.{linked_back}
use Rattle.draw_links.proofs.link_noted.Goals as goal

pub returns : goal.returns
returns c h = linked_back _ _ _ h _ _ _ c.note_ids.ensures c.link_all.ensures c.clear_ids.ensures
