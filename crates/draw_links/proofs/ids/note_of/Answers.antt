use Rattle.draw_links.proofs.NoteLaws.{note_behind, note_nowhere}
use Rattle.draw_links.proofs.ids.note_of.Goals as goal

pub returns-in_default : goal.returns-in_default
returns-in_default c = note_nowhere _ _ _ _ _ c.place_of.ensures c.found-f.ensures c.in_default.is

pub returns : goal.returns
returns c = note_behind _ _ _ _ _ c.place_of.ensures c.found-f.ensures _ _ _ c.in-Some.is c.quote_at.ensures c.behind_quote.ensures
