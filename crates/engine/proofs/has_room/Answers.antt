use Rattle.engine.proofs.CallLaws.{measured, room_always}
use Rattle.base_words.proofs.PickLaws.{leb_same}
use Rattle.engine.proofs.has_room.Goals as goal

pub returns-then-n-ge-TEXT_MOST : goal.returns-then-n-ge-TEXT_MOST
returns-then-n-ge-TEXT_MOST c = room_always _ _ c.requires c.if-n-ge-TEXT_MOST.true

pub returns : goal.returns
returns c = leb_same _ _ _ (measured _ _ c.requires c.text_length.ensures)
