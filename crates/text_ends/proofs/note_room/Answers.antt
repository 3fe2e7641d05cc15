use mathlib.Core.Path.{refl}
use Rattle.base_words.proofs.PickLaws.{pick_yes, pick_no, flag_yes, flag_no}
use Rattle.text_ends.specs.Room.{room_noted}
use mathlib.Core.Path.{ap}
use mathlib.Core.Bool.{not}
use Rattle.text_ends.proofs.note_room.Goals as goal

pub returns-then-not-room_by : goal.returns-then-not-room_by
unfolding room_noted
returns-then-not-room_by c = pick_no _ _ _ _ (flag_no _ _ c.room_by.ensures (ap not c.if-not-room_by.true)) c.put.ensures

pub returns-else-not-room_by : goal.returns-else-not-room_by
unfolding room_noted
returns-else-not-room_by c = pick_yes _ _ _ _ (flag_yes _ _ c.room_by.ensures (ap not c.if-not-room_by.false)) (refl)
