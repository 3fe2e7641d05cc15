use Rattle.engine.proofs.CallLaws.{write_bad, write_short, write_done, measured}
use Rattle.base_words.proofs.PickLaws.{flag_yes, flag_no}
use mathlib.Core.Path.{ap}
use mathlib.Core.Bool.{not}
use Rattle.engine.proofs.write.Goals as goal

pub returns-then-not-is_valid : goal.returns-then-not-is_valid
returns-then-not-is_valid c = write_bad _ _ (flag_no _ _ c.is_valid.ensures (ap not c.if-not-is_valid.true))

pub has_room-requires : goal.has_room-requires
has_room-requires c = flag_yes _ _ c.is_valid.ensures (ap not c.if-not-is_valid.false)

pub returns-then-not-has_room : goal.returns-then-not-has_room
returns-then-not-has_room c = write_short _ _ (flag_yes _ _ c.is_valid.ensures (ap not c.if-not-is_valid.false)) (flag_no _ _ c.has_room.ensures (ap not c.if-not-has_room.true))

pub returns : goal.returns
returns c = write_done _ _ _ _ (flag_yes _ _ c.is_valid.ensures (ap not c.if-not-is_valid.false)) (flag_yes _ _ c.has_room.ensures (ap not c.if-not-has_room.false)) (measured _ _ (flag_yes _ _ c.is_valid.ensures (ap not c.if-not-is_valid.false)) c.put_table-n.ensures.0) c.put_table-n.ensures.1
