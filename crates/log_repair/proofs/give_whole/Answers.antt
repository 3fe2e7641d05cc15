use Rattle.log_repair.proofs.RepairLaws.{too_long_lem, no_room, has_room_lem}
use Rattle.write_buffer.proofs.OverLaws.{put_over}
use native.Mathlib.Omega.{arith}
use mathlib.Core.Path.{refl}
use Rattle.log_repair.proofs.give_whole.Goals as goal

pub returns-then-text-gt-TEXT_MOST : goal.returns-then-text-gt-TEXT_MOST
returns-then-text-gt-TEXT_MOST c = too_long_lem _ _ _ _ _ c.refused.ensures c.if-text-gt-TEXT_MOST.true

pub returns-then-out-text : goal.returns-then-out-text
returns-then-out-text c = no_room _ _ _ _ _ c.refused-then-out-text.ensures c.if-text-gt-TEXT_MOST.false c.if-out-text.true

pub returns : goal.returns
returns c = has_room_lem _ _ _ _ _ _ _ c.if-text-gt-TEXT_MOST.false c.if-out-text.false (put_over c.put_bytes-end.ensures (omega arith)).0 (put_over c.put_bytes-end.ensures (omega arith)).1 refl
