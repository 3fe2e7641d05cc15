use Rattle.draw_chart.proofs.MapLaws.{accepted_is}
use Rattle.draw_chart.proofs.MapLaws.{refused_is}
use Rattle.write_buffer.proofs.OverLaws.{put_as}
use Rattle.write_buffer.proofs.OverLaws.{put_over}
use native.Mathlib.Omega.{arith}
use Rattle.draw_chart.proofs.put_map.Goals as goal

pub returns-then-r-ne-ACCEPTED : goal.returns-then-r-ne-ACCEPTED
returns-then-r-ne-ACCEPTED c = put_over (put_as _ (refused_is _ _ _ _ c.draw_into-r.ensures c.if-r-ne-ACCEPTED.true) c.put_unread.ensures) (omega arith)

pub returns : goal.returns
returns c = put_over (put_as _ (accepted_is _ _ _ _ c.draw_into-r.ensures (omega arith)) c.put_accepted.ensures) (omega arith)
