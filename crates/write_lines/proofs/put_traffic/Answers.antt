use Rattle.write_lines.proofs.LineLaws.{traffic_is, traffic_short}
use Rattle.write_buffer.proofs.OverLaws.{put_as, put_short}
use Rattle.write_lines.specs.Lines.{signed}
use Rattle.write_lines.proofs.put_traffic.Goals as goal

pub returns-in-Nothing : goal.returns-in-Nothing
unfolding signed
returns-in-Nothing c = put_short (put_as _ (traffic_is c.args.a _ c.in-Nothing.is) c.put_byte.ensures) (traffic_short c.args.a)

pub returns-in-Consumed : goal.returns-in-Consumed
unfolding signed
returns-in-Consumed c = put_short (put_as _ (traffic_is c.args.a _ c.in-Consumed.is) c.put_signed.ensures) (traffic_short c.args.a)

pub returns-in-Sent : goal.returns-in-Sent
unfolding signed
returns-in-Sent c = put_short (put_as _ (traffic_is c.args.a _ c.in-Sent.is) c.put_signed-in-Sent.ensures) (traffic_short c.args.a)
