use Rattle.desk.proofs.PutLaws.{poll_put}
use Rattle.desk.proofs.poll.Goals as goal

pub returns : goal.returns
returns c = poll_put c.args.t.now c.args.z.now c.args.rs.now _ _ c.take_apart.ensures c.args.items.now c.args.count c.poll_four-left.result c.poll_four-left.new.z c.poll_four-left.ensures c.put_back.ensures
