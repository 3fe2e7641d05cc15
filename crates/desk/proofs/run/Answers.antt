use Rattle.desk.proofs.PutLaws.{run_put}
use Rattle.desk.proofs.run.Goals as goal

pub returns : goal.returns
returns c = run_put c.args.t.now c.args.z.now c.args.rs.now _ _ c.take_apart.ensures c.args.limit c.run_four-left.result c.run_four-left.new.z c.run_four-left.ensures c.put_back.ensures
