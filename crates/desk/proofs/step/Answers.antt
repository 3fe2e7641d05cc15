use Rattle.desk.proofs.PutLaws.{step_put}
use Rattle.desk.proofs.step.Goals as goal

pub returns : goal.returns
returns c = step_put c.args.t.now c.args.z.now c.args.rs.now _ _ c.take_apart.ensures c.args.n c.step_four-left.result c.step_four-left.new.z c.step_four-left.ensures c.put_back.ensures
