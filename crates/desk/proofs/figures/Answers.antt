use Rattle.desk.proofs.PutLaws.{figures_put}
use Rattle.desk.proofs.figures.Goals as goal

pub returns : goal.returns
returns c = figures_put c.args.t.now c.args.z.now c.args.rs.now _ _ c.take_apart.ensures c.figures_four-left.result c.figures_four-left.ensures c.put_back.ensures
