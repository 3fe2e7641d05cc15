use Rattle.step_take.proofs.StateLaws.{posted_back}
use Rattle.step_take.proofs.halves.post_in.Goals as goal

pub returns : goal.returns
returns c = posted_back c.args.z.now _ _ c.args.name c.args.g c.requires c.post_to.ensures
