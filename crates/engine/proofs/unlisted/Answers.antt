use Rattle.engine.proofs.unlisted.Goals as goal

pub returns : goal.returns
returns c = rw c.empty_tuple.ensures
