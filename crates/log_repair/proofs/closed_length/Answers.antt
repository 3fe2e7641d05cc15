use Rattle.log_repair.proofs.closed_length.Goals as goal

pub returns : goal.returns
returns c = c.put_closed.ensures.0
