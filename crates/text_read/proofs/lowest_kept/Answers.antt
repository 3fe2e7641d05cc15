use Rattle.text_read.proofs.lowest_kept.Goals as goal

pub returns : goal.returns
returns c = rw c.head.ensures at c.lowest_in.ensures
