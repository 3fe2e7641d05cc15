use Rattle.log_write.specs.Times.{quarters, in_century, fifths, day_of}
use Rattle.log_write.proofs.times.day_of.Goals as goal

pub returns : goal.returns
unfolding day_of quarters in_century fifths
returns c = c.day_in.ensures
