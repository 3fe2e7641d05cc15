use Rattle.log_write.specs.Times.{two}
use Rattle.write_buffer.proofs.OverLaws.{after}
use Rattle.log_write.proofs.times.put_two.Goals as goal

pub returns : goal.returns
unfolding two
returns c = after c.put_digit-tens.ensures c.put_digit.ensures
