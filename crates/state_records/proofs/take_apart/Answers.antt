use Rattle.std.specs.Prelude.{length}
use Rattle.state_records.specs.Records.{four_of}
use Rattle.state_records.proofs.take_apart.Goals as goal

pub returns : goal.returns
unfolding four_of
returns c = λ i. record { first = c.record_at.ensures i; second = c.record_at-2.ensures i; third = c.record_at-3.ensures i; fourth = c.record_at-4.ensures i; count = length c.args.rs.now }
