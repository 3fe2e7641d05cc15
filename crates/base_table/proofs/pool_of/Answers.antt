use Rattle.base_table.specs.Table.{pool_of}
use Rattle.base_table.proofs.pool_of.Goals as goal

pub returns : goal.returns
unfolding pool_of
returns c = rw c.pool_count.ensures at c.pool_below.ensures
