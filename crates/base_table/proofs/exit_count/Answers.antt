use Rattle.base_table.specs.Table.{exit_count}
use Rattle.base_table.proofs.exit_count.Goals as goal

pub returns : goal.returns
unfolding exit_count
returns c = rw (c.exits_of.ensures, c.word.ensures, c.word-2.ensures) at c.count_by.ensures
