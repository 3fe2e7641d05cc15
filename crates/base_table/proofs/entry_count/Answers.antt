use Rattle.base_table.specs.Table.{entry_count}
use Rattle.base_table.proofs.entry_count.Goals as goal

pub returns : goal.returns
unfolding entry_count
returns c = rw (c.entries_of.ensures, c.word.ensures, c.word-2.ensures) at c.count_by.ensures
