use Rattle.base_table.specs.Table.{entry_count}
use Rattle.step_list.proofs.stirring.entries_at.Goals as goal

pub returns : goal.returns
unfolding entry_count
returns c = rw (c.entries_of.ensures, c.word_in.ensures, c.word_in-2.ensures) at c.count_by.ensures
