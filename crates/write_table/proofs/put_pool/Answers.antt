use Rattle.write_buffer.proofs.OverLaws.{after, put_as}
use Rattle.write_shown.specs.Shown.{shown_pool}
use Rattle.write_table.specs.Pieces.{pool_word}
use Rattle.write_table.proofs.put_pool.Goals as goal

pub returns : goal.returns
unfolding shown_pool pool_word
returns c = put_as _ (rw c.limit_at.ensures) (after c.put_pool_word-keyword.ensures c.put_enclosed.ensures)
