use Rattle.write_buffer.proofs.OverLaws.{after, put_as, put_within, put_nothing}
use Rattle.base_words.proofs.PickLaws.{pick_yes, pick_no}
use Rattle.write_table.proofs.PartLaws.{in_use, not_in_use}
use Rattle.write_table.specs.Pieces.{next_pool}
use borrow.Author.Tests.{leb-true}
use mathlib.Core.Path.{refl}
use Rattle.write_table.proofs.put_next_pool.Goals as goal

pub returns-then-p-pool_count : goal.returns-then-p-pool_count
unfolding next_pool
returns-then-p-pool_count c = put_as _ (pick_yes _ _ _ _ (in_use _ _ _ c.pool_count.ensures c.if-p-pool_count.true) refl) (after c.put_lead-bar.ensures c.put_pool.ensures)

pub returns : goal.returns
unfolding next_pool
returns c = put_within (put_as _ (pick_no _ _ _ _ (not_in_use _ _ _ c.pool_count.ensures c.if-p-pool_count.false) refl) (put_nothing _ _)) (leb-true _ _ refl)
