use Rattle.text_passes.specs.Passes.{pool_judged}
use borrow.Author.Rules.{rules}
use Rattle.text_passes.proofs.keep.judge_pool.Goals as goal

ruleset L = (rules)

pub head-requires : goal.head-requires
unfolding pool_judged
head-requires c = search L

pub mark_pool-requires : goal.mark_pool-requires
unfolding pool_judged
mark_pool-requires c = search L

pub note_room-requires : goal.note_room-requires
unfolding pool_judged
note_room-requires c = search L

pub shape_of-w : goal.shape_of-w
unfolding pool_judged
shape_of-w c = search L

pub returns : goal.returns
unfolding pool_judged
returns c = rw (c.mark_pool.ensures, c.head.ensures) at c.note_room.ensures
