use Rattle.text_ends.proofs.RoomLaws.{no_edges, room_whole}
use Rattle.text_ends.proofs.room_by.Goals as goal

pub returns-then-ends-free_by : goal.returns-then-ends-free_by
returns-then-ends-free_by c = room_whole _ _ _ c.word-ends.ensures c.free_by.ensures _ c.word.ensures c.if-ends-free_by.true

pub returns-else-ends-free_by : goal.returns-else-ends-free_by
returns-else-ends-free_by c = no_edges _ _ _ c.word-ends.ensures c.free_by.ensures c.if-ends-free_by.false
