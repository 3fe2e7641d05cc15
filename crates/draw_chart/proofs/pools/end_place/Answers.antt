use Rattle.draw_map.specs.Map.{end_place}
use Rattle.write_buffer.specs.Buffers.{lesser}
use borrow.Author.Rules.{rules}
use Rattle.draw_chart.proofs.pools.end_place.Goals as goal

pub count_of-elements-requires : goal.count_of-elements-requires
unfolding end_place lesser
count_of-elements-requires c = search rules

pub count_message_ends-ends-requires : goal.count_message_ends-ends-requires
unfolding end_place lesser
count_message_ends-ends-requires c = search rules

pub least-requires : goal.least-requires
unfolding end_place lesser
least-requires c = search rules

pub returns : goal.returns
unfolding end_place lesser
returns c = search rules
