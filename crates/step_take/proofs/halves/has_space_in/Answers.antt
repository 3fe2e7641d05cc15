use Rattle.base_state.specs.Places.{instances_words}
use Rattle.base_words.proofs.BlockLaws.{tail_in}
use Rattle.step_take.proofs.halves.has_space_in.Goals as goal

pub returns : goal.returns
returns c = rw (tail_in c.args.z.now instances_words) at c.has_space.ensures
