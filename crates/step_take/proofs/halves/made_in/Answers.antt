use lib.Seq.{length-take-le}
use mathlib.Core.Path.{sym}
use Rattle.base_state.specs.Places.{instances_words}
use Rattle.step_take.proofs.halves.made_in.Goals as goal

pub slice_bounds-made_count-end : goal.slice_bounds-made_count-end
slice_bounds-made_count-end c = sym (length-take-le instances_words c.args.z.now c.requires)
