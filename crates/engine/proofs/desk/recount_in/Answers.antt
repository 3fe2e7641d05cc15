use mathlib.Core.Path.{sym}
use lib.Seq.{length-take-le}
use Rattle.base_state.specs.Places.{instances_words}
use Rattle.engine.proofs.desk.recount_in.Goals as goal

pub slice_bounds-recount-end : goal.slice_bounds-recount-end
slice_bounds-recount-end c = sym (length-take-le instances_words c.args.z.now c.requires.0)

pub recount-requires : goal.recount-requires
recount-requires c = c.requires.1
