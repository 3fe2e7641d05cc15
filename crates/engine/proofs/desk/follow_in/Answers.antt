use mathlib.Core.Path.{sym}
use lib.Seq.{length-take-le}
use Rattle.base_state.specs.Places.{instances_words}
use Rattle.engine.proofs.desk.follow_in.Goals as goal

pub slice_bounds-follow-end : goal.slice_bounds-follow-end
slice_bounds-follow-end c = sym (length-take-le instances_words c.args.z.now c.requires)
