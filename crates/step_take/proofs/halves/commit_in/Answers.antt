use lib.Seq.{length-take-le}
use mathlib.Core.Path.{sym}
use Rattle.base_state.specs.Places.{instances_words}
use Rattle.step_take.proofs.halves.commit_in.Goals as goal

pub slice_bounds-commit-end-2 : goal.slice_bounds-commit-end-2
slice_bounds-commit-end-2 c = sym (length-take-le instances_words c.args.z.now c.requires)

pub returns : goal.returns
returns c = rw c.commit.ensures
