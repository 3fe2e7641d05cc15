use native.Mathlib.Omega.{arith}
use Rattle.base_state.specs.Places.{instances_words}
use lib.Seq.{take_all}
use lib.Seq.{length-take-le}
use mathlib.Core.Path.{sym}
use Rattle.step_names.proofs.instances_in.Goals as goal

pub slice_bounds-result-end : goal.slice_bounds-result-end
slice_bounds-result-end c = sym (length-take-le instances_words c.args.z.now c.if-z-ge-INSTANCES_WORDS.true)

pub returns : goal.returns
returns c = sym (take_all instances_words c.args.z.now (omega (arith, c.if-z-ge-INSTANCES_WORDS.false)))
