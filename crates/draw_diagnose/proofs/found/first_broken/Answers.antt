use Rattle.base_words.proofs.PickLaws.{flag_is}
use Rattle.base_words.proofs.SeekLaws.{seek_done, seek_found, seek_more, seek_none}
use Rattle.draw_diagnose.specs.Rules.{first_broken}
use mathlib.Core.Path.{◌∙◌}
use native.Mathlib.Nat.{le_antisymm}
use Rattle.draw_diagnose.proofs.found.first_broken.Goals as goal

pub loop-r-init : goal.loop-r-init
loop-r-init c = seek_none _

pub returns-then-is_broken : goal.returns-then-is_broken
unfolding first_broken
returns-then-is_broken c = seek_found _ _ _ c.loop-r-test.true c.loop-r.invariant (flag_is _ _ _ c.is_broken.ensures c.if-is_broken.true)

pub loop-r-preserved : goal.loop-r-preserved
loop-r-preserved c = seek_more _ _ c.loop-r.invariant (flag_is _ _ _ c.is_broken.ensures c.if-is_broken.false)

pub returns : goal.returns
unfolding first_broken
returns c = le_antisymm c.loop-r-test.false c.loop-r.auto.r-end ∙ seek_done _ _ _ c.loop-r-test.false c.loop-r.auto.r-end c.loop-r.invariant
