use native.Mathlib.Nat.{le_antisymm}
use native.Mathlib.Omega.{arith}
use mathlib.Core.Path.{sym, ◌∙◌}
use Rattle.base_words.proofs.SeekLaws.{seek_none, seek_more, seek_found, seek_done}
use Rattle.text_rewrite.proofs.used_below.Goals as goal

pub loop-k-init : goal.loop-k-init
loop-k-init c = seek_none _

pub returns-then-absent_in : goal.returns-then-absent_in
returns-then-absent_in c = (seek_found _ _ _ c.loop-k-test.true c.loop-k.invariant (sym c.absent_in.ensures ∙ c.if-absent_in.true), omega arith)

pub loop-k-preserved : goal.loop-k-preserved
loop-k-preserved c = seek_more _ _ c.loop-k.invariant (sym c.absent_in.ensures ∙ c.if-absent_in.false)

pub returns : goal.returns
returns c = (le_antisymm c.loop-k-test.false c.loop-k.auto.k-end ∙ seek_done _ _ _ c.loop-k-test.false c.loop-k.auto.k-end c.loop-k.invariant, omega arith)
