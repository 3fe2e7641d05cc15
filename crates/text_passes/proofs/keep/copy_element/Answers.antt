use mathlib.Core.Path.{refl}
use Rattle.base_words.proofs.WritesLaws.{writes_none, writes_on}
use Rattle.text_passes.proofs.FillLaws.{writes_whole}
use Rattle.text_passes.proofs.keep.copy_element.Goals as goal

pub loop-j-init : goal.loop-j-init
loop-j-init c = writes_none _ _ _

pub loop-j-preserved : goal.loop-j-preserved
loop-j-preserved c = writes_on _ _ _ _ _ _ _ c.loop-j.invariant refl refl

pub returns : goal.returns
returns c = writes_whole _ _ _ _ _ _ _ c.loop-j.auto.j-end c.loop-j-test.false c.fitting-count.ensures.0 c.fitting-count.ensures.2 c.loop-j.invariant
