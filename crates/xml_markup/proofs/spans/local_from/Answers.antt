use mathlib.Core.Path.{◌∙◌, sym}
use Rattle.xml_markup.proofs.SpanLaws.{local_on, local_end}
use Rattle.xml_markup.proofs.spans.local_from.Goals as goal

pub loop-i-preserved : goal.loop-i-preserved
loop-i-preserved c = sym (local_on _ _ _ _ c.loop-i-test.true c.behind_colon-from.ensures) ∙ c.loop-i.invariant

pub returns : goal.returns
returns c = sym (local_end _ _ _ c.loop-i-test.false) ∙ c.loop-i.invariant
