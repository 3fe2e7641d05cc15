use mathlib.Core.Path.{◌≡◌, refl}
use native.Mathlib.Omega.{arith}
use Rattle.base_words.proofs.PickLaws.{flag_yes, flag_no}
use Rattle.base_bytes.proofs.PastLaws.{past_on, past_here, past_all}
use Rattle.xml_markup.specs.Spans.{run}
use mathlib.Core.Path.{ap}
use mathlib.Core.Bool.{not}
use Rattle.xml_markup.proofs.spans.run.Goals as goal

pub loop-i-init : goal.loop-i-init
unfolding run
loop-i-init c = (refl, λ h. refl)

pub returns-then-not-is_of : goal.returns-then-not-is_of
returns-then-not-is_of c = past_here _ _ _ _ c.loop-i.invariant.0 c.loop-i-test.true (flag_no _ _ c.is_of.ensures (ap not c.if-not-is_of.true))

pub loop-i-preserved : goal.loop-i-preserved
loop-i-preserved c = (past_on _ _ _ _ c.loop-i.invariant.0 c.loop-i-test.true (flag_yes _ _ c.is_of.ensures (ap not c.if-not-is_of.false)), λ h. absurd (omega arith))

pub returns : goal.returns
returns c = let e : c.max.result ≡ c.loop-i.i = grind arith in rw e (past_all _ _ _ _ c.loop-i.invariant.0 c.loop-i-test.false)
