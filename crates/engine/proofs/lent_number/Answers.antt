use native.Mathlib.Omega.{arith}
use Rattle.base_words.proofs.PickLaws.{flag_yes, flag_no}
use Rattle.engine.proofs.CallLaws.{lent_invalid, lent_unfit, lent_right}
use mathlib.Core.Path.{ap}
use mathlib.Core.Bool.{not}
use Rattle.engine.proofs.lent_number.Goals as goal

pub returns-then-not-is_valid : goal.returns-then-not-is_valid
returns-then-not-is_valid c = (lent_invalid _ _ (flag_no _ _ c.is_valid.ensures (ap not c.if-not-is_valid.true)), λ e. absurd (omega arith))

pub returns-then-not-state_fits : goal.returns-then-not-state_fits
returns-then-not-state_fits c = (lent_unfit _ _ (flag_no _ _ c.state_fits.ensures.0 (ap not c.if-not-state_fits.true)), λ e. absurd (omega arith))

pub returns : goal.returns
returns c = (
  lent_right _ _ (flag_yes _ _ c.is_valid.ensures (ap not c.if-not-is_valid.false)) (flag_yes _ _ c.state_fits.ensures.0 (ap not c.if-not-state_fits.false)) _ _ c.version_of.ensures c.version_number.ensures,
  λ e. c.state_fits.ensures.1,
)
