use Rattle.base_words.proofs.PickLaws.{flag_yes, flag_no}
use Rattle.engine.proofs.CallLaws.{asked_invalid, asked_right}
use mathlib.Core.Path.{ap}
use mathlib.Core.Bool.{not}
use Rattle.engine.proofs.asked_number.Goals as goal

pub returns-then-not-is_valid : goal.returns-then-not-is_valid
returns-then-not-is_valid c = asked_invalid _ _ (flag_no _ _ c.is_valid.ensures (ap not c.if-not-is_valid.true))

pub returns : goal.returns
returns c = asked_right _ _ (flag_yes _ _ c.is_valid.ensures (ap not c.if-not-is_valid.false)) _ c.version_number.ensures
