use mathlib.Core.Path.{refl}
use Rattle.base_words.proofs.PickLaws.{pick_yes, pick_no, flag_is}
use Rattle.engine.specs.Engine.{version_number}
use Rattle.engine.proofs.version_number.Goals as goal

pub returns-then-is_version : goal.returns-then-is_version
unfolding version_number
returns-then-is_version c = pick_yes _ _ _ _ (flag_is _ _ _ c.is_version.ensures c.if-is_version.true) refl

pub returns : goal.returns
unfolding version_number
returns c = pick_no _ _ _ _ (flag_is _ _ _ c.is_version.ensures c.if-is_version.false) refl
