use Rattle.step_names.proofs.NameLaws.{name_refused, name_first, name_next}
use borrow.Author.Tests.{not-true, not-false}
use mathlib.Core.Path.{ap}
use mathlib.Core.Bool.{not}
use Rattle.step_names.proofs.scan_name.Goals as goal

pub returns-then-not-is_accepted : goal.returns-then-not-is_accepted
returns-then-not-is_accepted c = name_refused _ _ _ _ _ _ c.is_accepted.ensures _ (not-true _ (ap not c.if-not-is_accepted.true)) c.passed.ensures

pub returns-then-k-eq0 : goal.returns-then-k-eq0
returns-then-k-eq0 c = name_first _ _ _ _ _ _ c.is_accepted.ensures (not-false _ (ap not c.if-not-is_accepted.false)) c.if-k-eq0.true

pub returns : goal.returns
returns c = name_next _ _ _ _ _ _ c.is_accepted.ensures _ (not-false _ (ap not c.if-not-is_accepted.false)) c.if-k-eq0.false c.passed-2.ensures
