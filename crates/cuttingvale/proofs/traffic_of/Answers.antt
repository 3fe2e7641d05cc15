use Rattle.cuttingvale.specs.Boundary.{traffic_by}
use Rattle.base_words.proofs.PickLaws.{pick_yes, pick_no}
use borrow.Author.Tests.{eq-eqb, ne_eqb}
use mathlib.Core.Path.{refl}
use Rattle.cuttingvale.proofs.traffic_of.Goals as goal

pub returns-then-number-eq-CONSUMED : goal.returns-then-number-eq-CONSUMED
unfolding traffic_by
returns-then-number-eq-CONSUMED c = pick_yes _ _ _ _ (eq-eqb _ _ c.if-number-eq-CONSUMED.true) refl

pub returns-then-number-eq-SENT : goal.returns-then-number-eq-SENT
unfolding traffic_by
returns-then-number-eq-SENT c = pick_no _ _ _ _ (ne_eqb _ _ c.if-number-eq-CONSUMED.false) (pick_yes _ _ _ _ (eq-eqb _ _ c.if-number-eq-SENT.true) refl)

pub returns : goal.returns
unfolding traffic_by
returns c = pick_no _ _ _ _ (ne_eqb _ _ c.if-number-eq-CONSUMED.false) (pick_no _ _ _ _ (ne_eqb _ _ c.if-number-eq-SENT.false) refl)
