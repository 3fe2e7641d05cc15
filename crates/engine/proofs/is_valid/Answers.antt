use Rattle.base_words.proofs.PickLaws.{and_yes, and_no, flag_yes, flag_no, eqb_same}
use Rattle.engine.specs.Engine.{valid}
use mathlib.Core.Path.{ap}
use mathlib.Core.Bool.{not}
use Rattle.engine.proofs.is_valid.Goals as goal

pub returns-then-not-table_fits : goal.returns-then-not-table_fits
unfolding valid
returns-then-not-table_fits c = and_no _ _ (flag_no _ _ c.table_fits.ensures (ap not c.if-not-table_fits.true))

pub returns : goal.returns
unfolding valid
returns c = and_yes _ _ _ (flag_yes _ _ c.table_fits.ensures (ap not c.if-not-table_fits.false)) (eqb_same _ _ _ c.lowest_broken.ensures)
