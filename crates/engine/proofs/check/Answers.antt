use mathlib.Core.Path.{refl}
use Rattle.base_words.proofs.AllLaws.{eq_eqb_by, ne_eqb_by}
use Rattle.base_words.proofs.PickLaws.{pick_yes, pick_no, flag_yes, flag_no}
use Rattle.engine.specs.Engine.{verdict_of}
use mathlib.Core.Path.{ap}
use mathlib.Core.Bool.{not}
use Rattle.engine.proofs.check.Goals as goal

pub returns-then-not-table_fits : goal.returns-then-not-table_fits
unfolding verdict_of
returns-then-not-table_fits c = pick_no _ _ _ _ (flag_no _ _ c.table_fits.ensures (ap not c.if-not-table_fits.true)) refl

pub returns-then-broken-eq0 : goal.returns-then-broken-eq0
unfolding verdict_of
returns-then-broken-eq0 c = pick_yes _ _ _ _ (flag_yes _ _ c.table_fits.ensures (ap not c.if-not-table_fits.false))
    (pick_yes _ _ _ _ (eq_eqb_by _ _ _ c.lowest_broken-broken.ensures c.if-broken-eq0.true) refl)

pub returns : goal.returns
unfolding verdict_of
returns c = pick_yes _ _ _ _ (flag_yes _ _ c.table_fits.ensures (ap not c.if-not-table_fits.false))
    (pick_no _ _ _ _ (ne_eqb_by _ _ _ c.lowest_broken-broken.ensures c.if-broken-eq0.false) (rw c.lowest_broken-broken.ensures))
