use mathlib.Core.Path.{refl}
use Rattle.text_parts.specs.Parts.{part_of}
use Rattle.text_terms.proofs.ReaderLaws.{reads_yes, reads_no}
use borrow.Author.Tests.{eq-eqb, ne_eqb}
use Rattle.text_parts.proofs.ListLaws.{series_by}
use Rattle.text_parts.proofs.part_of.Goals as goal

pub returns-then-c-eq69 : goal.returns-then-c-eq69
unfolding part_of
returns-then-c-eq69 c = reads_yes _ _ _ _ _ _ _ (eq-eqb _ _ c.if-c-eq69.true) c.one_edge.ensures

pub returns-then-c-eq88 : goal.returns-then-c-eq88
unfolding part_of
returns-then-c-eq88 c = reads_no _ _ _ _ _ _ _ (ne_eqb _ _ c.if-c-eq69.false) (reads_yes _ _ _ _ _ _ _ (eq-eqb _ _ c.if-c-eq88.true) c.one_edge-then-c-eq88.ensures)

pub returns-then-c-eq70 : goal.returns-then-c-eq70
unfolding part_of
returns-then-c-eq70 c = reads_no _ _ _ _ _ _ _ (ne_eqb _ _ c.if-c-eq69.false) (reads_no _ _ _ _ _ _ _ (ne_eqb _ _ c.if-c-eq88.false) (reads_yes _ _ _ _ _ _ _ (eq-eqb _ _ c.if-c-eq70.true) (series_by _ _ _ _ _ _ c.edge_list.ensures.0 c.series.ensures)))

pub returns-then-c-eq89 : goal.returns-then-c-eq89
unfolding part_of
returns-then-c-eq89 c = reads_no _ _ _ _ _ _ _ (ne_eqb _ _ c.if-c-eq69.false) (reads_no _ _ _ _ _ _ _ (ne_eqb _ _ c.if-c-eq88.false) (reads_no _ _ _ _ _ _ _ (ne_eqb _ _ c.if-c-eq70.false) (reads_yes _ _ _ _ _ _ _ (eq-eqb _ _ c.if-c-eq89.true) (series_by _ _ _ _ _ _ c.edge_list-then-c-eq89.ensures.0 c.series-then-c-eq89.ensures))))

pub returns-then-c-eq78 : goal.returns-then-c-eq78
unfolding part_of
returns-then-c-eq78 c = reads_no _ _ _ _ _ _ _ (ne_eqb _ _ c.if-c-eq69.false) (reads_no _ _ _ _ _ _ _ (ne_eqb _ _ c.if-c-eq88.false) (reads_no _ _ _ _ _ _ _ (ne_eqb _ _ c.if-c-eq70.false) (reads_no _ _ _ _ _ _ _ (ne_eqb _ _ c.if-c-eq89.false) (reads_yes _ _ _ _ _ _ _ (eq-eqb _ _ c.if-c-eq78.true) c.task_part.ensures))))

pub returns-then-c-eq84 : goal.returns-then-c-eq84
unfolding part_of
returns-then-c-eq84 c = reads_no _ _ _ _ _ _ _ (ne_eqb _ _ c.if-c-eq69.false) (reads_no _ _ _ _ _ _ _ (ne_eqb _ _ c.if-c-eq88.false) (reads_no _ _ _ _ _ _ _ (ne_eqb _ _ c.if-c-eq70.false) (reads_no _ _ _ _ _ _ _ (ne_eqb _ _ c.if-c-eq89.false) (reads_no _ _ _ _ _ _ _ (ne_eqb _ _ c.if-c-eq78.false) (reads_yes _ _ _ _ _ _ _ (eq-eqb _ _ c.if-c-eq84.true) c.message.ensures)))))

pub returns-then-c-eq83 : goal.returns-then-c-eq83
unfolding part_of
returns-then-c-eq83 c = reads_no _ _ _ _ _ _ _ (ne_eqb _ _ c.if-c-eq69.false) (reads_no _ _ _ _ _ _ _ (ne_eqb _ _ c.if-c-eq88.false) (reads_no _ _ _ _ _ _ _ (ne_eqb _ _ c.if-c-eq70.false) (reads_no _ _ _ _ _ _ _ (ne_eqb _ _ c.if-c-eq89.false) (reads_no _ _ _ _ _ _ _ (ne_eqb _ _ c.if-c-eq78.false) (reads_no _ _ _ _ _ _ _ (ne_eqb _ _ c.if-c-eq84.false) (reads_yes _ _ _ _ _ _ _ (eq-eqb _ _ c.if-c-eq83.true) c.message-then-c-eq83.ensures))))))

pub returns-then-c-eq71 : goal.returns-then-c-eq71
unfolding part_of
returns-then-c-eq71 c = reads_no _ _ _ _ _ _ _ (ne_eqb _ _ c.if-c-eq69.false) (reads_no _ _ _ _ _ _ _ (ne_eqb _ _ c.if-c-eq88.false) (reads_no _ _ _ _ _ _ _ (ne_eqb _ _ c.if-c-eq70.false) (reads_no _ _ _ _ _ _ _ (ne_eqb _ _ c.if-c-eq89.false) (reads_no _ _ _ _ _ _ _ (ne_eqb _ _ c.if-c-eq78.false) (reads_no _ _ _ _ _ _ _ (ne_eqb _ _ c.if-c-eq84.false) (reads_no _ _ _ _ _ _ _ (ne_eqb _ _ c.if-c-eq83.false) (reads_yes _ _ _ _ _ _ _ (eq-eqb _ _ c.if-c-eq71.true) (series_by _ _ _ _ _ _ c.guarded_list.ensures.0 c.series-then-c-eq71.ensures))))))))

pub returns-then-c-eq66 : goal.returns-then-c-eq66
unfolding part_of
returns-then-c-eq66 c = reads_no _ _ _ _ _ _ _ (ne_eqb _ _ c.if-c-eq69.false) (reads_no _ _ _ _ _ _ _ (ne_eqb _ _ c.if-c-eq88.false) (reads_no _ _ _ _ _ _ _ (ne_eqb _ _ c.if-c-eq70.false) (reads_no _ _ _ _ _ _ _ (ne_eqb _ _ c.if-c-eq89.false) (reads_no _ _ _ _ _ _ _ (ne_eqb _ _ c.if-c-eq78.false) (reads_no _ _ _ _ _ _ _ (ne_eqb _ _ c.if-c-eq84.false) (reads_no _ _ _ _ _ _ _ (ne_eqb _ _ c.if-c-eq83.false) (reads_no _ _ _ _ _ _ _ (ne_eqb _ _ c.if-c-eq71.false) (reads_yes _ _ _ _ _ _ _ (eq-eqb _ _ c.if-c-eq66.true) c.receiving_branches.ensures))))))))

pub returns : goal.returns
unfolding part_of
returns c = reads_no _ _ _ _ _ _ _ (ne_eqb _ _ c.if-c-eq69.false) (reads_no _ _ _ _ _ _ _ (ne_eqb _ _ c.if-c-eq88.false) (reads_no _ _ _ _ _ _ _ (ne_eqb _ _ c.if-c-eq70.false) (reads_no _ _ _ _ _ _ _ (ne_eqb _ _ c.if-c-eq89.false) (reads_no _ _ _ _ _ _ _ (ne_eqb _ _ c.if-c-eq78.false) (reads_no _ _ _ _ _ _ _ (ne_eqb _ _ c.if-c-eq84.false) (reads_no _ _ _ _ _ _ _ (ne_eqb _ _ c.if-c-eq83.false) (reads_no _ _ _ _ _ _ _ (ne_eqb _ _ c.if-c-eq71.false) (reads_no _ _ _ _ _ _ _ (ne_eqb _ _ c.if-c-eq66.false) (refl)))))))))
