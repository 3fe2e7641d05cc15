use Rattle.base_words.proofs.PickLaws.{pick_no}
use Rattle.base_words.proofs.PickLaws.{pick_yes}
use Rattle.base_words.specs.Words.{at}
use Rattle.draw_diagnose.specs.Diagnosis.{diagnosed_by}
use borrow.Author.Tests.{eq-eqb}
use borrow.Author.Tests.{ne_eqb}
use borrow.Author.Rules.{rules}
use Rattle.draw_diagnose.proofs.diagnose_by.Goals as goal

pub told_of-requires : goal.told_of-requires
unfolding diagnosed_by
told_of-requires c = search rules

pub returns-then-a-eq-NOT_RUN : goal.returns-then-a-eq-NOT_RUN
unfolding diagnosed_by
returns-then-a-eq-NOT_RUN c = pick_yes _ _ _ _ (eq-eqb _ _ c.if-a-eq-NOT_RUN.true) c.told_of.ensures

pub seat_at-requires : goal.seat_at-requires
unfolding diagnosed_by
seat_at-requires c = search rules

pub told-requires : goal.told-requires
unfolding diagnosed_by
told-requires c = search rules

pub returns-then-a-eq-CHECK_BROKEN : goal.returns-then-a-eq-CHECK_BROKEN
unfolding diagnosed_by
returns-then-a-eq-CHECK_BROKEN c = pick_no _ _ _ _ (ne_eqb _ _ c.if-a-eq-NOT_RUN.false) (pick_yes _ _ _ _ (eq-eqb _ _ c.if-a-eq-CHECK_BROKEN.true) (rw c.seat_at.ensures at c.told.ensures))

pub seat_at-requires-then-a-eq-NONE_FREE : goal.seat_at-requires-then-a-eq-NONE_FREE
unfolding diagnosed_by
seat_at-requires-then-a-eq-NONE_FREE c = search rules

pub told-requires-then-a-eq-NONE_FREE : goal.told-requires-then-a-eq-NONE_FREE
unfolding diagnosed_by
told-requires-then-a-eq-NONE_FREE c = search rules

pub returns-then-a-eq-NONE_FREE : goal.returns-then-a-eq-NONE_FREE
unfolding diagnosed_by
returns-then-a-eq-NONE_FREE c = pick_no _ _ _ _ (ne_eqb _ _ c.if-a-eq-NOT_RUN.false) (pick_no _ _ _ _ (ne_eqb _ _ c.if-a-eq-CHECK_BROKEN.false) (pick_yes _ _ _ _ (eq-eqb _ _ c.if-a-eq-NONE_FREE.true) (rw c.seat_at-then-a-eq-NONE_FREE.ensures at c.told-then-a-eq-NONE_FREE.ensures)))

pub told-requires-2 : goal.told-requires-2
unfolding diagnosed_by
told-requires-2 c = search rules

pub returns : goal.returns
unfolding diagnosed_by
returns c = pick_no _ _ _ _ (ne_eqb _ _ c.if-a-eq-NOT_RUN.false) (pick_no _ _ _ _ (ne_eqb _ _ c.if-a-eq-CHECK_BROKEN.false) (pick_no _ _ _ _ (ne_eqb _ _ c.if-a-eq-NONE_FREE.false) c.told-2.ensures))
