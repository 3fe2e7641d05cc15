use Rattle.base_words.proofs.PickLaws.{pick_no}
use Rattle.base_words.proofs.PickLaws.{pick_yes}
use Rattle.draw_diagnose.specs.Seats.{is_pool_seat}
use borrow.Author.Tests.{eq-eqb}
use borrow.Author.Tests.{ne_eqb}
use borrow.Author.Rules.{rules}
use Rattle.draw_diagnose.proofs.seats.is_pool_seat.Goals as goal

pub is_misstarted-requires : goal.is_misstarted-requires
unfolding is_pool_seat
is_misstarted-requires c = search rules

pub returns-then-check-eq-ONE_START : goal.returns-then-check-eq-ONE_START
unfolding is_pool_seat
returns-then-check-eq-ONE_START c = pick_yes _ _ _ _ (eq-eqb _ _ c.if-check-eq-ONE_START.true) c.is_misstarted.ensures

pub is_unasked-requires : goal.is_unasked-requires
unfolding is_pool_seat
is_unasked-requires c = search rules

pub returns-then-check-eq-START_RECEIVES : goal.returns-then-check-eq-START_RECEIVES
unfolding is_pool_seat
returns-then-check-eq-START_RECEIVES c = pick_no _ _ _ _ (ne_eqb _ _ c.if-check-eq-ONE_START.false) (pick_yes _ _ _ _ (eq-eqb _ _ c.if-check-eq-START_RECEIVES.true) c.is_unasked.ensures)

pub is_crowded-requires : goal.is_crowded-requires
unfolding is_pool_seat
is_crowded-requires c = search rules

pub returns : goal.returns
unfolding is_pool_seat
returns c = pick_no _ _ _ _ (ne_eqb _ _ c.if-check-eq-ONE_START.false) (pick_no _ _ _ _ (ne_eqb _ _ c.if-check-eq-START_RECEIVES.false) c.is_crowded.ensures)
