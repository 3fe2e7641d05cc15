use Rattle.base_words.proofs.PickLaws.{and_yes}
use Rattle.base_words.proofs.PickLaws.{flag_is}
use Rattle.base_words.proofs.PickLaws.{pick_no}
use Rattle.base_words.proofs.PickLaws.{pick_yes}
use Rattle.base_words.specs.Words.{at}
use Rattle.draw_diagnose.specs.Seats.{is_seat}
use Rattle.draw_links.proofs.TestLaws.{and_told}
use borrow.Author.Tests.{eq-eqb}
use borrow.Author.Tests.{ne_eqb}
use borrow.Author.Rules.{rules}
use Rattle.draw_diagnose.proofs.seats.is_seat.Goals as goal

pub is_own_message-requires : goal.is_own_message-requires
unfolding is_seat
is_own_message-requires c = search rules

pub returns-then-check-eq-NAMES_APART : goal.returns-then-check-eq-NAMES_APART
unfolding is_seat
returns-then-check-eq-NAMES_APART c = pick_yes _ _ _ _ (eq-eqb _ _ c.if-check-eq-NAMES_APART.true) c.is_own_message.ensures

pub has_defaults-requires : goal.has_defaults-requires
unfolding is_seat
has_defaults-requires c = search rules

pub returns-then-check-eq-ONE_DEFAULT : goal.returns-then-check-eq-ONE_DEFAULT
unfolding is_seat
returns-then-check-eq-ONE_DEFAULT c = pick_no _ _ _ _ (ne_eqb _ _ c.if-check-eq-NAMES_APART.false) (pick_yes _ _ _ _ (eq-eqb _ _ c.if-check-eq-ONE_DEFAULT.true) c.has_defaults.ensures)

pub is_pool-requires : goal.is_pool-requires
unfolding is_seat
is_pool-requires c = search rules

pub process_of-requires : goal.process_of-requires
unfolding is_seat
process_of-requires c = search rules

pub is_pool_seat-requires : goal.is_pool_seat-requires
unfolding is_seat
is_pool_seat-requires c = search rules

pub returns-then-is_pool : goal.returns-then-is_pool
unfolding is_seat
returns-then-is_pool c = pick_no _ _ _ _ (ne_eqb _ _ c.if-check-eq-NAMES_APART.false) (pick_no _ _ _ _ (ne_eqb _ _ c.if-check-eq-ONE_DEFAULT.false) (and_yes _ _ _ (flag_is _ _ _ c.is_pool.ensures c.if-is_pool.true) (rw c.process_of.ensures at c.is_pool_seat.ensures)))

pub returns-else-is_pool : goal.returns-else-is_pool
unfolding is_seat
returns-else-is_pool c = pick_no _ _ _ _ (ne_eqb _ _ c.if-check-eq-NAMES_APART.false) (pick_no _ _ _ _ (ne_eqb _ _ c.if-check-eq-ONE_DEFAULT.false) (and_told _ _ _ c.is_pool.ensures c.if-is_pool.false))
