-- The measure is four times the elements that may still be gone by, and 0 to 3 for the order of the calls.
-- The loop's invariant: what the branches gone meet is told by the tally.
use Rattle.std.proofs.Common.{◌≡◌, ◌+◌, ◌*◌}
use Rattle.base_words.specs.Each.{tab}
use Rattle.base_table.specs.Table.{element_count, element_at, exit_at}
use Rattle.check_tally.specs.Tally.{tally}
use Rattle.check_nesting.specs.Deciding.{elements_passed, sequence_walk}
use Rattle.check_nested.proofs.walks.+mark.Given as goal

abbrev pub decreases-mark_ahead : goal.decreases-mark_ahead
decreases-mark_ahead l = 4 * l.n + 3

abbrev pub decreases-mark_block : goal.decreases-mark_block
decreases-mark_block l = 4 * l.n + 2

abbrev pub decreases-mark_branches : goal.decreases-mark_branches
decreases-mark_branches l = 4 * l.n + 1

abbrev pub decreases-mark_way : goal.decreases-mark_way
decreases-mark_way l = 4 * l.n

abbrev pub invariant-mark_branches-loop-j : goal.invariant-mark_branches-loop-j
invariant-mark_branches-loop-j l = l.m ≡ tally l.initial.m (elements_passed (sequence_walk (element_at l.t l.p) (element_count l.t l.p) l.n) (tab (exit_at (element_at l.t l.p l.k)) l.j))
