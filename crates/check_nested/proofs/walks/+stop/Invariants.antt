-- The measure is four times the elements that may still be gone by, and 0 to 3 for the order of the calls.
-- The loop's invariant: the branches gone are told by the tally, and `a` is where the last of them stops.
use Rattle.std.proofs.Common.{◌≡◌, ◌+◌, ◌*◌}
use Rattle.base_words.specs.Each.{tab}
use Rattle.base_table.specs.Table.{element_count, element_at, exit_at}
use Rattle.check_tally.specs.Tally.{tally}
use Rattle.check_nesting.specs.Deciding.{stops, last_in, sequence_walk}
use Rattle.check_nested.proofs.walks.+stop.Given as goal

abbrev pub decreases-join_of : goal.decreases-join_of
decreases-join_of l = 4 * l.n + 2

abbrev pub decreases-stop_ahead : goal.decreases-stop_ahead
decreases-stop_ahead l = 4 * l.n + 3

abbrev pub decreases-stop_of : goal.decreases-stop_of
decreases-stop_of l = 4 * l.n

abbrev pub decreases-walk_branches : goal.decreases-walk_branches
decreases-walk_branches l = 4 * l.n + 1

abbrev pub invariant-walk_branches-loop-j : goal.invariant-walk_branches-loop-j
invariant-walk_branches-loop-j l = (l.a ≡ last_in (stops (sequence_walk (element_at l.t l.p) (element_count l.t l.p) l.n) (tab (exit_at (element_at l.t l.p l.k)) l.j))) × (l.s ≡ tally l.initial.s (stops (sequence_walk (element_at l.t l.p) (element_count l.t l.p) l.n) (tab (exit_at (element_at l.t l.p l.k)) l.j)))
