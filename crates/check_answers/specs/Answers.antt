-- The checks of one pool, by its summary s: the counts of Checks as the summary has them.
use Rattle.std.specs.Prelude.{Bool, true, not, ◌&&◌, ℕ, ◌+◌, eqb, ltb}
use Rattle.base_words.specs.Blocks.{Tally}
use Rattle.base_words.specs.All.{all}
use Rattle.base_words.specs.Pick.{if◌then◌or_else◌}
use Rattle.base_words.specs.Words.{at}
use Rattle.base_words.specs.Counts.{edges, tasks, names}
use Rattle.base_kinds.specs.Kinds.{start, start_rcv}
use Rattle.check_tally.specs.Tally.{once_in}
use Rattle.check_summary.specs.Summary.{exits_from, entries_from, firsts_from, tasks_from, starts_from, received_from, sent_from, defaults_from, binds_from}
use Rattle.check_model.specs.Checks.{edge_right, one_start, start_receives, edges_meet, tasks_differ, names_apart, one_default, binds_differ}

unfoldable pub one_start_by : Tally → Bool
one_start_by s = eqb (at s (starts_from + start) + at s (starts_from + start_rcv)) 1

unfoldable pub start_receives_by : ℕ → Tally → Bool
start_receives_by limit s = if eqb limit 0 then true or_else eqb (at s (starts_from + start)) 0

unfoldable pub edge_by : Tally → ℕ → Bool
edge_by s k = edge_right (at s (exits_from + (k + 1))) (at s (entries_from + (k + 1))) (at s (firsts_from + (k + 1)))

unfoldable pub edges_meet_by : Tally → Bool
edges_meet_by s = all (edge_by s) edges

unfoldable pub tasks_differ_by : Tally → Bool
tasks_differ_by s = once_in s tasks_from tasks

unfoldable pub receives_by : Tally → ℕ → Bool
receives_by s m = ltb 0 (at s (received_from + (m + 1)))

unfoldable pub sends_by : Tally → ℕ → Bool
sends_by s m = ltb 0 (at s (sent_from + (m + 1)))

unfoldable pub not_sent_there_by : Tally → Bool
not_sent_there_by s = all (λ m. not (receives_by s m && sends_by s m)) names

unfoldable pub one_default_by : Tally → Bool
one_default_by s = eqb (at s (defaults_from + 1)) 0

unfoldable pub binds_differ_by : Tally → Bool
binds_differ_by s = eqb (at s (binds_from + 1)) 0

-- whether a pool keeps check k by itself
unfoldable pub kept_by : ℕ → Tally → ℕ → Bool
kept_by limit s k =
    if eqb k one_start then one_start_by s or_else
    if eqb k start_receives then start_receives_by limit s or_else
    if eqb k edges_meet then edges_meet_by s or_else
    if eqb k tasks_differ then tasks_differ_by s or_else
    if eqb k names_apart then not_sent_there_by s or_else
    if eqb k one_default then one_default_by s or_else
    if eqb k binds_differ then binds_differ_by s or_else true
