-- The summary of a pool: a tally that its elements mark. From it the checks are answered, whether the elements come from a lent table or one by
-- one from a text.
use Rattle.std.specs.Prelude.{not, List, [], ◌∷◌, ◌++◌, ℕ, ◌+◌, eqb}
use Rattle.base_words.specs.Blocks.{Element, Tally}
use Rattle.base_words.specs.Counts.{edges, tasks, names}
use Rattle.base_words.specs.Sum.{one_if}
use Rattle.base_words.specs.Words.{at}
use Rattle.base_kinds.specs.Kinds.{start, start_rcv}
use Rattle.base_table.specs.Places.{entries_place, exits_place, edge_place}
use Rattle.base_table.specs.Table.{kind_in, task_in, entry_count, exit_count, message_name}
use Rattle.check_tally.specs.Tally.{Region, one_region, tallied}
use Rattle.check_occurrences.specs.Occurrences.{received_count, sent_count, default_once, bound_once}

-- Where its regions start: edges as exits, as entries, as first edges of a `start`; task numbers; `start` and `startRcv` by their kinds' numbers;
-- names received and sent, one above the name; elements with two defaults, and with a field bound twice, at 1.
abbrev pub exits_from : ℕ
exits_from = 0

abbrev pub entries_from : ℕ
entries_from = exits_from + 1 + edges

abbrev pub firsts_from : ℕ
firsts_from = entries_from + 1 + edges

abbrev pub tasks_from : ℕ
tasks_from = firsts_from + 1 + edges

abbrev pub starts_from : ℕ
starts_from = tasks_from + 1 + tasks

abbrev pub received_from : ℕ
received_from = starts_from + 1 + start_rcv

abbrev pub sent_from : ℕ
sent_from = received_from + 1 + names

abbrev pub defaults_from : ℕ
defaults_from = sent_from + 1 + names

abbrev pub binds_from : ℕ
binds_from = defaults_from + 1 + 1

abbrev pub summary_words : ℕ
summary_words = binds_from + 1 + 1

-- n edges of the list at a place; n message names
unfoldable pub edge_region : ℕ → Element → ℕ → ℕ → Region
edge_region from el list n = record { from = from; most = edges; number = λ j. at el (edge_place list j); many = n }

unfoldable pub name_region : ℕ → Element → ℕ → Region
name_region from el n = record { from = from; most = names; number = λ j. message_name el j + 1; many = n }

-- the entry of a `start` is a first edge
unfoldable pub first_count : Element → ℕ
first_count el = one_if (eqb (kind_in el) start)

-- what an element marks
unfoldable pub edge_regions : Element → List Region
edge_regions el =
    edge_region exits_from el exits_place (exit_count el) ∷
    edge_region entries_from el entries_place (entry_count el) ∷
    edge_region firsts_from el entries_place (first_count el) ∷ []

unfoldable pub head_regions : Element → List Region
head_regions el = one_region tasks_from tasks (task_in el) ∷ one_region starts_from start_rcv (kind_in el) ∷ []

unfoldable pub name_regions : Element → List Region
name_regions el = name_region received_from el (received_count el) ∷ name_region sent_from el (sent_count el) ∷ []

unfoldable pub flag_regions : Element → List Region
flag_regions el = one_region defaults_from 1 (one_if (not (default_once el))) ∷ one_region binds_from 1 (one_if (not (bound_once el))) ∷ []

unfoldable pub regions : Element → List Region
regions el = edge_regions el ++ (head_regions el ++ (name_regions el ++ flag_regions el))

-- the summary of the elements of a pool
unfoldable pub summary : List Element → Tally
summary els = tallied summary_words regions els
