-- Entries and exits in one: edge j of those from edge f on, of a list at a place, and which way a token on it goes.
use Rattle.std.specs.Prelude.{ℕ, ◌+◌, Bool, eqb, ltb}
use Rattle.base_words.specs.Blocks.{Element, Instance}
use Rattle.base_words.specs.Pick.{if◌then◌or_else◌}
use Rattle.base_words.specs.Words.{at}
use Rattle.base_words.specs.Counts.{count_most}
use Rattle.base_kinds.specs.Moves.{down}
use Rattle.base_table.specs.Places.{edge_place}
use Rattle.base_state.specs.Instances.{tokens, with_tokens}
use Rattle.meaning.specs.Changes.{count_changed}

abbrev pub edge_from : Element → ℕ → ℕ → ℕ → ℕ
edge_from el list f j = at el (edge_place list (f + j))

-- a token that goes down is there, one that goes up finds room
unfoldable pub allows : Element → Instance → ℕ → ℕ → ℕ → ℕ → Bool
allows el h list way f j =
    if eqb way down then ltb 0 (tokens h (edge_from el list f j))
    or_else ltb (tokens h (edge_from el list f j)) count_most

unfoldable pub change_one : Element → ℕ → ℕ → ℕ → ℕ → Instance → Instance
change_one el list way f j h = with_tokens h (edge_from el list f j) (count_changed way (tokens h (edge_from el list f j)))
