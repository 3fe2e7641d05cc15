-- What the first pass notes of a pool, element by element, so that 28 is known before the first word is written: s is the pool's summary with these notes behind it, w the tally of the model with a word behind it.
use Rattle.std.specs.Prelude.{ℕ, ◌+◌, Bool, ◌&&◌, eqb, leb, set}
use Rattle.base_words.specs.Blocks.{Element, Tally}
use Rattle.base_words.specs.Counts.{elements, branches, edges}
use Rattle.base_words.specs.Pick.{if◌then◌or_else◌}
use Rattle.base_words.specs.Sum.{sum, one_if}
use Rattle.base_words.specs.Words.{at, one_more}
use Rattle.base_table.specs.Places.{entries_place, exits_place}
use Rattle.check_tally.specs.Tally.{tally, region_marks}
use Rattle.check_summary.specs.Summary.{summary_words, edge_region}
use Rattle.check_verdict.specs.Verdict.{model_words}
use Rattle.text_ends.specs.Rewriting.{is_end_snd}

-- the count of its elements, of its endSnds, and the edges that are mentioned
abbrev pub count_in : ℕ
count_in = summary_words

abbrev pub ends_in : ℕ
ends_in = count_in + 1

abbrev pub used_from : ℕ
used_from = ends_in + 1

abbrev pub noted_words : ℕ
noted_words = used_from + 1 + edges

-- not 0 where a pool has no room
abbrev pub room_in : ℕ
room_in = model_words

abbrev pub judged_words : ℕ
judged_words = room_in + 1

unfoldable pub ends_with : Element → Tally → ℕ
ends_with el s = if is_end_snd el then one_more (at s ends_in) or_else at s ends_in

unfoldable pub count_noted : ℕ → Element → Tally → Tally
count_noted count el s = set (set s count_in count) ends_in (ends_with el s)

-- an element, the count-th
unfoldable pub element_noted : ℕ → Element → Tally → Tally
element_noted count el s =
    tally (tally (count_noted count el s) (region_marks (edge_region used_from el entries_place branches))) (region_marks (edge_region used_from el exits_place branches))

-- a pool behind its elements
unfoldable pub free_by : Tally → ℕ
free_by s = sum (λ k. one_if (eqb (at s (used_from + (k + 1))) 0)) edges

unfoldable pub room_by : Tally → Bool
room_by s = leb (at s ends_in) (free_by s) && leb (at s count_in + at s ends_in) elements

unfoldable pub room_noted : Tally → Tally → Tally
room_noted s w = if room_by s then w or_else set w room_in 1
