-- The second tally: what the pools of a model mark, each by its summary s. From it the lowest check broken is read.
use Rattle.std.specs.Prelude.{Bool, not, ◌&&◌, List, [], ◌∷◌, ℕ, ◌+◌, eqb}
use Rattle.base_words.specs.Blocks.{Tally}
use Rattle.base_words.specs.Pick.{if◌then◌or_else◌}
use Rattle.base_words.specs.Words.{at}
use Rattle.base_words.specs.Counts.{pool_numbers, names}
use Rattle.check_tally.specs.Tally.{Region, one_region, once_in, tallied}
use Rattle.check_summary.specs.Summary.{summary}
use Rattle.check_model.specs.Checks.{Pool, numbers_differ, one_start, start_receives, edges_meet, tasks_differ, names_apart, one_default, binds_differ, checks}
use Rattle.check_answers.specs.Answers.{receives_by, kept_by}

-- Where its regions start: pool numbers; names that a pool receives, one above the name; the checks that a pool breaks by itself.
abbrev pub numbers_from : ℕ
numbers_from = 0

abbrev pub names_from : ℕ
names_from = numbers_from + 1 + pool_numbers

abbrev pub broken_from : ℕ
broken_from = names_from + 1 + names

abbrev pub model_words : ℕ
model_words = broken_from + 1 + checks

unfoldable pub name_if : Tally → ℕ → ℕ
name_if s m = if receives_by s m then m + 1 or_else 0

unfoldable pub names_region : Tally → Region
names_region s = record { from = names_from; most = names; number = λ m. name_if s m; many = names }

unfoldable pub broken_if : ℕ → Tally → ℕ → ℕ
broken_if limit s k = if not (kept_by limit s k) then k or_else 0

unfoldable pub broken_region : ℕ → Tally → Region
broken_region limit s = record { from = broken_from; most = checks; number = λ k. broken_if limit s (k + 1); many = checks }

-- what a pool marks
unfoldable pub summary_regions : ℕ → ℕ → Tally → List Region
summary_regions number limit s = one_region numbers_from pool_numbers number ∷ names_region s ∷ broken_region limit s ∷ []

unfoldable pub pool_regions : Pool → List Region
pool_regions p = summary_regions p.number p.limit (summary p.elements)

unfoldable pub model_tally : List Pool → Tally
model_tally ps = tallied model_words pool_regions ps

-- the checks of a model, by its tally t
unfoldable pub numbers_differ_in : Tally → Bool
numbers_differ_in t = once_in t numbers_from pool_numbers

unfoldable pub kept_in : Tally → ℕ → Bool
kept_in t k = eqb (at t (broken_from + k)) 0

unfoldable pub names_apart_in : Tally → Bool
names_apart_in t = once_in t names_from names && kept_in t names_apart

unfoldable pub lowest_in : Tally → ℕ
lowest_in t =
    if not (numbers_differ_in t) then numbers_differ or_else
    if not (kept_in t one_start) then one_start or_else
    if not (kept_in t start_receives) then start_receives or_else
    if not (kept_in t edges_meet) then edges_meet or_else
    if not (kept_in t tasks_differ) then tasks_differ or_else
    if not (names_apart_in t) then names_apart or_else
    if not (kept_in t one_default) then one_default or_else
    if not (kept_in t binds_differ) then binds_differ or_else 0
