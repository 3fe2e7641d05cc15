-- The pools of a table, one after the other. Assumes nothing.
use mathlib.Core.Path.{◌≡◌, ◌∙◌, ap}
use mathlib.Core.List.{List}
use Prim.Native.Nat.{ℕ}
use lib.ListN.{replicate}
use Rattle.base_words.specs.Each.{tab}
use Rattle.base_words.specs.Words.{at}
use Rattle.base_table.specs.Places.{pool_place, limit_place}
use Rattle.base_table.specs.Table.{pool_count, element_count, element_at}
use Rattle.check_tally.specs.Tally.{tally, tallied, marks_of, all_marks}
use Rattle.check_summary.specs.Summary.{regions, summary_words, summary}
use Rattle.check_model.specs.Checks.{lowest}
use Rattle.check_lowest.specs.Model.{pool_at, model_of}
use Rattle.check_verdict.specs.Verdict.{model_words, summary_regions, pool_regions, model_tally, lowest_in}
use Rattle.check_verdict.proofs.VerdictLaws.{lowest_by}

pub pool_here : (table : List ℕ) (p number limit n : ℕ) (s m u : List ℕ) →
    u ≡ tally m (marks_of (summary_regions number limit s)) → number ≡ at table (pool_place p) → limit ≡ at table (limit_place p) →
    s ≡ tally (replicate summary_words 0) (all_marks regions (tab (element_at table p) n)) → n ≡ element_count table p →
    u ≡ tally m (marks_of (pool_regions (pool_at table p)))
unfolding pool_regions pool_at summary tallied
pool_here table p number limit n s m u e a b f c = rw (e, a, b, f, c)

pub lowest_here : (table m : List ℕ) (n r : ℕ) →
    r ≡ lowest_in m → m ≡ tally (replicate model_words 0) (all_marks pool_regions (tab (pool_at table) n)) → n ≡ pool_count table → r ≡ lowest (model_of table)
unfolding model_of model_tally tallied
lowest_here table m n r e f c = e ∙ ap lowest_in (f ∙ ap (λ k. tally (replicate model_words 0) (all_marks pool_regions (tab (pool_at table) k))) c) ∙ lowest_by (model_of table)
