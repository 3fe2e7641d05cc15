use Rattle.std.proofs.Common.{rules, arith, ◌≡◌, ℕ, ◌≤◌, Bool, true, false, List}
use lib.Dec.{eqb}
use Rattle.base_words.specs.Sum.{hit, one_if}
use Rattle.base_words.specs.Words.{at}
use Rattle.base_words.proofs.RangeLaws.{sum_of_range}
use Rattle.base_words.proofs.SumLaws.{sum_le}
use Rattle.base_table.specs.Places.{edge_place}
use Rattle.text_ends.specs.Rewriting.{times_in}
use Rattle.text_rewrite.proofs.times_in.Goals as goal

at_most_one : (b : Bool) → one_if b ≤ 1
at_most_one true = omega arith
at_most_one false = omega arith

bounded : (el : List ℕ) (list e r : ℕ) → r ≡ times_in el list e → (r ≡ times_in el list e) × (r ≤ 8)
unfolding times_in
bounded el list e r h = (h, omega (arith, h, sum_le (λ j. hit (at el (edge_place list j)) e) 1 8 (λ k l. at_most_one _)))

pub returns : goal.returns
unfolding times_in
returns c = bounded _ _ _ _ (sum_of_range c.filter.result _ _ (λ j. eqb (at c.args.el.now (edge_place c.args.list j)) c.args.e) _ c.count.ensures.ran c.filter.ensures.source c.filter.ensures.closure (λ x b q k. search rules))
