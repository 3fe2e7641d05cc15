use Rattle.std.proofs.Common.{◌≡◌, ℕ, ◌<◌}
use Rattle.base_words.specs.Each.{tab}
use Rattle.check_tally.specs.Tally.{tally, place}
use Rattle.check_tally.proofs.mark_region.Given as goal

abbrev pub invariant-loop-j : goal.invariant-loop-j
invariant-loop-j g l = (f : ℕ → ℕ) → ((j r : ℕ) → j < l.n → goal.F-post g l.number j r → r ≡ f j) → l.s ≡ tally l.initial.s (tab (λ i. place l.from l.most (f i)) l.j)
