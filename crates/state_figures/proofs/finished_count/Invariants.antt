use Rattle.std.proofs.Common.{◌≡◌, ◌≤◌}
use Rattle.base_words.specs.Sum.{sum, one_if}
use Rattle.base_state.specs.Instances.{instance_at}
use Rattle.state_figures.specs.Figures.{is_finished}
use Rattle.state_figures.proofs.finished_count.Given as goal

abbrev pub invariant-loop-i : goal.invariant-loop-i
invariant-loop-i l = (l.count ≤ l.i) × (l.count ≡ sum (λ k. one_if (is_finished (instance_at l.s l.p k))) l.i)
