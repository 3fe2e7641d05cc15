use Rattle.std.proofs.Common.{arith, ◌≡◌}
use Rattle.base_words.specs.Sum.{one_if}
use Rattle.base_words.proofs.SumLaws.{sum_none, sum_more}
use Rattle.base_state.specs.Instances.{instance_at}
use Rattle.state_figures.specs.Figures.{is_finished}
use Rattle.state_figures.proofs.CountLaws.{finished_done, one_most}
use Rattle.state_figures.proofs.finished_count.Goals as goal

pub loop-i-init : goal.loop-i-init
loop-i-init c = (omega arith, sum_none (λ k. one_if (is_finished (instance_at c.args.s.now c.args.p k))))

pub loop-i-preserved : goal.loop-i-preserved
loop-i-preserved c = let e : c.from-count.result ≡ one_if (is_finished (instance_at c.args.s.now c.args.p c.loop-i.i)) = cc in
    (omega (arith, e, one_most (is_finished (instance_at c.args.s.now c.args.p c.loop-i.i))), sum_more (λ k. one_if (is_finished (instance_at c.args.s.now c.args.p k))) _ _ _ c.loop-i.invariant.1 e)

pub returns : goal.returns
returns c = finished_done _ _ _ _ _ c.made_count-i-end.ensures c.loop-i-test.false c.loop-i.auto.i-end c.loop-i.invariant.1
