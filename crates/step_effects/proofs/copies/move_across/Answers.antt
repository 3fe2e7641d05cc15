use Rattle.std.proofs.Common.{ℕ, ◌+◌}
use Rattle.base_words.specs.Words.{at}
use Rattle.base_words.proofs.WritesLaws.{writes_none, writes_on, writes_done}
use Rattle.step_effects.proofs.copies.move_across.Goals as goal

pub loop-k-init : goal.loop-k-init
loop-k-init c = writes_none _ _ _

pub loop-k-preserved : goal.loop-k-preserved
loop-k-preserved c = writes_on (λ (j : ℕ). at c.args.s.now (c.args.from + j)) c.args.z.now c.args.to c.loop-k.k c.word.result c.loop-k.z _ c.loop-k.invariant c.word.ensures c.put.ensures

pub returns : goal.returns
returns c = writes_done _ _ _ _ _ _ c.loop-k-test.false c.loop-k.auto.k-end c.loop-k.invariant
