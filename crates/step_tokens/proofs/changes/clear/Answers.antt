use Rattle.std.proofs.Common.{ℕ, refl}
use Rattle.base_words.proofs.WritesLaws.{writes_none, writes_next, writes_done}
use Rattle.meaning.specs.Changes.{cleared}
use Rattle.step_tokens.proofs.changes.clear.Goals as goal

pub loop-k-init : goal.loop-k-init
loop-k-init c = writes_none _ _ _

pub loop-k-preserved : goal.loop-k-preserved
loop-k-preserved c = writes_next (λ (j : ℕ). 0) _ _ 0 _ _ c.loop-k.invariant refl c.put.ensures

pub returns : goal.returns
unfolding cleared
returns c = writes_done (λ (j : ℕ). 0) _ 0 _ _ _ c.loop-k-test.false c.loop-k.auto.k-end c.loop-k.invariant
