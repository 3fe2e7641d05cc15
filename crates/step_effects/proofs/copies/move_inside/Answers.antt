use Rattle.base_words.proofs.WritesLaws.{writes_loop}
use borrow.Author.Rules.{rules}
use Rattle.step_effects.proofs.copies.move_inside.Goals as goal

ruleset L = (rules, writes_loop)

pub loop-k-init : goal.loop-k-init
loop-k-init c = search L

pub loop-k-preserved : goal.loop-k-preserved
loop-k-preserved c = search L

pub returns : goal.returns
returns c = search L
