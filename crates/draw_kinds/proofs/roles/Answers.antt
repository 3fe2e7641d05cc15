use Rattle.base_words.proofs.IterLaws.{iter_more, iter_none}
use Rattle.draw_kinds.specs.Roles.{roles}
use borrow.Author.Rules.{rules}
use Rattle.draw_kinds.proofs.roles.Goals as goal

pub loop-k-init : goal.loop-k-init
loop-k-init c = iter_none _ _

pub loop-k-preserved : goal.loop-k-preserved
loop-k-preserved c = iter_more _ _ _ _ _ c.loop-k.invariant c.settle.ensures

pub returns : goal.returns
unfolding roles
returns c = search rules
