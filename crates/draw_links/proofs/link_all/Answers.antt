use Rattle.draw_links.proofs.TargetLaws.{notes_stay}
use Rattle.draw_links.specs.Links.{links}
use Rattle.base_words.proofs.IterLaws.{iter_more, iter_none}
use borrow.Author.Rules.{rules}
use Rattle.draw_links.proofs.link_all.Goals as goal

pub loop-k-init : goal.loop-k-init
loop-k-init c h = iter_none _ _

pub loop-k-preserved : goal.loop-k-preserved
loop-k-preserved c h = iter_more _ _ _ _ _ (c.loop-k.invariant h) (c.link.ensures (notes_stay _ _ _ _ _ _ _ (c.loop-k.invariant h) h))

pub returns : goal.returns
unfolding links
returns c = search rules
