use Rattle.draw_links.specs.Notes.{bared}
use Rattle.base_words.proofs.IterLaws.{iter_more, iter_none}
use borrow.Author.Rules.{rules}
use Rattle.draw_links.proofs.ids.clear_ids.Goals as goal

pub loop-k-init : goal.loop-k-init
loop-k-init c = iter_none _ _

pub loop-k-preserved : goal.loop-k-preserved
loop-k-preserved c = iter_more _ _ _ _ _ c.loop-k.invariant c.clear_id.ensures

pub returns : goal.returns
unfolding bared
returns c = search rules
