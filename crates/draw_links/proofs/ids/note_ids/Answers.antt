use Rattle.draw_links.specs.Notes.{noted}
use Rattle.base_words.proofs.IterLaws.{iter_more, iter_none}
use borrow.Author.Rules.{rules}
use Rattle.draw_links.proofs.ids.note_ids.Goals as goal

pub loop-k-init : goal.loop-k-init
loop-k-init c = iter_none _ _

pub loop-k-preserved : goal.loop-k-preserved
loop-k-preserved c = iter_more _ _ _ _ _ c.loop-k.invariant c.note_id.ensures

pub returns : goal.returns
unfolding noted
returns c = search rules
