use Rattle.text_passes.specs.Passes.{summed_up}
use borrow.Author.Rules.{rules}
use Rattle.text_passes.proofs.keep.sum_up.Goals as goal

ruleset L = (rules)

pub mark_element-requires : goal.mark_element-requires
unfolding summed_up
mark_element-requires c = search L

pub note_element-requires : goal.note_element-requires
unfolding summed_up
note_element-requires c = search L

pub shape_of-s : goal.shape_of-s
unfolding summed_up
shape_of-s c = search L

pub returns : goal.returns
unfolding summed_up
returns c = rw c.mark_element.ensures at c.note_element.ensures
