use Rattle.text_ends.specs.Room.{element_noted}
use Rattle.text_ends.proofs.note_element.Goals as goal

pub returns : goal.returns
unfolding element_noted
returns c = rw (c.mark_list.ensures, c.count_element.ensures) at c.mark_list-2.ensures
