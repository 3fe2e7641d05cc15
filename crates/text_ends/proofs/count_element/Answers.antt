use Rattle.text_ends.specs.Room.{count_noted}
use Rattle.text_ends.proofs.count_element.Goals as goal

pub returns : goal.returns
unfolding count_noted
returns c = rw (c.put.ensures, c.ends_with-ends.ensures) at c.put-2.ensures
