use Rattle.text_elements.specs.Elements.{blank}
use Rattle.text_elements.proofs.blank.Goals as goal

pub returns : goal.returns
unfolding blank
returns c = rw c.clear.ensures at c.put.ensures
