use Rattle.base_words.specs.Words.{at}
use Rattle.text_passes.proofs.keep.store_element.Goals as goal

pub returns : goal.returns
returns c = rw c.copy_element.ensures at c.put.ensures
