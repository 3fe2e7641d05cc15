use Rattle.base_words.specs.Words.{at}
use Rattle.text_passes.proofs.keep.store_head.Goals as goal

pub returns : goal.returns
returns c = rw (c.put-2.ensures, c.put.ensures) at c.put-3.ensures
