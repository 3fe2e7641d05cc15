use Rattle.text_terms.specs.Terms.{bind}
use Rattle.text_terms.proofs.ReaderLaws.{store_goes}
use borrow.Author.Rules.{rules}
use Rattle.text_terms.proofs.bind.Goals as goal

pub put-requires : goal.put-requires
unfolding bind
put-requires c = search rules

pub put-requires-2 : goal.put-requires-2
unfolding bind
put-requires-2 c = search rules

pub field_in-requires : goal.field_in-requires
unfolding bind
field_in-requires c = search rules

pub returns : goal.returns
unfolding bind
returns c = store_goes _ _ _ _ _ _ _ _ c.put.ensures (store_goes _ _ _ _ _ _ _ _ c.put-2.ensures c.field_in.ensures)
