use Rattle.text_elements.specs.Elements.{blank}
use Rattle.base_words.specs.Words.{at}
use borrow.Author.Rules.{rules}
use Rattle.draw_model.proofs.element.put_kind.Goals as goal

pub clear-requires : goal.clear-requires
unfolding blank
clear-requires c = search rules

pub kind_of_thing-requires : goal.kind_of_thing-requires
unfolding blank
kind_of_thing-requires c = search rules

pub put-requires : goal.put-requires
unfolding blank
put-requires c = search rules

pub returns : goal.returns
unfolding blank
returns c = rw (c.clear.ensures, c.kind_of_thing.ensures) at c.put.ensures
