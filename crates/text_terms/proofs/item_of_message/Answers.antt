use Rattle.text_terms.proofs.item_of_message.Goals as goal

pub returns : goal.returns
returns c = rw c.item_place.ensures.0 at c.expression.ensures
