use Rattle.text_terms.proofs.item_of_template.Goals as goal

pub returns : goal.returns
returns c = rw c.item_place.ensures.0 at c.template_item.ensures
