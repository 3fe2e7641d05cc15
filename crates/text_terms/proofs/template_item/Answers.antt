use Rattle.text_terms.specs.Terms.{template_item}
use Rattle.text_readers.proofs.ReadingLaws.{if_stopped, if_passed}
use Rattle.text_terms.proofs.template_item.Goals as goal

pub returns-in-Ok : goal.returns-in-Ok
unfolding template_item
returns-in-Ok c = if_passed _ _ c.sign_at.ensures _ _ _ _ c.in-Ok.is c.bind.ensures

pub returns : goal.returns
unfolding template_item
returns c = if_stopped _ _ c.sign_at.ensures _ _ _ _ c.in_default.is c.expression.ensures
