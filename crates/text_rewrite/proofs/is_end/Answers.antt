use Rattle.text_rewrite.proofs.is_end.Goals as goal

pub returns : goal.returns
returns c = rw c.element_at.ensures at c.is_end_snd.ensures
