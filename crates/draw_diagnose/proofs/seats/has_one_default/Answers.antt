use Rattle.draw_diagnose.proofs.seats.has_one_default.Goals as goal

pub returns : goal.returns
returns c = rw c.element_drawn.ensures at c.is_once.ensures
