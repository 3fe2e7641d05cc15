use Rattle.step_list.proofs.parts.move_at.Goals as goal

pub returns : goal.returns
returns c = rw (← c.element_at-el.ensures, ← c.kind_in.ensures, ← c.mode_in.ensures) c.move_of.ensures
