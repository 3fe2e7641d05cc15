use Rattle.step_take.proofs.move_at.Goals as goal

pub returns : goal.returns
returns c = rw (c.mode_in.ensures, c.kind_in.ensures) at c.move_of.ensures
