use Rattle.step_list.proofs.stirring.stirs_at.Goals as goal

pub returns : goal.returns
returns c = rw (← c.instances_in-s.ensures, ← c.instance_at-h.ensures, ← c.made_count-made.ensures) c.can_stir.ensures
