use Rattle.std.proofs.Common.{◌∙◌}
use Rattle.step_take.proofs.DecidingLaws.{accepted_full}
use Rattle.step_take.proofs.deciding.is_accepted_at.Goals as goal

pub returns-then-has_space_in : goal.returns-then-has_space_in
returns-then-has_space_in c = rw c.number_at.ensures

pub returns-else-has_space_in : goal.returns-else-has_space_in
returns-else-has_space_in c = c.if-has_space_in.false ∙ accepted_full _ _ _ _ _ _ _ _ _ _ c.message_name-name.ensures c.has_space_in.ensures c.if-has_space_in.false
