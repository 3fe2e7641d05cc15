use Rattle.meaning.specs.Assignments.{assigned_value}
use Rattle.step_expressions.proofs.assignments.assign_value.Goals as goal

pub returns-in_default : goal.returns-in_default
unfolding assigned_value
returns-in_default c = simp c.in_default.is

pub returns : goal.returns
unfolding assigned_value
returns c = simp (c.in-Some.is, c.put_field.ensures)
