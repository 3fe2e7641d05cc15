use Rattle.cuttingvale.specs.Boundary.{traffic_number}
use mathlib.Core.Path.{sym, ap}
use Rattle.cuttingvale.proofs.number_of.Goals as goal

pub returns-in-Nothing : goal.returns-in-Nothing
unfolding traffic_number
returns-in-Nothing c = sym (ap traffic_number c.in-Nothing.is)

pub returns-in-Consumed : goal.returns-in-Consumed
unfolding traffic_number
returns-in-Consumed c = sym (ap traffic_number c.in-Consumed.is)

pub returns-in-Sent : goal.returns-in-Sent
unfolding traffic_number
returns-in-Sent c = sym (ap traffic_number c.in-Sent.is)
