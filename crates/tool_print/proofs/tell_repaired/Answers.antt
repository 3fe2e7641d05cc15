use mathlib.Core.Path.{◌∙◌, ap}
use Rattle.log_repair.specs.Repair.{Repair}
use Rattle.tool_print.proofs.tell_repaired.Goals as goal

pub returns-then-r-ne0 : goal.returns-then-r-ne0
returns-then-r-ne0 g c = c.tell_lost.ensures ∙ ap (λ (o : Repair). o.number) c.repair-r.ensures

pub returns : goal.returns
returns g c = c.tell_mended.ensures ∙ ap (λ (o : Repair). o.number) c.repair-r.ensures
