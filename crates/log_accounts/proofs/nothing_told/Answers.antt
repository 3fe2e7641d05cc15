use Rattle.step_history.specs.declared.Moved.{Moved}
use mathlib.Core.Path.{ap}
use Rattle.log_accounts.proofs.nothing_told.Goals as goal

pub returns : goal.returns
returns c = ap (λ (v : Moved). record { posted = 0; sent = 0; consumed = 0; room = c.args.most; moved = v }) c.nothing_moved.ensures
