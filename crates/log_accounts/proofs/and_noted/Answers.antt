use Rattle.log_accounts.specs.Told.{and_noted}
use mathlib.Core.Path.{refl}
use Rattle.log_accounts.proofs.and_noted.Goals as goal

pub returns : goal.returns
unfolding and_noted
returns c = refl
