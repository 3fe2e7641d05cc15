use Rattle.base_words.proofs.PickLaws.{eqb_same}
use Rattle.base_words.specs.Words.{at}
use mathlib.Core.Bool.{not}
use mathlib.Core.Path.{ap}
use Rattle.draw_limits.proofs.is_owned.Goals as goal

pub returns : goal.returns
returns c = ap not (eqb_same _ _ _ (rw c.within_of.ensures at c.source_of.ensures))
