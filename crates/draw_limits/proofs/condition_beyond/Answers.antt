use mathlib.Core.Path.{refl}
use Rattle.draw_limits.proofs.condition_beyond.Goals as goal

pub returns : goal.returns
returns c = rw (c.condition_at-said.ensures, c.place_of.ensures) refl
