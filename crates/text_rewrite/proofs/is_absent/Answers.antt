use Rattle.text_ends.specs.Rewriting.{mentioned}
use Rattle.text_rewrite.proofs.is_absent.Goals as goal

pub returns : goal.returns
unfolding mentioned
returns c = rw (c.times_in-2.ensures.0, c.times_in.ensures.0, c.element_at-el.ensures)
