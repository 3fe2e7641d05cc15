use Rattle.text_rewrite.specs.InTable.{treated_in, unused_in}
use Rattle.text_rewrite.proofs.treat.Goals as goal

pub returns : goal.returns
unfolding treated_in unused_in
returns c = rw (c.first_in-j.ensures, c.element_count-n.ensures, c.used_below-f.ensures.0) at c.treat_with.ensures
