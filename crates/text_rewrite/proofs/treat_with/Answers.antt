use Rattle.text_rewrite.specs.InTable.{treated_with}
use Rattle.text_rewrite.proofs.treat_with.Goals as goal

pub returns : goal.returns
unfolding treated_with
returns c = rw (c.one_more.ensures, c.put_one-2.ensures, c.put_one.ensures) at c.put.ensures
