use Rattle.text_rewrite.specs.InTable.{one_at}
use Rattle.text_rewrite.proofs.put_one.Goals as goal

pub returns : goal.returns
unfolding one_at
returns c = rw (c.put-2.ensures, c.put.ensures) at c.put-3.ensures
