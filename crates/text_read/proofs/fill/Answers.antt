use Rattle.text_read.proofs.ReadLaws.{filled_by}
use borrow.Author.Rules.{rules}
use Rattle.text_read.proofs.fill.Goals as goal

ruleset L = (rules)

pub returns : goal.returns
returns c = filled_by _ c.args.t.now _ _ _ _ (search L) c.clear.ensures c.pass.ensures c.rewrite.ensures
