use Rattle.draw_model.proofs.DrawnLaws.{head_put}
use borrow.Author.Rules.{rules}
use Rattle.draw_model.proofs.element.put_head.Goals as goal

pub returns : goal.returns
returns c = head_put _ _ _ _ _ _ _ c.put_kind.ensures c.put_first.ensures c.put_message.ensures (search rules)
