use Rattle.draw_links.proofs.TestLaws.{and_told}
use Rattle.draw_links.proofs.TargetLaws.{end_no_flow}
use Rattle.base_words.proofs.PickLaws.{and_yes, flag_is}
use Rattle.draw_links.proofs.is_end_named.Goals as goal

pub returns-then-is_end : goal.returns-then-is_end
returns-then-is_end c h = and_yes _ _ _ (flag_is _ _ _ c.is_end.ensures c.if-is_end.true) (c.has_noted_id.ensures (h (end_no_flow _ (flag_is _ _ _ c.is_end.ensures c.if-is_end.true))))

pub returns-else-is_end : goal.returns-else-is_end
returns-else-is_end c h = and_told _ _ _ c.is_end.ensures c.if-is_end.false
