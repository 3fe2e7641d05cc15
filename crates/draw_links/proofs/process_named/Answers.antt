use Rattle.std.proofs.Common.{rules, ◌∙◌}
use Rattle.draw_links.proofs.LinkLaws.{named_of_range}
use Rattle.draw_links.proofs.process_named.Goals as goal

pub returns : goal.returns
returns c h = c.unwrap_or.ensures ∙ named_of_range _ _ _ _ _ c.find.ensures.ran (λ x q k l. search (rules, h x l)) (λ x q k. (search rules, λ l. search (rules, h x l)))
