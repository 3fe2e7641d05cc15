use Rattle.step_list.proofs.LevelLaws.{chosen_found, chosen_none}
use Rattle.step_list.proofs.list_on.Goals as goal

pub returns-then-r : goal.returns-then-r
returns-then-r c = chosen_found _ _ _ c.scan_pools-r.ensures c.if-r.true

pub returns : goal.returns
returns c = chosen_none _ _ _ c.scan_pools-r.ensures c.if-r.false
