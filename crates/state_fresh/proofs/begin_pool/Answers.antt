use Rattle.state_fresh.proofs.BeginLaws.{begin_no, begin_yes}
use borrow.Author.Rules.{rules}
use mathlib.Core.Path.{ap}
use mathlib.Core.Bool.{not}
use Rattle.state_fresh.proofs.begin_pool.Goals as goal

ruleset L = (rules)

pub returns-then-not-has_start : goal.returns-then-not-has_start
returns-then-not-has_start c = begin_no _ _ _ _ c.has_start.ensures (ap not c.if-not-has_start.true)

pub returns : goal.returns
returns c = begin_yes _ _ _ _ c.has_start.ensures (ap not c.if-not-has_start.false) _ _ _ _ c.first_edge.ensures c.less_one.ensures c.put.ensures _ c.put-2.ensures (search L)
