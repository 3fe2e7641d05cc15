use Rattle.base_words.proofs.PickLaws.{pick_no}
use Rattle.base_words.proofs.PickLaws.{pick_yes}
use Rattle.draw_diagnose.specs.Rules.{breaks}
use borrow.Author.Tests.{le-ltb}
use borrow.Author.Tests.{lt-ltb}
use borrow.Author.Rules.{rules}
use Rattle.draw_diagnose.proofs.rules.breaks.Goals as goal

pub breaks_pools-requires : goal.breaks_pools-requires
unfolding breaks
breaks_pools-requires c = search rules

pub returns-then-rule-lt-LOOSE : goal.returns-then-rule-lt-LOOSE
unfolding breaks
returns-then-rule-lt-LOOSE c = pick_yes _ _ _ _ (lt-ltb _ _ c.if-rule-lt-LOOSE.true) c.breaks_pools.ensures

pub breaks_nodes-requires : goal.breaks_nodes-requires
unfolding breaks
breaks_nodes-requires c = search rules

pub returns-then-rule-lt-UNHEARD : goal.returns-then-rule-lt-UNHEARD
unfolding breaks
returns-then-rule-lt-UNHEARD c = pick_no _ _ _ _ (le-ltb _ _ c.if-rule-lt-LOOSE.false) (pick_yes _ _ _ _ (lt-ltb _ _ c.if-rule-lt-UNHEARD.true) c.breaks_nodes.ensures)

pub breaks_flows-requires : goal.breaks_flows-requires
unfolding breaks
breaks_flows-requires c = search rules

pub returns : goal.returns
unfolding breaks
returns c = pick_no _ _ _ _ (le-ltb _ _ c.if-rule-lt-LOOSE.false) (pick_no _ _ _ _ (le-ltb _ _ c.if-rule-lt-UNHEARD.false) c.breaks_flows.ensures)
