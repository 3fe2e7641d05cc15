use Rattle.check_tally.proofs.TallyLaws.{then_regions}
use Rattle.check_summary.specs.Summary.{regions}
use Rattle.check_summary.proofs.mark_element.Goals as goal

pub returns : goal.returns
unfolding regions
returns c = then_regions _ _ _ _ _ (then_regions _ _ _ _ _ (then_regions _ _ _ _ _ c.mark_flags.ensures c.mark_names.ensures) c.mark_head.ensures) c.mark_edges.ensures
