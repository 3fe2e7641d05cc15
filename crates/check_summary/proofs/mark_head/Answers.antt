use mathlib.Core.Path.{◌∙◌}
use Rattle.check_tally.proofs.TallyLaws.{one_number, last_region, then_region}
use Rattle.check_summary.specs.Summary.{head_regions}
use Rattle.check_summary.proofs.mark_head.Goals as goal

pub returns : goal.returns
unfolding head_regions
returns c = then_region _ _ _ _ _ (last_region _ _ _ (one_number _ _ _ _ _ _ c.mark-2.ensures (c.wide-2.ensures ∙ c.kind_in-kind.ensures))) (one_number _ _ _ _ _ _ c.mark.ensures (c.wide.ensures ∙ c.task_in-task.ensures))
