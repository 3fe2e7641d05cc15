use Rattle.check_tally.proofs.TallyLaws.{one_number, last_region, then_region}
use Rattle.check_verdict.specs.Verdict.{summary_regions}
use Rattle.check_verdict.proofs.mark_pool.Goals as goal

pub returns : goal.returns
unfolding summary_regions
returns c = then_region _ _ _ _ _ (then_region _ _ _ _ _ (last_region _ _ _ c.mark_checks.ensures) c.mark_names.ensures) (one_number _ _ _ _ _ _ c.mark.ensures c.wide.ensures)
