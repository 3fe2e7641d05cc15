use Rattle.check_summary.proofs.MarkLaws.{names_by}
use Rattle.check_tally.proofs.TallyLaws.{last_region, then_region}
use Rattle.check_summary.specs.Summary.{name_regions}
use Rattle.check_summary.proofs.mark_names.Goals as goal

pub returns : goal.returns
unfolding name_regions
returns c = then_region _ _ _ _ _ (last_region _ _ _ (names_by _ _ _ _ _ _ c.mark_some-2.ensures c.sent_count-sent.ensures)) (names_by _ _ _ _ _ _ c.mark_some.ensures c.received_count-received.ensures)
