use Rattle.check_summary.proofs.MarkLaws.{edges_by}
use Rattle.check_tally.proofs.TallyLaws.{last_region, then_region}
use Rattle.check_summary.specs.Summary.{edge_regions}
use Rattle.check_summary.proofs.mark_edges.Goals as goal

pub returns : goal.returns
unfolding edge_regions
returns c = then_region _ _ _ _ _ (then_region _ _ _ _ _ (last_region _ _ _ (edges_by _ _ _ _ _ _ _ c.mark_list-3.ensures c.first_count-firsts.ensures)) (edges_by _ _ _ _ _ _ _ c.mark_list-2.ensures c.entry_count-entries.ensures)) (edges_by _ _ _ _ _ _ _ c.mark_list.ensures c.exit_count-exits.ensures)
