use Prim.Native.Nat.{◌+◌}
use Rattle.write_buffer.proofs.OverLaws.{put_as, put_long, lent}
use Rattle.write_buffer.specs.Buffers.{lesser}
use Rattle.write_shown.proofs.PieceLaws.{list_none, list_more, list_done}
use Rattle.write_shown.specs.Lengths.{element_most}
use Rattle.write_shown.specs.Shown.{shown_element, shown_elements, separated}
use mathlib.Core.Path.{ap}
use native.Mathlib.Omega.{arith}
use Rattle.write_table.proofs.put_elements.Goals as goal

pub loop-e-init : goal.loop-e-init
loop-e-init c = (list_none _ _ (1 + element_most) _ _, omega arith)

pub loop-e-preserved : goal.loop-e-preserved
unfolding lesser
loop-e-preserved c = (list_more _ _ _ _ (ap shown_element c.element_at.ensures) c.loop-e.invariant.0 c.put_lead-bar.ensures (lent c.min-rest.ensures c.put_element-length.ensures c.saturating_add-end.ensures (omega arith) (omega (arith, put_long c.put_lead-bar.ensures, put_long c.loop-e.invariant.0, c.loop-e.invariant.1))), c.loop-e.invariant.1)

pub returns : goal.returns
unfolding shown_elements
returns c = put_as _ (ap (separated _ _) c.element_count-n.ensures) (list_done _ _ (1 + element_most) _ _ c.loop-e-test.false c.loop-e.auto.e-end (omega arith) c.loop-e.invariant.0)
