use Prim.Native.Nat.{◌+◌}
use Rattle.write_buffer.proofs.OverLaws.{put_as}
use Rattle.write_decimals.specs.Decimals.{shown}
use Rattle.write_shown.proofs.PieceLaws.{list_none, list_more, list_done}
use Rattle.write_shown.specs.Shown.{separated}
use Rattle.base_words.specs.Words.{digits}
use mathlib.Core.Path.{ap}
use native.Mathlib.Omega.{arith}
use Rattle.write_phrases.proofs.put_edges.Goals as goal

pub loop-j-init : goal.loop-j-init
loop-j-init c = list_none _ _ (1 + digits) _ _

pub loop-j-preserved : goal.loop-j-preserved
loop-j-preserved c = list_more _ _ _ _ (ap shown c.edge_at.ensures) c.loop-j.invariant c.put_lead-comma.ensures c.put_number-end.ensures

pub returns : goal.returns
returns c = put_as _ (ap (separated _ _) c.word-n.ensures) (list_done _ _ (1 + digits) _ _ c.loop-j-test.false c.loop-j.auto.j-end (omega arith) c.loop-j.invariant)
