use Prim.Native.Nat.{◌+◌}
use Rattle.write_buffer.proofs.OverLaws.{put_as, put_within}
use Rattle.write_shown.specs.Lengths.{part_most}
use Rattle.write_table.proofs.PartLaws.{codes_four, parts_by, going_none, going_more, going_done, parts_next, parts_end, parts_out}
use native.Mathlib.Omega.{arith}
use Rattle.write_table.proofs.put_parts.Goals as goal

pub loop-c-init : goal.loop-c-init
loop-c-init c = going_none _ (1 + part_most) _ _

pub returns-then-c-eq32 : goal.returns-then-c-eq32
returns-then-c-eq32 c = put_within (put_as _ (parts_by _ _ _ c.parts_of-codes.ensures c.kind_in.ensures) (going_done (parts_end _ _ _ _ (codes_four _ _ c.parts_of-codes.ensures) c.loop-c-test.true c.if-c-eq32.true) c.loop-c.invariant)) (omega arith)

pub loop-c-preserved : goal.loop-c-preserved
loop-c-preserved c = going_more _ _ (parts_next _ _ _ _ (codes_four _ _ c.parts_of-codes.ensures) c.loop-c-test.true c.if-c-eq32.false) c.loop-c.invariant c.put_signed-end.ensures (omega arith)

pub returns : goal.returns
returns c = put_within (put_as _ (parts_by _ _ _ c.parts_of-codes.ensures c.kind_in.ensures) (going_done (parts_out _ _ _ _ (codes_four _ _ c.parts_of-codes.ensures) c.loop-c-test.false) c.loop-c.invariant)) (omega arith)
