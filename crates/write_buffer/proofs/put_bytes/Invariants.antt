use lib.ListN.{take}
use Rattle.write_buffer.specs.Buffers.{Put}
use Rattle.write_buffer.proofs.put_bytes.Given as goal

abbrev pub invariant-loop-b : goal.invariant-loop-b
invariant-loop-b l = Put (take l.b-index l.s) l.b-index l.from l.initial.out l.to l.out
