use Prim.Native.Nat.{◌*◌, ◌+◌}
use Rattle.write_buffer.specs.Buffers.{Put}
use Rattle.write_shown.specs.Lengths.{pool_most}
use Rattle.base_words.specs.Each.{joined}
use Rattle.write_table.specs.Pieces.{next_pool}
use Rattle.write_table.proofs.put_pools.Given as goal

abbrev pub invariant-loop-p : goal.invariant-loop-p
invariant-loop-p l = Put (joined (next_pool l.t) l.p) (l.p * (1 + pool_most)) l.from l.initial.out l.end l.out
