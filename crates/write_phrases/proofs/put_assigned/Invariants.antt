use Prim.Native.Nat.{◌*◌, ◌+◌}
use Rattle.write_buffer.specs.Buffers.{Put}
use Rattle.base_table.specs.Table.{assignment_at}
use Rattle.write_shown.specs.Lengths.{assignment_most}
use Rattle.write_shown.specs.Shown.{commas, shown_assignment}
use Rattle.write_phrases.proofs.put_assigned.Given as goal

abbrev pub invariant-loop-j : goal.invariant-loop-j
invariant-loop-j l = Put (commas (λ i. shown_assignment (assignment_at l.el i)) l.j) (l.j * (1 + assignment_most)) l.from l.initial.out l.end l.out
