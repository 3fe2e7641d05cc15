use Rattle.write_buffer.specs.Buffers.{Put}
use Rattle.write_lines.specs.Lines.{row, row_most}
use mathlib.Core.List.{[], ◌∷◌}
use Rattle.write_lines.proofs.put_row.Given as goal

abbrev pub invariant-loop-j : goal.invariant-loop-j
invariant-loop-j l = Put (row (l.mark ∷ []) l.s l.j) (row_most l.j) l.from l.initial.out l.end l.out
