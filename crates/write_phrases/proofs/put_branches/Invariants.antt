use Prim.Native.Nat.{◌*◌, ◌+◌}
use Rattle.write_buffer.specs.Buffers.{Put}
use Rattle.write_phrases.specs.Pieces.{shown_branch}
use Rattle.write_shown.specs.Lengths.{receiving_most}
use Rattle.write_shown.specs.Shown.{commas}
use Rattle.write_phrases.proofs.put_branches.Given as goal

abbrev pub invariant-loop-j : goal.invariant-loop-j
invariant-loop-j l = Put (commas (shown_branch l.receives l.el) l.j) (l.j * (1 + receiving_most)) l.from l.initial.out l.end l.out
