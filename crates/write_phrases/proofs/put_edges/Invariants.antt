use Prim.Native.Nat.{◌*◌, ◌+◌}
use Rattle.write_buffer.specs.Buffers.{Put}
use Rattle.write_decimals.specs.Decimals.{shown}
use Rattle.base_table.specs.Places.{edge_place}
use Rattle.write_shown.specs.Shown.{commas}
use Rattle.base_words.specs.Words.{at, digits}
use Rattle.write_phrases.proofs.put_edges.Given as goal

abbrev pub invariant-loop-j : goal.invariant-loop-j
invariant-loop-j l = Put (commas (λ i. shown (at l.el (edge_place l.list i))) l.j) (l.j * (1 + digits)) l.from l.initial.out l.end l.out
