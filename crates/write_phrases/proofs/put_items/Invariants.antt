use Prim.Native.Nat.{◌*◌, ◌+◌}
use Rattle.write_buffer.specs.Buffers.{Put}
use Rattle.base_table.specs.Table.{item_at}
use Rattle.write_shown.specs.Lengths.{pair_most}
use Rattle.write_shown.specs.Shown.{commas, shown_item}
use Rattle.write_phrases.proofs.put_items.Given as goal

abbrev pub invariant-loop-j : goal.invariant-loop-j
invariant-loop-j l = Put (commas (λ i. shown_item (item_at l.el l.b i)) l.j) (l.j * (1 + pair_most)) l.from l.initial.out l.end l.out
