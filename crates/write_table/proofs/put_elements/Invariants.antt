use Prim.Native.Char.{code}
use Prim.Native.Nat.{◌*◌, ◌+◌, ◌≤◌}
use Rattle.write_buffer.specs.Buffers.{Put, last_place}
use Rattle.base_table.specs.Table.{element_at}
use Rattle.write_shown.specs.Lengths.{element_most}
use Rattle.write_shown.specs.Shown.{shown_element, separated}
use lib.ListN.{length}
use Rattle.write_table.proofs.put_elements.Given as goal

abbrev pub invariant-loop-e : goal.invariant-loop-e
invariant-loop-e l = Put (separated (code "|") (λ i. shown_element (element_at l.t l.p i)) l.e) (l.e * (1 + element_most)) l.from l.initial.out l.end l.out × (length l.initial.out ≤ last_place)
