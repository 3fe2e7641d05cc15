use Prim.Native.Char.{code}
use Prim.Native.Nat.{◌*◌, ◌+◌}
use Rattle.write_shown.specs.Lengths.{part_most}
use Rattle.write_shown.specs.Shown.{shown_parts}
use Rattle.write_table.proofs.PartLaws.{Going}
use lib.ListN.{drop}
use Rattle.write_table.proofs.put_parts.Given as goal

abbrev pub invariant-loop-c : goal.invariant-loop-c
invariant-loop-c l = Going (shown_parts (code "(") l.c-items l.el) (shown_parts l.sign (drop l.c-index l.c-items) l.el) (l.c-index * (1 + part_most)) l.from l.initial.out l.end l.out
