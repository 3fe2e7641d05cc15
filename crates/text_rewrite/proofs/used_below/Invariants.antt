use Prim.Native.Nat.{◌+◌}
use mathlib.Core.Path.{◌≡◌}
use Rattle.base_words.specs.Seek.{seek}
use Rattle.text_rewrite.specs.InTable.{absent_in}
use Rattle.text_rewrite.proofs.used_below.Given as goal

abbrev pub invariant-loop-k : goal.invariant-loop-k
invariant-loop-k l = seek (λ i. absent_in l.t l.p (i + 1)) l.k ≡ l.k
