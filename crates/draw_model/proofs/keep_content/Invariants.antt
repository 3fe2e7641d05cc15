use Prim.Native.Nat.{◌≤◌}
use Rattle.base_words.specs.Each.{joined}
use Rattle.draw_model.specs.Content.{pool_if}
use Rattle.text_passes.specs.Passes.{kept_all, kept_pool}
use lib.ListN.{length}
use mathlib.Core.Path.{◌≡◌}
use Rattle.draw_model.proofs.keep_content.Given as goal

abbrev pub invariant-loop-k : goal.invariant-loop-k
invariant-loop-k l = (l.i ≤ l.k) × (l.i ≡ length (joined (pool_if l.owned l.text l.w l.n) l.k)) × (l.v ≡ kept_all (kept_pool l.fills) 0 (joined (pool_if l.owned l.text l.w l.n) l.k) l.initial.v)
