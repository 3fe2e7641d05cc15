use Prim.Native.Nat.{◌≤◌}
use Rattle.base_words.specs.Each.{joined}
use Rattle.draw_model.specs.Content.{element_if}
use Rattle.text_passes.specs.Passes.{kept_all, kept_element}
use lib.ListN.{length}
use mathlib.Core.Path.{◌≡◌}
use Rattle.draw_model.proofs.keep_elements.Given as goal

abbrev pub invariant-loop-k : goal.invariant-loop-k
invariant-loop-k l = (l.count ≤ l.k) × (l.count ≡ length (joined (element_if l.text l.w l.n l.p) l.k)) × (l.v ≡ kept_all (kept_element l.fills l.i) 0 (joined (element_if l.text l.w l.n l.p) l.k) l.initial.v)
