use Rattle.draw_links.specs.Notes.{retargeted, no_note}
use Rattle.base_words.specs.Iter.{iter}
use mathlib.Core.Path.{◌≡◌}
use Rattle.draw_links.proofs.ids.clear_ids.Given as goal

abbrev pub invariant-loop-k : goal.invariant-loop-k
invariant-loop-k l = l.w ≡ iter (retargeted no_note) l.initial.w l.k
