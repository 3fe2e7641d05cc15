use Rattle.draw_links.specs.Notes.{retargeted, note_of}
use Rattle.base_words.specs.Iter.{iter}
use mathlib.Core.Path.{◌≡◌}
use Rattle.draw_links.proofs.ids.note_ids.Given as goal

abbrev pub invariant-loop-k : goal.invariant-loop-k
invariant-loop-k l = l.w ≡ iter (retargeted (note_of l.text)) l.initial.w l.k
