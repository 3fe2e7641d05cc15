use Rattle.draw_links.specs.Links.{linked}
use Rattle.draw_links.specs.Notes.{NotedIf}
use Rattle.base_words.specs.Iter.{iter}
use mathlib.Core.Path.{◌≡◌}
use Rattle.draw_links.proofs.link_all.Given as goal

abbrev pub invariant-loop-k : goal.invariant-loop-k
invariant-loop-k l = NotedIf l.noted l.text l.initial.w l.n → l.w ≡ iter (linked l.text l.n) l.initial.w l.k
