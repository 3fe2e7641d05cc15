use Rattle.draw_diagnose.proofs.Laws.{broken_nowhere}
use Rattle.draw_diagnose.proofs.Laws.{broken_there}
use Rattle.draw_diagnose.proofs.found.broken_in.Goals as goal

pub returns-then-r-lt-RULES_OF_THINGS : goal.returns-then-r-lt-RULES_OF_THINGS
returns-then-r-lt-RULES_OF_THINGS c = broken_there _ _ _ _ c.first_broken-r.ensures _ _ c.if-r-lt-RULES_OF_THINGS.true c.first_breaking-k.ensures c.place_of.ensures

pub returns : goal.returns
returns c = broken_nowhere _ _ _ _ c.first_broken-r.ensures _ c.if-r-lt-RULES_OF_THINGS.false c.broken_by_all.ensures
