use Rattle.base_words.proofs.PickLaws.{flag_no}
use Rattle.base_words.proofs.PickLaws.{flag_yes}
use Rattle.base_words.proofs.PickLaws.{pick_no}
use Rattle.base_words.proofs.PickLaws.{pick_yes}
use Rattle.draw_diagnose.specs.Rules.{broken_by_all}
use borrow.Author.Tests.{le-ltb}
use borrow.Author.Tests.{lt-ltb}
use mathlib.Core.Path.{refl}
use borrow.Author.Rules.{rules}
use mathlib.Core.Path.{ap}
use mathlib.Core.Bool.{not}
use Rattle.draw_diagnose.proofs.found.broken_by_all.Goals as goal

pub has_pools-requires : goal.has_pools-requires
unfolding broken_by_all
has_pools-requires c = search rules

pub place_of-requires : goal.place_of-requires
unfolding broken_by_all
place_of-requires c = search rules

pub returns-then-not-has_pools : goal.returns-then-not-has_pools
unfolding broken_by_all
returns-then-not-has_pools c = pick_no _ _ _ _ (flag_no _ _ c.has_pools.ensures (ap not c.if-not-has_pools.true)) (rw c.place_of.ensures)

pub place_of-requires-then-n-gt-ROOM : goal.place_of-requires-then-n-gt-ROOM
unfolding broken_by_all
place_of-requires-then-n-gt-ROOM c = search rules

pub returns-then-n-gt-ROOM : goal.returns-then-n-gt-ROOM
unfolding broken_by_all
returns-then-n-gt-ROOM c = pick_yes _ _ _ _ (flag_yes _ _ c.has_pools.ensures (ap not c.if-not-has_pools.false)) (pick_yes _ _ _ _ (lt-ltb _ _ c.if-n-gt-ROOM.true) (rw c.place_of-then-n-gt-ROOM.ensures))

pub returns : goal.returns
unfolding broken_by_all
returns c = pick_yes _ _ _ _ (flag_yes _ _ c.has_pools.ensures (ap not c.if-not-has_pools.false)) (pick_no _ _ _ _ (le-ltb _ _ c.if-n-gt-ROOM.false) refl)
