use mathlib.Core.Path.{refl}
use Rattle.log_text.specs.Logs.{scan, by_move}
use borrow.Author.Rules.{rules}
use Rattle.log_text.proofs.scan.Goals as goal

pub start-m-requires : goal.start-m-requires
unfolding scan by_move
start-m-requires c = search rules

pub scan_from-requires : goal.scan_from-requires
unfolding scan by_move
scan_from-requires c = search rules

pub nowhere-requires : goal.nowhere-requires
unfolding scan by_move
nowhere-requires c = search rules

pub returns-in-On : goal.returns-in-On
unfolding scan by_move
returns-in-On c = rw (← c.start-m.ensures, c.in-On.is) c.scan_from.ensures

pub returns-in-Done : goal.returns-in-Done
unfolding scan by_move
returns-in-Done c = rw (← c.start-m.ensures, c.in-Done.is) refl

pub returns-in-Fault : goal.returns-in-Fault
unfolding scan by_move
returns-in-Fault c = rw (← c.start-m.ensures, c.in-Fault.is, c.nowhere.ensures) refl
