use mathlib.Core.Bool.{false≢true}
use Rattle.draw_faults.proofs.RepeatLaws.{shelved_more, shelved_new, shelved_none}
use borrow.Author.Rules.{rules}
use Rattle.draw_faults.proofs.repeats.are_shelved.Goals as goal

pub loop-k-init : goal.loop-k-init
loop-k-init c = (search rules, shelved_none _ _ _ _)

pub returns-in_default : goal.returns-in_default
returns-in_default c e = absurd (false≢true e)

pub loop-k-preserved : goal.loop-k-preserved
loop-k-preserved c = ((c.shelve-t.ensures _ c.in-Some.is c.loop-k.invariant.1.rising).0.fits, shelved_more _ _ _ _ _ _ _ _ c.loop-k.invariant.1 (c.shelve-t.ensures _ c.in-Some.is c.loop-k.invariant.1.rising))

pub returns : goal.returns
returns c r = shelved_new _ _ _ _ _ _ _ c.loop-k-test.false c.loop-k.invariant.1 (c.none_kept.ensures r c.loop-k.invariant.1.rising)
