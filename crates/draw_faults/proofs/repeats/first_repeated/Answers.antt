use Rattle.draw_faults.proofs.RepeatLaws.{none_below, none_further, none_here}
use Rattle.draw_faults.specs.Amiss.{is_repeated}
use Rattle.base_words.proofs.PickLaws.{flag_is}
use Rattle.base_words.proofs.SeekLaws.{seek_done, seek_found}
use native.Mathlib.Omega.{arith}
use borrow.Author.Rules.{rules}
use Rattle.draw_faults.proofs.repeats.first_repeated.Goals as goal

pub loop-b-init : goal.loop-b-init
loop-b-init c = (search rules, search rules, λ k h. absurd (omega (arith, h)))

pub loop-b-smaller-then-are_new : goal.loop-b-smaller-then-are_new
loop-b-smaller-then-are_new c = omega (arith, c.end_of-e.ensures.0, c.end_of-e.ensures.1)

pub loop-b-preserved-then-are_new : goal.loop-b-preserved-then-are_new
loop-b-preserved-then-are_new c = (c.end_of-e.ensures.1, c.loop-b.invariant.1, none_further (is_repeated c.args.text.now c.args.w.now) _ c.loop-b.invariant.2 _ (c.are_new.ensures c.if-are_new.true))

pub loop-b-preserved-then-s-gt1 : goal.loop-b-preserved-then-s-gt1
loop-b-preserved-then-s-gt1 c = (c.loop-b.invariant.0, omega (arith, c.if-s-gt1.true), c.loop-b.invariant.2)

pub returns-then-is_repeated : goal.returns-then-is_repeated
returns-then-is_repeated c = seek_found _ _ _ c.loop-b-test.true (none_below (is_repeated c.args.text.now c.args.w.now) _ c.loop-b.invariant.2) (flag_is _ _ _ c.is_repeated.ensures c.if-is_repeated.true)

pub loop-b-preserved : goal.loop-b-preserved
loop-b-preserved c = (search rules, c.loop-b.invariant.1, none_here (is_repeated c.args.text.now c.args.w.now) _ c.loop-b.invariant.2 (flag_is _ _ _ c.is_repeated.ensures c.if-is_repeated.false))

pub returns : goal.returns
returns c = seek_done _ _ _ c.loop-b-test.false c.loop-b.invariant.0 (none_below (is_repeated c.args.text.now c.args.w.now) _ c.loop-b.invariant.2)
