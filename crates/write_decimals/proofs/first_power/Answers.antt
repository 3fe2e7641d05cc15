use Rattle.write_decimals.proofs.PutLaws.{counted_start, counted_fits, counted_turn, counted_end}
use borrow.Author.Rules.{rules}
use Rattle.write_decimals.proofs.first_power.Goals as goal

pub loop-left-init : goal.loop-left-init
loop-left-init c = counted_start _ (search rules)

pub overflow_mul-power : goal.overflow_mul-power
overflow_mul-power c = search (rules, counted_fits c.loop-left.invariant c.loop-left-test.true)

pub loop-left-preserved : goal.loop-left-preserved
loop-left-preserved c = counted_turn c.loop-left.invariant c.loop-left-test.true

pub returns : goal.returns
returns c = counted_end c.loop-left.invariant c.loop-left-test.false
