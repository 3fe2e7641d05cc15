use borrow.Author.Rules.{rules}
use Rattle.check_limits.proofs.BitLaws.{bits_none, bits_done}
use Rattle.state_check.proofs.ExcessLaws.{excess_more}
use Rattle.state_check.proofs.instances.excess_below.Goals as goal

ruleset L = (rules, bits_none, bits_done, excess_more)

pub loop-k-init : goal.loop-k-init
loop-k-init c = search L

pub loop-k-preserved : goal.loop-k-preserved
loop-k-preserved c = search L

pub returns : goal.returns
returns c = search L
