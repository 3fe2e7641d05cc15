use native.Mathlib.Omega.{arith}
use borrow.Author.Tests.{lt-leb}
use Rattle.step_history.proofs.CodeLaws.{balance_not, balance_over, balance_under}
use Rattle.step_history.proofs.balances.Goals as goal

pub returns-then-a-2 : goal.returns-then-a-2
returns-then-a-2 c = balance_over c.args.a c.if-a.true c.if-a-2.true

pub returns-else-a-2 : goal.returns-else-a-2
returns-else-a-2 c = rw (lt-leb _ _ c.if-a-2.false) (balance_not c.args.a (λ e. omega (arith, c.if-a.true, c.if-a-2.false)))

pub returns-then-a-3 : goal.returns-then-a-3
returns-then-a-3 c = balance_under c.args.a (omega (arith, c.if-a.false)) c.if-a-3.true

pub returns-else-a-3 : goal.returns-else-a-3
returns-else-a-3 c = rw (lt-leb _ _ c.if-a-3.false) (balance_not c.args.a (λ e. omega (arith, c.if-a.false, c.if-a-3.false)))
