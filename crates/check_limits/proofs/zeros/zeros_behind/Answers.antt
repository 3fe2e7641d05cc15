use native.Mathlib.Omega.{arith}
use borrow.Author.Rules.{rules}
use Rattle.check_limits.proofs.BoundLaws.{product_fits}
use Rattle.check_limits.proofs.zeros.zeros_behind.Goals as goal

ruleset L = (rules)

pub overflow_mul-width : goal.overflow_mul-width
overflow_mul-width c = record { fits = product_fits c.args.width c.args.k (omega arith) (omega arith) }

pub overflow_mul-width-2 : goal.overflow_mul-width-2
overflow_mul-width-2 c = record { fits = product_fits c.args.width c.less-rest.result (omega arith) (omega arith) }

pub returns : goal.returns
returns c = rw (c.less-rest.ensures, c.tail.ensures) at c.zero_words.ensures
