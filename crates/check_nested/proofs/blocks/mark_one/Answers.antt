use Rattle.check_nested.proofs.BlockLaws.{marked_one}
use native.Mathlib.Omega.{arith}
use borrow.Author.Rules.{rules}
use Rattle.check_nested.proofs.blocks.mark_one.Goals as goal

ruleset L = (rules)

pub mark-requires : goal.mark-requires
mark-requires c = search L

pub shape_of-s : goal.shape_of-s
shape_of-s c = search L

pub returns : goal.returns
returns c = marked_one _ _ _ (omega arith) c.mark.ensures
