use Rattle.draw_diagnose.specs.Rules.{is_broken}
use borrow.Author.Rules.{rules}
use Rattle.draw_diagnose.proofs.found.is_broken.Goals as goal

pub first_breaking-requires : goal.first_breaking-requires
unfolding is_broken
first_breaking-requires c = search rules

pub returns : goal.returns
unfolding is_broken
returns c = rw c.first_breaking.ensures
