use Rattle.base_words.specs.Words.{at}
use Rattle.draw_diagnose.specs.Diagnosis.{diagnosed}
use borrow.Author.Rules.{rules}
use Rattle.draw_diagnose.proofs.diagnose.Goals as goal

pub answer_to-requires : goal.answer_to-requires
unfolding diagnosed
answer_to-requires c = search rules

pub diagnose_things-requires : goal.diagnose_things-requires
unfolding diagnosed
diagnose_things-requires c = search rules

pub returns : goal.returns
unfolding diagnosed
returns c = rw c.answer_to.ensures at c.diagnose_things.ensures
