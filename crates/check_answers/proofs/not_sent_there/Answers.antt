use Rattle.std.proofs.Common.{rules, refl, ◌&&◌, not}
use Rattle.base_words.proofs.RangeLaws.{all_of_range}
use Rattle.check_answers.specs.Answers.{receives_by, sends_by, not_sent_there_by}
use Rattle.check_answers.proofs.not_sent_there.Goals as goal

pub returns : goal.returns
unfolding not_sent_there_by
returns c = all_of_range _ _ _ (λ m. not (receives_by c.args.s.now m && sends_by c.args.s.now m)) _ c.all.ensures.ran refl (λ x q k. search rules) (λ x q k. search rules)
