use Rattle.std.proofs.Common.{rules, refl}
use Rattle.base_words.proofs.RangeLaws.{all_of_range}
use Rattle.check_answers.specs.Answers.{edge_by, edges_meet_by}
use Rattle.check_answers.proofs.edges_meet.Goals as goal

pub returns : goal.returns
unfolding edges_meet_by
returns c = all_of_range _ _ _ (edge_by c.args.s.now) _ c.all.ensures.ran refl (λ x q k. search rules) (λ x q k. search rules)
