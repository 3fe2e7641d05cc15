use Rattle.std.proofs.Common.{rules}
use Rattle.base_words.proofs.RangeLaws.{sum_of_range}
use Rattle.meaning.specs.Tuples.{same_tuple}
use Rattle.meaning.specs.Queues.{message_at}
use Rattle.step_history.proofs.CodeLaws.{times_counted}
use Rattle.step_history.proofs.times_in.Goals as goal

pub returns : goal.returns
returns c = times_counted c.args.q.now c.args.m c.args.g _ _ (sum_of_range c.filter.result _ _ (λ j. same_tuple (message_at c.args.q.now c.args.m j) c.args.g) _ c.count.ensures.ran c.filter.ensures.source c.filter.ensures.closure (λ x b q k. search rules)) c.queued_in.ensures
