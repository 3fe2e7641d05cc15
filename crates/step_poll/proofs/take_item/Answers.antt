use Rattle.step_poll.proofs.PollLaws.{post_taken, step_taken}
use Rattle.step_poll.proofs.take_item.Goals as goal

pub returns-then-word-eq-A_POST : goal.returns-then-word-eq-A_POST
returns-then-word-eq-A_POST c = post_taken _ _ _ _ _ c.word.ensures _ _ _ c.if-word-eq-A_POST.true c.word-then-word-eq-A_POST.ensures c.given_in.ensures c.post_on.ensures

pub returns : goal.returns
returns c = step_taken _ _ _ _ _ c.word.ensures _ _ c.if-word-eq-A_POST.false c.name_in.ensures c.step_on-a.ensures
