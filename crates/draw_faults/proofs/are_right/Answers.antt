use Rattle.draw_faults.proofs.OnceLaws.{is_so, lost_wrong, none_so, repeated_wrong}
use Rattle.draw_faults.specs.Amiss.{is_repeated}
use Rattle.draw_faults.specs.Once.{is_odd}
use Rattle.base_words.proofs.PickLaws.{flag_is}
use borrow.Author.Tests.{leb-true}
use Rattle.draw_faults.proofs.are_right.Goals as goal

pub returns-then-first_repeated-n : goal.returns-then-first_repeated-n
returns-then-first_repeated-n c = repeated_wrong _ _ _ _ c.if-first_repeated-n.true (is_so (is_repeated c.args.text.now c.args.w.now) _ _ c.first_repeated.ensures c.if-first_repeated-n.true)

pub returns-then-is_lost : goal.returns-then-is_lost
returns-then-is_lost c = lost_wrong _ _ _ _ c.if-odd-n.true (flag_is _ _ _ c.is_lost.ensures c.if-is_lost.true)

pub returns : goal.returns
returns c = c.all_right.ensures c.has_participants.ensures (λ e. none_so (is_odd c.args.text.now c.args.w.now) _ _ c.first_odd-odd.ensures (leb-true _ _ e)) (none_so (is_repeated c.args.text.now c.args.w.now) _ _ c.first_repeated.ensures c.if-first_repeated-n.false)
