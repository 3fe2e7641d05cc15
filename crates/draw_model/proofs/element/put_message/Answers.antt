use Rattle.draw_model.specs.Drawn.{with_message}
use Rattle.base_words.proofs.PickLaws.{flag_is, pick_no, pick_yes}
use Rattle.base_words.specs.Words.{at}
use mathlib.Core.Path.{refl}
use borrow.Author.Rules.{rules}
use Rattle.draw_model.proofs.element.put_message.Goals as goal

pub is_receiver-requires : goal.is_receiver-requires
unfolding with_message
is_receiver-requires c = search rules

pub received_by-requires : goal.received_by-requires
unfolding with_message
received_by-requires c = search rules

pub put-requires : goal.put-requires
unfolding with_message
put-requires c = search rules

pub returns-then-is_receiver : goal.returns-then-is_receiver
unfolding with_message
returns-then-is_receiver c = pick_yes _ _ _ _ (flag_is _ _ _ c.is_receiver.ensures c.if-is_receiver.true) (rw c.received_by.ensures at c.put.ensures)

pub is_sender-requires : goal.is_sender-requires
unfolding with_message
is_sender-requires c = search rules

pub sent_by-requires : goal.sent_by-requires
unfolding with_message
sent_by-requires c = search rules

pub put-requires-then-is_sender : goal.put-requires-then-is_sender
unfolding with_message
put-requires-then-is_sender c = search rules

pub returns-then-is_sender : goal.returns-then-is_sender
unfolding with_message
returns-then-is_sender c = pick_no _ _ _ _ (flag_is _ _ _ c.is_receiver.ensures c.if-is_receiver.false) (pick_yes _ _ _ _ (flag_is _ _ _ c.is_sender.ensures c.if-is_sender.true) (rw c.sent_by.ensures at c.put-then-is_sender.ensures))

pub returns-else-is_sender : goal.returns-else-is_sender
unfolding with_message
returns-else-is_sender c = pick_no _ _ _ _ (flag_is _ _ _ c.is_receiver.ensures c.if-is_receiver.false) (pick_no _ _ _ _ (flag_is _ _ _ c.is_sender.ensures c.if-is_sender.false) refl)
