use mathlib.Core.Path.{◌∙◌}
use Rattle.log_lines.proofs.Laws.{traffic_none, traffic_sent, traffic_consumed, traffic_other}
use Rattle.log_lines.proofs.traffic_from.Goals as goal

pub returns-then-same : goal.returns-then-same
returns-then-same c = c.none.ensures ∙ traffic_none _ _ _ c.piece.ensures _ c.same.ensures c.if-same.true

pub returns-then-sign-eq33 : goal.returns-then-sign-eq33
returns-then-sign-eq33 c = c.none-then-sign-eq33.ensures ∙ traffic_sent _ _ _ c.piece.ensures _ c.same.ensures c.if-same.false _ c.byte-sign.ensures _ c.after.ensures _ c.message_from-m.ensures c.if-sign-eq33.true

pub returns-then-sign-eq63 : goal.returns-then-sign-eq63
returns-then-sign-eq63 c = c.values_given.ensures ∙ traffic_consumed _ _ _ c.piece.ensures _ c.same.ensures c.if-same.false _ c.byte-sign.ensures _ c.after.ensures _ c.message_from-m.ensures c.if-sign-eq33.false c.if-sign-eq63.true

pub returns : goal.returns
returns c = c.none-2.ensures ∙ traffic_other _ _ _ c.piece.ensures _ c.same.ensures c.if-same.false _ c.byte-sign.ensures _ c.after.ensures _ c.message_from-m.ensures c.if-sign-eq33.false c.if-sign-eq63.false
