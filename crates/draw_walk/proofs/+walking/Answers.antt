use Rattle.std.proofs.Common.{arith, rules, sym, ◌∙◌}
use Rattle.draw_walk.proofs.Laws.{content_end, content_close, content_fault, content_onward, content_past, content_refused, part_past, thing_past, thing_open, thing_empty, thing_fault, open_past, open_within}
use Rattle.draw_walk.proofs.+walking.Goals as goal

pub walk_content-returns-in_default : goal.walk_content-returns-in_default
walk_content-returns-in_default t c = sym (content_refused _ _ _ _ _ c.loop-at-test.true _ c.part_at-part.ensures c.in-Element.is _ c.named_at-s.ensures _ c.drawn_as-d.ensures _ _ c.walk_thing-e.ensures _ c.in_default.is) ∙ c.loop-at.invariant.2

pub walk_content-loop-at-smaller-in-Element : goal.walk_content-loop-at-smaller-in-Element
walk_content-loop-at-smaller-in-Element t c = omega (arith, thing_past _ _ _ _ _ _ _ _ _ c.walk_thing-e.ensures _ c.in-Ok.is)

pub walk_content-loop-at-preserved-in-Element : goal.walk_content-loop-at-preserved-in-Element
walk_content-loop-at-preserved-in-Element t c = (omega (arith, thing_past _ _ _ _ _ _ _ _ _ c.walk_thing-e.ensures _ c.in-Ok.is), search rules, sym (content_past _ _ _ _ _ c.loop-at-test.true _ c.part_at-part.ensures c.in-Element.is _ c.named_at-s.ensures _ c.drawn_as-d.ensures _ _ c.walk_thing-e.ensures _ c.in-Ok.is) ∙ c.loop-at.invariant.2)

pub walk_content-returns-in-Close : goal.walk_content-returns-in-Close
walk_content-returns-in-Close t c = sym (content_close _ _ _ _ _ c.loop-at-test.true _ c.part_at-part.ensures _ c.in-Close.is) ∙ c.loop-at.invariant.2

pub walk_content-loop-at-smaller : goal.walk_content-loop-at-smaller
walk_content-loop-at-smaller t c = omega (arith, part_past _ _ _ _ c.part_at-part.ensures _ c.in-On.is)

pub walk_content-loop-at-preserved : goal.walk_content-loop-at-preserved
walk_content-loop-at-preserved t c = (omega (arith, part_past _ _ _ _ c.part_at-part.ensures _ c.in-On.is), search rules, sym (content_onward _ _ _ _ _ c.loop-at-test.true _ c.part_at-part.ensures _ c.in-On.is) ∙ c.loop-at.invariant.2)

pub walk_content-returns-in-Fault : goal.walk_content-returns-in-Fault
walk_content-returns-in-Fault t c = sym (content_fault _ _ _ _ _ c.loop-at-test.true _ c.part_at-part.ensures _ c.in-Fault.is) ∙ c.loop-at.invariant.2

pub walk_content-returns : goal.walk_content-returns
walk_content-returns t c = sym (content_end _ _ _ _ _ c.loop-at-test.false) ∙ c.loop-at.invariant.2

pub walk_thing-walk_content-requires : goal.walk_thing-walk_content-requires
walk_thing-walk_content-requires t c = (omega (arith, open_past _ _ _ _ c.enter-t.ensures _ c.in-Open.is, open_within _ _ _ _ c.enter-t.ensures _ c.in-Open.is), tt)

pub walk_thing-returns-in-Open : goal.walk_thing-returns-in-Open
walk_thing-returns-in-Open t c = c.walk_content.ensures ∙ sym (thing_open _ _ _ _ _ _ _ _ c.note.ensures _ c.counted-count.ensures _ c.enter-t.ensures _ c.in-Open.is)

pub walk_thing-returns-in-Empty : goal.walk_thing-returns-in-Empty
walk_thing-returns-in-Empty t c = sym (thing_empty _ _ _ _ _ _ _ _ c.note.ensures _ c.counted-count.ensures _ c.enter-t.ensures _ c.in-Empty.is)

pub walk_thing-returns-in-Fault : goal.walk_thing-returns-in-Fault
walk_thing-returns-in-Fault t c = sym (thing_fault _ _ _ _ _ _ _ _ c.note.ensures _ c.counted-count.ensures _ c.enter-t.ensures _ c.in-Fault.is)
