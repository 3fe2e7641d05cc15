use Rattle.std.proofs.lemmas.Result.{err_from_is_err_and}
use Rattle.std.proofs.Common.{arith, sym, ◌∙◌}
use Rattle.xml_skip.proofs.Laws.{content_end, content_close, content_fault, content_onward, content_past, content_refused, part_past, element_past, element_deep, element_open, element_empty, element_fault, open_past, open_within}
use Rattle.xml_skip.proofs.+skipping.Goals as goal

pub skip_content-returns-in_err-at-in-Element : goal.skip_content-returns-in_err-at-in-Element
skip_content-returns-in_err-at-in-Element t c = let p = err_from_is_err_and c.from_residual.result c.from_residual.ensures.1 in
    rw (p.1, p.2, ← c.in_err-at-in-Element.was) (sym (content_refused _ _ _ _ c.loop-at-test.true _ c.part_at.ensures c.in-Element.is _ c.skip_element.ensures _ c.in_err-at-in-Element.was) ∙ c.loop-at.invariant.1)

pub skip_content-loop-at-smaller-in-Element : goal.skip_content-loop-at-smaller-in-Element
skip_content-loop-at-smaller-in-Element t c = omega (arith, element_past _ _ _ _ c.skip_element.ensures _ c.in_ok-at-in-Element.was)

pub skip_content-loop-at-preserved-in-Element : goal.skip_content-loop-at-preserved-in-Element
skip_content-loop-at-preserved-in-Element t c = (omega (arith, element_past _ _ _ _ c.skip_element.ensures _ c.in_ok-at-in-Element.was), sym (content_past _ _ _ _ c.loop-at-test.true _ c.part_at.ensures c.in-Element.is _ c.skip_element.ensures _ c.in_ok-at-in-Element.was) ∙ c.loop-at.invariant.1)

pub skip_content-returns-in-Close : goal.skip_content-returns-in-Close
skip_content-returns-in-Close t c = sym (content_close _ _ _ _ c.loop-at-test.true _ c.part_at.ensures _ c.in-Close.is) ∙ c.loop-at.invariant.1

pub skip_content-loop-at-smaller : goal.skip_content-loop-at-smaller
skip_content-loop-at-smaller t c = omega (arith, part_past _ _ _ _ c.part_at.ensures _ c.in-On.is)

pub skip_content-loop-at-preserved : goal.skip_content-loop-at-preserved
skip_content-loop-at-preserved t c = (omega (arith, part_past _ _ _ _ c.part_at.ensures _ c.in-On.is), sym (content_onward _ _ _ _ c.loop-at-test.true _ c.part_at.ensures _ c.in-On.is) ∙ c.loop-at.invariant.1)

pub skip_content-returns-in-Fault : goal.skip_content-returns-in-Fault
skip_content-returns-in-Fault t c = sym (content_fault _ _ _ _ c.loop-at-test.true _ c.part_at.ensures _ c.in-Fault.is) ∙ c.loop-at.invariant.1

pub skip_content-returns : goal.skip_content-returns
skip_content-returns t c = sym (content_end _ _ _ _ c.loop-at-test.false) ∙ c.loop-at.invariant.1

pub skip_element-returns-then-depth-eq0 : goal.skip_element-returns-then-depth-eq0
skip_element-returns-then-depth-eq0 t c = sym (element_deep _ _ _ c.if-depth-eq0.true)

pub skip_element-skip_content-requires : goal.skip_element-skip_content-requires
skip_element-skip_content-requires t c = (omega (arith, open_past _ _ _ c.if-depth-eq0.false _ c.markup.ensures _ c.tag_of.ensures _ c.in-Open.is, open_within _ _ _ c.if-depth-eq0.false _ c.markup.ensures _ c.tag_of.ensures _ c.in-Open.is), tt)

pub skip_element-returns-in-Open : goal.skip_element-returns-in-Open
skip_element-returns-in-Open t c = c.skip_content.ensures ∙ sym (element_open _ _ _ c.if-depth-eq0.false _ c.markup.ensures _ c.tag_of.ensures _ c.in-Open.is)

pub skip_element-returns-in-Empty : goal.skip_element-returns-in-Empty
skip_element-returns-in-Empty t c = sym (element_empty _ _ _ c.if-depth-eq0.false _ c.markup.ensures _ c.tag_of.ensures _ c.in-Empty.is)

pub skip_element-returns-in-Fault : goal.skip_element-returns-in-Fault
skip_element-returns-in-Fault t c = sym (element_fault _ _ _ c.if-depth-eq0.false _ c.markup.ensures _ c.tag_of.ensures _ c.in-Fault.is)
