use mathlib.Core.Path.{refl, ◌∙◌}
use borrow.Author.Tests.{le-leb}
use Rattle.draw_links.proofs.NoteLaws.{up_cut, up_end_at, up_last_at, up_more, up_other, up_quote}
use Rattle.draw_links.proofs.ids.is_up_to.Goals as goal
use Rattle.draw_links.proofs.ids.is_up_to.Goals.{then-s-i-via-then-s-i, then-s-i-via-else-s-i+then-s-i-2, then-s-i-via-else-s-i+else-s-i-2+then-s-i-3}

pub loop-i-init : goal.loop-i-init
loop-i-init c = refl

pub returns-then-s-i : goal.returns-then-s-i
returns-then-s-i c =
    elim c.then-s-i.branch [
      | then-s-i-via-then-s-i w ↦ up_cut _ _ _ _ _ c.loop-i.invariant c.loop-i-test.true w.if-s-i.true
      | then-s-i-via-else-s-i+then-s-i-2 w ↦ up_other _ _ _ _ _ c.loop-i.invariant c.loop-i-test.true w.if-s-i.false w.if-s-i-2.true
      | then-s-i-via-else-s-i+else-s-i-2+then-s-i-3 w ↦ up_quote _ _ _ _ _ c.loop-i.invariant c.loop-i-test.true w.if-s-i.false w.if-s-i-2.false w.if-s-i-3.true
    ]

pub loop-i-preserved : goal.loop-i-preserved
loop-i-preserved c = up_more _ _ _ _ _ c.loop-i.invariant c.loop-i-test.true c.if-s-i.false c.if-s-i-2.false c.if-s-i-3.false

pub returns-then-s-v : goal.returns-then-s-v
returns-then-s-v c = le-leb _ _ c.if-s-v.true ∙ up_end_at _ _ _ _ _ c.loop-i.invariant c.loop-i-test.false c.loop-i.auto.i-end c.if-s-v.true

pub returns-else-s-v : goal.returns-else-s-v
returns-else-s-v c = up_last_at _ _ _ _ _ c.loop-i.invariant c.loop-i-test.false c.loop-i.auto.i-end c.if-s-v.false
