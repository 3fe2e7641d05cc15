use mathlib.Core.Path.{◌∙◌, refl, ap}
use lib.ListN.{length}
use borrow.Author.Tests.{leb-true}
use Rattle.write_buffer.proofs.OverLaws.{put_length}
use Rattle.tool_print.proofs.JudgedLaws.{lawful_said, unlawful_said}
use Rattle.tool_print.proofs.tell_judged.Goals as goal

pub returns-then-r-eq0 : goal.returns-then-r-eq0
returns-then-r-eq0 g c = c.tell.ensures ∙ ap length (lawful_said _ _ _ c.if-r-eq0.true)

pub returns : goal.returns
returns g c = put_length c.put_unlawful-n.ensures (leb-true _ _ refl)
    ∙ ap length (unlawful_said _ _ _ c.if-r-eq0.false)
