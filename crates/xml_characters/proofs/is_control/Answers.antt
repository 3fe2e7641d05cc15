use Rattle.xml_characters.proofs.ByteLaws.{control_low, control_high}
use Rattle.xml_characters.proofs.is_control.Goals as goal

pub returns-then-b-lt32 : goal.returns-then-b-lt32
returns-then-b-lt32 c = control_low _ _ c.if-b-lt32.true c.is_blank.ensures

pub returns-else-b-lt32 : goal.returns-else-b-lt32
returns-else-b-lt32 c = control_high _ c.if-b-lt32.false
