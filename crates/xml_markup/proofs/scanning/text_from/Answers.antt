use mathlib.Core.Path.{◌≡◌, ◌∙◌, refl, sym}
use native.Mathlib.Omega.{arith}
use Rattle.xml_markup.proofs.TextLaws.{text_stops, text_control, text_data, text_on, text_end}
use Rattle.xml_markup.proofs.scanning.text_from.Goals as goal

pub loop-i-init : goal.loop-i-init
loop-i-init c = (refl, λ h. refl)

pub returns-then-opens_markup : goal.returns-then-opens_markup
returns-then-opens_markup c = sym (text_stops _ _ c.loop-i-test.true (sym c.opens_markup.ensures ∙ c.if-opens_markup.true)) ∙ c.loop-i.invariant.0

pub returns-then-is_control : goal.returns-then-is_control
returns-then-is_control c = sym (text_control _ _ c.loop-i-test.true (sym c.opens_markup.ensures ∙ c.if-opens_markup.false) (sym c.is_control.ensures ∙ c.if-is_control.true)) ∙ c.loop-i.invariant.0

pub returns-then-closes_data : goal.returns-then-closes_data
returns-then-closes_data c = sym (text_data _ _ c.loop-i-test.true (sym c.opens_markup.ensures ∙ c.if-opens_markup.false) (sym c.is_control.ensures ∙ c.if-is_control.false) (sym c.closes_data.ensures ∙ c.if-closes_data.true)) ∙ c.loop-i.invariant.0

pub loop-i-preserved : goal.loop-i-preserved
loop-i-preserved c = (sym (text_on _ _ c.loop-i-test.true (sym c.opens_markup.ensures ∙ c.if-opens_markup.false) (sym c.is_control.ensures ∙ c.if-is_control.false) (sym c.closes_data.ensures ∙ c.if-closes_data.false)) ∙ c.loop-i.invariant.0, λ h. absurd (omega arith))

pub returns : goal.returns
returns c = let e : c.max.result ≡ c.loop-i.i = grind arith in rw e (sym (text_end _ _ c.loop-i-test.false) ∙ c.loop-i.invariant.0)
