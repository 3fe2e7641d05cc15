use mathlib.Core.Path.{◌∙◌, sym, ap}
use mathlib.Core.Bool.{not, false≢true}
use native.Mathlib.Omega.{arith}
use Rattle.std.proofs.Common.{length, ◌<◌}
use borrow.Author.Tests.{eq-eqb, eqb-false}
use Rattle.draw_links.proofs.NoteLaws.{up_otherwise}
use Rattle.draw_links.proofs.ids.begins_otherwise.Goals as goal

pub returns-then-a-text : goal.returns-then-a-text
returns-then-a-text c e q = let h : 0 < length c.args.v.now = omega (arith, eqb-false (length c.args.v.now) 0 (sym c.is_empty.ensures ∙ c.if-a-text.true.0)) in up_otherwise c.args.text.now c.args.v.now c.args.a q h (omega arith) (λ f. false≢true (ap not (sym (eq-eqb _ _ f)) ∙ e))
