use mathlib.Core.Path.{sym}
use Rattle.xml_markup.specs.Ahead.{key_at}
use Rattle.xml_markup.proofs.TokenLaws.{named_not}
use Rattle.xml_markup.proofs.AheadLaws.{other_named, kept_as}
use borrow.Author.Rules.{rules}
use Rattle.xml_markup.proofs.ahead.met_at.Goals as goal

pub returns-in_default : goal.returns-in_default
returns-in_default c = (search rules, λ f up name k. sym (named_not _ _ _ _ _ _ c.byte.ensures c.whole-w.ensures c.in_default.not-Attribute))

pub returns : goal.returns
returns c = (c.kept_at.ensures.0, λ f up name k. other_named _ name _ _ (λ e. c.kept_at.ensures.1 f up (kept_as (key_at c.args.all.now) c.args.v.now c.args.n _ _ name c.piece.ensures e k)))
