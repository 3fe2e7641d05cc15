use mathlib.Core.Path.{refl}
use Rattle.base_words.specs.Pick.{if◌then◌or_else◌}
use Rattle.xml_characters.specs.Names.{is_blank}
use Rattle.xml_scanner.specs.Tags.{behind, in_tag}
use Rattle.xml_markup.specs.Tokens.{whole_in_tag}
use Rattle.xml_markup.specs.Leaps.{here}
use Rattle.xml_markup.proofs.LeapLaws.{leads_on, closes_value}
use Rattle.xml_markup.proofs.leaping.leap_quote.Goals as goal

pub returns-then-text-i : goal.returns-then-text-i
returns-then-text-i c = rw c.stand.ensures here

pub returns-then-text-i-ne34 : goal.returns-then-text-i-ne34
returns-then-text-i-ne34 c = rw c.stand-then-text-i-ne34.ensures here

pub leap_blank-requires : goal.leap_blank-requires
unfolding in_tag whole_in_tag behind is_blank if◌then◌or_else◌
leap_blank-requires c = (refl, refl)

pub returns : goal.returns
returns c = leads_on _ (closes_value _ _ _ c.if-text-i.false c.if-text-i-ne34.false) c.leap_blank.ensures
