use mathlib.Core.Path.{refl}
use Rattle.base_words.specs.Pick.{if◌then◌or_else◌}
use Rattle.base_words.proofs.PickLaws.{flag_yes}
use Rattle.base_bytes.specs.Bytes.{between, is_letter, is_digit}
use Rattle.xml_characters.specs.Names.{is_blank, begins_name, is_name}
use Rattle.xml_scanner.specs.Tags.{behind, in_tag}
use Rattle.xml_markup.specs.Tokens.{whole_in_tag}
use Rattle.xml_markup.specs.Spans.{is_of, run}
use Rattle.xml_markup.specs.Staying.{stays_in_tag, stays}
use Rattle.xml_markup.specs.Leaps.{here}
use Rattle.xml_markup.proofs.LeapLaws.{leads_on, leads_stay, begins_tag}
use mathlib.Core.Path.{ap}
use mathlib.Core.Bool.{not}
use Rattle.xml_markup.proofs.leaping.leap_open.Goals as goal

pub returns-then-text-i : goal.returns-then-text-i
returns-then-text-i c = rw c.stand.ensures here

pub returns-then-not-begins_name : goal.returns-then-not-begins_name
returns-then-not-begins_name c = rw c.stand-then-not-begins_name.ensures here

pub leap_blank-requires : goal.leap_blank-requires
unfolding in_tag whole_in_tag is_name begins_name is_letter is_digit between behind is_blank if◌then◌or_else◌
leap_blank-requires c = (refl, refl)

pub returns : goal.returns
unfolding stays stays_in_tag is_of run
returns c = leads_on _ (leads_on _ (begins_tag _ _ _ c.if-text-i.false (flag_yes _ _ c.begins_name.ensures (ap not c.if-not-begins_name.false))) (leads_stay _ _ _ _ c.run-k.ensures)) c.leap_blank.ensures
