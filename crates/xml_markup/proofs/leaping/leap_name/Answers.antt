use Rattle.base_words.proofs.PickLaws.{flag_yes}
use Rattle.xml_markup.specs.Spans.{is_of, run}
use Rattle.xml_markup.specs.Staying.{stays_in_tag, stays}
use Rattle.xml_markup.specs.Leaps.{here}
use Rattle.xml_markup.proofs.LeapLaws.{leads_on, leads_stay, begins_attribute}
use mathlib.Core.Path.{ap}
use mathlib.Core.Bool.{not}
use Rattle.xml_markup.proofs.leaping.leap_name.Goals as goal

pub returns-then-text-i : goal.returns-then-text-i
returns-then-text-i c = rw c.stand.ensures here

pub returns-then-not-begins_name : goal.returns-then-not-begins_name
returns-then-not-begins_name c = rw c.stand-then-not-begins_name.ensures here

pub returns : goal.returns
unfolding stays stays_in_tag is_of run
returns c = rw c.stand-2.ensures (leads_on _ (begins_attribute _ _ _ c.if-text-i.false (flag_yes _ _ c.begins_name.ensures (ap not c.if-not-begins_name.false))) (leads_stay _ _ _ _ c.run-k.ensures))
