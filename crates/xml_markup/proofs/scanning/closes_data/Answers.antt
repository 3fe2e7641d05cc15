use borrow.Author.Tests.{ne_eqb}
use Rattle.base_words.specs.Pick.{if◌then◌or_else◌}
use Rattle.xml_markup.specs.Markup.{closes_data}
use Rattle.xml_markup.proofs.TextLaws.{data_not}
use Rattle.xml_markup.proofs.scanning.closes_data.Goals as goal

pub returns-else-byte-eq93 : goal.returns-else-byte-eq93
unfolding closes_data if◌then◌or_else◌
returns-else-byte-eq93 c = rw (ne_eqb _ _ c.if-byte-eq93.false) (data_not _ _ _ c.byte.ensures c.if-byte-eq93.false)
