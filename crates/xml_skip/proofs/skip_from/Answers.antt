use mathlib.Core.Path.{refl}
use Rattle.base_words.specs.Pick.{if◌then◌or_else◌}
use Rattle.xml_skip.specs.Skipping.{by_tag, element_by, element_at, skipped}
use borrow.Author.Rules.{rules}
use Rattle.xml_skip.proofs.skip_from.Goals as goal

pub skip_content-requires : goal.skip_content-requires
unfolding skipped element_at element_by by_tag if◌then◌or_else◌
skip_content-requires c = search rules

pub returns-in-Open : goal.returns-in-Open
unfolding skipped element_at element_by by_tag if◌then◌or_else◌
returns-in-Open c = rw (← c.requires, c.in-Open.is) c.skip_content.ensures

pub returns-in-Empty : goal.returns-in-Empty
unfolding skipped element_at element_by by_tag if◌then◌or_else◌
returns-in-Empty c = rw (← c.requires, c.in-Empty.is) refl

pub returns-in-Fault : goal.returns-in-Fault
unfolding skipped element_at element_by by_tag if◌then◌or_else◌
returns-in-Fault c = rw (← c.requires, c.in-Fault.is) refl
