use borrow.Author.Tests.{eq-eqb, ne_eqb}
use Rattle.base_words.proofs.PickLaws.{pick_no, pick_yes}
use Rattle.xml_document.specs.Decoding.{decoded_at}
use borrow.Author.Rules.{rules}
use Rattle.xml_document.proofs.decoding.decoded_at.Goals as goal

pub byte-requires : goal.byte-requires
unfolding decoded_at
byte-requires c = search rules

pub markup-m-requires : goal.markup-m-requires
unfolding decoded_at
markup-m-requires c = search rules

pub referred_at-requires : goal.referred_at-requires
unfolding decoded_at
referred_at-requires c = search rules

pub returns-then-byte-eq38 : goal.returns-then-byte-eq38
unfolding decoded_at
returns-then-byte-eq38 c = rw (← c.byte.ensures, ← c.markup-m.ensures) (pick_yes _ _ _ _ (eq-eqb _ _ c.if-byte-eq38.true) c.referred_at.ensures)

pub plain_at-requires : goal.plain_at-requires
unfolding decoded_at
plain_at-requires c = search rules

pub returns : goal.returns
unfolding decoded_at
returns c = rw (← c.byte.ensures) (pick_no _ _ _ _ (ne_eqb _ _ c.if-byte-eq38.false) c.plain_at.ensures)
