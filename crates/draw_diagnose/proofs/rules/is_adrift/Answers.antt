use Rattle.base_words.proofs.AllLaws.{ne_eqb_by}
use Rattle.base_words.proofs.PickLaws.{and_yes}
use Rattle.base_words.proofs.PickLaws.{eqb_same}
use Rattle.base_words.proofs.PickLaws.{flag_is}
use Rattle.base_words.proofs.PickLaws.{or_no}
use Rattle.draw_diagnose.specs.Rules.{is_adrift}
use Rattle.draw_links.proofs.TestLaws.{and_told}
use Rattle.base_bytes.proofs.OrLaws.{or_told}
use borrow.Author.Tests.{eq-eqb}
use borrow.Author.Rules.{rules}
use Rattle.draw_diagnose.proofs.rules.is_adrift.Goals as goal

pub is_wrong_message-requires : goal.is_wrong_message-requires
unfolding is_adrift
is_wrong_message-requires c = search rules

pub source_of-requires : goal.source_of-requires
unfolding is_adrift
source_of-requires c = search rules

pub target_of-requires : goal.target_of-requires
unfolding is_adrift
target_of-requires c = search rules

pub returns-then-source_of-eq0 : goal.returns-then-source_of-eq0
unfolding is_adrift
returns-then-source_of-eq0 c = and_yes _ _ _ (flag_is _ _ _ c.is_wrong_message.ensures c.if-is_wrong_message.true) (or_told _ _ _ (eqb_same _ _ _ c.source_of.ensures) (eq-eqb _ _ c.if-source_of-eq0.true))

pub returns-else-source_of-eq0 : goal.returns-else-source_of-eq0
unfolding is_adrift
returns-else-source_of-eq0 c = and_yes _ _ _ (flag_is _ _ _ c.is_wrong_message.ensures c.if-is_wrong_message.true) (or_no _ _ _ (ne_eqb_by _ _ _ c.source_of.ensures c.if-source_of-eq0.false) (eqb_same _ _ _ c.target_of.ensures))

pub returns-else-is_wrong_message : goal.returns-else-is_wrong_message
unfolding is_adrift
returns-else-is_wrong_message c = and_told _ _ _ c.is_wrong_message.ensures c.if-is_wrong_message.false
