use mathlib.Core.Path.{sym, ◌∙◌, ap}
use Rattle.base_words.proofs.PickLaws.{pick_yes, pick_no}
use Rattle.base_words.specs.Words.{one_more}
use Rattle.base_words.proofs.PickLaws.{chains}
use Rattle.text_ends.specs.Room.{ends_with}
use borrow.Author.Rules.{rules}
use Rattle.text_ends.proofs.ends_with.Goals as goal

ruleset L = (rules, chains)

pub word-n-requires : goal.word-n-requires
unfolding ends_with
word-n-requires c = search L

pub is_end_snd-requires : goal.is_end_snd-requires
unfolding ends_with
is_end_snd-requires c = search L

pub one_more-requires : goal.one_more-requires
unfolding ends_with
one_more-requires c = search L

pub returns-then-is_end_snd : goal.returns-then-is_end_snd
unfolding ends_with
returns-then-is_end_snd c = pick_yes _ _ _ _ (sym c.is_end_snd.ensures ∙ c.if-is_end_snd.true) (c.one_more.ensures ∙ ap one_more c.word-n.ensures)

pub returns : goal.returns
unfolding ends_with
returns c = pick_no _ _ _ _ (sym c.is_end_snd.ensures ∙ c.if-is_end_snd.false) c.word-n.ensures
