use Rattle.text_terms.proofs.ReaderLaws.{spelled_is, default_is, form_is}
use Rattle.base_words.proofs.PickLaws.{pick_yes, flag_is, pick_no}
use Rattle.text_terms.proofs.condition_word.Goals as goal

pub returns-then-is_spelled : goal.returns-then-is_spelled
returns-then-is_spelled c = pick_yes _ _ _ _ (flag_is _ _ _ (spelled_is _ _ _ _ c.requires.0 c.requires.1 _ _ c.is_spelled.ensures) c.if-is_spelled.true) (form_is _ _ _ _ c.requires.0 c.requires.1 _ _ c.keep_form.ensures)

pub returns-then-is_default : goal.returns-then-is_default
returns-then-is_default c = pick_no _ _ _ _ (flag_is _ _ _ (spelled_is _ _ _ _ c.requires.0 c.requires.1 _ _ c.is_spelled.ensures) c.if-is_spelled.false) (pick_yes _ _ _ _ (flag_is _ _ _ (default_is _ _ _ _ c.requires.0 c.requires.1 c.args.defaults _ c.is_default.ensures) c.if-is_default.true) (form_is _ _ _ _ c.requires.0 c.requires.1 _ _ c.keep_form-then-is_default.ensures))

pub returns : goal.returns
returns c = pick_no _ _ _ _ (flag_is _ _ _ (spelled_is _ _ _ _ c.requires.0 c.requires.1 _ _ c.is_spelled.ensures) c.if-is_spelled.false) (pick_no _ _ _ _ (flag_is _ _ _ (default_is _ _ _ _ c.requires.0 c.requires.1 c.args.defaults _ c.is_default.ensures) c.if-is_default.false) c.compared.ensures)
