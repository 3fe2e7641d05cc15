use Rattle.base_words.proofs.PickLaws.{and_yes}
use Rattle.text_terms.proofs.is_default.Goals as goal

pub returns-then-defaults : goal.returns-then-defaults
returns-then-defaults c = and_yes _ _ _ c.if-defaults.true c.is_spelled.ensures
