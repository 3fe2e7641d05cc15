use mathlib.Core.Path.{◌∙◌}
use Rattle.base_words.proofs.PickLaws.{flag_is}
use Rattle.text_lexer.proofs.ClassLaws.{sign_runs}
use Rattle.base_bytes.proofs.OrLaws.{ors}
use borrow.Author.Rules.{rules}
use Rattle.text_lexer.proofs.is_sign.Goals as goal

ruleset L = (rules, ors, flag_is)

pub between-requires : goal.between-requires
between-requires c = search L

pub returns-then-between : goal.returns-then-between
returns-then-between c = search L ∙ sign_runs _ (search L)

pub between-requires-2 : goal.between-requires-2
between-requires-2 c = search L

pub returns-then-between-2 : goal.returns-then-between-2
returns-then-between-2 c = search L ∙ sign_runs _ (search L)

pub between-requires-3 : goal.between-requires-3
between-requires-3 c = search L

pub between-requires-else-between-3 : goal.between-requires-else-between-3
between-requires-else-between-3 c = search L

pub returns-then-between-3 : goal.returns-then-between-3
returns-then-between-3 c = search L ∙ sign_runs _ (search L)

pub returns-else-between-3 : goal.returns-else-between-3
returns-else-between-3 c = search L ∙ sign_runs _ (search L)
