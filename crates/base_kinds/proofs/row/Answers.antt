use Rattle.std.proofs.Common.{ap, ◌∙◌}
use Rattle.base_kinds.specs.Kinds.{kinds, kind_of}
use Rattle.base_kinds.proofs.TableLaws.{item_or}
use Rattle.base_kinds.proofs.row.Goals as goal

pub returns : goal.returns
unfolding kind_of
returns c = ap (λ x. x.now) c.unwrap_or.ensures ∙ item_or kinds c.args.k c.get.result _ c.get.ensures.lookup
