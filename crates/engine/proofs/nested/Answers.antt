use Rattle.base_words.proofs.PickLaws.{flag_yes, flag_no}
use Rattle.engine.proofs.ProfileLaws.{nested_bad, nested_all, nested_but}
use mathlib.Core.Path.{ap}
use mathlib.Core.Bool.{not}
use Rattle.engine.proofs.nested.Goals as goal

pub returns-then-not-is_valid : goal.returns-then-not-is_valid
returns-then-not-is_valid c = nested_bad _ (flag_no _ _ c.is_valid.ensures (ap not c.if-not-is_valid.true))

pub returns-then-p-pool_count : goal.returns-then-p-pool_count
returns-then-p-pool_count c = nested_but _ (flag_yes _ _ c.is_valid.ensures (ap not c.if-not-is_valid.false)) _ _ c.first_unnested-p.ensures c.pool_count.ensures c.if-p-pool_count.true _ c.number_at.ensures

pub returns : goal.returns
returns c = nested_all _ (flag_yes _ _ c.is_valid.ensures (ap not c.if-not-is_valid.false)) _ _ c.first_unnested-p.ensures c.pool_count.ensures c.if-p-pool_count.false
