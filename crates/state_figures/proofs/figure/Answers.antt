use mathlib.Core.Path.{◌∙◌}
use Rattle.state_figures.proofs.DeskLaws.{figured_first, figured_wrong, figured_right}
use Rattle.state_figures.proofs.figure.Goals as goal

pub returns-then-number-ne-ACCEPTED : goal.returns-then-number-ne-ACCEPTED
returns-then-number-ne-ACCEPTED c = figured_first _ _ _ _ c.if-number-ne-ACCEPTED.true

pub returns-then-rs-wide : goal.returns-then-rs-wide
returns-then-rs-wide c = figured_wrong _ _ _ _ _ c.pool_count.ensures c.if-number-ne-ACCEPTED.false (rw c.wide.ensures at c.if-rs-wide.true)

pub count-requires : goal.count-requires
count-requires c = c.if-rs-wide.false ∙ c.wide.ensures ∙ c.pool_count.ensures

pub returns : goal.returns
returns c = figured_right _ _ _ _ _ c.pool_count.ensures c.if-number-ne-ACCEPTED.false _
    (c.if-rs-wide.false ∙ c.wide.ensures) c.count.ensures
