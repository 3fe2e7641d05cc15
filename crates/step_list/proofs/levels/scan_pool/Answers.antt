use Rattle.step_list.proofs.LevelLaws.{pool_is}
use Rattle.step_names.proofs.ScanLaws.{passed_none, passed_more, level_before, level_last}
use Rattle.step_list.specs.Scanned.{scan_made}
use Rattle.base_state.specs.Instances.{made_count}
use mathlib.Core.List.{List}
use mathlib.Core.Path.{◌∙◌, ap}
use Prim.Native.Nat.{ℕ, ◌-◌}
use Rattle.step_list.proofs.levels.scan_pool.Goals as goal

pub loop-i-init : goal.loop-i-init
loop-i-init c = passed_none _ _

pub returns-then-r : goal.returns-then-r
returns-then-r c = level_before _ _ _ _ _ _ _ _ (pool_is _ _ _ _) (c.made_count-made.ensures ∙ ap (λ (l : List ℕ). made_count l c.args.p) c.instances_in.ensures) c.loop-i-test.true c.loop-i.invariant c.scan_made-r.ensures c.if-r.true

pub loop-i-preserved : goal.loop-i-preserved
loop-i-preserved c = passed_more _ _ _ _ _ c.loop-i.invariant c.scan_made-r.ensures c.if-r.false

pub returns : goal.returns
returns c = level_last _ _ _ _ _ _ _ _ (pool_is _ _ _ _) (c.made_count-made.ensures ∙ ap (λ (l : List ℕ). made_count l c.args.p) c.instances_in.ensures) c.loop-i-test.false c.loop-i.auto.i-end c.loop-i.invariant c.scan_made.ensures
