use native.Mathlib.Omega.{arith}
use Rattle.step_names.proofs.ScanLaws.{passed_none, passed_more, level_found, level_passed}
use Rattle.meaning.specs.Queues.{message_count}
use Rattle.base_words.proofs.JoinLaws.{those-joined}
use mathlib.Core.List.{List}
use mathlib.Core.Path.{◌∙◌, ap}
use Prim.Native.Nat.{ℕ, ◌-◌}
use Rattle.step_names.proofs.scan_messages.Goals as goal

pub loop-place-init : goal.loop-place-init
loop-place-init c = passed_none _ _

pub scan_message-r-requires : goal.scan_message-r-requires
scan_message-r-requires c = (omega (arith, c.loop-place-test.true, c.queued_in-count.ensures ∙ ap (λ (l : List ℕ). message_count l c.args.m) c.queues_in.ensures), c.element_for-el.ensures, c.requires)

pub returns-then-r : goal.returns-then-r
returns-then-r c = level_found _ _ _ _ _ _ _ _ (those-joined _ _ _) (c.queued_in-count.ensures ∙ ap (λ (l : List ℕ). message_count l c.args.m) c.queues_in.ensures) c.loop-place-test.true c.loop-place.invariant c.scan_message-r.ensures c.if-r.true

pub loop-place-preserved : goal.loop-place-preserved
loop-place-preserved c = passed_more _ _ _ _ _ c.loop-place.invariant c.scan_message-r.ensures c.if-r.false

pub returns : goal.returns
returns c = level_passed _ _ _ _ _ _ _ _ (those-joined _ _ _) (c.queued_in-count.ensures ∙ ap (λ (l : List ℕ). message_count l c.args.m) c.queues_in.ensures) c.loop-place-test.false c.loop-place.auto.place-end c.loop-place.invariant c.passed.ensures
