use mathlib.Core.Path.{◌≡◌, ◌∙◌, sym, refl}
use Prim.Native.Nat.{◌+◌, ◌-◌}
use native.Mathlib.Omega.{arith}
use lib.ListN.{length}
use borrow.Author.Tests.{le-leb, lt-leb}
use Rattle.base_words.proofs.PickLaws.{pick_yes, pick_no}
use Rattle.log_lines.specs.Entries.{values_from}
use Rattle.log_lines.proofs.Laws.{values_out, values_wrong, values_last, values_next}
use Rattle.log_lines.proofs.values_from.Goals as goal

pub returns-then-line-p : goal.returns-then-line-p
unfolding values_from
returns-then-line-p c = pick_yes _ _ _ _ (le-leb _ _ c.if-line-p.true) c.none.ensures

pub returns-in_default : goal.returns-in_default
unfolding values_from
returns-in_default c = pick_no _ _ _ _ (lt-leb _ _ c.if-line-p.false) (c.none-in_default.ensures ∙ sym (values_wrong _ _ _ _ c.number_up_to.ensures _ c.in_default.not-Value) ∙ c.loop-n.invariant)

pub returns-then-line-end : goal.returns-then-line-end
unfolding values_from
returns-then-line-end c = pick_no _ _ _ _ (lt-leb _ _ c.if-line-p.false) (c.values_given.ensures ∙ sym (values_last _ _ _ _ c.number_up_to.ensures _ c.in-Value.is _ c.run-end.ensures _ c.added-more.ensures _ (omega arith) c.if-line-end.true) ∙ c.loop-n.invariant)

pub loop-n-preserved : goal.loop-n-preserved
loop-n-preserved c =
    let e : length c.args.line.now - (c.loop-n._n + 1) ≡ length c.args.line.now - c.loop-n._n - 1 = omega arith in
    rw e (sym (values_next _ _ _ _ c.number_up_to.ensures _ c.in-Value.is _ c.run-end.ensures _ c.added-more.ensures _ (omega arith) c.if-line-end.false) ∙ c.loop-n.invariant)

pub returns : goal.returns
unfolding values_from
returns c = pick_no _ _ _ _ (lt-leb _ _ c.if-line-p.false) (c.none-2.ensures ∙ sym (values_out _ _ _ _ (omega arith)) ∙ c.loop-n.invariant)
