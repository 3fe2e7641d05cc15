use mathlib.Core.Path.{refl, ap, ◌∙◌}
use mathlib.Core.Bool.{not}
use native.Mathlib.Omega.{arith}
use Rattle.base_words.proofs.AllLaws.{all_none}
use Rattle.state_figures.specs.Figures.{record_of, record_at, same_record}
use Rattle.state_figures.proofs.RecordLaws.{known_none, wrong_number, differs, all-agree, agrees_more}
use Rattle.state_figures.proofs.records_agree.Goals as goal

pub returns-then-rs-wide : goal.returns-then-rs-wide
returns-then-rs-wide c = wrong_number _ _ _ _ c.pool_count-pools.ensures (rw c.wide.ensures at c.if-rs-wide.true)

pub loop-p-init : goal.loop-p-init
loop-p-init c = (all_none (λ k. same_record (record_at c.args.rs.now k) (record_of c.args.s.now k)), known_none (record_of c.args.s.now) c.args.rs.now)

pub returns-then-not-record_agrees : goal.returns-then-not-record_agrees
returns-then-not-record_agrees c = differs _ _ _ _ c.pool_count-pools.ensures _ _ _ c.loop-p-test.true refl c.record_agrees.ensures.0 (ap not c.if-not-record_agrees.true)

pub loop-p-preserved : goal.loop-p-preserved
loop-p-preserved c = agrees_more c.args.rs.now _ _ _ _ (omega arith) refl c.record_agrees.ensures (ap not c.if-not-record_agrees.false) c.loop-p.invariant

pub returns : goal.returns
returns c = all-agree _ _ _ _ c.pool_count-pools.ensures _ (c.if-rs-wide.false ∙ c.wide.ensures) c.loop-p-test.false c.loop-p.auto.p-end c.loop-p.invariant.0 c.loop-p.invariant.1
