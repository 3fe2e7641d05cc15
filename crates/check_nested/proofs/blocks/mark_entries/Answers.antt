use mathlib.Core.Path.{◌∙◌, ap}
use Prim.Native.Nat.{ℕ}
use Rattle.base_words.specs.Each.{tab}
use Rattle.base_table.specs.Table.{entry_at}
use Rattle.check_tally.specs.Tally.{tally}
use Rattle.check_tally.proofs.TallyLaws.{tally_none, tally-more, tally_done}
use Rattle.check_nested.proofs.blocks.mark_entries.Goals as goal

pub loop-j-init : goal.loop-j-init
loop-j-init c = tally_none (entry_at c.args.el.now) _

pub loop-j-preserved : goal.loop-j-preserved
loop-j-preserved c = tally-more (entry_at c.args.el.now) c.args.s.now _ _ _ _ c.loop-j.invariant c.edge_at.ensures c.mark_one.ensures

pub returns : goal.returns
returns c =
    tally_done (entry_at c.args.el.now) c.args.s.now _ _ _ c.loop-j-test.false c.loop-j.auto.j-end c.loop-j.invariant
    ∙ ap (λ (n : ℕ). tally c.args.s.now (tab (entry_at c.args.el.now) n)) c.entry_count-j-end.ensures
