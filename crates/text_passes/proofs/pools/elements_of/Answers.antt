use Rattle.text_passes.proofs.PoolLaws.{only_summed, only_placed}
use Rattle.text_passes.proofs.pools.elements_of.Goals as goal

pub returns-then-fills : goal.returns-then-fills
returns-then-fills c =
    let p = only_placed _ _ c.args.s.now _ _ _ _ c.if-fills.true c.elements_at.ensures in
    record { passed = p.0; passed_2 = p.1 }

pub returns : goal.returns
returns c =
    let p = only_summed _ _ _ c.args.w.now _ _ _ c.if-fills.false c.elements_at-2.ensures in
    record { passed = p.0; passed_2 = p.1 }
