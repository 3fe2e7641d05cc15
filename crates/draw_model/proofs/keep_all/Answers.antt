use Rattle.draw_model.proofs.KeptLaws.{put_in_summary, put_in_table}
use Rattle.draw_model.proofs.keep_all.Goals as goal

pub returns-then-fills : goal.returns-then-fills
returns-then-fills c =
    let p = put_in_table _ _ _ c.args.s.now c.args.v.now _ c.if-fills.true c.keep_elements.ensures in
    record { s_after = p.0; v_after = p.1 }

pub returns : goal.returns
returns c =
    let p = put_in_summary _ _ _ c.args.s.now c.args.v.now _ c.if-fills.false c.keep_elements-2.ensures in
    record { s_after = p.0; v_after = p.1 }
