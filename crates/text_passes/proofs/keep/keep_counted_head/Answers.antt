use Rattle.base_words.proofs.PickLaws.{pick_no, pick_yes}
use Rattle.text_passes.proofs.keep.keep_counted_head.Goals as goal

pub returns-then-fills : goal.returns-then-fills
returns-then-fills c = pick_yes _ _ _ _ c.if-fills.true c.store_head.ensures

pub returns : goal.returns
returns c = pick_no _ _ _ _ c.if-fills.false c.judge_pool.ensures
