use Rattle.std.proofs.Common.{rules, ◌∙◌, ap}
use Rattle.base_words.specs.Seek.{seek}
use Rattle.base_words.proofs.RangeLaws.{seek_of_range}
use Rattle.state_fits.specs.Fits.{is_start, start_place}
use Rattle.state_fits.proofs.pools.start_place.Goals as goal

pub returns : goal.returns
unfolding start_place
returns c =
    c.unwrap_or.ensures
    ∙ seek_of_range _ _ _ (is_start c.args.t.now c.args.p) _ c.find.ensures.ran (λ x q k. search rules) (λ x q k. search rules)
    ∙ ap (seek (is_start c.args.t.now c.args.p)) c.element_count-n.ensures
