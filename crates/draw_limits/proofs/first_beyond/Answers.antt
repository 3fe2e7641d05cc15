use Rattle.std.proofs.Common.{rules, ap, ◌∙◌}
use Rattle.base_words.specs.Seek.{seek}
use Rattle.base_words.proofs.RangeLaws.{seek_of_range}
use Rattle.draw_limits.specs.Excess.{first_beyond, is_beyond}
use Rattle.draw_limits.proofs.first_beyond.Goals as goal

pub returns : goal.returns
unfolding first_beyond
returns c =
    c.unwrap_or.ensures
    ∙ seek_of_range _ _ _ (is_beyond c.has_participants-owned.result c.args.text.now c.args.w.now c.args.n) _ c.find.ensures.ran (λ x q k. search rules) (λ x q k. search rules)
    ∙ ap (λ o. seek (is_beyond o c.args.text.now c.args.w.now c.args.n) c.args.n) c.has_participants-owned.ensures
