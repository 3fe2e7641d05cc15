use mathlib.Core.Bool.{not}
use mathlib.Core.Path.{◌∙◌, ap}
use Rattle.base_words.specs.Sum.{one_if}
use Rattle.check_tally.proofs.TallyLaws.{one_number, last_region, then_region}
use Rattle.check_summary.specs.Summary.{flag_regions}
use Rattle.check_summary.proofs.mark_flags.Goals as goal

pub returns : goal.returns
unfolding flag_regions
returns c = then_region _ _ _ _ _ (last_region _ _ _ (one_number _ _ _ _ _ _ c.mark-2.ensures (c.broken-binds.ensures ∙ ap (λ b. one_if (not b)) c.bound_once.ensures))) (one_number _ _ _ _ _ _ c.mark.ensures (c.broken-defaults.ensures ∙ ap (λ b. one_if (not b)) c.default_once.ensures))
