use Rattle.step_take.proofs.StateLaws.{back}
use Rattle.step_effects.specs.Effects.{delivered_by}
use Rattle.base_state.specs.Places.{instances_words}
use Rattle.base_words.proofs.BlockLaws.{tail_in}
use Prim.Native.Nat.{ℕ}
use mathlib.Core.List.{List}
use mathlib.Core.Path.{ap, ◌∙◌}
use Rattle.step_take.proofs.halves.deliver_in.Goals as goal

pub returns : goal.returns
returns c = back instances_words c.args.z.now _ _ (c.deliver.ensures ∙ ap (λ (l : List ℕ). delivered_by c.args.m c.args.name c.args.g c.args.sent l) (tail_in c.args.z.now instances_words))
