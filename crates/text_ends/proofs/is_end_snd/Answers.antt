use Rattle.text_ends.specs.Rewriting.{is_end_snd}
use Rattle.text_ends.proofs.is_end_snd.Goals as goal

pub returns : goal.returns
unfolding is_end_snd
returns c = rw c.kind_in.ensures
