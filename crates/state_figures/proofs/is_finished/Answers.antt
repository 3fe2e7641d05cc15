use Rattle.state_figures.specs.Figures.{is_finished}
use Rattle.state_figures.proofs.is_finished.Goals as goal

pub returns : goal.returns
unfolding is_finished
returns c = c.zero_words.ensures
