use Rattle.base_words.specs.Words.{at}
use Rattle.draw_model.proofs.element.put_guarded_exit.Goals as goal

pub returns : goal.returns
returns c = rw (c.put_guard.ensures, c.edge_of.ensures, c.word-b.ensures) at c.put_edge.ensures
