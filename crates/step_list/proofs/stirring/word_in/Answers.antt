use mathlib.Core.Path.{sym, ◌∙◌}
use lib.Seq.{get_or-drop}
use Rattle.base_table.specs.Places.{element_place}
use Rattle.step_list.proofs.stirring.word_in.Goals as goal

pub returns : goal.returns
returns c = c.word.ensures ∙ sym (get_or-drop (element_place c.args.p c.args.e) c.args.t.now c.args.k 0)
