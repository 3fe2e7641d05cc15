use Rattle.write_buffer.proofs.OverLaws.{after}
use Rattle.write_shown.specs.Shown.{shown_guarded}
use Rattle.write_phrases.proofs.put_guarded.Goals as goal

pub returns : goal.returns
unfolding shown_guarded
returns c = after c.put_byte-opener.ensures (after c.put_choice-end.ensures c.put_byte.ensures)
