use Rattle.write_buffer.proofs.OverLaws.{after}
use Rattle.write_phrases.specs.Pieces.{shown_branch}
use Rattle.write_shown.specs.Shown.{shown_guarded_list}
use Rattle.base_words.specs.Pick.{if◌then◌or_else◌}
use Rattle.write_phrases.proofs.put_guarded_list.Goals as goal

pub returns : goal.returns
unfolding shown_guarded_list shown_branch if◌then◌or_else◌
returns c = after c.put_byte-opener.ensures (after c.put_branches-end.ensures c.put_byte.ensures)
