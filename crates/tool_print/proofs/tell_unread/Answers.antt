use mathlib.Core.Path.{refl}
use borrow.Author.Tests.{leb-true}
use Rattle.write_buffer.proofs.OverLaws.{put_length}
use Rattle.tool_print.proofs.tell_unread.Goals as goal

pub returns : goal.returns
returns g c = put_length c.put_unread-n.ensures (leb-true _ _ refl)
