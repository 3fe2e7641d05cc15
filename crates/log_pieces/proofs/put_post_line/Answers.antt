use Rattle.log_pieces.proofs.PieceLaws.{post_line_lem}
use Rattle.write_buffer.proofs.OverLaws.{after}
use Rattle.log_pieces.proofs.put_post_line.Goals as goal

pub returns : goal.returns
returns c = post_line_lem _ _ (after (after (after c.put_bytes-post.ensures c.put_number-number.ensures) c.put_byte-colon.ensures) c.put_values.ensures)
