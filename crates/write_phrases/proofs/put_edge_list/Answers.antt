use Rattle.write_buffer.proofs.OverLaws.{after}
use Rattle.write_phrases.proofs.put_edge_list.Goals as goal

pub returns : goal.returns
returns c = after c.put_byte-opener.ensures (after c.put_edges-end.ensures c.put_byte.ensures)
