use Rattle.draw_things.specs.Names.{rows}
use Rattle.draw_things.proofs.NameLaws.{length_is, row_longer, row_same}
use Rattle.draw_things.proofs.names.is_row.Goals as goal

pub returns-then-name-length : goal.returns-then-name-length
unfolding rows
returns-then-name-length c = row_longer _ _ _ (length_is _ _ c.byte-length.ensures) c.if-name-length.true

pub returns : goal.returns
unfolding rows
returns c = row_same _ _ _ (length_is _ _ c.byte-length.ensures) _ c.padded_name-row.ensures _ c.piece.ensures _ c.same.ensures
