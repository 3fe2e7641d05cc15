use Rattle.write_buffer.proofs.OverLaws.{put_exact}
use Rattle.write_table.proofs.PartLaws.{keyword_short, keyword_by, prefix_by}
use lib.Seq.{length-take-le}
use mathlib.Core.Path.{sym}
use Rattle.write_table.proofs.put_keyword.Goals as goal

pub slice_bounds-keyword-end : goal.slice_bounds-keyword-end
slice_bounds-keyword-end c = prefix_by _ _ _ c.letters_of-letters.ensures c.keyword_of-keyword.ensures

pub slice_bounds-put_bytes-end : goal.slice_bounds-put_bytes-end
slice_bounds-put_bytes-end c = sym (length-take-le _ _ (prefix_by _ _ _ c.letters_of-letters.ensures c.keyword_of-keyword.ensures))

pub returns : goal.returns
returns c = put_exact _ (keyword_by _ _ _ c.letters_of-letters.ensures c.keyword_of-keyword.ensures) (keyword_short _) c.put_bytes.ensures
