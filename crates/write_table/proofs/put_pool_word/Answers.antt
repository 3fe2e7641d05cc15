use Rattle.write_buffer.proofs.OverLaws.{put_as, put_within}
use Rattle.base_words.proofs.PickLaws.{pick_yes, pick_no}
use Rattle.write_table.specs.Pieces.{pool_word}
use borrow.Author.Tests.{leb-true, eq-eqb, ne_eqb}
use mathlib.Core.Path.{refl}
use Rattle.write_table.proofs.put_pool_word.Goals as goal

pub returns-then-n-eq0 : goal.returns-then-n-eq0
unfolding pool_word
returns-then-n-eq0 c = put_within (put_as _ (pick_yes _ _ _ _ (eq-eqb _ _ c.if-n-eq0.true) refl) c.put_bytes.ensures) (leb-true _ _ refl)

pub returns : goal.returns
unfolding pool_word
returns c = put_within (put_as _ (pick_no _ _ _ _ (ne_eqb _ _ c.if-n-eq0.false) refl) c.put_bytes-2.ensures) (leb-true _ _ refl)
