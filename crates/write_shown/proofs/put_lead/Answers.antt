use Rattle.write_buffer.proofs.OverLaws.{put_as, put_within, put_nothing}
use Rattle.write_shown.specs.Shown.{lead}
use Rattle.base_words.proofs.PickLaws.{pick_yes, pick_no}
use borrow.Author.Tests.{leb-true, eq-eqb, ne_eqb}
use mathlib.Core.Path.{refl}
use Rattle.write_shown.proofs.put_lead.Goals as goal

pub returns-then-k-eq0 : goal.returns-then-k-eq0
unfolding lead
returns-then-k-eq0 c = put_as _ (pick_yes _ _ _ _ (eq-eqb _ _ c.if-k-eq0.true) refl) (put_within (put_nothing _ _) (leb-true _ _ refl))

pub returns : goal.returns
unfolding lead
returns c = put_as _ (pick_no _ _ _ _ (ne_eqb _ _ c.if-k-eq0.false) refl) c.put_byte.ensures
