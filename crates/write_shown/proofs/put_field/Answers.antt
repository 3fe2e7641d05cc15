use mathlib.Core.Path.{refl}
use borrow.Author.Tests.{lt-ltb, le-ltb}
use Rattle.base_words.proofs.PickLaws.{pick_yes, pick_no}
use Rattle.write_buffer.proofs.OverLaws.{put_as}
use Rattle.write_shown.specs.Shown.{shown_field}
use Rattle.write_shown.proofs.put_field.Goals as goal

pub returns-then-d-lt-FIELDS : goal.returns-then-d-lt-FIELDS
unfolding shown_field
returns-then-d-lt-FIELDS c = put_as _ (pick_yes _ _ _ _ (lt-ltb _ _ c.if-d-lt-FIELDS.true) refl) c.put_lettered.ensures

pub returns : goal.returns
unfolding shown_field
returns c = put_as _ (pick_no _ _ _ _ (le-ltb _ _ c.if-d-lt-FIELDS.false) refl) c.put_lettered-2.ensures
