use Rattle.write_buffer.proofs.OverLaws.{put_as, put_within}
use Rattle.write_phrases.specs.Pieces.{shown_branch}
use Rattle.base_words.proofs.PickLaws.{pick_yes, pick_no}
use borrow.Author.Tests.{leb-true}
use mathlib.Core.Path.{refl}
use Rattle.write_phrases.proofs.put_branch.Goals as goal

pub returns-then-receives : goal.returns-then-receives
unfolding shown_branch
returns-then-receives c = put_as _ (pick_yes _ _ _ _ c.if-receives.true refl) c.put_receiving.ensures

pub returns : goal.returns
unfolding shown_branch
returns c = put_within (put_as _ (pick_no _ _ _ _ c.if-receives.false refl) c.put_guarded.ensures) (leb-true _ _ refl)
