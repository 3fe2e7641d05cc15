use Rattle.step_history.proofs.CodeLaws.{post_noted}
use native.Mathlib.Omega.{arith}
use Rattle.step_history.proofs.note_post.Goals as goal

pub returns : goal.returns
returns c = (post_noted _ _ _ _ _ _ _ _ c.posts.ensures c.one_if-posted.ensures.0 c.moved_by_post-moved.ensures, c.one_if-posted.ensures.1, omega arith, omega arith)
