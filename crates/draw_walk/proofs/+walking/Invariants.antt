-- The measure is twice the bytes left, and one more for content: content calls a thing at the same place, and a thing calls content behind its tag.
-- The loop has not gone back, and content from `at` on is content from `p` on.
use Rattle.std.proofs.Common.{◌≡◌, ◌+◌, ◌-◌, ◌*◌, ◌≤◌, length}
use Rattle.draw_walk.specs.Walk.{content_at}
use Rattle.draw_walk.proofs.+walking.Given as goal

abbrev pub decreases-walk_content : goal.decreases-walk_content
decreases-walk_content l = 2 * (length l.text.now - l.p) + 1

abbrev pub decreases-walk_thing : goal.decreases-walk_thing
decreases-walk_thing l = 2 * (length l.text.now - l.p)

abbrev pub invariant-walk_content-loop-at : goal.invariant-walk_content-loop-at
invariant-walk_content-loop-at l = (l.p ≤ l.at) × (length l.w ≡ length l.initial.w) × (content_at l.text l.o l.at l.w l.count ≡ content_at l.text l.o l.p l.initial.w l.n)

abbrev pub decreases-walk_content-loop-at : goal.decreases-walk_content-loop-at
decreases-walk_content-loop-at l = length l.text - l.at
