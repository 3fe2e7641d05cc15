-- The measure is twice the bytes left, and one more for content: content calls an element at the same place, and an element calls content behind its tag.
-- The loop has not gone back, and content from `at` on is content from `p` on.
use Rattle.std.proofs.Common.{◌≡◌, ◌+◌, ◌-◌, ◌*◌, ◌≤◌, length}
use Rattle.xml_skip.specs.Skipping.{content_at}
use Rattle.xml_skip.proofs.+skipping.Given as goal

abbrev pub decreases-skip_content : goal.decreases-skip_content
decreases-skip_content l = 2 * (length l.text.now - l.p) + 1

abbrev pub decreases-skip_element : goal.decreases-skip_element
decreases-skip_element l = 2 * (length l.text.now - l.p)

abbrev pub invariant-skip_content-loop-at : goal.invariant-skip_content-loop-at
invariant-skip_content-loop-at l = (l.p ≤ l.at) × (content_at l.text l.outer l.at l.depth ≡ content_at l.text l.outer l.p l.depth)

abbrev pub decreases-skip_content-loop-at : goal.decreases-skip_content-loop-at
decreases-skip_content-loop-at l = length l.text - l.at
