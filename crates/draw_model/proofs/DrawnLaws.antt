-- The words of an element, put one after the other. Assumes nothing.
use mathlib.Core.Path.{◌≡◌, ◌∙◌}
use mathlib.Core.List.{List}
use Prim.Native.Nat.{ℕ}
use lib.ListN.{length}
use Rattle.base_words.specs.Iter.{iter}
use Rattle.base_words.proofs.IterLaws.{iter_none}
use Rattle.base_table.specs.Places.{element_words}
use Rattle.text_elements.specs.Elements.{blank}
use Rattle.draw_things.specs.Things.{kind}
use Rattle.draw_model.specs.Drawn.{with_first, with_message, head_of}

-- the head, whatever stood in the words x
pub head_put : (w : List ℕ) (n k : ℕ) (x y z v : List ℕ) → y ≡ blank (kind w k) x → z ≡ with_first w n k y → v ≡ with_message w n k z → length x ≡ element_words → v ≡ head_of w n k
unfolding head_of blank
head_put w n k x y z v e f g l = rw (f, e, l) at g

-- a loop that starts from a state that was told
pub iter_from : {A : Type 0} (g : ℕ → A → A) (s t : A) → t ≡ s → t ≡ iter g s 0
iter_from g s t e = e ∙ iter_none g s
