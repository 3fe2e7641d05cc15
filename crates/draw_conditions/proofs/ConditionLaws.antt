-- The condition of an element by its tag. Assumes nothing.
use mathlib.Core.Path.{◌≡◌, ◌∙◌, refl, sym}
use mathlib.Core.Bool.{false}
use mathlib.Core.List.{List, []}
use Prim.Native.Nat.{ℕ}
use Rattle.base_words.specs.Pick.{if◌then◌or_else◌}
use Rattle.xml_scanner.specs.declared.Sort.{Sort}
use Rattle.xml_scanner.specs.declared.Sort.TheVariants.{StartTag, EmptyTag, EndTag, Text, Reference, Comment, Data, Instruction, End as TheEnd, Fault}
use Rattle.xml_markup.specs.declared.Scan.{Scan}
use Rattle.xml_markup.specs.declared.Scan.TheVariants.{Past}
use Rattle.draw_conditions.specs.Outline.{outline}
use Rattle.draw_conditions.proofs.OutlineLaws.{past_is, past_not}
use Rattle.draw_conditions.specs.declared.Condition.{Condition}
use Rattle.draw_conditions.specs.declared.saying.Spot.{Spot}
use Rattle.draw_conditions.specs.declared.spelled.Class.TheVariants.{Blanks}
use Rattle.draw_conditions.specs.Saying.{spot, said, said_by, said_at}
use Rattle.draw_conditions.specs.Words.{behind, is_over}
use Rattle.draw_conditions.specs.Conditions.{absent, bare, condition_of, condition_at}

none : (s : Sort) (t : List ℕ) (q : ℕ) → (s ≡ StartTag → ⊥) → said_by s t q ≡ []
unfolding said_by
none StartTag t q o = absurd (o refl)
none EmptyTag t q o = refl
none EndTag t q o = refl
none Text t q o = refl
none Reference t q o = refl
none Comment t q o = refl
none Data t q o = refl
none Instruction t q o = refl
none TheEnd t q o = refl
none Fault t q o = refl

module _ (t : List ℕ) (p : ℕ) (o : Scan) (eo : o ≡ outline t p) (r : Condition) where
  -- no markup's end
  pub at_fault : ((v : Sort) (w : ℕ) → o ≡ Past v w → ⊥) → r ≡ bare absent → r ≡ condition_at t p
  unfolding if◌then◌or_else◌ said_at behind is_over condition_of condition_at
  at_fault f h = h ∙ sym (rw (← eo, past_not o (λ s q. said_by s t q) [] f))

  module _ (s : Sort) (q : ℕ) (e : o ≡ Past s q) where
    pub at_none : (s ≡ StartTag → ⊥) → r ≡ bare absent → r ≡ condition_at t p
    unfolding if◌then◌or_else◌ said_at behind is_over condition_of condition_at
    at_none f h = h ∙ sym (rw (← eo, past_is o (λ s q. said_by s t q) [] s q e, none s t q f))

    pub at_start : s ≡ StartTag → (z : Spot) → said t z ≡ behind Blanks (said t (spot false q)) → r ≡ condition_of (said t z) → r ≡ condition_at t p
    unfolding said_by said_at condition_at
    at_start k z f h = h ∙ rw (f, ← eo, past_is o (λ s q. said_by s t q) [] s q e, k)
