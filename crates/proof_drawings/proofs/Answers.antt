-- WHAT THE ANSWERS OF DRAW SAY: which numbers can come, that a refusal leaves the table, and what 0 says of the drawing. Assumes nothing.
use Rattle.xml_skip.specs.Skipping.{Reached}
use Rattle.std.specs.Prelude.{Ok, Err}
use Prim.Native.Nat.{ℕ, suc}
use mathlib.Core.Path.{◌≡◌, refl, ap, ap₂}
use mathlib.Core.Bool.{Bool, true, false, not}
use mathlib.Core.List.{List, [], ◌∷◌, map}
use native.Mathlib.Omega.{arith}
use lib.Dec.{eqb, ltb}
use lib.ListN.{length}
use borrow.Author.Tests.{eqb-true, ne_eqb}
use Rattle.base_words.specs.Each.{each}
use Rattle.base_words.specs.Pick.{if◌then◌or_else◌}
use Rattle.text_readers.specs.Reading.{excessive}
use Rattle.check_model.specs.Checks.{Pool, lowest}
use Rattle.text_read.specs.declared.Reading.{Reading}
use Rattle.text_read.specs.Notation.{table_of, rewritten, has_room, answer_for}
use Rattle.draw_faults.specs.Amiss.{is_drawing}
use Rattle.draw_limits.specs.Excess.{first_beyond, beyond_at}
use Rattle.draw_model.specs.Content.{content}
use Rattle.draw_read.specs.Drawings.{drawing_most, too_long, not_xml, not_run, answer, checked_as, meant_by, walked_text, things_of, unless_fault, answered, filled_by, draw_into}
use Rattle.proof_steps.proofs.Choices.{passed}
use Rattle.proof_demands.specs.Demands.{is_one_of}
use Rattle.proof_drawings.proofs.TermLaws.{either}

-- THE NUMBERS
abbrev pub draw_numbers : List ℕ
draw_numbers = 0 ∷ too_long ∷ excessive ∷ 4 ∷ not_xml ∷ not_run ∷ 28 ∷ []

record Told (a : Reading) : Type 0 where
  pub number : is_one_of draw_numbers a.number ≡ true

told : (n p : ℕ) → is_one_of draw_numbers n ≡ true → Told (answer n p)
told n p h = record { number = h }

checked_told : (ps : List Pool) → Told (checked_as ps)
unfolding checked_as answer_for is_one_of if◌then◌or_else◌
checked_told ps = go (eqb (lowest ps) 0) (each has_room ps)
  where
    go : (b c : Bool) → Told (answer (if b then (if c then 0 or_else 28) or_else 4) (lowest ps))
    go true true = record { number = refl }
    go true false = record { number = refl }
    go false c = record { number = refl }

too_long_lem : is_one_of draw_numbers too_long ≡ true
unfolding is_one_of if◌then◌or_else◌
too_long_lem = refl

beyond_told : is_one_of draw_numbers excessive ≡ true
unfolding is_one_of if◌then◌or_else◌
beyond_told = refl

xml_told : is_one_of draw_numbers not_xml ≡ true
unfolding is_one_of if◌then◌or_else◌
xml_told = refl

run_told : is_one_of draw_numbers not_run ≡ true
unfolding is_one_of if◌then◌or_else◌
run_told = refl

meant_told : (text w : List ℕ) (n : ℕ) → Told (meant_by text w n)
unfolding meant_by
meant_told text w n =
    either Told _ _ _ (told not_run 0 run_told)
    (either Told _ _ _ (told excessive _ beyond_told) (checked_told (content text w n)))

judged_told : (e : Reached) (a : Reading) → Told a → Told (unless_fault e a)
unfolding unless_fault
judged_told (Ok q) a h = h
judged_told (Err q) a h = told not_xml q.place xml_told

answered_told : (text : List ℕ) → Told (answered text)
unfolding answered
answered_told text = either Told _ _ _ (told too_long 0 too_long_lem) (judged_told (walked_text text).end _ (meant_told text (things_of text) (walked_text text).count))

-- "1, 20 .., 21, 3 .., 4 ..", 28, else 0; a number other than 0 leaves the table as it was
module _ (text t : List ℕ) where
  pub draw_number : is_one_of draw_numbers (draw_into text t).number ≡ true
  unfolding draw_into filled_by
  draw_number = (answered_told text).number

  pub draw_refused : ((draw_into text t).number ≡ 0 → ⊥) → (draw_into text t).table ≡ t
  unfolding draw_into filled_by
  draw_refused n = passed (eqb (answered text).number 0) _ t (ne_eqb (answered text).number 0 n)

-- WHAT 0 SAYS: w is the things of the drawing, n their count, a the answer
pub record Clear (text w : List ℕ) (n : ℕ) (a : Reading) : Type 0 where
  pub drawn : is_drawing text w n ≡ true
  pub beyond : ltb (first_beyond text w n) n ≡ false
  pub sound : lowest (content text w n) ≡ 0
  pub room : each has_room (content text w n) ≡ true
  pub is : a ≡ answer 0 0

none_more : (k : ℕ) → suc k ≡ 0 → ⊥
none_more k e = omega (arith, e)

checked_zero : (ps : List Pool) → (checked_as ps).number ≡ 0 → (lowest ps ≡ 0) × (each has_room ps ≡ true)
unfolding checked_as answer_for
checked_zero ps = go (eqb (lowest ps) 0) (each has_room ps) refl
  where
    go : (b c : Bool) → eqb (lowest ps) 0 ≡ b → ◌≡◌ {A = ℕ} (if b then (if c then 0 or_else 28) or_else 4) 0 → (lowest ps ≡ 0) × (c ≡ true)
    go true true q e = (eqb-true (lowest ps) 0 q, refl)
    go true false q e = absurd (none_more 27 (unfold if◌then◌or_else◌ in e))
    go false c q e = absurd (none_more 3 (unfold if◌then◌or_else◌ in e))

checked_is : (ps : List Pool) → lowest ps ≡ 0 → each has_room ps ≡ true → checked_as ps ≡ answer 0 0
unfolding checked_as answer_for if◌then◌or_else◌
checked_is ps e r = ap₂ answer_for e r

module _ (text w : List ℕ) (n : ℕ) where
  checked_clear : is_drawing text w n ≡ true → ltb (first_beyond text w n) n ≡ false → (checked_as (content text w n)).number ≡ 0 → Clear text w n (checked_as (content text w n))
  checked_clear d b e =
      let s = checked_zero (content text w n) e in
      record { drawn = d; beyond = b; sound = s.0; room = s.1; is = checked_is (content text w n) s.0 s.1 }

  abbrev meaning : Bool → Bool → Reading
  meaning a b = if not a then answer not_run 0 or_else if b then answer excessive (beyond_at text w (first_beyond text w n)) or_else checked_as (content text w n)

  meant_clear : (meant_by text w n).number ≡ 0 → Clear text w n (meant_by text w n)
  unfolding meant_by
  meant_clear = go (is_drawing text w n) (ltb (first_beyond text w n) n) refl refl
    where
      go : (a b : Bool) → is_drawing text w n ≡ a → ltb (first_beyond text w n) n ≡ b → (meaning a b).number ≡ 0 → Clear text w n (meaning a b)
      go false b d q e = absurd (none_more 20 (unfold if◌then◌or_else◌ in e))
      go true true d q e = absurd (none_more 2 (unfold if◌then◌or_else◌ in e))
      go true false d q e = unfold if◌then◌or_else◌ in checked_clear d q e

pub answered_clear : (text : List ℕ) → (answered text).number ≡ 0 → Clear text (things_of text) (walked_text text).count (answered text)
unfolding answered
answered_clear text = go (ltb drawing_most (length text)) (walked_text text).end
  where
    w : List ℕ
    w = things_of text

    n : ℕ
    n = (walked_text text).count

    go : (b : Bool) (e : Reached) → (if b then answer too_long 0 or_else unless_fault e (meant_by text w n)).number ≡ 0 → Clear text w n (if b then answer too_long 0 or_else unless_fault e (meant_by text w n))
    go true e h = absurd (none_more 0 (unfold if◌then◌or_else◌ in h))
    go false (Ok q) h = unfold if◌then◌or_else◌ unless_fault in meant_clear text w n h
    go false (Err q) h = absurd (none_more 19 (unfold if◌then◌or_else◌ unless_fault in h))

-- a table that was drawn is that of the content as it is rewritten
pub drawn_is : (text t : List ℕ) → (draw_into text t).number ≡ 0 → draw_into text t ≡ record { number = 0; beside = 0; table = table_of (map rewritten (content text (things_of text) (walked_text text).count)) }
unfolding draw_into filled_by if◌then◌or_else◌
drawn_is text t h = ap (λ (a : Reading). filled_by a (content text (things_of text) (walked_text text).count) t) (answered_clear text h).is

pub drawn_clear : (text t : List ℕ) → (draw_into text t).number ≡ 0 → Clear text (things_of text) (walked_text text).count (answered text)
unfolding draw_into filled_by
drawn_clear text t h = answered_clear text h
