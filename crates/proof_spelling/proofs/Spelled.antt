-- THE THEOREM OF THE WISH, without going through the code: "an accepted drawing gives the table that the notation text with the same content gives". Where neither 1, 20, 21 nor 3 is due and every pool has an element,
-- `draw` and `read` of the spelled text agree in number, in the check beside 4 and in the table. Assumes nothing.
use Rattle.xml_skip.specs.Skipping.{Reached}
use Rattle.std.specs.Prelude.{Ok, Err}
use Prim.Native.Nat.{ℕ, suc, ◌≤◌, ◌<◌}
use mathlib.Core.Path.{◌≡◌, refl, sym, ◌∙◌, ap, subst}
use mathlib.Core.Bool.{Bool, true, false, not}
use mathlib.Core.List.{List, map}
use lib.Dec.{eqb, ltb}
use lib.ListN.{length}
use borrow.Author.Tests.{eqb-true, le-ltb}
use Rattle.base_words.specs.Counts.{text_most}
use Rattle.base_words.specs.Each.{each}
use Rattle.base_words.specs.Pick.{if◌then◌or_else◌}
use Rattle.base_words.proofs.PickLaws.{pick_no}
use Rattle.check_model.specs.Checks.{Pool, lowest}
use Rattle.text_readers.specs.Reading.{excessive}
use Rattle.std.specs.declared.result.Result.TheVariants.{Ok}
use Rattle.text_read.specs.declared.Reading.{Reading}
use Rattle.text_read.specs.Notation.{Got, ReadInto, model, table_of, rewritten, has_room, checked, answer_for, judged as judgedText, read_into}
use Rattle.draw_walk.specs.Walk.{Walk}
use Rattle.draw_faults.specs.Amiss.{is_drawing}
use Rattle.draw_limits.specs.Excess.{first_beyond, beyond_at}
use Rattle.draw_model.specs.Content.{content}
use Rattle.draw_read.specs.Drawings.{drawing_most, too_long, not_xml, not_run, answer, checked_as, meant_by, walked_text, things_of, unless_fault, answered, filled_by, draw_into}
use Rattle.proof_drawings.proofs.Fitting.{drawing_few}
use Rattle.proof_drawings.proofs.PlacedLaws.{things_placed, things_settled}
use Rattle.proof_spelling.specs.Spelling.{Participant, Collaboration, collaboration_in, collaboration_of, elements_in, spell}
use Rattle.proof_spelling.proofs.Contents.{content_read}
use Rattle.proof_spelling.proofs.Short.{spelled_short}

-- WHAT IS DUE: neither 1, 20, 21 nor 3
pub record Judged (text w : List ℕ) (n : ℕ) (a : Reading) : Type 0 where
  pub drawn : is_drawing text w n ≡ true
  pub beyond : ltb (first_beyond text w n) n ≡ false
  pub is : a ≡ checked_as (content text w n)

module _ (text w : List ℕ) (n : ℕ) where
  abbrev meaning : Bool → Bool → Reading
  meaning a b = if not a then answer not_run 0 or_else if b then answer excessive (beyond_at text w (first_beyond text w n)) or_else checked_as (content text w n)

  meant_judged : ((meant_by text w n).number ≡ not_run → ⊥) → ((meant_by text w n).number ≡ excessive → ⊥) → Judged text w n (meant_by text w n)
  unfolding meant_by
  meant_judged = go (is_drawing text w n) (ltb (first_beyond text w n) n) refl refl
    where
      go : (a b : Bool) → is_drawing text w n ≡ a → ltb (first_beyond text w n) n ≡ b → ((meaning a b).number ≡ not_run → ⊥) → ((meaning a b).number ≡ excessive → ⊥) → Judged text w n (meaning a b)
      go false b d q no-21 no-3 = absurd (no-21 (unfold if◌then◌or_else◌ in refl))
      go true true d q no-21 no-3 = absurd (no-3 (unfold if◌then◌or_else◌ in refl))
      go true false d q no-21 no-3 = record { drawn = d; beyond = q; is = unfold if◌then◌or_else◌ in refl }

abbrev given : List ℕ → Bool → Reached → Reading
given text b e = if b then answer too_long 0 or_else unless_fault e (meant_by text (things_of text) (walked_text text).count)

answered-judged : (text : List ℕ) → ((answered text).number ≡ too_long → ⊥) → ((answered text).number ≡ not_xml → ⊥) → ((answered text).number ≡ not_run → ⊥) → ((answered text).number ≡ excessive → ⊥)
    → Judged text (things_of text) (walked_text text).count (answered text)
unfolding answered
answered-judged text = go (ltb drawing_most (length text)) (walked_text text).end
  where
    go : (b : Bool) (e : Reached) → ((given text b e).number ≡ too_long → ⊥) → ((given text b e).number ≡ not_xml → ⊥) → ((given text b e).number ≡ not_run → ⊥) → ((given text b e).number ≡ excessive → ⊥) → Judged text (things_of text) (walked_text text).count (given text b e)
    go true e no-1 no-20 no-21 no-3 = absurd (no-1 (unfold if◌then◌or_else◌ in refl))
    go false (Ok q) no-1 no-20 no-21 no-3 = unfold if◌then◌or_else◌ unless_fault in meant_judged text (things_of text) (walked_text text).count no-21 no-3
    go false (Err q) no-1 no-20 no-21 no-3 = absurd (no-20 (unfold if◌then◌or_else◌ unless_fault in refl))

-- the same of a text that is walked to its end, of a drawing in which nothing is amiss or beyond
pub passed_judged : (text : List ℕ) (q : ℕ) → ltb drawing_most (length text) ≡ false → (walked_text text).end ≡ Ok q → is_drawing text (things_of text) (walked_text text).count ≡ true
    → ltb (first_beyond text (things_of text) (walked_text text).count) (walked_text text).count ≡ false → Judged text (things_of text) (walked_text text).count (answered text)
passed_judged text q l e d b = record { drawn = d; beyond = b; is = whole ∙ ap (λ (s : Reached). unless_fault s (meant_by text (things_of text) (walked_text text).count)) e ∙ walked_on ∙ meant }
  where
    whole : answered text ≡ unless_fault (walked_text text).end (meant_by text (things_of text) (walked_text text).count)
    whole = unfold answered in sym (pick_no (ltb drawing_most (length text)) _ _ _ l refl)

    walked_on : unless_fault (Ok q) (meant_by text (things_of text) (walked_text text).count) ≡ meant_by text (things_of text) (walked_text text).count
    walked_on = unfold unless_fault in refl

    meant : meant_by text (things_of text) (walked_text text).count ≡ checked_as (content text (things_of text) (walked_text text).count)
    meant =
        unfold meant_by in
        sym (pick_no (not (is_drawing text (things_of text) (walked_text text).count)) _ _ _ (ap not d)
        (pick_no (ltb (first_beyond text (things_of text) (walked_text text).count) (walked_text text).count) _ _ _ b refl))

-- what is checked of a model is the same of a drawing and of a text
checked_same : (ps : List Pool) (t : List ℕ) → checked (lowest ps) ps t ≡ filled_by (checked_as ps) ps t
unfolding checked filled_by checked_as answer_for
checked_same ps t = go (eqb (lowest ps) 0) refl (each has_room ps)
  where
    go : (b : Bool) → eqb (lowest ps) 0 ≡ b → (c : Bool)
        → ◌≡◌ {A = ReadInto}
        (if b then (if c then record { number = 0; beside = 0; table = table_of (map rewritten ps) } or_else record { number = 28; beside = 0; table = t }) or_else record { number = 4; beside = lowest ps; table = t })
        (record { number = if b then (if c then 0 or_else 28) or_else 4; beside = lowest ps; table = if eqb (if b then (if c then 0 or_else 28) or_else 4) 0 then table_of (map rewritten ps) or_else t })
    go true e true = unfold if◌then◌or_else◌ in ap (λ (v : ℕ). record { number = 0; beside = v; table = table_of (map rewritten ps) }) (sym (eqb-true (lowest ps) 0 e))
    go true e false = unfold if◌then◌or_else◌ in ap (λ (v : ℕ). record { number = 28; beside = v; table = t }) (sym (eqb-true (lowest ps) 0 e))
    go false e c = unfold if◌then◌or_else◌ in refl

-- A DRAWING
module _ (text t : List ℕ) where
  abbrev pub D : Collaboration
  D = collaboration_of text

  -- every pool has an element: document 01 has no text of a pool without one, and a drawing with such a pool is 4 beside 2 (R29)
  abbrev pub Full : Type 0
  Full = each (λ (p : Participant). ltb 0 (length (elements_in D p.process))) D.participants ≡ true

  module _ (due : Judged text (things_of text) (walked_text text).count (answered text)) (full : Full) where
    -- its text is read as the model that it means, and is not too long
    spelled_model : model (spell D) ≡ record { end = Ok (length (spell D)); value = content text (things_of text) (walked_text text).count }
    unfolding collaboration_of
    spelled_model = content_read text (things_of text) (walked_text text).count due.drawn due.beyond (things_settled text (drawing_few text (things_of text) (walked_text text).count due.drawn)) (things_placed text) full

    short : length (spell D) ≤ text_most
    unfolding collaboration_of
    short = spelled_short text (things_of text) (walked_text text).count due.drawn due.beyond (things_settled text (drawing_few text (things_of text) (walked_text text).count due.drawn)) (things_placed text)

    pub spelled_due : read_into (spell D) t ≡ draw_into text t
    unfolding read_into draw_into
    spelled_due =
        sym (pick_no (ltb text_most (length (spell D))) _ _ _ (le-ltb text_most (length (spell D)) short) refl)
        ∙ ap (λ (g : Got (List Pool)). judgedText g.end g.value t) spelled_model
        ∙ judge
        ∙ ap (λ (a : Reading). filled_by a (content text (things_of text) (walked_text text).count) t) (sym due.is)
      where
        judge : judgedText (Ok (length (spell D))) (content text (things_of text) (walked_text text).count) t ≡ filled_by (checked_as (content text (things_of text) (walked_text text).count)) (content text (things_of text) (walked_text text).count) t
        judge = unfold judgedText in checked_same (content text (things_of text) (walked_text text).count) t

  -- THE THEOREM
  pub spelled : ((draw_into text t).number ≡ too_long → ⊥) → ((draw_into text t).number ≡ not_xml → ⊥) → ((draw_into text t).number ≡ not_run → ⊥) → ((draw_into text t).number ≡ excessive → ⊥) → Full
      → read_into (spell D) t ≡ draw_into text t
  spelled no-1 no-20 no-21 no-3 full = spelled_due (unfold draw_into filled_by in answered-judged text no-1 no-20 no-21 no-3) full
