-- The ways out of reading a drawing. Assumes nothing.
use Rattle.xml_skip.specs.Skipping.{Reached, fault_at}
use Rattle.std.specs.Prelude.{Ok, Err}
use Prim.Native.Nat.{ℕ, ◌≤◌, ◌<◌}
use mathlib.Core.Path.{◌≡◌, refl, sym, ◌∙◌, ap, ap₂, subst}
use mathlib.Core.Bool.{Bool, true, false, not, false≢true}
use mathlib.Core.List.{List, map}
use native.Mathlib.Omega.{arith}
use lib.Dec.{eqb, ltb}
use lib.ListN.{length, take, replicate}
use borrow.Author.Tests.{eq-eqb, ne_eqb, lt-ltb, le-ltb, lt-leb}
use Rattle.base_words.specs.Each.{each}
use Rattle.base_words.specs.Pick.{if◌then◌or_else◌}
use Rattle.base_words.specs.Words.{at}
use Rattle.base_words.proofs.PickLaws.{pick_yes, pick_no}
use Rattle.base_table.specs.Places.{table_words}
use Rattle.check_model.specs.Checks.{Pool, lowest}
use Rattle.check_verdict.specs.Verdict.{model_words, lowest_in}
use Rattle.text_readers.specs.Reading.{excessive}
use Rattle.text_ends.specs.Room.{room_in, judged_words}
use Rattle.text_passes.specs.Passes.{kept_all, kept_pool}
use Rattle.text_passes.proofs.FillLaws.{table_filled}
use Rattle.text_passes.proofs.MarkLaws.{judged_by, room_by}
use Rattle.text_rewrite.specs.InTable.{rewritten_in}
use Rattle.text_rewrite.proofs.TableLaws.{table_rewritten}
use Rattle.text_read.specs.declared.Reading.{Reading}
use Rattle.text_read.specs.Notation.{ReadInto, table_of, rewritten, has_room, answer_for}
use Rattle.draw_things.specs.Things.{room, block_words, place}
use Rattle.draw_walk.specs.Walk.{Walk, walk, walk_told}
use Rattle.draw_walk.specs.declared.Walked.{Walked}
use Rattle.draw_links.specs.Links.{links}
use Rattle.draw_kinds.specs.Roles.{roles, are_settled, settled_up_to}
use Rattle.draw_kinds.proofs.KindLaws.{kinds_all}
use Rattle.draw_faults.specs.Amiss.{is_drawing}
use Rattle.draw_faults.proofs.UnsettledLaws.{unsettled_amiss}
use Rattle.draw_limits.specs.Excess.{first_beyond, beyond_at}
use Rattle.draw_model.specs.Content.{content}
use Rattle.draw_read.specs.Drawings.{drawing_most, too_long, not_xml, not_run, answer, checked_as, meant_by, walked_text, settled_by, things_of, unless_fault, answered, filled_by, draw_into}
use Rattle.draw_read.proofs.RoomLaws.{content_fits}

abbrev with_table : Reading → List ℕ → ReadInto
with_table a v = record { number = a.number; beside = a.beside; table = v }

module _ (text w : List ℕ) (n : ℕ) where
  abbrev drawn : List Pool
  drawn = content text w n

  -- the model is answered by what the first pass kept of it
  pub answered_by : (m : List ℕ) (a : Reading) → m ≡ kept_all (kept_pool false) 0 drawn (replicate judged_words 0) → a ≡ answer_for (lowest_in (take model_words m)) (eqb (at m room_in) 0)
      → ltb (first_beyond text w n) n ≡ false → a ≡ checked_as drawn
  unfolding checked_as
  answered_by m a e f h = f ∙ ap₂ answer_for (judged_by drawn (content_fits text w n h) m e _ refl) (room_by drawn (content_fits text w n h) m e)

  -- the model fills the cleared table, and its pools are rewritten
  pub filled : (t u v y : List ℕ) → length t ≡ table_words → u ≡ replicate (length t) 0 → v ≡ kept_all (kept_pool true) 0 drawn u → y ≡ rewritten_in v
      → ltb (first_beyond text w n) n ≡ false → each has_room drawn ≡ true → y ≡ table_of (map rewritten drawn)
  filled t u v y l z e f h room =
      f ∙ ap rewritten_in (e ∙ table_filled drawn u (content_fits text w n h) (z ∙ ap (λ (k : ℕ). replicate k 0) l)) ∙ table_rewritten drawn (content_fits text w n h) room

module _ (text w : List ℕ) (n : ℕ) where
  -- what is answered 0 is not beyond the limits, and has room
  room_zero : (k : ℕ) (r : Bool) → (answer_for k r).number ≡ 0 → r ≡ true
  unfolding answer_for
  room_zero k r = go (eqb k 0) r
    where
      go : (c b : Bool) → ◌≡◌ {A = ℕ} (if c then (if b then 0 or_else 28) or_else 4) 0 → b ≡ true
      go true true e = refl
      go true false e = absurd (let z : ◌≡◌ {A = ℕ} 28 0 = unfold if◌then◌or_else◌ in e in omega (arith, z))
      go false b e = absurd (let z : ◌≡◌ {A = ℕ} 4 0 = unfold if◌then◌or_else◌ in e in omega (arith, z))

  checked_zero : (checked_as (content text w n)).number ≡ 0 → each has_room (content text w n) ≡ true
  unfolding checked_as
  checked_zero = room_zero (lowest (content text w n)) (each has_room (content text w n))

  not_beyond : (meant_by text w n).number ≡ 0 → (ltb (first_beyond text w n) n ≡ false) × (each has_room (content text w n) ≡ true)
  unfolding meant_by if◌then◌or_else◌
  not_beyond = go (is_drawing text w n) (ltb (first_beyond text w n) n) refl
    where
      go : (a b : Bool) → ltb (first_beyond text w n) n ≡ b
          → (if not a then answer not_run 0 or_else if b then answer excessive (beyond_at text w (first_beyond text w n)) or_else checked_as (content text w n)).number ≡ 0
          → (ltb (first_beyond text w n) n ≡ false) × (each has_room (content text w n) ≡ true)
      go false b e h = absurd (omega (arith, h))
      go true true e h = absurd (omega (arith, h))
      go true false e h = (e, checked_zero h)

  module _ (t : List ℕ) (a : Reading) (e : a ≡ meant_by text w n) where
    pub table_stays : (a.number ≡ 0 → ⊥) → with_table a t ≡ filled_by (meant_by text w n) (content text w n) t
    unfolding filled_by if◌then◌or_else◌
    table_stays z = rw (← e, ne_eqb a.number 0 z) refl

    pub table_drawn : (v : List ℕ) → a.number ≡ 0 → (ltb (first_beyond text w n) n ≡ false → each has_room (content text w n) ≡ true → v ≡ table_of (map rewritten (content text w n))) → with_table a v ≡ filled_by (meant_by text w n) (content text w n) t
    unfolding filled_by if◌then◌or_else◌
    table_drawn v z f =
        let right = not_beyond (ap (λ (r : Reading). r.number) (sym e) ∙ z) in
        rw (← e, eq-eqb a.number 0 z, f right.0 right.1) refl

module _ (text t : List ℕ) where
  pub too_long_lem : (a : Reading) → drawing_most < length text → a ≡ answer too_long 0 → with_table a t ≡ draw_into text t
  unfolding draw_into answered filled_by if◌then◌or_else◌
  too_long_lem a l e = rw (lt-ltb drawing_most (length text) l, e) refl

  module _ (short : length text ≤ drawing_most) (r : Walked) (v : List ℕ) (met : walk_told r v ≡ walk text (replicate block_words 0)) where
    abbrev n : ℕ
    n = r.count

    walk_met : walk_told r v ≡ walked_text text
    unfolding walked_text
    walk_met = met

    pub walk_stopped : (q : ℕ) (a : Reading) → r.end ≡ fault_at q → a ≡ answer not_xml q → with_table a t ≡ draw_into text t
    unfolding draw_into answered unless_fault walk_told filled_by if◌then◌or_else◌
    walk_stopped q a f e = rw (← walk_met, le-ltb drawing_most (length text) short, f, e) refl

    pub walk_done : (q : ℕ) (w : List ℕ) (u : ReadInto) → r.end ≡ Ok q → w ≡ settled_by text n v → u ≡ filled_by (meant_by text w n) (content text w n) t → u ≡ draw_into text t
    unfolding draw_into answered unless_fault walk_told things_of if◌then◌or_else◌
    walk_done q w u f s e = rw (← walk_met, le-ltb drawing_most (length text) short, f, ← s) e

    pub walk_amiss : (q : ℕ) (a : Reading) → r.end ≡ Ok q → is_drawing text (settled_by text n v) n ≡ false → a ≡ answer not_run 0 → with_table a t ≡ draw_into text t
    unfolding draw_into answered unless_fault walk_told things_of meant_by filled_by if◌then◌or_else◌
    walk_amiss q a f d e = rw (← walk_met, le-ltb drawing_most (length text) short, f, d, e) refl

-- what shows a drawing to be amiss before it is judged: more things than there is room for, or a node of no kind
pub settled_amiss : (text w u : List ℕ) (n : ℕ) → u ≡ links text n w → are_settled n u ≡ false → is_drawing text (settled_by text n w) n ≡ false
unfolding settled_by
settled_amiss text w u n e h = ap (λ (x : List ℕ). is_drawing text (roles n x) n) (sym e) ∙ unsettled_amiss text u n h

pub too_many_lem : (text w : List ℕ) (n : ℕ) → room < n → is_drawing text w n ≡ false
unfolding is_drawing
too_many_lem text w n h = rw (lt-leb n room h)

pub settled_right : (text w u x : List ℕ) (n : ℕ) → u ≡ links text n w → are_settled n u ≡ true → x ≡ settled_up_to n u → x ≡ settled_by text n w
unfolding settled_by
settled_right text w u x n e h f = f ∙ kinds_all n u h ∙ ap (roles n) e

-- an end that is past, or at fault
is_past : Reached → Bool
is_past (Ok z) = true
is_past (Err z) = false

pub not_stopped : {P : Type 0} (e : Reached) (p q : ℕ) → e ≡ Ok p → e ≡ fault_at q → P
unfolding is_past
not_stopped e p q f g = absurd (false≢true (sym (ap is_past g) ∙ ap is_past f))

fault_place : Reached → ℕ
fault_place (Ok z) = 0
fault_place (Err f) = f.place

pub stopped_there : (e : Reached) (p q : ℕ) (a : Reading) → e ≡ fault_at p → a ≡ answer not_xml p → e ≡ fault_at q → a ≡ answer not_xml q
unfolding fault_place
stopped_there e p q a f h g = h ∙ ap (answer not_xml) (ap fault_place (sym f ∙ g))

-- a test and what it tells
pub was_not : (r b : Bool) → r ≡ b → not r ≡ true → not b ≡ true
was_not r b e h = rw (← e) h

pub was : (r b : Bool) → r ≡ b → not r ≡ false → not b ≡ false
was r b e h = rw (← e) h
