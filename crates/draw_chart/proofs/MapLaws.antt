-- The ways out of writing a map: the things again, a refusal, a drawing that is accepted. Assumes nothing.
use Prim.Native.Nat.{ℕ}
use mathlib.Core.Path.{◌≡◌, refl, sym, ◌∙◌, ap, ap₂}
use mathlib.Core.List.{List, map}
use lib.Dec.{eqb}
use lib.ListN.{replicate}
use borrow.Author.Tests.{eq-eqb, ne_eqb}
use Rattle.base_words.specs.Words.{greatest}
use Rattle.base_words.proofs.PickLaws.{pick_yes, pick_no}
use Rattle.write_buffer.specs.Buffers.{lesser}
use Rattle.write_lines.specs.Lines.{unread_line}
use Rattle.text_read.specs.declared.Reading.{Reading}
use Rattle.text_read.specs.Notation.{ReadInto, table_of, rewritten}
use Rattle.draw_things.specs.Things.{block_words}
use Rattle.draw_walk.specs.Walk.{Walk, walk, walk_told}
use Rattle.draw_walk.specs.declared.Walked.{Walked}
use Rattle.draw_model.specs.Content.{content}
use Rattle.draw_read.specs.Drawings.{settled_by, walked_text, things_of, answered, filled_by, draw_into}
use Rattle.draw_map.specs.Map.{map_of, map_by, map_text}

pub things_again : (text table v w : List ℕ) (r : Walked) → walk_told r v ≡ walk text (replicate block_words 0) → w ≡ settled_by text r.count v → map_of text table w r.count ≡ map_of text table (things_of text) (walked_text text).count
unfolding walk_told things_of walked_text
things_again text table v w r met e =
    ap₂ (map_of text table) (e ∙ ap (λ (x : Walk). settled_by text x.count x.words) met) (ap (λ (x : Walk). x.count) met)

module _ (text t v : List ℕ) (a : Reading) (e : record { number = a.number; beside = a.beside; table = v } ≡ draw_into text t) where
  number_is : a.number ≡ (answered text).number
  unfolding draw_into filled_by
  number_is = ap (λ (x : ReadInto). x.number) e

  beside_is : a.beside ≡ (answered text).beside
  unfolding draw_into filled_by
  beside_is = ap (λ (x : ReadInto). x.beside) e

  pub refused_is : (a.number ≡ 0 → ⊥) → unread_line a.number (lesser a.beside greatest) ≡ map_text text
  unfolding map_text map_by
  refused_is z = pick_no _ _ _ _ (ne_eqb _ _ (λ q. z (number_is ∙ q))) (ap₂ (λ (p q : ℕ). unread_line p (lesser q greatest)) number_is beside_is)

  table_is : a.number ≡ 0 → v ≡ table_of (map rewritten (content text (things_of text) (walked_text text).count))
  unfolding draw_into filled_by
  table_is z = ap (λ (x : ReadInto). x.table) e ∙ sym (pick_yes _ _ _ _ (eq-eqb _ _ (sym number_is ∙ z)) refl)

  pub accepted_is : a.number ≡ 0 → map_of text v (things_of text) (walked_text text).count ≡ map_text text
  unfolding map_text map_by
  accepted_is z = pick_yes _ _ _ _ (eq-eqb _ _ (sym number_is ∙ z)) (ap (λ (x : List ℕ). map_of text x (things_of text) (walked_text text).count) (table_is z))
