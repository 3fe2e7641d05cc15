-- The ways out of reading. Assumes nothing.
use Prim.Native.Nat.{ℕ, ◌≤◌, ◌<◌}
use mathlib.Core.Path.{◌≡◌, refl, sym, ◌∙◌, ap, ap₂}
use mathlib.Core.Bool.{Bool, true, false}
use mathlib.Core.List.{List, map}
use native.Mathlib.Omega.{arith}
use lib.Dec.{eqb, ltb}
use lib.ListN.{length, take, replicate}
use borrow.Author.Tests.{eq-eqb, ne_eqb, eqb-true, lt-ltb, le-ltb}
use Rattle.base_words.specs.Each.{each}
use Rattle.base_words.specs.Pick.{if◌then◌or_else◌}
use Rattle.base_words.specs.Words.{at}
use Rattle.base_words.specs.Counts.{text_most}
use Rattle.base_words.proofs.PickLaws.{pick_yes, pick_no}
use Rattle.base_table.specs.Places.{table_words}
use Rattle.std.specs.declared.result.Result.TheVariants.{Ok, Err}
use Rattle.check_model.specs.Checks.{Pool, lowest}
use Rattle.check_verdict.specs.Verdict.{model_words, lowest_in}
use Rattle.text_read.specs.declared.Reading.{Reading}
use Rattle.text_read.specs.Notation.{Got, model, table_of, rewritten, has_room, ReadInto, checked, answer_for, judged, read_into}
use Rattle.text_passes.specs.Passes.{kept_all, kept_pool, Passed}
use Rattle.text_ends.specs.Room.{room_in, judged_words}
use Rattle.text_passes.proofs.MarkLaws.{judged_by, room_by}
use Rattle.text_passes.proofs.FillLaws.{table_filled}
use Rattle.text_passes.proofs.SizeLaws.{model_fits}
use Rattle.text_rewrite.specs.InTable.{rewritten_in}
use Rattle.text_rewrite.proofs.TableLaws.{table_rewritten}
use Rattle.text_readers.specs.Reading.{Read}
use Rattle.text_readers.specs.declared.Refusal.{Refusal}

-- the answer to a model, where calls say k of its lowest check broken and v of the word of its room
module _ (k j : ℕ) (e : k ≡ j) where
  pub check_failed : (n : ℕ) → (k ≡ 0 → ⊥) → ◌≡◌ {A = Reading} (record { number = 4; beside = k }) (answer_for j (eqb n 0))
  unfolding answer_for if◌then◌or_else◌
  check_failed n h = rw (← e, ne_eqb k 0 h)

  module _ (v n : ℕ) (g : v ≡ n) (z : k ≡ 0) where
    none_broken : j ≡ 0
    none_broken = sym e ∙ z

    pub all_passed : v ≡ 0 → ◌≡◌ {A = Reading} (record { number = 0; beside = 0 }) (answer_for j (eqb n 0))
    unfolding answer_for if◌then◌or_else◌
    all_passed h = rw (none_broken, eq-eqb n 0 (sym g ∙ h))

    pub none_free : (v ≡ 0 → ⊥) → ◌≡◌ {A = Reading} (record { number = 28; beside = 0 }) (answer_for j (eqb n 0))
    unfolding answer_for if◌then◌or_else◌
    none_free h = rw (none_broken, ne_eqb n 0 (λ q. h (g ∙ q)))

-- the second pass ends as the first did, and fills the cleared table; then its pools are rewritten
pub filled_by : (text t u v y : List ℕ) (r : Read) → length t ≡ table_words → u ≡ replicate (length t) 0 → Passed (kept_all (kept_pool true) 0) (model text) u r v → y ≡ rewritten_in v
    → (q : ℕ) → (model text).end ≡ Ok q → each has_room (model text).value ≡ true → y ≡ table_of (map rewritten (model text).value)
filled_by text t u v y r l e p w q h room =
    w ∙ ap rewritten_in (p.left q (p.ended ∙ h) ∙ table_filled (model text).value u (model_fits text) (e ∙ ap (λ n. replicate n 0) l)) ∙ table_rewritten (model text).value (model_fits text) room

-- the answer and the table, by the lowest check broken and by room
module _ (k : ℕ) (ps : List Pool) (t : List ℕ) where
  abbrev numbered : Bool → Bool → ℕ
  numbered c b = if c then (if b then 0 or_else 28) or_else 4

  stays : (c b : Bool) → eqb k 0 ≡ c → each has_room ps ≡ b → (numbered c b ≡ 0 → ⊥)
      → ◌≡◌ {A = ReadInto} (record { number = numbered c b; beside = k; table = t })
      (if c then (if b then record { number = 0; beside = 0; table = table_of (map rewritten ps) } or_else record { number = 28; beside = 0; table = t }) or_else record { number = 4; beside = k; table = t })
  unfolding if◌then◌or_else◌
  stays true true e f n = absurd (n refl)
  stays true false e f n = ap (λ (j : ℕ). record { number = 28; beside = j; table = t }) (eqb-true k 0 e)
  stays false b e f n = refl

  fills : (c b : Bool) → eqb k 0 ≡ c → each has_room ps ≡ b → numbered c b ≡ 0 → (v : List ℕ) → (each has_room ps ≡ true → v ≡ table_of (map rewritten ps))
      → ◌≡◌ {A = ReadInto} (record { number = numbered c b; beside = k; table = v })
      (if c then (if b then record { number = 0; beside = 0; table = table_of (map rewritten ps) } or_else record { number = 28; beside = 0; table = t }) or_else record { number = 4; beside = k; table = t })
  unfolding if◌then◌or_else◌
  fills true true e f n v h = ap₂ (λ (j : ℕ) (z : List ℕ). record { number = 0; beside = j; table = z }) (eqb-true k 0 e) (h f)
  fills true false e f n v h = absurd (omega (arith, n))
  fills false b e f n v h = absurd (omega (arith, n))

  module _ (a : Reading) (g : a ≡ answer_for k (each has_room ps)) where
    pub table_stays : (a.number ≡ 0 → ⊥) → record { number = a.number; beside = a.beside; table = t } ≡ checked k ps t
    unfolding checked answer_for
    table_stays n = rw g (stays (eqb k 0) (each has_room ps) refl refl (rw g at n))

    pub table_fills : a.number ≡ 0 → (v : List ℕ) → (each has_room ps ≡ true → v ≡ table_of (map rewritten ps)) → record { number = a.number; beside = a.beside; table = v } ≡ checked k ps t
    unfolding checked answer_for
    table_fills n v h = rw g (fills (eqb k 0) (each has_room ps) refl refl (rw g at n) v h)

module _ (text t : List ℕ) where
  pub too_long_lem : text_most < length text → record { number = 1; beside = 0; table = t } ≡ read_into text t
  unfolding read_into
  too_long_lem h = pick_yes _ _ _ _ (lt-ltb text_most (length text) h) refl

  module _ (short : length text ≤ text_most) (r : Read) (m : List ℕ) (p : Passed (kept_all (kept_pool false) 0) (model text) (replicate judged_words 0) r m) where
    by_end : (a : ReadInto) → a ≡ judged r (model text).value t → a ≡ read_into text t
    unfolding read_into
    by_end a e = pick_no _ _ _ _ (le-ltb text_most (length text) short) (e ∙ ap (λ (z : Read). judged z (model text).value t) p.ended)

    pub text_refused : (a : Reading) (d : Refusal) → r ≡ Err d → a ≡ record { number = d.number; beside = d.place } → record { number = a.number; beside = a.beside; table = t } ≡ read_into text t
    unfolding judged
    text_refused a d e f =
        by_end _ (ap (λ (z : Reading). record { number = z.number; beside = z.beside; table = t }) f ∙ sym (ap (λ (z : Read). judged z (model text).value t) e))

    module _ (q : ℕ) (e : r ≡ Ok q) (a : Reading) (f : a ≡ answer_for (lowest_in (take model_words m)) (eqb (at m room_in) 0)) where
      abbrev ps : List Pool
      ps = (model text).value

      answer_is : a ≡ answer_for (lowest ps) (each has_room ps)
      answer_is = f ∙ ap₂ answer_for (judged_by ps (model_fits text) m (p.left q e) _ refl) (room_by ps (model_fits text) m (p.left q e))

      by_lowest : (b : ReadInto) → b ≡ checked (lowest ps) ps t → b ≡ read_into text t
      unfolding judged
      by_lowest b h = by_end b (h ∙ sym (ap (λ (z : Read). judged z ps t) e))

      pub model_refused : (a.number ≡ 0 → ⊥) → record { number = a.number; beside = a.beside; table = t } ≡ read_into text t
      model_refused n = by_lowest _ (table_stays (lowest ps) ps t a answer_is n)

      pub text_read : a.number ≡ 0 → (v : List ℕ) → ((z : ℕ) → (model text).end ≡ Ok z → each has_room ps ≡ true → v ≡ table_of (map rewritten ps)) → record { number = a.number; beside = a.beside; table = v } ≡ read_into text t
      text_read n v h = by_lowest _ (table_fills (lowest ps) ps t a answer_is n v (h q (sym p.ended ∙ e)))
