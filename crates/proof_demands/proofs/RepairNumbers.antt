-- WHAT A REPAIR LEAVES: which numbers can come, and that a refused one leaves the buffer as it was. text is a log, out the lent buffer. Assumes nothing.
use Rattle.xml_skip.specs.Skipping.{Reached}
use Rattle.std.specs.Prelude.{Ok, Err}
use Prim.Native.Nat.{ℕ, ◌-◌}
use mathlib.Core.Path.{◌≡◌, ◌∙◌, refl, ap}
use mathlib.Core.Bool.{Bool, true, false}
use mathlib.Core.List.{List, ◌++◌}
use lib.Dec.{ltb, eqb}
use lib.ListN.{length, drop}
use Rattle.base_words.specs.Pick.{if◌then◌or_else◌}
use Rattle.log_text.specs.declared.Cursor.{Cursor}
use Rattle.log_text.specs.Logs.{log_most, scan}
use Rattle.log_repair.specs.declared.Repaired.{Repaired}
use Rattle.log_repair.specs.Repair.{closed, is_lost, Repair, refused, repair_given, repaired_by, repaired_to}
use Rattle.proof_steps.proofs.Choices.{by_choice}
use Rattle.proof_demands.specs.Promises.{Repairs}
use Rattle.proof_demands.specs.Demands.{is_one_of, repair_numbers}

pub record Kept (out : List ℕ) (r : Repair) : Type 0 where
  pub among_them : is_one_of repair_numbers r.number ≡ true
  pub stays : (r.number ≡ 0 → ⊥) → (r.length ≡ 0) × (r.buffer ≡ out)

module _ (out : List ℕ) where
  given_kept : (w : List ℕ) (events dropped : ℕ) → Kept out (repair_given w events dropped out)
  unfolding repair_given refused is_one_of if◌then◌or_else◌
  given_kept w events dropped =
      by_choice (Kept out) (ltb log_most (length w)) _ _ (λ e. record { among_them = refl; stays = λ n. (refl, refl) })
      (λ e.
      by_choice (Kept out) (ltb (length out) (length w)) _ _ (λ f. record { among_them = refl; stays = λ n. (refl, refl) })
      (λ f. record { among_them = refl; stays = λ n. absurd (n refl) }))

  kept_by_lem : (s : Reached) (text : List ℕ) (c : Cursor) → Kept out (repaired_by s text c out)
  unfolding repaired_by refused is_one_of if◌then◌or_else◌
  kept_by_lem (Ok q) text c = given_kept text c.events 0
  kept_by_lem (Err q) text c =
      by_choice (Kept out) (is_lost q.place text c) _ (repair_given (closed text c) c.events (length text - c.kept) out) (λ e. record { among_them = refl; stays = λ n. (refl, refl) })
      (λ e. given_kept (closed text c) c.events (length text - c.kept))

  repaired_kept : (text : List ℕ) → Kept out (repaired_to text out)
  unfolding repaired_to
  repaired_kept text = kept_by_lem (scan text).end text (scan text).last

-- by its promise
module _ (text out : List ℕ) (r : Repaired) (y : List ℕ) (promise : Repairs text out r y) where
  repair_is : r.number ≡ (repaired_to text out).number
  repair_is = ap (λ (o : Repair). o.number) promise

  pub repair_number_is : is_one_of repair_numbers r.number ≡ true
  repair_number_is = ap (is_one_of repair_numbers) repair_is ∙ (repaired_kept out text).among_them

  pub repair_refused : (r.number ≡ 0 → ⊥) → (r.length ≡ 0) × (y ≡ out)
  repair_refused n =
      let s = (repaired_kept out text).stays (λ e. n (repair_is ∙ e)) in
      (ap (λ (o : Repair). o.length) promise ∙ s.0, ap (λ (o : Repair). o.buffer) promise ∙ s.1)
