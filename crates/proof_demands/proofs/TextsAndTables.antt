-- THE ROUND TRIP by the public calls: "Reading what it wrote gives the same table; writing what was read from its own text gives that text." Assumes nothing.
use Prim.Native.Nat.{ℕ, ◌≤◌}
use mathlib.Core.Path.{◌≡◌, refl, sym, ◌∙◌, ap, subst}
use mathlib.Core.Bool.{true}
use mathlib.Core.Logic.{⊎_elim}
use mathlib.Core.List.{List, ◌++◌, map}
use native.Mathlib.Omega.{arith}
use lib.Dec.{eqb, ltb}
use lib.ListN.{length, drop}
use lib.Seq.{take-append_seam}
use borrow.Author.Tests.{le-ltb, eq-eqb}
use Rattle.base_words.specs.Counts.{text_most}
use Rattle.base_words.proofs.PickLaws.{and_true}
use Rattle.check_limits.specs.Limits.{table_fits}
use Rattle.check_model.specs.Checks.{lowest}
use Rattle.check_lowest.specs.Model.{model_of}
use Rattle.text_read.specs.Notation.{ReadInto, model, table_of, rewritten, read_into}
use Rattle.write_shown.specs.Shown.{shown_table}
use Rattle.base_state.specs.Versions.{is_version}
use Rattle.engine.proofs.CallLaws.{asked_good}
use Rattle.engine.specs.Engine.{valid, verdict_of, freshened, WrittenTo, written, written_to}
use Rattle.proof_steps.proofs.Choices.{by_choice, chosen, passed}
use Rattle.proof_valid.proofs.ChecksHold.{valid_fits, valid_sound}
use Rattle.proof_roundtrip.proofs.RoundTrip.{read_back, read_fits, read_small, read_long, read_sound}
use Rattle.proof_lengths.proofs.Short.{short}
use Rattle.proof_demands.specs.Demands.{Table, text_in}
use Rattle.proof_demands.proofs.Numbers.{fresh_number}
use Rattle.proof_demands.proofs.FirstDemand.{check_passed}
use Rattle.proof_demands.proofs.ReadAndWrite.{Whole, Stays, taken_either}

-- a valid table is written into every buffer that is not shorter than its text
pub written_whole : (t out : List ℕ) → valid t ≡ true → length (shown_table t) ≤ length out
    → written_to t out ≡ record { number = 0; length = length (shown_table t); buffer = shown_table t ++ drop (length (shown_table t)) out }
unfolding written_to written
written_whole t out v l = chosen (valid t) _ _ v ∙ passed (ltb (length out) (length (shown_table t))) _ _ (le-ltb (length out) (length (shown_table t)) l)

-- so into one of 65,536 bytes
pub write_fits : (t out : List ℕ) → valid t ≡ true → text_most ≤ length out → (written_to t out).number ≡ 0
write_fits t out v l = ap (λ (w : WrittenTo). w.number) (written_whole t out v (omega (arith, short t (valid_fits t v) (valid_sound t v), l)))

-- what was written with number 0 is the table's text
pub text_written : (t out : List ℕ) → (written_to t out).number ≡ 0 → text_in (written_to t out) ≡ shown_table t
unfolding written_to written
text_written t out =
    by_choice (λ (w : WrittenTo). w.number ≡ 0 → text_in w ≡ shown_table t) (valid t) (written (shown_table t) out) (record { number = 10; length = 0; buffer = out })
    (λ v.
    by_choice (λ (w : WrittenTo). w.number ≡ 0 → text_in w ≡ shown_table t) (ltb (length out) (length (shown_table t))) (record { number = 5; length = 0; buffer = out })
    (record { number = 0; length = length (shown_table t); buffer = shown_table t ++ drop (length (shown_table t)) out })
    (λ e n. absurd (omega (arith, n)))
    (λ e n. take-append_seam (shown_table t) (drop (length (shown_table t)) out)))
    (λ v n. absurd (omega (arith, n)))

length-written : (t out : List ℕ) → (written_to t out).number ≡ 0 → (written_to t out).length ≡ length (shown_table t)
unfolding written_to written
length-written t out =
    by_choice (λ (w : WrittenTo). w.number ≡ 0 → w.length ≡ length (shown_table t)) (valid t) (written (shown_table t) out) (record { number = 10; length = 0; buffer = out })
    (λ v.
    by_choice (λ (w : WrittenTo). w.number ≡ 0 → w.length ≡ length (shown_table t)) (ltb (length out) (length (shown_table t))) (record { number = 5; length = 0; buffer = out })
    (record { number = 0; length = length (shown_table t); buffer = shown_table t ++ drop (length (shown_table t)) out })
    (λ e n. absurd (omega (arith, n)))
    (λ e n. refl))
    (λ v n. absurd (omega (arith, n)))

module _ (t : List ℕ) (words : Table t) (v : valid t ≡ true) where
  pub read_what_was_written : (out t₀ : List ℕ) → (written_to t out).number ≡ 0 → read_into (text_in (written_to t out)) t₀ ≡ record { number = 0; beside = 0; table = t }
  read_what_was_written out t₀ n =
      ap (λ (text : List ℕ). read_into text t₀) (text_written t out n) ∙ read_back t t₀ words.small (valid_fits t v) (valid_sound t v) words.long (short t (valid_fits t v) (valid_sound t v))

  -- into a buffer that is long enough, which one of 65,536 bytes is
  pub write_what_was_read : (out t₀ out₂ : List ℕ) → (written_to t out).number ≡ 0 → (written_to t out).length ≤ length out₂
      → ((written_to (read_into (text_in (written_to t out)) t₀).table out₂).number ≡ 0)
      × (text_in (written_to (read_into (text_in (written_to t out)) t₀).table out₂) ≡ text_in (written_to t out))
  write_what_was_read out t₀ out₂ n l =
      let same : (read_into (text_in (written_to t out)) t₀).table ≡ t = ap (λ (r : ReadInto). r.table) (read_what_was_written out t₀ n) in
      let again : (written_to t out₂).number ≡ 0 = ap (λ (w : WrittenTo). w.number) (written_whole t out₂ v (subst (λ (k : ℕ). k ≤ length out₂) (length-written t out n) l)) in (
        ap (λ (y : List ℕ). (written_to y out₂).number) same ∙ again,
        ap (λ (y : List ℕ). text_in (written_to y out₂)) same ∙ text_written t out₂ again ∙ sym (text_written t out n),
      )

-- A TEXT THAT IS READ leaves a table that no later call refuses
module _ (text t₀ : List ℕ) (n : (read_into text t₀).number ≡ 0) where
  whole : Whole text (read_into text t₀)
  whole = ⊎_elim (λ (w : Whole text (read_into text t₀)). w) (λ (s : Stays t₀ (read_into text t₀)). absurd (s.refused n)) (taken_either text t₀)

  abbrev made : List ℕ
  made = table_of (map rewritten (model text).value)

  read_table : made ≡ (read_into text t₀).table
  read_table = sym (ap (λ (r : ReadInto). r.table) whole.is)

  model_valid : valid made ≡ true
  unfolding valid
  model_valid =
      and_true (table_fits made) (eqb (lowest (model_of made)) 0) (read_fits text whole.place whole.ended whole.room)
      (eq-eqb (lowest (model_of made)) 0 (read_sound text whole.place whole.ended whole.room whole.sound))

  model_table : Table made
  model_table = record { long = read_long text whole.place whole.ended whole.room; small = read_small text whole.place whole.ended whole.room }

  pub read_valid : (valid (read_into text t₀).table ≡ true) × Table (read_into text t₀).table
  read_valid = subst (λ (t : List ℕ). (valid t ≡ true) × Table t) read_table (model_valid, model_table)

  -- the check of it gives 0, and a fresh state of it is made
  pub read_then_check : verdict_of (read_into text t₀).table ≡ record { number = 0; beside = 0 }
  read_then_check = let t : List ℕ = (read_into text t₀).table in check_passed t (valid_fits t read_valid.0) (valid_sound t read_valid.0)

  pub read_then_fresh : (v : ℕ) → is_version v ≡ true → (z : List ℕ) → (freshened (read_into text t₀).table v z).number ≡ 0
  read_then_fresh v known z = fresh_number (read_into text t₀).table v z ∙ asked_good (read_into text t₀).table v read_valid.0 known

  -- and its own text, however the text that was read is spelled, is read as the same table
  pub read_write_read : (out t₁ : List ℕ) → (written_to (read_into text t₀).table out).number ≡ 0
      → read_into (text_in (written_to (read_into text t₀).table out)) t₁ ≡ record { number = 0; beside = 0; table = (read_into text t₀).table }
  read_write_read = read_what_was_written (read_into text t₀).table read_valid.1 read_valid.0
