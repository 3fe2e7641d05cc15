-- THE THEOREM OF DRAWINGS, over the public calls draw, write and read: a drawing that is accepted gives the table that the notation text with the same content gives. Assumes nothing.
use Prim.Native.Nat.{ℕ, ◌≤◌}
use mathlib.Core.Path.{◌≡◌, sym, ◌∙◌, ap, subst}
use mathlib.Core.Bool.{true}
use mathlib.Core.List.{List, map}
use lib.Dec.{eqb}
use lib.ListN.{length}
use borrow.Author.Tests.{eq-eqb}
use Rattle.base_words.specs.Counts.{text_most}
use Rattle.base_words.specs.Each.{each}
use Rattle.base_words.proofs.PickLaws.{and_true}
use Rattle.check_limits.specs.Limits.{table_fits}
use Rattle.check_model.specs.Checks.{Pool, lowest}
use Rattle.check_lowest.specs.Model.{model_of}
use Rattle.text_read.specs.Notation.{ReadInto, table_of, rewritten, has_room, read_into}
use Rattle.write_shown.specs.Shown.{shown_table}
use Rattle.engine.specs.Engine.{valid, verdict_of, freshened, written_to}
use Rattle.base_state.specs.Versions.{is_version}
use Rattle.engine.proofs.CallLaws.{asked_good}
use Rattle.proof_valid.proofs.ChecksHold.{valid_fits, valid_sound}
use Rattle.draw_model.specs.Content.{content}
use Rattle.draw_read.specs.Drawings.{walked_text, things_of, draw_into}
use Rattle.proof_lengths.proofs.Short.{short}
use Rattle.proof_roundtrip.proofs.LowestLaws.{lowest_same}
use Rattle.proof_roundtrip.proofs.EndModels.{Model}
use Rattle.proof_roundtrip.proofs.Rewritten.{rewritten_fits, rewritten_sound, none_left}
use Rattle.proof_roundtrip.proofs.ReadTables.{table_small, table_fits_lem, table_long, blocks_are}
use Rattle.proof_roundtrip.proofs.RoundTrip.{read_back}
use Rattle.proof_demands.specs.Demands.{Table, text_in, Made, NeverBad}
use Rattle.proof_demands.proofs.Numbers.{fresh_number}
use Rattle.proof_demands.proofs.FirstDemand.{check_passed}
use Rattle.proof_demands.proofs.NeverBad.{never_bad}
use Rattle.proof_demands.proofs.TextsAndTables.{write_fits, read_what_was_written}
use Rattle.proof_drawings.proofs.Fitting.{drawing_few}
use Rattle.proof_drawings.proofs.ContentModel.{content_model}
use Rattle.proof_drawings.proofs.PlacedLaws.{things_placed, things_settled}
use Rattle.proof_drawings.proofs.Answers.{drawn_clear, drawn_is}

-- the model that a drawing means
abbrev pub drawn_model : List ℕ → List Pool
drawn_model text = content text (things_of text) (walked_text text).count

-- A DRAWING THAT IS ACCEPTED
module _ (text t : List ℕ) (h : (draw_into text t).number ≡ 0) where
  -- its content is a model within its limits, with no check broken and room for what its endSnds become, and the table is that model's as it is rewritten
  pub accepted : Model (drawn_model text)
  accepted = let c = drawn_clear text t h in content_model text (things_of text) (walked_text text).count c.drawn c.beyond (things_settled text (drawing_few text (things_of text) (walked_text text).count c.drawn)) (things_placed text) c.sound

  pub accepted_sound : lowest (drawn_model text) ≡ 0
  accepted_sound = (drawn_clear text t h).sound

  accepted_room : each has_room (drawn_model text) ≡ true
  accepted_room = (drawn_clear text t h).room

  -- as it is rewritten, too
  abbrev rs : List Pool
  rs = map rewritten (drawn_model text)

  rewrites : Model rs
  rewrites = rewritten_fits (drawn_model text) accepted accepted_room

  pub accepted_table : draw_into text t ≡ record { number = 0; beside = 0; table = table_of rs }
  accepted_table = drawn_is text t h

  table_is : table_of rs ≡ (draw_into text t).table
  table_is = sym (ap (λ (r : ReadInto). r.table) accepted_table)

  fits : table_fits (table_of rs) ≡ true
  fits = table_fits_lem rs rewrites (none_left (drawn_model text) accepted accepted_room)

  sound : lowest (model_of (table_of rs)) ≡ 0
  sound = sym (lowest_same (table_of rs) fits) ∙ ap lowest (blocks_are rs rewrites) ∙ rewritten_sound (drawn_model text) accepted accepted_room accepted_sound

  model_valid : valid (table_of rs) ≡ true
  unfolding valid
  model_valid = and_true (table_fits (table_of rs)) (eqb (lowest (model_of (table_of rs))) 0) fits (eq-eqb (lowest (model_of (table_of rs))) 0 sound)

  model_table : Table (table_of rs)
  model_table = record { long = table_long rs rewrites; small = table_small rs rewrites }

  -- so it is a table that no later call refuses, and the three demands hold of it as of every other
  pub draw_valid : (valid (draw_into text t).table ≡ true) × Table (draw_into text t).table
  draw_valid = subst (λ (y : List ℕ). (valid y ≡ true) × Table y) table_is (model_valid, model_table)

  pub draw_then_check : verdict_of (draw_into text t).table ≡ record { number = 0; beside = 0 }
  draw_then_check = let y : List ℕ = (draw_into text t).table in check_passed y (valid_fits y draw_valid.0) (valid_sound y draw_valid.0)

  pub draw_then_fresh : (v : ℕ) → is_version v ≡ true → (z : List ℕ) → (freshened (draw_into text t).table v z).number ≡ 0
  draw_then_fresh v known z = fresh_number (draw_into text t).table v z ∙ asked_good (draw_into text t).table v draw_valid.0 known

  -- its text is written into every buffer of 65,536 bytes
  pub draw_then_write : (out : List ℕ) → text_most ≤ length out → (written_to (draw_into text t).table out).number ≡ 0
  draw_then_write out l = write_fits (draw_into text t).table out draw_valid.0 l

  -- THE THEOREM: and what is read of that text is what was drawn, whatever table is lent
  pub transcript : (out t₁ : List ℕ) → (written_to (draw_into text t).table out).number ≡ 0 → read_into (text_in (written_to (draw_into text t).table out)) t₁ ≡ draw_into text t
  transcript out t₁ n =
      read_what_was_written (draw_into text t).table draw_valid.1 draw_valid.0 out t₁ n
      ∙ ap (λ (y : List ℕ). record { number = 0; beside = 0; table = y }) (sym table_is)
      ∙ sym accepted_table

  -- the text that its table shows, read without a buffer between
  pub as_read : (t₁ : List ℕ) → read_into (shown_table (draw_into text t).table) t₁ ≡ draw_into text t
  as_read t₁ =
      let y : List ℕ = (draw_into text t).table in
      let v = draw_valid in
      read_back y t₁ v.1.small (valid_fits y v.0) (valid_sound y v.0) v.1.long (short y (valid_fits y v.0) (valid_sound y v.0))
      ∙ ap (λ (x : List ℕ). record { number = 0; beside = 0; table = x }) (sym table_is)
      ∙ sym accepted_table

  -- so what is proved of every table that was read is proved of one that was drawn: no call answers 10 or 25 to it
  pub draw_never_bad : (z : List ℕ) → Made (draw_into text t).table z → NeverBad (draw_into text t).table z
  draw_never_bad =
      subst (λ (r : ReadInto). (z : List ℕ) → Made r.table z → NeverBad r.table z) (as_read t)
      (never_bad (shown_table (draw_into text t).table) t (ap (λ (r : ReadInto). r.number) (as_read t) ∙ h))
