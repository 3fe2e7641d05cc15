-- THE ROUND TRIP: "Reading what it wrote gives the same table; writing what was read from its own text gives that text." Assumes nothing.
use Prim.Native.Nat.{ℕ, ◌≤◌}
use mathlib.Core.Path.{◌≡◌, ◌∙◌, refl, sym, ap}
use mathlib.Core.Bool.{true}
use mathlib.Core.List.{List, map}
use lib.Dec.{eqb, ltb}
use lib.ListN.{length}
use borrow.Author.Tests.{le-ltb, eq-eqb}
use Rattle.base_words.specs.Counts.{text_most}
use Rattle.base_words.specs.Each.{each}
use Rattle.base_words.specs.Words.{at, greatest}
use Rattle.base_words.proofs.PickLaws.{pick_yes, pick_no}
use Rattle.base_table.specs.Places.{table_words}
use Rattle.check_limits.specs.Limits.{table_fits}
use Rattle.std.specs.declared.result.Result.TheVariants.{Ok}
use Rattle.check_model.specs.Checks.{Pool, lowest}
use Rattle.check_lowest.specs.Model.{model_of}
use Rattle.text_read.specs.Notation.{Got, ReadInto, model, table_of, rewritten, has_room, checked, judged, read_into}
use Rattle.write_shown.specs.Shown.{shown_table}
use Rattle.proof_roundtrip.proofs.EndModels.{Every, Model}
use Rattle.proof_roundtrip.proofs.Rewritten.{Plain, left_alone, room_without, none_left, rewritten_fits, rewritten_sound}
use Rattle.proof_roundtrip.specs.Blocks.{blocks_of}
use Rattle.proof_roundtrip.proofs.ModelReads.{model_read}
use Rattle.proof_roundtrip.proofs.TableLaws.{table_same}
use Rattle.proof_roundtrip.proofs.LowestLaws.{lowest_same}
use Rattle.proof_roundtrip.proofs.PlainLaws.{blocks_plain}
use Rattle.proof_roundtrip.proofs.ReadPools.{model_fit}
use Rattle.proof_roundtrip.proofs.ReadTables.{table_small, table_fits_lem, table_long, blocks_are}

abbrev accepted : List ℕ → ReadInto
accepted t = record { number = 0; beside = 0; table = t }

-- a table of words, within its limits and with no check broken, whose text is not too long
module _ (t t₀ : List ℕ) (small : (i : ℕ) → at t i ≤ greatest) (fit : table_fits t ≡ true) (sound : lowest (model_of t) ≡ 0) (long : length t ≡ table_words) (short : length (shown_table t) ≤ text_most) where
  pub read_back : read_into (shown_table t) t₀ ≡ record { number = 0; beside = 0; table = t }
  unfolding read_into
  read_back =
      sym (pick_no (ltb text_most (length (shown_table t))) _ _ _ (le-ltb text_most (length (shown_table t)) short) refl)
      ∙ ap (λ (g : Got (List Pool)). judged g.end g.value t₀) (model_read t small fit long)
      ∙ judge
      ∙ ap accepted (table_same t fit long)
    where
      judge : judged (Ok (length (shown_table t))) (blocks_of t) t₀ ≡ accepted (table_of (blocks_of t))
      judge =
          unfold judged checked in
          sym (pick_yes (eqb (lowest (blocks_of t)) 0) _ _ _ (eq-eqb (lowest (blocks_of t)) 0 (lowest_same t fit ∙ sound)) refl)
          ∙ sym (pick_yes (each has_room (blocks_of t)) _ _ _ (room_without (blocks_of t) (blocks_plain t fit)) refl)
          ∙ ap (λ (ps : List Pool). accepted (table_of ps)) (left_alone (blocks_of t) (blocks_plain t fit))

  pub write_again : shown_table (read_into (shown_table t) t₀).table ≡ shown_table t
  write_again = ap (λ (r : ReadInto). shown_table r.table) read_back

-- A TABLE THAT WAS READ: it is a table of words, within its limits and with no check broken, so that its text is read back too
module _ (text : List ℕ) (q : ℕ) (end : (model text).end ≡ Ok q) (room : each has_room (model text).value ≡ true) where
  abbrev rs : List Pool
  rs = map rewritten (model text).value

  fit : Model rs
  fit = rewritten_fits (model text).value (model_fit text q end) room

  plain : Every Plain rs
  plain = none_left (model text).value (model_fit text q end) room

  pub read_small : (i : ℕ) → at (table_of rs) i ≤ greatest
  read_small = table_small rs fit

  pub read_fits : table_fits (table_of rs) ≡ true
  read_fits = table_fits_lem rs fit plain

  pub read_long : length (table_of rs) ≡ table_words
  read_long = table_long rs fit

  -- the model that the table holds breaks no check where the text's breaks none
  pub read_sound : lowest (model text).value ≡ 0 → lowest (model_of (table_of rs)) ≡ 0
  read_sound sound = sym (lowest_same (table_of rs) read_fits) ∙ ap lowest (blocks_are rs fit) ∙ rewritten_sound (model text).value (model_fit text q end) room sound

  pub read_again : (t₀ : List ℕ) → lowest (model text).value ≡ 0 → length (shown_table (table_of rs)) ≤ text_most
      → read_into (shown_table (table_of rs)) t₀ ≡ record { number = 0; beside = 0; table = table_of rs }
  read_again t₀ sound short = read_back (table_of rs) t₀ read_small read_fits (read_sound sound) read_long short
