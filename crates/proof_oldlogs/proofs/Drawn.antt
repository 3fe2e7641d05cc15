-- AN OLD LOG OF A DRAWING, whose message end events were endSnds, stays lawful with the table that `draw` gives for it now. Assumes nothing.
use Prim.Native.Nat.{ℕ, ◌≤◌}
use mathlib.Core.Path.{◌≡◌, ◌∙◌, ap}
use mathlib.Core.Bool.{true}
use mathlib.Core.List.{List}
use lib.ListN.{length}
use Rattle.base_state.specs.Versions.{is_version}
use Rattle.check_model.specs.Checks.{Pool}
use Rattle.state_fits.specs.Fresh.{fresh}
use Rattle.text_read.specs.Notation.{ReadInto, table_of}
use Rattle.draw_read.specs.Drawings.{draw_into}
use Rattle.log_write.specs.Xes.{log_text}
use Rattle.log_text.specs.Logs.{log_most}
use Rattle.log_judge.specs.Judge.{lawful}
use Rattle.engine.specs.Calls.{Act, judged_to}
use Rattle.proof_drawings.proofs.Answers.{drawn_clear}
use Rattle.proof_drawings.proofs.Transcripts.{drawn_model, accepted, accepted_sound, accepted_table}
use Rattle.proof_oldlogs.specs.OldLogs.{old_told, OldHistory, OldLog}
use Rattle.proof_oldlogs.proofs.Theorems.{model-lawful, model_printed}

module _ (text t₀ : List ℕ) (drawn : (draw_into text t₀).number ≡ 0) (v : ℕ) (known : is_version v ≡ true) where
  abbrev said : List Pool
  said = drawn_model text

  pub drawn_log_lawful : (log : List ℕ) → OldLog said v log → judged_to (draw_into text t₀).table v log ≡ lawful
  drawn_log_lawful log old =
      ap (λ (r : ReadInto). judged_to r.table v log) (accepted_table text t₀ drawn)
      ∙ model-lawful said (accepted text t₀ drawn) (drawn_clear text t₀ drawn).room (accepted_sound text t₀ drawn) v known log old

  pub drawn_history_lawful : (moments : ℕ → ℕ) (acts : List Act) → OldHistory said v acts → length (log_text moments (old_told (table_of said) acts (fresh (table_of said) v))) ≤ log_most
      → judged_to (draw_into text t₀).table v (log_text moments (old_told (table_of said) acts (fresh (table_of said) v))) ≡ lawful
  drawn_history_lawful moments acts old short =
      ap (λ (r : ReadInto). judged_to r.table v (log_text moments (old_told (table_of said) acts (fresh (table_of said) v)))) (accepted_table text t₀ drawn)
      ∙ model_printed said (accepted text t₀ drawn) (drawn_clear text t₀ drawn).room (accepted_sound text t₀ drawn) v known moments acts old short
