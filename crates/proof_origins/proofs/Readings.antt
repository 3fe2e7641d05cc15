-- A TEXT IS READ AS WHAT IT DISPLAYS: reading what `display` gives of a collaboration, with any blanks between its tokens, gives that collaboration, what the writer writes is what `display` gives, no two valid tables are
-- displayed alike or stand for one collaboration, and a text that is read, however it is spelled, is read as the display of the collaboration found is. Assumes nothing.
use Prim.Native.Nat.{ℕ, ◌≤◌}
use mathlib.Core.Path.{◌≡◌, sym, ◌∙◌, ap, subst}
use mathlib.Core.Bool.{true}
use mathlib.Core.List.{List, []}
use lib.ListN.{length}
use Rattle.base_words.specs.Counts.{text_most}
use Rattle.text_read.specs.Notation.{ReadInto, read_into}
use Rattle.engine.specs.Engine.{valid, written_to}
use Rattle.proof_valid.proofs.ChecksHold.{valid_fits, valid_sound}
use Rattle.proof_places.specs.Sequence.{tokens}
use Rattle.proof_places.proofs.SameTokens.{number_alike, table_alike}
use Rattle.proof_roundtrip.proofs.RoundTrip.{read_back}
use Rattle.proof_lengths.proofs.Short.{short}
use Rattle.proof_demands.specs.Demands.{Table, text_in}
use Rattle.proof_demands.proofs.TextsAndTables.{text_written, read_valid}
use Rattle.paper.specs.Syntax.{Pool}
use Rattle.proof_paper.specs.Decoders.{collaboration_of}
use Rattle.proof_origins.specs.Display.{display}
use Rattle.proof_origins.proofs.Tables.{text_displayed}

module _ (t : List ℕ) (words : Table t) (v : valid t ≡ true) where
  pub read_displayed : (t₀ : List ℕ) → read_into (display (collaboration_of t)) t₀ ≡ record { number = 0; beside = 0; table = t }
  read_displayed t₀ =
      ap (λ (text : List ℕ). read_into text t₀) (sym (text_displayed t v)) ∙ read_back t t₀ words.small (valid_fits t v) (valid_sound t v) words.long (short t (valid_fits t v) (valid_sound t v))

  pub read_collaboration : (C : List Pool) → C ≡ collaboration_of t → (t₀ : List ℕ) → collaboration_of (read_into (display C) t₀).table ≡ C
  read_collaboration C e t₀ = ap (λ (D : List Pool). collaboration_of (read_into (display D) t₀).table) e ∙ ap (λ (r : ReadInto). collaboration_of r.table) (read_displayed t₀) ∙ sym e

  -- and so does every text with the tokens of that display, whatever blanks stand between them
  pub read_spelled : (text t₀ : List ℕ) → tokens text ≡ tokens (display (collaboration_of t)) → length text ≤ text_most → ((read_into text t₀).number ≡ 0) × ((read_into text t₀).table ≡ t)
  read_spelled text t₀ alike few =
      let small : length (display (collaboration_of t)) ≤ text_most = subst (λ (w : List ℕ). length w ≤ text_most) (text_displayed t v) (short t (valid_fits t v) (valid_sound t v)) in (
        number_alike text (display (collaboration_of t)) alike t₀ few small ∙ ap (λ (r : ReadInto). r.number) (read_displayed t₀),
        table_alike text (display (collaboration_of t)) alike t₀ few small ∙ ap (λ (r : ReadInto). r.table) (read_displayed t₀),
      )

  pub write_displayed : (out : List ℕ) → (written_to t out).number ≡ 0 → text_in (written_to t out) ≡ display (collaboration_of t)
  write_displayed out n = text_written t out n ∙ text_displayed t v

module _ (t u : List ℕ) (a : Table t) (b : Table u) (v : valid t ≡ true) (w : valid u ≡ true) where
  pub displayed_apart : display (collaboration_of t) ≡ display (collaboration_of u) → t ≡ u
  displayed_apart e = ap (λ (r : ReadInto). r.table) (sym (read_displayed t a v []) ∙ ap (λ (text : List ℕ). read_into text []) e ∙ read_displayed u b w [])

  pub collaborations_apart : collaboration_of t ≡ collaboration_of u → t ≡ u
  collaborations_apart e = displayed_apart (ap display e)

pub read_as_displayed : (text t₀ t₁ : List ℕ) → (read_into text t₀).number ≡ 0
    → read_into (display (collaboration_of (read_into text t₀).table)) t₁ ≡ record { number = 0; beside = 0; table = (read_into text t₀).table }
read_as_displayed text t₀ t₁ n = let r = read_valid text t₀ n in read_displayed (read_into text t₀).table r.1 r.0 t₁
