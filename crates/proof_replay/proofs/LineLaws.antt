-- WHAT A LINE DOES, as the judge takes it, is what the call does that it names. t is a table, z a state, w a line. Assumes nothing.
use Prim.Native.Nat.{ℕ}
use mathlib.Core.Path.{◌≡◌, ◌∙◌, refl, sym, ap}
use mathlib.Core.Bool.{Bool, true, false, false≢true}
use mathlib.Core.List.{List, [], ◌∷◌}
use Rattle.base_words.specs.Pick.{if◌then◌or_else◌}
use Rattle.base_bytes.specs.Bytes.{same_bytes}
use Rattle.write_lines.specs.Lines.{step_line}
use Rattle.proof_steps.proofs.Choices.{by_test}
use Rattle.proof_local.proofs.Texts.{same_true}
use Rattle.log_lines.specs.Entries.{entry_of}
use Rattle.log_judge.specs.Judge.{Taking, taken_by, line_taken, left_by_lines}
use Rattle.engine.specs.Engine.{stepped, posted_to}
use Rattle.engine.specs.Calls.{Act, a_step, a_post, did, after}
use Rattle.proof_logs.specs.Told.{line_told}
use Rattle.proof_logs.proofs.LineEntries.{same_self}
use Rattle.proof_replay.specs.Lines.{act_of, acts_of, Tells}

module _ (t : List ℕ) where
  -- a line, taken
  abbrev pub take : List ℕ → List ℕ → Taking
  take = line_taken (stepped t) (posted_to t)

  module _ (w z : List ℕ) where
    pub number_is : (take w z).number ≡ (did t (act_of w) z).number
    unfolding line_taken taken_by act_of did if◌then◌or_else◌
    number_is = by_test (entry_of w).posts (λ e. rw e refl) (λ e. rw e refl)

    pub state_is : (take w z).state ≡ (did t (act_of w) z).state
    unfolding line_taken taken_by act_of did if◌then◌or_else◌
    state_is = by_test (entry_of w).posts (λ e. rw e refl) (λ e. rw e refl)

    -- a post's line is true; a step's is where it is the printed one
    pub post_true : (entry_of w).posts ≡ true → (take w z).right ≡ true
    unfolding line_taken taken_by if◌then◌or_else◌
    post_true e = rw e refl

    step_right : (entry_of w).posts ≡ false → (take w z).right ≡ same_bytes (line_told t (act_of w) z) w
    unfolding line_taken taken_by act_of line_told if◌then◌or_else◌
    step_right e = rw e refl

    pub step_true : (entry_of w).posts ≡ false → w ≡ line_told t (act_of w) z → (take w z).right ≡ true
    step_true e same = step_right e ∙ ap (λ (l : List ℕ). same_bytes l w) (sym same) ∙ same_self w

    pub true_printed : (take w z).right ≡ true → (entry_of w).posts ≡ false → w ≡ line_told t (act_of w) z
    true_printed r e = sym (same_true (line_told t (act_of w) z) w (sym (step_right e) ∙ r))

    -- what is not true is a step's line, and not the printed one
    pub untrue : (take w z).right ≡ false → ((entry_of w).posts ≡ false) × (w ≡ line_told t (act_of w) z → ⊥)
    untrue r =
        by_test (entry_of w).posts (λ e. absurd (false≢true (sym r ∙ post_true e)))
        (λ e. (e, λ same. false≢true (sym r ∙ step_true e same)))

  -- the state that the lines leave is the one after the calls
  pub left_after : (ws : List (List ℕ)) (z : List ℕ) → left_by_lines take ws z ≡ after t (acts_of ws) z
  unfolding left_by_lines after acts_of
  left_after [] z = refl
  left_after (w ∷ ws) z = ap (left_by_lines take ws) (state_is w z) ∙ left_after ws (did t (act_of w) z).state
