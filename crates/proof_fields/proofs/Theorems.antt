-- FIELDS STAY UNDEFINED IN DRAWN MODELS, over the public calls: in every state that the engine made of a drawn table, by fresh and then by any steps, posts, runs and polls, no field and no store is defined; so a branch whose condition names one is
-- never taken. The same holds of every valid table in which no message carries values and no task assigns. Assumes nothing.
use Prim.Native.Nat.{ℕ, ◌+◌, ◌*◌, ◌<◌}
use mathlib.Core.Path.{◌≡◌, refl, sym, ◌∙◌, ap, subst}
use mathlib.Core.Bool.{Bool, true, false, not, ◌&&◌, ◌||◌, false≢true}
use mathlib.Core.List.{List}
use mathlib.Core.Logic.{⊎_elim}
use native.Mathlib.Omega.{arith}
use lib.Dec.{eqb, ltb}
use borrow.Author.Tests.{eq-eqb, ltb-true, not-true}
use Rattle.std.specs.Prelude.{None, Some}
use Rattle.std.proofs.lemmas.Bool.{or_cases}
use Rattle.base_words.specs.All.{all}
use Rattle.base_words.specs.Counts.{fields_named}
use Rattle.base_words.specs.Pick.{if◌then◌or_else◌}
use Rattle.base_words.specs.Words.{at}
use Rattle.base_words.proofs.AllLaws.{and_left, and_right}
use Rattle.base_words.proofs.ListLaws.{get_d_tab}
use Rattle.base_kinds.specs.Moves.{on}
use Rattle.base_table.specs.Places.{operand_number, form_place, left_place, right_place, always, equals, below}
use Rattle.base_table.specs.Table.{condition_at}
use Rattle.base_state.specs.Places.{defined_place, instance_words, instance_place}
use Rattle.base_state.specs.Instances.{instances_of, queues_of}
use Rattle.meaning.specs.declared.Name.{Name}
use Rattle.meaning.specs.declared.Truth.{Truth}
use Rattle.meaning.specs.declared.Truth.TheVariants.{True, False, Neither}
use Rattle.meaning.specs.Values.{Value, equal_of, less_of, is_true}
use Rattle.meaning.specs.Expressions.{field_of, operand_of}
use Rattle.meaning.specs.Conditions.{condition_of, default_at, holds, other_false}
use Rattle.meaning.specs.Refusals.{first_refusal}
use Rattle.meaning.specs.Requirements.{granted}
use Rattle.meaning.specs.Step.{site_of, element_named, move_named, instance_of, refusals}
use Rattle.proof_steps.proofs.Choices.{by_choice, chosen, passed}
use Rattle.proof_steps.proofs.EveryStep.{Fitting}
use Rattle.proof_steps.proofs.Traffic.{site}
use Rattle.engine.specs.Engine.{valid}
use Rattle.engine.specs.Calls.{a_step, did, Valid}
use Rattle.engine.proofs.KeepsValid.{parts}
use Rattle.proof_valid.proofs.ChecksHold.{valid_fits}
use Rattle.draw_read.specs.Drawings.{draw_into}
use Rattle.proof_demands.specs.Demands.{Made}
use Rattle.proof_demands.proofs.StatesLeft.{step_number}
use Rattle.proof_demands.proofs.NeverBad.{made_valid}
use Rattle.proof_drawings.proofs.Transcripts.{draw_valid}
use Rattle.proof_fields.specs.Quiet.{Quiet, Unset, is_named, names_field}
use Rattle.proof_fields.proofs.Kept.{Blank, Bare, seen, made_bare}
use Rattle.proof_fields.proofs.Drawn.{drawn_quiet}

-- NO VALUE: a field whose words are 0, an operand that names one, a condition that does
blank_field : (h : List ℕ) (d : ℕ) → at h (defined_place d) ≡ 0 → field_of h d ≡ None
unfolding field_of
blank_field h d e = chosen (eqb (at h (defined_place d)) 0) None _ (eq-eqb (at h (defined_place d)) 0 e)

blank_operand : (w h : List ℕ) (place : ℕ) → Blank h → is_named w place ≡ true → operand_of w h place ≡ None
unfolding operand_of is_named
blank_operand w h place b e =
    let l = ltb-true (at w (place + operand_number)) fields_named (and_right (not (eqb (at w place) 0)) _ e) in
    passed (eqb (at w place) 0) _ (field_of h (at w (place + operand_number))) (not-true (eqb (at w place) 0) (and_left (not (eqb (at w place) 0)) _ e))
    ∙ blank_field h (at w (place + operand_number)) (b.word (defined_place (at w (place + operand_number))) (omega arith) (omega (arith, l)))

never_equal : (x y : Value) → (x ≡ None) → is_true (equal_of x y) ≡ false
unfolding equal_of is_true
never_equal x y e = ap (λ (u : Value). is_true (equal_of u y)) e

never_equal_second : (x y : Value) → (y ≡ None) → is_true (equal_of x y) ≡ false
unfolding equal_of is_true
never_equal_second (Some v) y e = ap (λ (u : Value). is_true (equal_of (Some v) u)) e
never_equal_second None y e = refl

never_less : (x y : Value) → (x ≡ None) → is_true (less_of x y) ≡ false
unfolding less_of is_true
never_less x y e = ap (λ (u : Value). is_true (less_of u y)) e

never_less_second : (x y : Value) → (y ≡ None) → is_true (less_of x y) ≡ false
unfolding less_of is_true
never_less_second (Some v) y e = ap (λ (u : Value). is_true (less_of (Some v) u)) e
never_less_second None y e = refl

neither : is_true Neither ≡ false
unfolding is_true
neither = refl

never_true : (w h : List ℕ) → Blank h → names_field w ≡ true → is_true (condition_of w h) ≡ false
unfolding names_field condition_of
never_true w h b e =
    let n = not-true (eqb (at w form_place) always) (and_left (not (eqb (at w form_place) always)) _ e) in
    let o = and_right (not (eqb (at w form_place) always)) (is_named w left_place || is_named w right_place) e in
    by_choice (λ (u : Truth). is_true u ≡ false) (eqb (at w form_place) always) True _ (λ y. absurd (false≢true (sym n ∙ y)))
    (λ y. by_choice (λ (u : Truth). is_true u ≡ false) (eqb (at w form_place) equals) _ _ (λ z. ⊎_elim (λ l. never_equal _ _ (blank_operand w h left_place b l)) (λ r. never_equal_second _ _ (blank_operand w h right_place b r)) (or_cases (is_named w left_place) (is_named w right_place) o))
    (λ z. by_choice (λ (u : Truth). is_true u ≡ false) (eqb (at w form_place) below) _ Neither (λ x. ⊎_elim (λ l. never_less _ _ (blank_operand w h left_place b l)) (λ r. never_less_second _ _ (blank_operand w h right_place b r)) (or_cases (is_named w left_place) (is_named w right_place) o)) (λ x. neither)))

not_held : (el h : List ℕ) (b : ℕ) → Blank h → default_at el b ≡ false → names_field (condition_at el b) ≡ true → holds el h b ≡ false
unfolding holds
not_held el h b f d e =
    passed (default_at el b) _ (is_true (condition_of (condition_at el b) h) && all (other_false el h b) b) d
    ∙ ap (λ (x : Bool). x && all (other_false el h b) b) (never_true (condition_at el b) h f e)

-- A QUIET TABLE
module _ (t : List ℕ) (v : valid t ≡ true) (quiet : Quiet t) (z : List ℕ) (made : Made t z) where
  pub quiet_unset : Unset (instances_of z)
  unfolding instance_of
  quiet_unset =
      let b = made_bare t v quiet z made in
      record {
        own = λ p i d l r u.
            blank_field (instance_of (instances_of z) p i) d
            (get_d_tab (λ k. at (instances_of z) (instance_place p i + k)) instance_words (defined_place d) 0 (omega (arith, u)) ∙ b.own p i (defined_place d) l r (omega arith) (omega (arith, u)));
        shared = λ d l. b.shared (2 * d) (omega (arith, l));
      }

  -- a step whose branch asks for a field is not accepted
  pub quiet_never : (n : Name) → (move_named t n).asks ≡ on → default_at (element_named t n) n.branch ≡ false → names_field (condition_at (element_named t n) n.branch) ≡ true → (did t (a_step n) z).number ≡ 0 → ⊥
  unfolding granted site_of
  quiet_never n asks d e number =
      let right : Valid t z = made_valid t v z made in
      let f : Fitting t (instances_of z) (queues_of z) = parts t z right in
      let ok : first_refusal (refusals t (instances_of z) (queues_of z) n) ≡ 0 = sym (step_number t z right n) ∙ number in
      let b = seen t v quiet (instances_of z) (queues_of z) n f.long f.fits ok (made_bare t v quiet z made) in
      let g = (site t (instances_of z) (queues_of z) n (valid_fits t v) ok).grants in
      false≢true
      (sym (not_held (element_named t n) (site_of t (instances_of z) n).instance n.branch b d e)
      ∙ sym (chosen (eqb (move_named t n).asks on) (holds (element_named t n) (site_of t (instances_of z) n).instance n.branch) true (eq-eqb (move_named t n).asks on asks))
      ∙ g)

-- A DRAWN MODEL
module _ (text t : List ℕ) (h : (draw_into text t).number ≡ 0) (z : List ℕ) (made : Made (draw_into text t).table z) where
  abbrev drawn : List ℕ
  drawn = (draw_into text t).table

  pub drawn_unset : Unset (instances_of z)
  drawn_unset = quiet_unset drawn (draw_valid text t h).0 (drawn_quiet text t h) z made

  pub drawn_never : (n : Name) → (move_named drawn n).asks ≡ on → default_at (element_named drawn n) n.branch ≡ false → names_field (condition_at (element_named drawn n) n.branch) ≡ true → (did drawn (a_step n) z).number ≡ 0 → ⊥
  drawn_never = quiet_never drawn (draw_valid text t h).0 (drawn_quiet text t h) z made
