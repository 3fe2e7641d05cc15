-- A TEXT DIAGNOSED: the number told is the one that `draw` gives, and with 21 there is a rule. Assumes nothing.
use Rattle.xml_skip.specs.Skipping.{Reached}
use Rattle.std.specs.Prelude.{Ok, Err}
use Prim.Native.Nat.{ℕ, ◌<◌}
use mathlib.Core.Path.{◌≡◌, refl, sym, ◌∙◌}
use mathlib.Core.Bool.{Bool, true, false, not, false≢true}
use mathlib.Core.List.{List}
use native.Mathlib.Decide.{ℕ_discrete}
use native.Mathlib.Omega.{arith}
use lib.Dec.{eqb, ltb}
use lib.ListN.{length}
use borrow.Author.Tests.{eq-eqb, ne_eqb}
use Rattle.base_words.specs.Each.{each}
use Rattle.base_words.specs.Pick.{if◌then◌or_else◌}
use Rattle.base_words.proofs.PickLaws.{pick_yes}
use Rattle.check_model.specs.Checks.{Pool, lowest}
use Rattle.text_readers.specs.Reading.{excessive}
use Rattle.text_read.specs.declared.Reading.{Reading}
use Rattle.text_read.specs.Notation.{has_room, answer_for}
use Rattle.draw_things.specs.Things.{place}
use Rattle.draw_walk.specs.Walk.{Walk}
use Rattle.draw_faults.specs.Amiss.{is_drawing}
use Rattle.draw_limits.specs.Excess.{first_beyond, beyond_at}
use Rattle.draw_model.specs.Content.{content}
use Rattle.draw_read.specs.Drawings.{not_run, answer, checked_as, meant_by, walked_text, things_of, unless_fault, answered}
use Rattle.draw_diagnose.specs.declared.Broken.{Broken}
use Rattle.draw_diagnose.specs.declared.Diagnosis.{Diagnosis}
use Rattle.draw_diagnose.specs.Rules.{broken_in}
use Rattle.draw_diagnose.specs.Diagnosis.{check_broken, none_free, told, diagnosed_by, diagnosed}
use Rattle.proof_diagnose.proofs.Choices.{choice}
use Rattle.proof_diagnose.proofs.Causes.{no_rule_drawn}

module _ (a : Reading) (t w : List ℕ) (n : ℕ) where
  abbrev Same : Diagnosis → Type 0
  Same d = d.number ≡ a.number

  same_number : (diagnosed_by a t w n).number ≡ a.number
  unfolding diagnosed_by
  same_number = choice Same _ _ _ refl (choice Same _ _ _ refl (choice Same _ _ _ refl refl))

  rule_of_21 : a.number ≡ not_run → (diagnosed_by a t w n).rule ≡ (broken_in t w n).rule
  unfolding diagnosed_by if◌then◌or_else◌
  rule_of_21 e = rw (eq-eqb a.number not_run e) refl

  rule_of_others : (a.number ≡ not_run → ⊥) → (a.number ≡ check_broken → ⊥) → (diagnosed_by a t w n).rule ≡ 0
  unfolding diagnosed_by if◌then◌or_else◌
  rule_of_others p q = rw (ne_eqb a.number not_run p, ne_eqb a.number check_broken q) (choice (λ (d : Diagnosis). d.rule ≡ 0) (eqb a.number none_free) _ _ refl refl)

pub diagnosed_number : (text : List ℕ) → (diagnosed text).number ≡ (answered text).number
unfolding diagnosed
diagnosed_number text = same_number (answered text) text (things_of text) (walked_text text).count

-- an answer that is not 21
abbrev Other : Reading → Type 0
Other r = r.number ≡ not_run → ⊥

abbrev Another : ℕ → Type 0
Another m = m ≡ not_run → ⊥

model_other : (ps : List Pool) → Other (checked_as ps)
unfolding checked_as answer_for
model_other ps =
    choice Another (eqb (lowest ps) 0) (if each has_room ps then 0 or_else 28) 4
    (choice Another (each has_room ps) 0 28 (λ e. omega (arith, e)) (λ e. omega (arith, e))) (λ e. omega (arith, e))

module _ (t w : List ℕ) (n : ℕ) where
  drawn_other : is_drawing t w n ≡ true → Other (meant_by t w n)
  unfolding meant_by if◌then◌or_else◌
  drawn_other d = go (is_drawing t w n) d (ltb (first_beyond t w n) n)
    where
      go : (a : Bool) → a ≡ true → (b : Bool) → Other (if not a then answer not_run 0 or_else if b then answer excessive (beyond_at t w (first_beyond t w n)) or_else checked_as (content t w n))
      go true d true = λ e. omega (arith, e)
      go true d false = model_other (content t w n)
      go false d b = absurd (false≢true d)

module _ (text : List ℕ) where
  abbrev things : List ℕ
  things = things_of text

  abbrev n : ℕ
  n = (walked_text text).count

  not_21 : is_drawing text things n ≡ true → Other (answered text)
  unfolding answered unless_fault
  not_21 d = choice Other _ _ _ (λ e. omega (arith, e)) (go (walked_text text).end)
    where
      go : (s : Reached) → Other (unless_fault s (meant_by text things n))
      go (Ok q) = drawn_other text things n d
      go (Err q) = λ e. omega (arith, e)

  pub why_21 : (diagnosed text).number ≡ not_run → 0 < (diagnosed text).rule
  unfolding diagnosed
  why_21 e =
      let a : (answered text).number ≡ not_run = sym (diagnosed_number text) ∙ e in
      let r : (diagnosed_by (answered text) text things n).rule ≡ (broken_in text things n).rule = rule_of_21 (answered text) text things n a in
      some (ℕ_discrete (broken_in text things n).rule 0) r a
    where
      some : Dec ((broken_in text things n).rule ≡ 0) → (diagnosed_by (answered text) text things n).rule ≡ (broken_in text things n).rule → (answered text).number ≡ not_run → 0 < (diagnosed_by (answered text) text things n).rule
      some (yes z) r a = absurd (not_21 (no_rule_drawn text things n z) a)
      some (no m) r a = omega (arith, m, r)

  -- and no rule and no check where it is neither 21 nor 4
  pub no_rule_else : ((diagnosed text).number ≡ not_run → ⊥) → ((diagnosed text).number ≡ check_broken → ⊥) → (diagnosed text).rule ≡ 0
  unfolding diagnosed
  no_rule_else p q =
      rule_of_others (answered text) text things n
      (λ e. p (same_number (answered text) text things n ∙ e))
      (λ e. q (same_number (answered text) text things n ∙ e))
