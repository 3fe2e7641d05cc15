-- The ways out of a diagnosis. Assumes nothing.
use Prim.Native.Nat.{ℕ, ◌+◌, ◌<◌, ◌≤◌}
use mathlib.Core.Path.{◌≡◌, refl, sym, ◌∙◌, ap, ap₂}
use mathlib.Core.Bool.{true}
use mathlib.Core.List.{List}
use native.Mathlib.Omega.{arith}
use lib.Dec.{ltb}
use lib.ListN.{replicate}
use borrow.Author.Tests.{lt-ltb, le-ltb}
use Rattle.base_words.specs.Counts.{elements, edges}
use Rattle.base_words.proofs.PickLaws.{pick_yes, pick_no, or_yes, or_no}
use Rattle.base_kinds.specs.Kinds as kinds
use Rattle.text_read.specs.declared.Reading.{Reading}
use Rattle.text_read.specs.Notation.{ReadInto}
use Rattle.draw_things.specs.Things.{block_words, place}
use Rattle.draw_walk.specs.Walk.{Walk, walk, walk_told as met}
use Rattle.draw_walk.specs.declared.Walked.{Walked}
use Rattle.draw_numbers.specs.Numbers.{count_before, is_of, an_element, an_edge}
use Rattle.draw_read.specs.Drawings.{settled_by, walked_text, things_of, answered, filled_by, draw_into}
use Rattle.draw_diagnose.specs.declared.Broken.{Broken}
use Rattle.draw_diagnose.specs.declared.Diagnosis.{Diagnosis}
use Rattle.draw_diagnose.specs.Rules.{rules_of_things, first_breaking, first_broken, broken_by_all, broken_in}
use Rattle.draw_diagnose.specs.Seats.{count_kind, is_crowded, first_seat, seat_at}
use Rattle.draw_diagnose.specs.Diagnosis.{told, diagnosed_by}

module _ (t w : List ℕ) (n r : ℕ) (e : r ≡ first_broken t w n) where
  pub broken_there : (k p : ℕ) → r < rules_of_things → k ≡ first_breaking (r + 1) t w n → p ≡ place w k → record { rule = r + 1; place = p } ≡ broken_in t w n
  unfolding broken_in
  broken_there k p l f q =
      pick_yes _ _ _ _ (lt-ltb (first_broken t w n) rules_of_things (omega (arith, e, l)))
      (ap₂ (λ (a b : ℕ). record { rule = a + 1; place = b }) e (q ∙ ap (place w) (f ∙ ap (λ (a : ℕ). first_breaking (a + 1) t w n) e)))

  pub broken_nowhere : (b : Broken) → rules_of_things ≤ r → b ≡ broken_by_all w n → b ≡ broken_in t w n
  unfolding broken_in
  broken_nowhere b l q = pick_no _ _ _ _ (le-ltb (first_broken t w n) rules_of_things (omega (arith, e, l))) q

module _ (check : ℕ) (t w : List ℕ) (n k : ℕ) (e : k ≡ first_seat check t w n) where
  pub seat_there : (p : ℕ) → k < n → p ≡ place w k → p ≡ seat_at check t w n
  unfolding seat_at
  seat_there p l q = pick_yes _ _ _ _ (lt-ltb (first_seat check t w n) n (omega (arith, e, l))) (q ∙ ap (place w) e)

  pub seat_nowhere : n ≤ k → 0 ≡ seat_at check t w n
  unfolding seat_at
  seat_nowhere l = pick_no _ _ _ _ (le-ltb (first_seat check t w n) n (omega (arith, e, l))) refl

module _ (w : List ℕ) (n p els ends : ℕ) (e : els ≡ count_before (is_of an_element p w) n) (f : ends ≡ count_kind kinds.end_snd p w n) where
  pub crowded_elements : elements < els + ends → true ≡ is_crowded w n p
  unfolding is_crowded
  crowded_elements l = or_yes _ _ (lt-ltb elements (count_before (is_of an_element p w) n + count_kind kinds.end_snd p w n) (omega (arith, e, f, l)))

  pub crowded_edges : (flows starts : ℕ) → els + ends ≤ elements → flows ≡ count_before (is_of an_edge p w) n → starts ≡ count_kind kinds.start p w n → ltb edges (flows + starts + ends) ≡ is_crowded w n p
  unfolding is_crowded
  crowded_edges flows starts l g h =
      or_no _ _ _ (le-ltb elements (count_before (is_of an_element p w) n + count_kind kinds.end_snd p w n) (omega (arith, e, f, l)))
      (ap (λ (k : ℕ). ltb edges k) (let z : flows + starts + ends ≡ count_before (is_of an_edge p w) n + count_kind kinds.start p w n + count_kind kinds.end_snd p w n = omega (arith, f, g, h) in z))

pub told_by : (d : Diagnosis) (number : ℕ) (b x : Broken) → d ≡ told number b.rule b.place → b ≡ x → d ≡ told number x.rule x.place
told_by d number b x e f = e ∙ ap (λ (y : Broken). told number y.rule y.place) f

pub things_again : (a : Reading) (text v w : List ℕ) (r : Walked) (d : Diagnosis) → met r v ≡ walk text (replicate block_words 0) → w ≡ settled_by text r.count v → d ≡ diagnosed_by a text w r.count
    → d ≡ diagnosed_by a text (things_of text) (walked_text text).count
unfolding met things_of walked_text
things_again a text v w r d m e f =
    f ∙ ap₂ (diagnosed_by a text) (e ∙ ap (λ (x : Walk). settled_by text x.count x.words) m) (ap (λ (x : Walk). x.count) m)

module _ (text t v : List ℕ) (a : Reading) (e : record { number = a.number; beside = a.beside; table = v } ≡ draw_into text t) where
  number_is : a.number ≡ (answered text).number
  unfolding draw_into filled_by
  number_is = ap (λ (x : ReadInto). x.number) e

  beside_is : a.beside ≡ (answered text).beside
  unfolding draw_into filled_by
  beside_is = ap (λ (x : ReadInto). x.beside) e

  pub answer_is : a ≡ answered text
  answer_is = λ i. record { number = number_is i; beside = beside_is i }
