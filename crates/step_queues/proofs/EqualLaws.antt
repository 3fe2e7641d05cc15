-- A message is equal to a tuple where its words in the queue are. Assumes nothing.
use mathlib.Core.Path.{◌≡◌, ◌∙◌, refl, sym, ap₂}
use mathlib.Core.Bool.{Bool, false, ◌&&◌}
use mathlib.Core.List.{List, [], ◌∷◌}
use Prim.Native.Nat.{ℕ, zero, suc, ◌+◌, ◌≤◌, ◌<◌}
use native.Mathlib.Omega.{arith}
use lib.Dec.{eqb}
use Rattle.base_words.specs.All.{all}
use Rattle.base_words.specs.Words.{at}
use Rattle.base_words.specs.Counts.{values}
use Rattle.base_words.proofs.AllLaws.{eq_eqb_by, ne_eqb_by}
use Rattle.base_words.proofs.PickLaws.{and_yes, and_no}
use Rattle.base_state.specs.Places.{slot_place, values_in}
use Rattle.meaning.specs.declared.Tuple.{Tuple}
use Rattle.meaning.specs.Tuples.{same_tuple}
use Rattle.step_queues.specs.Changes.{message_is}

all_same : (f g : ℕ → Bool) (n : ℕ) → ((j : ℕ) → j < n → f j ≡ g j) → all f n ≡ all g n
unfolding all
all_same f g zero h = refl
all_same f g (suc n) h = ap₂ ◌&&◌ (all_same f g n (λ j l. h j (omega arith))) (h n (omega arith))

four_at : (f : ℕ → ℕ) (j : ℕ) → j < values → f j ≡ at (f 0 ∷ f 1 ∷ f 2 ∷ f 3 ∷ []) j
four_at f zero l = refl
four_at f (suc zero) l = refl
four_at f (suc (suc zero)) l = refl
four_at f (suc (suc (suc zero))) l = refl
four_at f (suc (suc (suc (suc j)))) l = absurd (omega arith)

module _ (q : List ℕ) (m k : ℕ) (g : Tuple) (i w : ℕ) (s : i ≡ slot_place m k) (e : w ≡ at q i) where
  pub message_other : (w ≡ g.length → ⊥) → false ≡ message_is q m g k
  unfolding message_is same_tuple
  message_other o = and_no _ _ (ne_eqb_by w (at q (slot_place m k)) g.length (rw s at e) o)

  pub message_same : (r : Bool) → w ≡ g.length → g.length ≤ values → r ≡ all (λ j. eqb (at q (i + values_in + j)) (at g.values j)) g.length → r ≡ message_is q m g k
  unfolding message_is same_tuple
  message_same r o l d =
      let long : at q (slot_place m k) ≡ g.length = sym (rw s at e) ∙ o in
      let f : ℕ → ℕ = λ j. at q (slot_place m k + values_in + j) in
      and_yes _ _ _ (eq_eqb_by w (at q (slot_place m k)) g.length (rw s at e) o)
      (rw s at d ∙ rw long (all_same (λ j. eqb (f j) (at g.values j)) (λ j. eqb (at (f 0 ∷ f 1 ∷ f 2 ∷ f 3 ∷ []) j) (at g.values j)) g.length
      (λ j h. rw (← four_at f j (omega (arith, h, l))))))
