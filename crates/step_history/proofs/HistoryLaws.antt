-- Histories: what calls in turn tell was given by them; a beginning of what was given is given; two ways to do a call that come to the same give the same. Assumes nothing.
use Prim.Native.Nat.{ℕ}
use mathlib.Core.Path.{◌≡◌, refl, sym, ◌∙◌, ap, ap₂, subst}
use mathlib.Core.List.{List, [], ◌∷◌, ◌++◌}
use lib.ListN.{take, drop, take-append-drop}
use Rattle.meaning.specs.declared.Name.{Name}
use Rattle.meaning.specs.declared.Tuple.{Tuple}
use Rattle.step_poll.specs.Items.{Act, a_step, a_post}
use Rattle.step_poll.specs.Poll.{Left, Stepped}
use Rattle.step_history.specs.History.{Entry, step_gave, post_gave, GivenBy, entry_by, state_by, told_by, left_by}

module _ (step : List ℕ → Name → Stepped) (post : List ℕ → ℕ → Tuple → Left) where
  pub told_given : (acts : List Act) (z : List ℕ) → GivenBy step post z (told_by step post acts z) (left_by step post acts z)
  unfolding GivenBy told_by left_by entry_by state_by
  told_given [] z = refl
  told_given (a_step n ∷ rest) z = (refl, told_given rest (step z n).state)
  told_given (a_post m g ∷ rest) z = (refl, told_given rest (post z m g).state)

  pub given_split : (h k : List Entry) (z y : List ℕ) → GivenBy step post z (h ++ k) y → (x : List ℕ) × GivenBy step post z h x × GivenBy step post x k y
  unfolding GivenBy
  given_split [] k z y d = (z, refl, d)
  given_split (step_gave n a ∷ h) k z y d = let r = given_split h k (step z n).state y d.1 in (r.0, (d.0, r.1), r.2)
  given_split (post_gave m g j ∷ h) k z y d = let r = given_split h k (post z m g).state y d.1 in (r.0, (d.0, r.1), r.2)

  pub given_join : (h k : List Entry) (z x y : List ℕ) → GivenBy step post z h x → GivenBy step post x k y → GivenBy step post z (h ++ k) y
  unfolding GivenBy
  given_join [] k z x y c d = subst (λ (w : List ℕ). GivenBy step post w k y) c d
  given_join (step_gave n a ∷ h) k z x y c d = (c.0, given_join h k (step z n).state x y c.1 d)
  given_join (post_gave m g j ∷ h) k z x y c d = (c.0, given_join h k (post z m g).state x y c.1 d)

  -- at any time: the first i entries, and the state then
  pub given_take : (i : ℕ) (h : List Entry) (z y : List ℕ) → GivenBy step post z h y → (x : List ℕ) × GivenBy step post z (take i h) x × GivenBy step post x (drop i h) y
  given_take i h z y d = given_split (take i h) (drop i h) z y (subst (λ (k : List Entry). GivenBy step post z k y) (sym (take-append-drop i h)) d)

-- TWO WAYS that come to the same on every state that fits, and leave such a one
module _ (step step' : List ℕ → Name → Stepped) (post post' : List ℕ → ℕ → Tuple → Left) (Fits : List ℕ → Type 0)
    (same_step : (z : List ℕ) (n : Name) → Fits z → step z n ≡ step' z n) (same_post : (z : List ℕ) (m : ℕ) (g : Tuple) → Fits z → post z m g ≡ post' z m g)
    (keeps-step : (z : List ℕ) (n : Name) → Fits z → Fits (step z n).state) (keeps-post : (z : List ℕ) (m : ℕ) (g : Tuple) → Fits z → Fits (post z m g).state) where
  same_act : (a : Act) (z : List ℕ) → Fits z → (entry_by step post a z ≡ entry_by step' post' a z) × (state_by step post a z ≡ state_by step' post' a z) × Fits (state_by step post a z)
  unfolding entry_by state_by
  same_act (a_step n) z f = (ap (λ (x : Stepped). step_gave n x.answer) (same_step z n f), ap (λ (x : Stepped). x.state) (same_step z n f), keeps-step z n f)
  same_act (a_post m g) z f = (ap (λ (x : Left). post_gave m g x.number) (same_post z m g f), ap (λ (x : Left). x.state) (same_post z m g f), keeps-post z m g f)

  pub told_same : (acts : List Act) (z : List ℕ) → Fits z → (told_by step post acts z ≡ told_by step' post' acts z) × (left_by step post acts z ≡ left_by step' post' acts z)
  unfolding told_by left_by
  told_same [] z f = (refl, refl)
  told_same (a ∷ rest) z f =
      let s = same_act a z f in
      let r = told_same rest (state_by step post a z) s.2 in (
        ap₂ ◌∷◌ s.0 (r.0 ∙ ap (told_by step' post' rest) s.1),
        r.1 ∙ ap (left_by step' post' rest) s.1,
      )

  pub given_same : (h : List Entry) (z y : List ℕ) → Fits z → GivenBy step post z h y → GivenBy step' post' z h y
  unfolding GivenBy
  given_same [] z y f d = d
  given_same (step_gave n a ∷ h) z y f d = (
    d.0 ∙ ap (λ (x : Stepped). x.answer) (same_step z n f),
    subst (λ (x : Stepped). GivenBy step' post' x.state h y) (same_step z n f) (given_same h (step z n).state y (keeps-step z n f) d.1),
  )
  given_same (post_gave m g k ∷ h) z y f d = (
    d.0 ∙ ap (λ (x : Left). x.number) (same_post z m g f),
    subst (λ (x : Left). GivenBy step' post' x.state h y) (same_post z m g f) (given_same h (post z m g).state y (keeps-post z m g f) d.1),
  )
