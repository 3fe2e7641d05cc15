-- A poll as the code makes it, item after item. Assumes nothing.
use mathlib.Core.Path.{◌≡◌, ◌∙◌, refl, sym, ap, ap₂}
use mathlib.Core.Bool.{Bool, true, false}
use mathlib.Core.List.{List, ◌∷◌, ◌++◌}
use Prim.Native.Nat.{ℕ, suc, ◌+◌, ◌-◌, ◌*◌, ◌≤◌, ◌<◌}
use native.Mathlib.Omega.{arith}
use borrow.Author.Tests.{eq-eqb, ne_eqb, eqb-true, lt-ltb, le-ltb}
use lib.Dec.{eqb, ltb}
use lib.ListN.{drop, take-append-drop}
use lib.Seq.{drop-drop}
use Rattle.base_words.specs.Pick.{if◌then◌or_else◌}
use Rattle.base_words.specs.Words.{at}
use Rattle.base_state.specs.Places.{instances_words}
use Rattle.base_state.specs.Instances.{instances_of, queues_of}
use Rattle.meaning.specs.declared.Name.{Name}
use Rattle.meaning.specs.declared.Tuple.{Tuple}
use Rattle.meaning.specs.declared.Answer.{Answer}
use Rattle.meaning.specs.Post.{Posted}
use Rattle.step_take.specs.Settled.{settled, posted, Done}
use Rattle.step_poll.specs.Items.{Act, item_words, items_most, given_in, name_in, act_in, acts_in}
use Rattle.step_poll.specs.Poll.{Left, Stepped, Polling, one_before, polled_by, polled_from, settled_step, settled_post, settled_act}

-- WHAT A CALL LEAVES, y, is what the step or the post does
pub post_left : (z y : List ℕ) (name : ℕ) (g : Tuple) (r : ℕ)
    → (◌≡◌ {A = Posted} (record { number = r; queues = queues_of y }) (posted (queues_of z) name g)) × (instances_of y ≡ instances_of z)
    → ◌≡◌ {A = Left} (record { number = r; state = y }) (settled_post z name g)
unfolding settled_post
post_left z y name g r d =
    let n : r ≡ (posted (queues_of z) name g).number = ap (λ (o : Posted). o.number) d.0 in
    let k : y ≡ instances_of z ++ (posted (queues_of z) name g).queues
    = sym (take-append-drop instances_words y) ∙ ap₂ ◌++◌ d.1 (ap (λ (o : Posted). o.queues) d.0) in
    λ i. record { number = n i; state = k i }

pub step_left : (t z y : List ℕ) (n : Name) (r : Answer) → Done (settled t (instances_of z) (queues_of z) n) r y
    → ◌≡◌ {A = Stepped} (record { answer = r; state = y }) (settled_step t z n)
unfolding settled_step
step_left t z y n r d = λ i. record { answer = d.answer i; state = d.state i }

-- ONE ITEM, w its words and what stands behind them
module _ (t z w y : List ℕ) (x : ℕ) (first : x ≡ at w 0) where
  pub post_taken : (name : ℕ) (g : Tuple) (r : ℕ) → x ≡ 1 → name ≡ at w 1 → g ≡ given_in w
      → (◌≡◌ {A = Posted} (record { number = r; queues = queues_of y }) (posted (queues_of z) name g)) × (instances_of y ≡ instances_of z)
      → ◌≡◌ {A = Left} (record { number = r; state = y }) (settled_act t (act_in w) z)
  unfolding settled_act act_in if◌then◌or_else◌
  post_taken name g r one e h d = rw (eq-eqb (at w 0) 1 (sym first ∙ one), ← e, ← h) (post_left z y name g r d)

  pub step_taken : (n : Name) (r : Answer) → (x ≡ 1 → ⊥) → n ≡ name_in w → Done (settled t (instances_of z) (queues_of z) n) r y
      → ◌≡◌ {A = Left} (record { number = r.number; state = y }) (settled_act t (act_in w) z)
  unfolding settled_act act_in if◌then◌or_else◌
  step_taken n r other e d =
      rw (ne_eqb (at w 0) 1 (λ (h : at w 0 ≡ 1). other (first ∙ h)), ← e)
      (ap (λ (x : Stepped). record { number = x.answer.number; state = x.state }) (step_left t z y n r d))

-- THE FIRST OF SOME ITEMS: k is the number that it gives, y the state that it leaves
module _ (give : Act → List ℕ → Left) (a : Act) (rest : List Act) (z : List ℕ) (k : ℕ) (y : List ℕ) (e : ◌≡◌ {A = Left} (record { number = k; state = y }) (give a z)) where
  pub first_accepted : k ≡ 0 → polled_by give (a ∷ rest) z ≡ one_before (polled_by give rest y)
  unfolding polled_by if◌then◌or_else◌
  first_accepted h = rw (← e, h)

  pub first_refused : (k ≡ 0 → ⊥) → polled_by give (a ∷ rest) z ≡ record { number = k; accepted = 0; state = y }
  unfolding polled_by if◌then◌or_else◌
  first_refused h = rw (← e, ne_eqb k 0 h)

-- d accepted before a poll
unfoldable pub later : ℕ → Polling → Polling
later d p = record { number = p.number; accepted = p.accepted + d; state = p.state }

later_one : (d : ℕ) (p : Polling) → later (d + 1) p ≡ later d (one_before p)
unfolding later one_before
later_one d p = let e : p.accepted + (d + 1) ≡ p.accepted + 1 + d = omega arith in λ i. record { number = p.number; accepted = e i; state = p.state }

later_end : (d k : ℕ) (z : List ℕ) → ◌≡◌ {A = Polling} (record { number = k; accepted = d; state = z }) (later d (record { number = k; accepted = 0; state = z }))
unfolding later
later_end d k z = let e : d ≡ 0 + d = omega arith in λ i. record { number = k; accepted = e i; state = z }

next_item : (m d : ℕ) (w : List ℕ) → drop m (drop (m * d) w) ≡ drop (m * (d + 1)) w
next_item m d w = let e : m * d + m ≡ m * (d + 1) = omega arith in drop-drop m (m * d) w ∙ ap (λ (k : ℕ). drop k w) e

-- THE LOOP: d items are accepted, and the others come to the whole, p
module _ (give : Act → List ℕ → Left) (w : List ℕ) (count : ℕ) where
  unfoldable pub Given : ℕ → List ℕ → Polling → Type 0
  Given d z p = later d (polled_by give (acts_in (drop (item_words * d) w) (count - d)) z) ≡ p

  pub given_none : (z : List ℕ) → Given 0 z (polled_by give (acts_in w count) z)
  unfolding Given later
  given_none z =
      let p = polled_by give (acts_in w count) z in
      let l : count - 0 ≡ count = omega arith in
      let e : p.accepted + 0 ≡ p.accepted = omega arith in
      rw l (λ i. record { number = p.number; accepted = e i; state = p.state })

  module _ (d : ℕ) (z : List ℕ) (p : Polling) (given : Given d z p) where
    module _ (more : d < count) (v : List ℕ) (here : v ≡ drop (item_words * d) w) (k : ℕ) (y : List ℕ)
        (e : ◌≡◌ {A = Left} (record { number = k; state = y }) (give (act_in v) z)) where
      one_more_lem : later d (polled_by give (act_in v ∷ acts_in (drop (item_words * (d + 1)) w) (count - (d + 1))) z) ≡ p
      unfolding Given acts_in
      one_more_lem =
          let l : count - d ≡ suc (count - (d + 1)) = omega (arith, more) in
          rw (here, ← next_item item_words d w) (rw l at given)

      pub given_more : k ≡ 0 → Given (d + 1) y p
      unfolding Given
      given_more h =
          let rest = acts_in (drop (item_words * (d + 1)) w) (count - (d + 1)) in
          later_one d (polled_by give rest y) ∙ ap (later d) (sym (first_accepted give (act_in v) rest z k y e h)) ∙ one_more_lem

      pub given_stop : (k ≡ 0 → ⊥) → ◌≡◌ {A = Polling} (record { number = k; accepted = d; state = y }) p
      given_stop h =
          let rest = acts_in (drop (item_words * (d + 1)) w) (count - (d + 1)) in
          later_end d k y ∙ ap (later d) (sym (first_refused give (act_in v) rest z k y e h)) ∙ one_more_lem

    pub given_end : count ≤ d → ◌≡◌ {A = Polling} (record { number = 0; accepted = d; state = z }) p
    unfolding Given acts_in polled_by
    given_end h = let l : count - d ≡ 0 = omega (arith, h) in later_end d 0 z ∙ (rw l at given)

    -- the same where the items are counted up to all of them
    pub given_full : count ≤ d → d ≤ count → ◌≡◌ {A = Polling} (record { number = 0; accepted = count; state = z }) p
    given_full h k = let e : count ≡ d = omega arith in ap (λ (n : ℕ). record { number = 0; accepted = n; state = z }) e ∙ given_end h

-- THE WHOLE POLL
module _ (give : Act → List ℕ → Left) (right : ℕ) (w : List ℕ) (count : ℕ) (z : List ℕ) where
  pub too_many_lem : items_most < count → record { number = 22; accepted = 0; state = z } ≡ polled_from give right w count z
  unfolding polled_from if◌then◌or_else◌
  too_many_lem h = rw (lt-ltb items_most count h)

  module _ (few : count ≤ items_most) where
    pub not_right : (right ≡ 0 → ⊥) → record { number = right; accepted = 0; state = z } ≡ polled_from give right w count z
    unfolding polled_from if◌then◌or_else◌
    not_right h = rw (le-ltb items_most count few, ne_eqb right 0 h)

    pub all_right_lem : right ≡ 0 → polled_by give (acts_in w count) z ≡ polled_from give right w count z
    unfolding polled_from if◌then◌or_else◌
    all_right_lem h = rw (le-ltb items_most count few, h)

-- two ways that come to the same where table and state are right
pub same_poll : (give take : Act → List ℕ → Left) (right : ℕ) (w : List ℕ) (count : ℕ) (z : List ℕ) → (right ≡ 0 → polled_by give (acts_in w count) z ≡ polled_by take (acts_in w count) z)
    → polled_from give right w count z ≡ polled_from take right w count z
unfolding polled_from if◌then◌or_else◌
same_poll give take right w count z same =
    ap (λ (p : Polling). if ltb items_most count then record { number = 22; accepted = 0; state = z } or_else p) (go (eqb right 0) (λ (h : eqb right 0 ≡ true). same (eqb-true right 0 h)))
  where
    go : (b : Bool) → (b ≡ true → polled_by give (acts_in w count) z ≡ polled_by take (acts_in w count) z)
        → (if b then polled_by give (acts_in w count) z or_else record { number = right; accepted = 0; state = z }) ≡ (if b then polled_by take (acts_in w count) z or_else record { number = right; accepted = 0; state = z })
    go true e = e refl
    go false e = refl
