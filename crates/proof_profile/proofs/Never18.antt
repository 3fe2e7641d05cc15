-- 18 IS NEVER GIVEN to a step of a nested pool, alone or in a poll. Assumes nothing.
use Prim.Native.Nat.{ℕ, suc, ◌+◌, ◌≤◌, ◌<◌}
use mathlib.Core.Path.{◌≡◌, refl, sym, ◌∙◌, ap}
use mathlib.Core.Bool.{Bool, true, false, ◌&&◌, false≢true}
use mathlib.Core.List.{List, [], ◌∷◌}
use native.Mathlib.Omega.{arith}
use lib.Dec.{eqb, ltb}
use lib.ListN.{drop}
use borrow.Author.Tests.{lt-ltb}
use Rattle.base_words.specs.Pick.{if◌then◌or_else◌}
use Rattle.base_words.specs.Words.{at}
use Rattle.base_words.specs.Counts.{count_most}
use Rattle.base_words.proofs.AllLaws.{all_of}
use Rattle.base_words.proofs.PickLaws.{and_true}
use Rattle.base_kinds.specs.declared.moves.Move.{Move}
use Rattle.base_kinds.specs.Moves.{up}
use Rattle.base_table.specs.Table.{pool_count, element_count, element_at, task_in, entry_count, exit_count, entry_at, exit_at}
use Rattle.base_state.specs.Places.{token_place, active_place, ready_place, defined_place}
use Rattle.base_state.specs.Instances.{instances_of, queues_of, tokens, active_count}
use Rattle.check_limits.specs.Limits.{element_fits}
use Rattle.meaning.specs.declared.Name.{Name}
use Rattle.meaning.specs.Requirements.{touched, first_touched, edge_has_room, has_rooms, can_raise, roomy}
use Rattle.meaning.specs.Changes.{take_one, taken}
use Rattle.meaning.specs.Refusals.{Refusal, ◌unless◌, first_refusal}
use Rattle.meaning.specs.Step.{Site, site_of, pool_named, element_named, move_named, work, after_taking, exists, refusals_at, refusals}
use Rattle.step_poll.specs.Items.{items_most, acts_in}
use Rattle.step_poll.specs.Poll.{Polling, one_before, polled_by, polled_from}
use Rattle.proof_steps.proofs.Choices.{by_choice}
use Rattle.proof_steps.proofs.Elements.{task_few, exit_within}
use Rattle.proof_steps.proofs.Found.{Found, found, element_named_lem}
use Rattle.proof_steps.proofs.InstanceAfter.{branch_exit}
use Rattle.proof_steps.proofs.ChangesFit.{touched_within}
use Rattle.engine.specs.Engine.{valid, lent_number}
use Rattle.engine.specs.Calls.{Act, a_step, did, Valid, polled_to}
use Rattle.engine.proofs.CallLaws.{by_lent}
use Rattle.engine.proofs.KeepsValid.{did-valid}
use Rattle.proof_valid.proofs.ChecksHold.{valid_fits}
use Rattle.proof_demands.proofs.PollSteps.{by_first}
use Rattle.proof_demands.proofs.StatesLeft.{step_number}
use Rattle.check_nesting.specs.Nesting.{Nested}
use Rattle.proof_nesting.proofs.Kept.{work_apart}
use Rattle.proof_nesting.proofs.Mass.{lowered_less}
use Rattle.proof_profile.proofs.Steady.{Steady, small_seen, did_steady}

-- the first refusal is the last of the list: the others hold
not_here : (k : ℕ) (b : Bool) (rs : List Refusal) → (k ≡ 18 → ⊥) → first_refusal (k unless b ∷ rs) ≡ 18 → (b ≡ true) × (first_refusal rs ≡ 18)
unfolding first_refusal if◌then◌or_else◌
not_here k true rs n e = (refl, e)
not_here k false rs n e = absurd (n e)

last_here : (b : Bool) → first_refusal (18 unless b ∷ []) ≡ 18 → b ≡ false
unfolding first_refusal if◌then◌or_else◌
last_here true e = absurd (omega (arith, e))
last_here false e = refl

module _ (t : List ℕ) (v : valid t ≡ true) (p : ℕ) (there : p < pool_count t) (nest : Nested (element_at t p) (element_count t p)) where
  module _ (z : List ℕ) (right : Valid t z) (steady : Steady t v p there nest (instances_of z)) (n : Name) (is : p ≡ pool_named t n) where
    abbrev s : List ℕ
    s = instances_of z

    abbrev x : Site
    x = site_of t s n

    module _ (f : Found t s n) where
      taken_small : (k : ℕ) → k < defined_place 0 → at (after_taking x) k ≤ 1
      unfolding after_taking taken take_one
      taken_small k l =
          omega (
            arith,
            lowered_less (λ j. 0) (λ j. token_place (entry_at x.element (first_touched x.move.takes x.branch + j))) (work x).instance (touched x.move.takes (entry_count x.element)) k,
            work_apart k l x,
            small_seen t v p there nest s steady n f is k l,
          )

      abbrev el : List ℕ
      el = element_named t n

      abbrev m : Move
      m = move_named t n

      fits : element_fits el ≡ true
      fits = element_named_lem t s n (valid_fits t v) f

      raised : (cell count : ℕ) → count ≤ 1 → can_raise cell count ≡ true
      unfolding can_raise
      raised cell count l = by_choice (λ (b : Bool). b ≡ true) (eqb cell up) (ltb count count_most) true (λ e. lt-ltb count count_most (omega (arith, l))) (λ e. refl)

      rooms : has_rooms el (after_taking x) m n.branch ≡ true
      unfolding has_rooms edge_has_room
      rooms =
          all_of (edge_has_room el (after_taking x) (first_touched m.puts n.branch)) (touched m.puts (exit_count el))
          (λ j l.
          let e : ℕ = exit_at el (first_touched m.puts n.branch + j) in
          let w = exit_within el fits (first_touched m.puts n.branch + j) (touched_within m.puts n.branch (exit_count el) j (branch_exit t s n (valid_fits t v) f) l) in
          lt-ltb (tokens (after_taking x) e) count_most (let a = taken_small (token_place e) (omega (arith, w.0, w.1)) in omega (arith, a)))

      pub has_room_lem : roomy x.element (after_taking x) x.move x.branch ≡ true
      unfolding roomy site_of
      has_room_lem =
          let few = task_few el fits in
          and_true (has_rooms el (after_taking x) m n.branch && can_raise m.active (active_count (after_taking x) (task_in el))) _
          (and_true (has_rooms el (after_taking x) m n.branch) _ rooms (raised m.active _ (taken_small (active_place (task_in el)) (omega (arith, few)))))
          (raised m.ready _ (taken_small (ready_place (task_in el)) (omega (arith, few))))

    none_18 : first_refusal (refusals t s (queues_of z) n) ≡ 18 → ⊥
    unfolding refusals refusals_at
    none_18 e =
        let a = not_here 11 (exists t s n) _ (λ z. omega arith) e in
        let b = not_here 12 _ _ (λ z. omega arith) a.1 in
        let c = not_here 13 _ _ (λ z. omega arith) b.1 in
        let d = not_here 13 _ _ (λ z. omega arith) c.1 in
        let g = not_here 13 _ _ (λ z. omega arith) d.1 in
        let h = not_here 14 _ _ (λ z. omega arith) g.1 in
        let i = not_here 13 _ _ (λ z. omega arith) h.1 in
        let j = not_here 15 _ _ (λ z. omega arith) i.1 in
        let k = not_here 16 _ _ (λ z. omega arith) j.1 in
        let l = not_here 17 _ _ (λ z. omega arith) k.1 in
        false≢true (sym (last_here (roomy x.element (after_taking x) x.move x.branch) l.1) ∙ has_room_lem (found t s n a.0))

    pub step_18 : (did t (a_step n) z).number ≡ 18 → ⊥
    step_18 e = none_18 (sym (step_number t z right n) ∙ e)

  -- IN A POLL: where 18 is its number, the item behind the accepted ones is no step of the pool
  abbrev Item : List Act → ℕ → Name → Type 0
  Item acts k n = (rest : List Act) × (drop k acts ≡ a_step n ∷ rest)

  first_act : (a b : Act) (xs ys : List Act) → ◌≡◌ {A = List Act} (a ∷ xs) (b ∷ ys) → a ≡ b
  first_act a b xs ys e = ap (λ (l : List Act). head l) e
    where
      head : List Act → Act
      head [] = a
      head (c ∷ cs) = c

  polled_18 : (acts : List Act) (z : List ℕ) → Valid t z → Steady t v p there nest (instances_of z) → (n : Name) → p ≡ pool_named t n
      → Item acts (polled_by (did t) acts z).accepted n → (polled_by (did t) acts z).number ≡ 18 → ⊥
  unfolding polled_by one_before
  polled_18 [] z right steady n is = (λ item e. omega (arith, e))
  polled_18 (a ∷ rest) z right steady n is =
      by_first t (λ (r : Polling). Item (a ∷ rest) r.accepted n → r.number ≡ 18 → ⊥) a rest z
      (λ ok item. polled_18 rest (did t a z).state (did-valid t a z right) (did_steady t v p there nest z right steady a) n is (item.0, (let q = add_one (polled_by (did t) rest (did t a z).state).accepted in ap (λ k. drop k (a ∷ rest)) (sym q) ∙ item.1)))
      (λ no item e. step_18 z right steady n is (ap (λ (b : Act). (did t b z).number) (sym (first_act a (a_step n) rest item.0 item.1)) ∙ e))
    where
      add_one : (n : ℕ) → n + 1 ≡ suc n
      add_one n = omega arith

  pub poll_18 : (w : List ℕ) (count : ℕ) (z : List ℕ) → Valid t z → Steady t v p there nest (instances_of z) → (n : Name) → p ≡ pool_named t n
      → Item (acts_in w count) (polled_to t z w count).accepted n → (polled_to t z w count).number ≡ 18 → ⊥
  unfolding polled_to polled_from
  poll_18 w count z right steady n is =
      by_choice (λ (r : Polling). Item (acts_in w count) r.accepted n → r.number ≡ 18 → ⊥) (ltb items_most count) (record { number = 22; accepted = 0; state = z }) _ (λ b item e. omega (arith, e))
      (λ b.
      by_choice (λ (r : Polling). Item (acts_in w count) r.accepted n → r.number ≡ 18 → ⊥) (eqb (lent_number t z) 0) (polled_by (did t) (acts_in w count) z) (record { number = lent_number t z; accepted = 0; state = z })
      (λ e. polled_18 (acts_in w count) z right steady n is)
      (λ e item. by_lent (λ k. k ≡ 18 → ⊥) t z (λ q. omega (arith, q)) (λ q. omega (arith, q)) (λ q. omega (arith, q))))
