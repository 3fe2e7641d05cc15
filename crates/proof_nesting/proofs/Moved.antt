-- WHAT A MOVE DOES TO THE MASS of an instance: w weighs edges, d tasks. Assumes nothing.
use Prim.Native.Nat.{ℕ, ◌+◌, ◌-◌, ◌≤◌, ◌<◌}
use mathlib.Core.Path.{◌≡◌, refl, sym, ◌∙◌, ap}
use mathlib.Core.Bool.{Bool, true, false, ◌&&◌}
use mathlib.Core.List.{List}
use mathlib.Core.Logic.{◌⊎◌, inl, inr}
use native.Mathlib.Omega.{arith}
use lib.Dec.{eqb, ltb}
use lib.ListN.{length, length-set}
use lib.Seq.{get_or-set_other}
use borrow.Author.Tests.{eqb-true, ltb-true, lt-ltb, le-ltb}
use Rattle.base_words.specs.Pick.{if◌then◌or_else◌}
use Rattle.base_words.specs.Sum.{sum}
use Rattle.base_words.specs.Words.{at}
use Rattle.base_words.specs.Counts.{edges, tasks}
use Rattle.base_words.proofs.AllLaws.{and_left, and_right, all_at}
use Rattle.base_words.proofs.SumLaws.{sum_ext, sum-zero}
use Rattle.base_words.proofs.WritesLaws.{writes_in}
use Rattle.base_kinds.specs.declared.moves.Move.{Move}
use Rattle.base_kinds.specs.Moves.{branch, up, down, clearing}
use Rattle.base_table.specs.Table.{task_in, entry_count, exit_count, entry_at, exit_at}
use Rattle.base_state.specs.Places.{token_place, active_place, ready_place, defined_place}
use Rattle.base_state.specs.Instances.{active_count, ready_count}
use Rattle.check_limits.specs.Limits.{element_fits}
use Rattle.meaning.specs.Requirements.{touched, first_touched, has_token, has_tokens, can_lower, is_alone, counts_permit}
use Rattle.meaning.specs.Changes.{take_one, taken, count_changed, active_changed, ready_changed, put_one, puts, cleared, moved}
use Rattle.proof_steps.proofs.Choices.{chosen, passed}
use Rattle.proof_steps.proofs.Elements.{task_few, entry_within, exit_within}
use Rattle.proof_steps.proofs.ChangesFit.{touched_within}
use Rattle.proof_nesting.proofs.Weights.{putting, taking, counted, counts}
use Rattle.proof_nesting.proofs.Mass.{weigh, mass, mass_same, mass_lowered, length_lowered, lowered_other, mass_raised, mass_count, mass_raised_one, mass_count_one, lowered_less}

-- THE WEIGHT of a word of an instance: of its edge, or of its task
unfoldable pub weight_at : (ℕ → ℕ) → (ℕ → ℕ) → ℕ → ℕ
weight_at w d k = if ltb k edges then w (k + 1) or_else if ltb k (edges + tasks) then d ((k - edges) + 1) or_else d ((k - (edges + tasks)) + 1)

module _ (w d : ℕ → ℕ) where
  pub weight_token : (e : ℕ) → 1 ≤ e → e ≤ edges → weight_at w d (token_place e) ≡ w e
  unfolding weight_at
  weight_token e a b = chosen (ltb (token_place e) edges) _ _ (lt-ltb (token_place e) edges (omega arith)) ∙ ap w (let z : token_place e + 1 ≡ e = omega arith in z)

  pub weight_active : (n : ℕ) → 1 ≤ n → n ≤ tasks → weight_at w d (active_place n) ≡ d n
  unfolding weight_at
  weight_active n a b =
      passed (ltb (active_place n) edges) _ _ (le-ltb (active_place n) edges (omega arith))
      ∙ chosen (ltb (active_place n) (edges + tasks)) _ _ (lt-ltb (active_place n) (edges + tasks) (omega arith))
      ∙ ap d (let z : (active_place n - edges) + 1 ≡ n = omega arith in z)

  pub weight_ready : (n : ℕ) → 1 ≤ n → n ≤ tasks → weight_at w d (ready_place n) ≡ d n
  unfolding weight_at
  weight_ready n a b =
      passed (ltb (ready_place n) edges) _ _ (le-ltb (ready_place n) edges (omega arith))
      ∙ passed (ltb (ready_place n) (edges + tasks)) _ _ (le-ltb (ready_place n) (edges + tasks) (omega arith))
      ∙ ap d (let z : (ready_place n - (edges + tasks)) + 1 ≡ n = omega arith in z)

  abbrev pub weight : List ℕ → ℕ
  weight h = mass (weight_at w d) h

  module _ (el : List ℕ) (m : Move) (b : ℕ) (fits : element_fits el ≡ true)
      (apart : (j k : ℕ) → j < entry_count el → k < entry_count el → (j ≡ k → ⊥) → entry_at el j ≡ entry_at el k → ⊥)
      (enters : m.takes ≡ branch → b < entry_count el) (leaves : m.puts ≡ branch → b < exit_count el)
      (numbered : (m.active ≡ 0 → ⊥) ⊎ (m.ready ≡ 0 → ⊥) → 1 ≤ task_in el)
      (h y : List ℕ) (long : defined_place 0 ≤ length y) (same : (k : ℕ) → k < defined_place 0 → at y k ≡ at h k) (permits : counts_permit el h m b ≡ true) where
    abbrev n : ℕ
    n = task_in el

    few : n ≤ tasks
    few = task_few el fits

    -- the conditions on tokens and counts
    abbrev tokens_part : Bool
    tokens_part = has_tokens el h m b

    abbrev active_part : Bool
    active_part = can_lower m.active (active_count h n)

    abbrev ready_part : Bool
    ready_part = can_lower m.ready (ready_count h n)

    three : tokens_part && active_part && ready_part ≡ true
    unfolding counts_permit
    three = and_left (tokens_part && active_part && ready_part) (is_alone el h m) permits

    -- TOKENS TAKEN
    abbrev in_place : ℕ → ℕ
    in_place j = token_place (entry_at el (first_touched m.takes b + j))

    abbrev most : ℕ
    most = touched m.takes (entry_count el)

    entry_in : (j : ℕ) → j < most → (1 ≤ entry_at el (first_touched m.takes b + j)) × (entry_at el (first_touched m.takes b + j) ≤ edges)
    entry_in j l = entry_within el fits (first_touched m.takes b + j) (touched_within m.takes b (entry_count el) j enters l)

    token_there : (j : ℕ) → j < most → 0 < at h (in_place j)
    unfolding has_tokens has_token
    token_there j l =
        ltb-true 0 (at h (in_place j)) (all_at (has_token el h (first_touched m.takes b)) most (and_left tokens_part active_part (and_left (tokens_part && active_part) ready_part three)) j l)

    abbrev z₁ : List ℕ
    z₁ = taken el m b y

    taken-mass : weight z₁ + taking w el m b ≡ weight y
    unfolding taken take_one taking
    taken-mass =
        let s : sum (λ j. weight_at w d (in_place j)) most ≡ sum (λ j. w (entry_at el (first_touched m.takes b + j))) most =
        sum_ext (λ j. weight_at w d (in_place j)) (λ j. w (entry_at el (first_touched m.takes b + j))) most (λ j l. let e = entry_in j l in weight_token (entry_at el (first_touched m.takes b + j)) e.0 e.1) in
        let r = mass_lowered (weight_at w d) in_place y most
        (λ i k li lk ne e.
        let wi = entry_in i li in
        let wk = entry_in k lk in
        apart (first_touched m.takes b + i) (first_touched m.takes b + k) (touched_within m.takes b (entry_count el) i enters li) (touched_within m.takes b (entry_count el) k enters lk)
        (λ q. ne (omega arith)) (omega (arith, wi.0, wk.0)))
        (λ j l.
        let e = entry_in j l in
        let i : in_place j < defined_place 0 = omega (arith, e.0, e.1) in
        (i, omega (arith, long, i), omega (arith, token_there j l, same (in_place j) i))) in
        omega (arith, r, s)

    taken_other : (k : ℕ) → edges ≤ k → at z₁ k ≡ at y k
    unfolding taken take_one
    taken_other k l = lowered_other (weight_at w d) in_place y most k (λ j r e. let v = entry_in j r in omega (arith, v.0, v.1))

    taken_long : defined_place 0 ≤ length z₁
    unfolding taken take_one
    taken_long = let e = length_lowered (weight_at w d) in_place y most in omega (arith, e, long)

    -- COUNTS
    same_count : (cell way k : ℕ) → ((cell ≡ 0 → ⊥) → weight_at w d k ≡ d n) → (way ≡ 0 → ⊥) → counted cell way (weight_at w d k) ≡ counted cell way (d n)
    unfolding counted if◌then◌or_else◌
    same_count cell way k right some = go (eqb cell way) refl
      where
        go : (t : Bool) → eqb cell way ≡ t → (if t then weight_at w d k or_else 0) ≡ (if t then d n or_else 0)
        go true e = right (λ z. some (sym (eqb-true cell way e) ∙ z))
        go false e = refl

    active_weight : (way : ℕ) → (way ≡ 0 → ⊥) → counted m.active way (weight_at w d (active_place n)) ≡ counted m.active way (d n)
    active_weight way some = same_count m.active way (active_place n) (λ o. weight_active n (numbered (inl o)) few) some

    ready_weight : (way : ℕ) → (way ≡ 0 → ⊥) → counted m.ready way (weight_at w d (ready_place n)) ≡ counted m.ready way (d n)
    ready_weight way some = same_count m.ready way (ready_place n) (λ o. weight_ready n (numbered (inr o)) few) some

    abbrev z₂ : List ℕ
    z₂ = active_changed el m z₁

    abbrev z₃ : List ℕ
    z₃ = ready_changed el m z₂

    active_mass : weight z₂ + counted m.active down (d n) ≤ weight z₁ + counted m.active up (d n)
    unfolding active_changed
    active_mass =
        let i : active_place n < defined_place 0 = omega (arith, few) in
        let c : at z₁ (active_place n) ≡ at h (active_place n) = taken_other (active_place n) (omega arith) ∙ same (active_place n) i in
        let r = mass_count (weight_at w d) z₁ (active_place n) m.active i (omega (arith, taken_long, i))
        (ap (can_lower m.active) c ∙ and_right tokens_part active_part (and_left (tokens_part && active_part) ready_part three)) in
        omega (arith, r, active_weight up (λ z. omega arith), active_weight down (λ z. omega arith))

    active_long : defined_place 0 ≤ length z₂
    unfolding active_changed
    active_long = let e = length-set z₁ (active_place n) (count_changed m.active (active_count z₁ n)) in omega (arith, e, taken_long)

    ready_mass : weight z₃ + counted m.ready down (d n) ≤ weight z₂ + counted m.ready up (d n)
    unfolding ready_changed active_changed
    ready_mass =
        let i : ready_place n < defined_place 0 = omega (arith, few) in
        let c : at z₂ (ready_place n) ≡ at h (ready_place n) =
        get_or-set_other z₁ (active_place n) (ready_place n) (count_changed m.active (active_count z₁ n)) 0 (λ e. omega (arith, few, e)) ∙ taken_other (ready_place n) (omega arith) ∙ same (ready_place n) i in
        let r = mass_count (weight_at w d) z₂ (ready_place n) m.ready i (omega (arith, active_long, i))
        (ap (can_lower m.ready) c ∙ and_right (tokens_part && active_part) ready_part three) in
        omega (arith, r, ready_weight up (λ z. omega arith), ready_weight down (λ z. omega arith))

    ready_long : defined_place 0 ≤ length z₃
    unfolding ready_changed
    ready_long = let e = length-set z₂ (ready_place n) (count_changed m.ready (ready_count z₂ n)) in omega (arith, e, active_long)

    -- TOKENS PUT
    abbrev out_place : ℕ → ℕ
    out_place j = token_place (exit_at el (first_touched m.puts b + j))

    exit_in : (j : ℕ) → j < touched m.puts (exit_count el) → (1 ≤ exit_at el (first_touched m.puts b + j)) × (exit_at el (first_touched m.puts b + j) ≤ edges)
    exit_in j l = exit_within el fits (first_touched m.puts b + j) (touched_within m.puts b (exit_count el) j leaves l)

    put_mass : weight (puts el m b z₃) ≤ weight z₃ + putting w el m b
    unfolding puts put_one putting
    put_mass =
        let k : ℕ = touched m.puts (exit_count el) in
        let s : sum (λ j. weight_at w d (out_place j)) k ≡ sum (λ j. w (exit_at el (first_touched m.puts b + j))) k =
        sum_ext (λ j. weight_at w d (out_place j)) (λ j. w (exit_at el (first_touched m.puts b + j))) k (λ j l. let e = exit_in j l in weight_token (exit_at el (first_touched m.puts b + j)) e.0 e.1) in
        let r = mass_raised (weight_at w d) out_place z₃ k (λ j l. let e = exit_in j l in let i : out_place j < defined_place 0 = omega (arith, e.0, e.1) in (i, omega (arith, ready_long, i))) in
        omega (arith, r, s)

    -- ALL OF IT
    pub move_mass : eqb m.also clearing ≡ false → weight (moved el m b z₁) + (taking w el m b + counts down (d n) m) ≤ weight h + (putting w el m b + counts up (d n) m)
    unfolding moved counts
    move_mass e =
        let c : moved el m b z₁ ≡ puts el m b z₃ = passed (eqb m.also clearing) (cleared z₁) (puts el m b z₃) e in
        let v : weight (moved el m b z₁) ≡ weight (puts el m b z₃) = ap weight c in
        let x : weight y ≡ weight h = mass_same (weight_at w d) y h same in
        omega (arith, v, x, taken-mass, active_mass, ready_mass, put_mass)

    pub clear_mass : eqb m.also clearing ≡ true → weight (moved el m b z₁) ≡ 0
    unfolding moved cleared mass weigh
    clear_mass e =
        let c : moved el m b z₁ ≡ cleared z₁ = chosen (eqb m.also clearing) (cleared z₁) (puts el m b z₃) e in
        ap weight c
        ∙ sum-zero (λ k. weigh (weight_at w d k) (at (cleared z₁) k)) (defined_place 0)
        (λ k l. let q : 0 + k ≡ k = omega arith in ap (weigh (weight_at w d k)) (ap (at (cleared z₁)) (sym q) ∙ writes_in (λ k. 0) z₁ 0 (defined_place 0) k l (omega (arith, taken_long))))

    -- where there is room nothing is lost on the way
    module _ (exits_apart : (j k : ℕ) → j < exit_count el → k < exit_count el → exit_at el j ≡ exit_at el k → j ≡ k) (small : (k : ℕ) → k < defined_place 0 → at y k ≤ 1) where
      taken_small : (k : ℕ) → k < defined_place 0 → at z₁ k ≤ 1
      unfolding taken take_one
      taken_small k l = let a = lowered_less (weight_at w d) in_place y most k in omega (arith, a, small k l)

      active_whole : weight z₁ + counted m.active up (d n) ≤ weight z₂ + counted m.active down (d n)
      unfolding active_changed
      active_whole =
          let i : active_place n < defined_place 0 = omega (arith, few) in
          let r = mass_count_one (weight_at w d) z₁ (active_place n) m.active i (omega (arith, taken_long, i)) (omega (arith, taken_small (active_place n) i)) in
          omega (arith, r, active_weight up (λ z. omega arith), active_weight down (λ z. omega arith))

      ready_whole : weight z₂ + counted m.ready up (d n) ≤ weight z₃ + counted m.ready down (d n)
      unfolding ready_changed active_changed
      ready_whole =
          let i : ready_place n < defined_place 0 = omega (arith, few) in
          let c : at z₂ (ready_place n) ≡ at z₁ (ready_place n) = get_or-set_other z₁ (active_place n) (ready_place n) (count_changed m.active (active_count z₁ n)) 0 (λ e. omega (arith, few, e)) in
          let r = mass_count_one (weight_at w d) z₂ (ready_place n) m.ready i (omega (arith, active_long, i)) (omega (arith, c, taken_small (ready_place n) i)) in
          omega (arith, r, ready_weight up (λ z. omega arith), ready_weight down (λ z. omega arith))

      token_same : (e : ℕ) → 1 ≤ e → e ≤ edges → at z₃ (token_place e) ≡ at z₁ (token_place e)
      unfolding ready_changed active_changed
      token_same e a b =
          get_or-set_other z₂ (ready_place n) (token_place e) (count_changed m.ready (ready_count z₂ n)) 0 (λ q. omega arith)
          ∙ get_or-set_other z₁ (active_place n) (token_place e) (count_changed m.active (active_count z₁ n)) 0 (λ q. omega arith)

      put_whole : weight (puts el m b z₃) ≡ weight z₃ + putting w el m b
      unfolding puts put_one putting
      put_whole =
          let k : ℕ = touched m.puts (exit_count el) in
          let s : sum (λ j. weight_at w d (out_place j)) k ≡ sum (λ j. w (exit_at el (first_touched m.puts b + j))) k =
          sum_ext (λ j. weight_at w d (out_place j)) (λ j. w (exit_at el (first_touched m.puts b + j))) k (λ j l. let e = exit_in j l in weight_token (exit_at el (first_touched m.puts b + j)) e.0 e.1) in
          let r = mass_raised_one (weight_at w d) out_place z₃ k
          (λ i j li lj ne e.
          let wi = exit_in i li in
          let wj = exit_in j lj in
          ne (let q = exits_apart (first_touched m.puts b + i) (first_touched m.puts b + j) (touched_within m.puts b (exit_count el) i leaves li) (touched_within m.puts b (exit_count el) j leaves lj) (omega (arith, wi.0, wj.0)) in omega (arith, q)))
          (λ j l.
          let e = exit_in j l in
          let i : out_place j < defined_place 0 = omega (arith, e.0, e.1) in
          (i, omega (arith, ready_long, i), omega (arith, token_same (exit_at el (first_touched m.puts b + j)) e.0 e.1, taken_small (out_place j) i))) in
          omega (arith, r, s)

      pub move_whole : eqb m.also clearing ≡ false → weight h + (putting w el m b + counts up (d n) m) ≤ weight (moved el m b z₁) + (taking w el m b + counts down (d n) m)
      unfolding moved counts
      move_whole e =
          let c : moved el m b z₁ ≡ puts el m b z₃ = passed (eqb m.also clearing) (cleared z₁) (puts el m b z₃) e in
          let v : weight (moved el m b z₁) ≡ weight (puts el m b z₃) = ap weight c in
          let x : weight y ≡ weight h = mass_same (weight_at w d) y h same in
          omega (arith, v, x, taken-mass, active_whole, ready_whole, put_whole)
