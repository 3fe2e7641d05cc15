-- An element that could not move in an instance has no accepted step there. Assumes nothing.
use Prim.Native.Nat.{ℕ, ◌+◌, ◌-◌, ◌<◌}
use mathlib.Core.Path.{◌≡◌, sym, ◌∙◌, ap, subst}
use mathlib.Core.Bool.{Bool, true, false, not, ◌&&◌}
use mathlib.Core.List.{List, ◌++◌}
use native.Mathlib.Omega.{arith}
use lib.Dec.{eqb, leb, ltb}
use lib.ListN.{drop}
use lib.Seq.{get_or-drop}
use borrow.Author.Tests.{eqb-true, eqb-false, eq-eqb, ne_eqb, ltb-true, lt-ltb, leb-true}
use Rattle.base_words.specs.All.{all}
use Rattle.base_words.specs.Each.{tab}
use Rattle.base_words.specs.Words.{at}
use Rattle.base_words.specs.Counts.{fewest, branches}
use Rattle.base_words.proofs.AllLaws.{and_left, and_right, all_at, all_of}
use Rattle.base_words.proofs.ListLaws.{length-tab, get_d_tab}
use Rattle.base_kinds.specs.declared.Kind.{Kind}
use Rattle.base_kinds.specs.declared.moves.Move.{Move}
use Rattle.base_kinds.specs.Kinds.{many, start_rcv, kind_of, used}
use Rattle.base_kinds.specs.Moves.{every, branch, down, making}
use Rattle.base_table.specs.Places.{entries_place}
use Rattle.base_table.specs.Table.{kind_in, task_in, mode_in, entry_count, entry_at}
use Rattle.base_state.specs.Places.{token_place, active_place, ready_place, defined_place, instance_words, instance_place}
use Rattle.base_state.specs.Instances.{made_count, instance_at, tokens, active_count, ready_count}
use Rattle.check_limits.specs.Limits.{within, zeros, count_fits, edges_fit, element_fits, table_fits}
use Rattle.state_figures.specs.Figures.{is_finished}
use Rattle.meaning.specs.declared.Name.{Name}
use Rattle.meaning.specs.Requirements.{touched, first_touched, branch_count, instance_named, has_token, has_tokens, can_lower, is_alone, counts_permit}
use Rattle.meaning.specs.Refusals.{first_refusal}
use Rattle.meaning.specs.Step.{site_of, pool_named, element_named, move_named, instance_of, shared_of, before, refusals}
use Rattle.step_list.specs.Scanned.{is_bare, idle, stirs}
use Rattle.proof_steps.proofs.Seen.{seen_own}
use Rattle.proof_steps.proofs.Choices.{by_test, by_choice, chosen, passed, chosen_true}
use Rattle.proof_steps.proofs.ChangesFit.{touched_within}
use Rattle.proof_steps.proofs.Elements.{row_of, fitting_parts, task_few, entry_within}
use Rattle.proof_steps.proofs.Found.{Found, element_named_lem}
use Rattle.proof_steps.proofs.MadeAfter.{named_made}
use Rattle.proof_steps.proofs.Rows.{row_kind, row_making}
use Rattle.proof_steps.proofs.Traffic.{here, site}
use Rattle.proof_listing.proofs.MoveRows.{takes_entries, takes_or_lowers, start_rcv_makes}

-- an element of a kind that has entries has some
entry_some : (el : List ℕ) → element_fits el ≡ true → 0 < (kind_of (kind_in el)).entries → 0 < entry_count el
unfolding edges_fit count_fits entry_count used
entry_some el fits some =
    let row : Kind = row_of el in
    let entries = (fitting_parts el fits).entries in
    let count : count_fits row.entries (at (drop entries_place el) 0) ≡ true = and_left (count_fits row.entries (at (drop entries_place el) 0)) _ entries in
    let here : at (drop entries_place el) 0 ≡ at el entries_place = get_or-drop entries_place el 0 0 in
    by_choice (λ n. 0 < n) (eqb row.entries many) (at el entries_place) row.entries
    (λ e.
    let w : within fewest branches (at (drop entries_place el) 0) ≡ true = chosen_true (eqb row.entries many) _ (eqb (at (drop entries_place el) 0) row.entries) count e in
    omega (arith, here, leb-true fewest (at (drop entries_place el) 0) (and_left (leb fewest (at (drop entries_place el) 0)) _ w)))
    (λ e. some)

-- the edges that a cell means are some
touched-every : (cell n : ℕ) → cell ≡ every → 0 < n → 0 < touched cell n
unfolding touched
touched-every cell n e l = subst (λ k. 0 < k) (sym (chosen (eqb cell every) n _ (eq-eqb cell every e))) l

touched-branch : (cell n : ℕ) → cell ≡ branch → 0 < touched cell n
unfolding touched
touched-branch cell n e =
    subst (λ k. 0 < k) (sym (passed (eqb cell every) n _ (ne_eqb cell every (λ z. omega arith)) ∙ chosen (eqb cell branch) 1 0 (eq-eqb cell branch e))) (omega arith)

-- AN IDLE ELEMENT el: w is the words of an instance as they stand in a state, h the same words as a step sees them, m a move and b a branch
module _ (el h w : List ℕ) (m : Move) (b : ℕ) (fits : element_fits el ≡ true) (same : (k : ℕ) → k < instance_words → at h k ≡ at w k)
    (few : m.takes ≡ branch → b < entry_count el) (still : idle el w ≡ true) (permits : counts_permit el h m b ≡ true) where
  bare : all (is_bare el w) (entry_count el) ≡ true
  unfolding idle
  bare = and_left (all (is_bare el w) (entry_count el)) _ (and_left _ (eqb (ready_count w (task_in el)) 0) still)

  no_active : active_count w (task_in el) ≡ 0
  unfolding idle
  no_active = eqb-true (active_count w (task_in el)) 0 (and_right (all (is_bare el w) (entry_count el)) _ (and_left _ (eqb (ready_count w (task_in el)) 0) still))

  no_ready : ready_count w (task_in el) ≡ 0
  unfolding idle
  no_ready = eqb-true (ready_count w (task_in el)) 0 (and_right (all (is_bare el w) (entry_count el) && eqb (active_count w (task_in el)) 0) (eqb (ready_count w (task_in el)) 0) still)

  permits_tokens : has_tokens el h m b ≡ true
  unfolding counts_permit
  permits_tokens = and_left (has_tokens el h m b) _ (and_left _ _ (and_left _ (is_alone el h m) permits))

  permits_active : can_lower m.active (active_count h (task_in el)) ≡ true
  unfolding counts_permit
  permits_active = and_right (has_tokens el h m b) _ (and_left _ _ (and_left _ (is_alone el h m) permits))

  permits_ready : can_lower m.ready (ready_count h (task_in el)) ≡ true
  unfolding counts_permit
  permits_ready = and_right (has_tokens el h m b && can_lower m.active (active_count h (task_in el))) (can_lower m.ready (ready_count h (task_in el))) (and_left _ (is_alone el h m) permits)

  -- it takes nothing
  takes_none : 0 < touched m.takes (entry_count el) → ⊥
  unfolding has_tokens has_token is_bare
  takes_none l =
      let j : ℕ = first_touched m.takes b + 0 in
      let r : j < entry_count el = touched_within m.takes b (entry_count el) 0 few l in
      let has = ltb-true 0 (tokens h (entry_at el j)) (all_at (has_token el h (first_touched m.takes b)) (touched m.takes (entry_count el)) permits_tokens 0 l) in
      let none = eqb-true (tokens w (entry_at el j)) 0 (all_at (is_bare el w) (entry_count el) bare j r) in
      let e = entry_within el fits j r in
      omega (arith, has, none, same (token_place (entry_at el j)) (omega (arith, e.1)))

  -- and lowers nothing
  lowers_no_active : m.active ≡ down → ⊥
  unfolding can_lower
  lowers_no_active e =
      omega (arith, no_active, same (active_place (task_in el)) (omega (arith, task_few el fits)), ltb-true 0 (active_count h (task_in el)) (chosen_true (eqb m.active down) _ true permits_active (eq-eqb m.active down e)))

  lowers_no_ready : m.ready ≡ down → ⊥
  unfolding can_lower
  lowers_no_ready e =
      omega (arith, no_ready, same (ready_place (task_in el)) (omega (arith, task_few el fits)), ltb-true 0 (ready_count h (task_in el)) (chosen_true (eqb m.ready down) _ true permits_ready (eq-eqb m.ready down e)))

-- AN ACCEPTED STEP stirs its element
module _ (t s q : List ℕ) (n : Name) (fits : table_fits t ≡ true) (accepted : first_refusal (refusals t s q n) ≡ 0) where
  abbrev el : List ℕ
  el = element_named t n

  abbrev m : Move
  m = move_named t n

  abbrev p : ℕ
  p = pool_named t n

  abbrev i : ℕ
  i = n.instance

  f : Found t s n
  f = here t s q n fits accepted

  el_fits : element_fits el ≡ true
  el_fits = element_named_lem t s n fits f

  takes_there : m.takes ≡ branch → n.branch < entry_count el
  unfolding branch_count
  takes_there e = subst (λ k. n.branch < k) (chosen (eqb m.takes branch) (entry_count el) _ (eq-eqb m.takes branch e)) f.branch

  every_there : m.takes ≡ every → 0 < entry_count el
  unfolding move_named
  every_there e =
      entry_some el el_fits (subst (λ k. 0 < (kind_of k).entries) (row_kind (kind_in el) (mode_in el) n.phase f.move) (takes_entries (kind_in el) (mode_in el) n.phase e))

  -- it makes an instance: the next one
  next_made : m.also ≡ making → eqb i (made_count s p) ≡ true
  unfolding instance_named
  next_made e = chosen_true (eqb m.also making) (eqb i (made_count s p)) (ltb i (made_count s p)) f.instance (eq-eqb m.also making e)

  -- it makes none: its instance is one of those made, and its element is not idle there
  module _ (o : eqb m.also making ≡ false) where
    same_words : (k : ℕ) → k < instance_words → at (site_of t s n).instance k ≡ at (instance_at s p i) k
    unfolding site_of before instance_of
    same_words k l =
        ap (λ (y : List ℕ). at (y ++ shared_of s) k) (passed (eqb m.also making) _ (tab (λ k. at s (instance_place p i + k)) instance_words) o)
        ∙ seen_own s (tab (λ k. at s (instance_place p i + k)) instance_words) (length-tab (λ k. at s (instance_place p i + k)) instance_words) k l
        ∙ get_d_tab (λ k. at s (instance_place p i + k)) instance_words k 0 l
        ∙ sym (get_or-drop (instance_place p i) s k 0)

    permits : counts_permit el (site_of t s n).instance m n.branch ≡ true
    unfolding site_of
    permits = (site t s q n fits accepted).permits

    moves : idle el (instance_at s p i) ≡ true → ⊥
    unfolding move_named
    moves still =
        let h : List ℕ = (site_of t s n).instance in
        let w : List ℕ = instance_at s p i in
        lowers_no_ready el h w m n.branch el_fits same_words takes_there still permits
        (takes_or_lowers (kind_in el) (mode_in el) n.phase f.move (eqb-false m.also making o)
        (λ e. takes_none el h w m n.branch el_fits same_words takes_there still permits (touched-every m.takes (entry_count el) e (every_there e)))
        (λ e. takes_none el h w m n.branch el_fits same_words takes_there still permits (touched-branch m.takes (entry_count el) e))
        (λ e. lowers_no_active el h w m n.branch el_fits same_words takes_there still permits e))

    not-idle : not (idle el (instance_at s p i)) ≡ true
    not-idle = by_test (idle el (instance_at s p i)) (λ e. absurd (moves e)) (λ e. ap not e)

  pub accepted_stirs : stirs el (instance_at s p i) i (made_count s p) ≡ true
  unfolding stirs move_named
  accepted_stirs =
      let kind : m.kind ≡ kind_in el = row_kind (kind_in el) (mode_in el) n.phase f.move in
      by_choice (λ (c : Bool). c ≡ true) (eqb (kind_in el) start_rcv) (eqb i (made_count s p)) _
      (λ e. next_made (start_rcv_makes (kind_in el) (mode_in el) n.phase (kind ∙ eqb-true (kind_in el) start_rcv e)))
      (λ e.
      let o : eqb m.also making ≡ false = ne_eqb m.also making (λ z. eqb-false (kind_in el) start_rcv e (sym kind ∙ row_making (kind_in el) (mode_in el) n.phase z)) in
      chosen (ltb i (made_count s p)) (not (idle el (instance_at s p i))) false (lt-ltb i (made_count s p) (named_made t s n f o))
      ∙ not-idle o)

-- NOTHING STIRS in a made instance h that is finished
module _ (el h : List ℕ) (i made : ℕ) (fits : element_fits el ≡ true) (none : is_finished h ≡ true) (l : i < made) where
  zero_at : (k : ℕ) → k < defined_place 0 → at h k ≡ 0
  unfolding is_finished zeros
  zero_at k r = eqb-true (at h k) 0 (all_at (λ k. eqb (at h k) 0) (defined_place 0) none k r)

  bare_at : (j : ℕ) → j < entry_count el → is_bare el h j ≡ true
  unfolding is_bare
  bare_at j r = let e = entry_within el fits j r in eq-eqb (tokens h (entry_at el j)) 0 (zero_at (token_place (entry_at el j)) (omega (arith, e.0, e.1)))

  idle_quiet : idle el h ≡ true
  unfolding idle
  idle_quiet =
      let few = task_few el fits in
      rw (all_of (is_bare el h) (entry_count el) bare_at, eq-eqb (active_count h (task_in el)) 0 (zero_at (active_place (task_in el)) (omega (arith, few))))
      (eq-eqb (ready_count h (task_in el)) 0 (zero_at (ready_place (task_in el)) (omega (arith, few))))

  pub quiet_stirs : stirs el h i made ≡ false
  unfolding stirs
  quiet_stirs =
      by_choice (λ (c : Bool). c ≡ false) (eqb (kind_in el) start_rcv) (eqb i made) _
      (λ e. ne_eqb i made (λ z. omega (arith, l, z)))
      (λ e. chosen (ltb i made) (not (idle el h)) false (lt-ltb i made l) ∙ ap not idle_quiet)
