-- An accepted step puts exactly one token more on each exit that it touches, and raises a count by exactly one: 255 is never met. Where the exits of
-- its element are all different, which check 4 of a model gives. Assumes nothing.
use Prim.Native.Nat.{ℕ, ◌+◌, ◌≤◌, ◌<◌}
use mathlib.Core.Path.{◌≡◌, ◌∙◌, ap}
use mathlib.Core.Bool.{Bool, true, false, ◌&&◌}
use mathlib.Core.List.{List}
use native.Mathlib.Omega.{arith}
use lib.Dec.{eqb, ltb}
use lib.ListN.{length, length-set}
use lib.Seq.{get_or-set_same, get_or-set_other}
use borrow.Author.Tests.{eqb-true, eq-eqb, ltb-true}
use Rattle.base_words.specs.Pick.{if◌then◌or_else◌}
use Rattle.base_words.specs.Words.{at}
use Rattle.base_words.specs.Counts.{tasks, edges, count_most}
use Rattle.base_words.proofs.AllLaws.{all_at, and_left, and_right}
use Rattle.base_kinds.specs.declared.moves.Move.{Move}
use Rattle.base_kinds.specs.Moves.{branch, up, clearing}
use Rattle.base_table.specs.Table.{task_in, kind_in, mode_in, exit_count, exit_at}
use Rattle.base_state.specs.Places.{token_place, active_place, ready_place, copy_words}
use Rattle.base_state.specs.Instances.{tokens, active_count, ready_count}
use Rattle.check_limits.specs.Limits.{element_fits, table_fits}
use Rattle.meaning.specs.declared.Name.{Name}
use Rattle.meaning.specs.Requirements.{touched, first_touched, edge_has_room, has_rooms, can_raise, roomy}
use Rattle.meaning.specs.Changes.{more, count_changed, active_changed, ready_changed, put_one, puts, cleared, moved}
use Rattle.meaning.specs.Refusals.{first_refusal}
use Rattle.meaning.specs.Step.{Site, site_of, element_named, move_named, after_taking, instance_after, refusals}
use Rattle.state_fits.specs.Fits.{state_fits}
use Rattle.proof_steps.proofs.Choices.{by_test, chosen, passed, chosen_true}
use Rattle.proof_steps.proofs.Rows.{row_clearing}
use Rattle.proof_steps.proofs.Elements.{task_few, exit_within}
use Rattle.proof_steps.proofs.Found.{Found, element_named_lem}
use Rattle.proof_steps.proofs.ChangesFit.{touched_within}
use Rattle.proof_steps.proofs.InstanceAfter.{branch_exit, fit_taking}
use Rattle.proof_steps.proofs.MadeAfter.{more_one}
use Rattle.proof_steps.proofs.InstanceBefore.{instance_before}
use Rattle.proof_steps.proofs.RaiseLaws.{raised_other, raised_one}
use Rattle.proof_steps.proofs.Traffic.{here, site}

-- the exits of an element are all different
abbrev pub ExitsApart : List ℕ → Type 0
ExitsApart el = (j k : ℕ) → j < exit_count el → k < exit_count el → (j ≡ k → ⊥) → exit_at el j ≡ exit_at el k → ⊥

-- OF ANY INSTANCE h that has room
module _ (el : List ℕ) (m : Move) (b : ℕ) (h : List ℕ) (fits : element_fits el ≡ true) (few : m.puts ≡ branch → b < exit_count el) (long : length h ≡ copy_words) (room : roomy el h m b ≡ true) where
  abbrev place : ℕ → ℕ
  place j = token_place (exit_at el (first_touched m.puts b + j))

  abbrev count : ℕ
  count = touched m.puts (exit_count el)

  abbrev g : List ℕ
  g = ready_changed el m (active_changed el m h)

  abbrev rooms_part : Bool
  rooms_part = has_rooms el h m b

  abbrev active_part : Bool
  active_part = can_raise m.active (active_count h (task_in el))

  abbrev ready_part : Bool
  ready_part = can_raise m.ready (ready_count h (task_in el))

  exit_in : (j : ℕ) → j < count → (1 ≤ exit_at el (first_touched m.puts b + j)) × (exit_at el (first_touched m.puts b + j) ≤ edges)
  exit_in j l = exit_within el fits (first_touched m.puts b + j) (touched_within m.puts b (exit_count el) j few l)

  has_room_lem : (j : ℕ) → j < count → at h (place j) < count_most
  unfolding roomy has_rooms edge_has_room
  has_room_lem j l =
      ltb-true (at h (place j)) count_most
      (all_at (edge_has_room el h (first_touched m.puts b)) count (and_left rooms_part active_part (and_left (rooms_part && active_part) ready_part room)) j l)

  -- the counts are changed apart from the tokens, and apart from one another
  length_counted : length g ≡ copy_words
  unfolding ready_changed active_changed
  length_counted =
      length-set (active_changed el m h) (ready_place (task_in el)) (count_changed m.ready (ready_count (active_changed el m h) (task_in el)))
      ∙ length-set h (active_place (task_in el)) (count_changed m.active (active_count h (task_in el)))
      ∙ long

  same_tokens : (k : ℕ) → k < edges → at g k ≡ at h k
  unfolding ready_changed active_changed
  same_tokens k l =
      get_or-set_other (active_changed el m h) (ready_place (task_in el)) k (count_changed m.ready (ready_count (active_changed el m h) (task_in el))) 0 (λ e. omega arith)
      ∙ get_or-set_other h (active_place (task_in el)) k (count_changed m.active (active_count h (task_in el))) 0 (λ e. omega arith)

  counted_active : active_count g (task_in el) ≡ count_changed m.active (active_count h (task_in el))
  unfolding ready_changed active_changed
  counted_active =
      let w : task_in el ≤ tasks = task_few el fits in
      get_or-set_other (active_changed el m h) (ready_place (task_in el)) (active_place (task_in el)) (count_changed m.ready (ready_count (active_changed el m h) (task_in el))) 0 (λ e. omega arith)
      ∙ get_or-set_same h (active_place (task_in el)) (count_changed m.active (active_count h (task_in el))) 0 (omega arith)

  counted_ready : ready_count g (task_in el) ≡ count_changed m.ready (ready_count h (task_in el))
  unfolding ready_changed active_changed
  counted_ready =
      let w : task_in el ≤ tasks = task_few el fits in
      get_or-set_same (active_changed el m h) (ready_place (task_in el)) (count_changed m.ready (ready_count (active_changed el m h) (task_in el))) 0
      (omega (arith, length-set h (active_place (task_in el)) (count_changed m.active (active_count h (task_in el)))))
      ∙ ap (count_changed m.ready) (get_or-set_other h (active_place (task_in el)) (ready_place (task_in el)) (count_changed m.active (active_count h (task_in el))) 0 (λ e. omega arith))

  counted_up : (cell n : ℕ) → cell ≡ up → can_raise cell n ≡ true → count_changed cell n ≡ n + 1
  unfolding count_changed can_raise
  counted_up cell n e r =
      chosen (eqb cell up) (more n) _ (eq-eqb cell up e)
      ∙ more_one n (ltb-true n count_most (chosen_true (eqb cell up) (ltb n count_most) true r (eq-eqb cell up e)))

  -- tokens
  put_one_lem : ExitsApart el → (j : ℕ) → j < count → at (puts el m b g) (place j) ≡ at h (place j) + 1
  unfolding puts put_one
  put_one_lem apart j l =
      raised_one place g count
      (λ i k li lk d e.
      let wi = exit_in i li in
      let wk = exit_in k lk in
      apart (first_touched m.puts b + i) (first_touched m.puts b + k) (touched_within m.puts b (exit_count el) i few li) (touched_within m.puts b (exit_count el) k few lk)
      (λ z. d (omega arith)) (omega (arith, wi.0, wk.0)))
      (λ i li. let w = exit_in i li in omega (arith, w.0, w.1, length_counted))
      (λ i li. let w = exit_in i li in let s : at g (place i) ≡ at h (place i) = same_tokens (place i) (omega (arith, w.0, w.1)) in omega (arith, has_room_lem i li))
      count
      (omega arith)
      j
      l
      ∙ ap (λ y. y + 1) (let w = exit_in j l in same_tokens (place j) (omega (arith, w.0, w.1)))

  -- counts
  put_apart : (k : ℕ) → edges ≤ k → at (puts el m b g) k ≡ at g k
  unfolding puts put_one
  put_apart k l = raised_other place g count k (λ j r e. let w = exit_in j r in omega (arith, w.0, w.1))

  active_one : m.active ≡ up → active_count (puts el m b g) (task_in el) ≡ active_count h (task_in el) + 1
  unfolding roomy
  active_one e =
      put_apart (active_place (task_in el)) (omega arith)
      ∙ counted_active
      ∙ counted_up m.active (active_count h (task_in el)) e (and_right rooms_part active_part (and_left (rooms_part && active_part) ready_part room))

  ready_one : m.ready ≡ up → ready_count (puts el m b g) (task_in el) ≡ ready_count h (task_in el) + 1
  unfolding roomy
  ready_one e =
      put_apart (ready_place (task_in el)) (omega arith)
      ∙ counted_ready
      ∙ counted_up m.ready (ready_count h (task_in el)) e (and_right (rooms_part && active_part) ready_part room)

-- OF AN ACCEPTED STEP
module _ (t s q : List ℕ) (n : Name) (fits : table_fits t ≡ true) (state : state_fits t s q ≡ true) (accepted : first_refusal (refusals t s q n) ≡ 0) where
  abbrev x : Site
  x = site_of t s n

  f : Found t s n
  f = here t s q n fits accepted

  right : element_fits (element_named t n) ≡ true
  right = element_named_lem t s n fits f

  taking_long : length (after_taking x) ≡ copy_words
  taking_long = (fit_taking t s n fits f (instance_before t s q n fits state accepted)).long

  room_after : roomy (element_named t n) (after_taking x) (move_named t n) n.branch ≡ true
  unfolding site_of
  room_after = (site t s q n fits accepted).roomed

  abbrev after : List ℕ
  after = puts (element_named t n) (move_named t n) n.branch (ready_changed (element_named t n) (move_named t n) (active_changed (element_named t n) (move_named t n) (after_taking x)))

  not_cleared : eqb (move_named t n).also clearing ≡ false → instance_after x ≡ after
  unfolding instance_after moved site_of
  not_cleared e = passed (eqb (move_named t n).also clearing) (cleared (after_taking x)) after e

  -- a row that clears puts nothing and raises nothing
  clears_none : eqb (move_named t n).also clearing ≡ true → ((move_named t n).puts ≡ 0) × ((move_named t n).active ≡ 0) × ((move_named t n).ready ≡ 0)
  unfolding move_named
  clears_none e = row_clearing (kind_in (element_named t n)) (mode_in (element_named t n)) n.phase (eqb-true (move_named t n).also clearing e)

  none_touched : (cell k : ℕ) → cell ≡ 0 → touched cell k ≡ 0
  unfolding touched if◌then◌or_else◌
  none_touched cell k e = rw e

  pub no_saturation : ExitsApart (element_named t n)
      → (j : ℕ) → j < touched (move_named t n).puts (exit_count (element_named t n))
      → tokens (instance_after x) (exit_at (element_named t n) (first_touched (move_named t n).puts n.branch + j))
      ≡ tokens (after_taking x) (exit_at (element_named t n) (first_touched (move_named t n).puts n.branch + j)) + 1
  no_saturation apart j l =
      by_test (eqb (move_named t n).also clearing)
      (λ e. let z = none_touched (move_named t n).puts (exit_count (element_named t n)) (clears_none e).0 in absurd (omega arith))
      (λ e.
      ap (λ (y : List ℕ). tokens y (exit_at (element_named t n) (first_touched (move_named t n).puts n.branch + j))) (not_cleared e)
      ∙ put_one_lem (element_named t n) (move_named t n) n.branch (after_taking x) right (branch_exit t s n fits f) taking_long room_after apart j l)

  pub active_raised : (move_named t n).active ≡ up → active_count (instance_after x) (task_in (element_named t n)) ≡ active_count (after_taking x) (task_in (element_named t n)) + 1
  active_raised u =
      by_test (eqb (move_named t n).also clearing)
      (λ e. let z = (clears_none e).1 in absurd (omega arith))
      (λ e.
      ap (λ (y : List ℕ). active_count y (task_in (element_named t n))) (not_cleared e)
      ∙ active_one (element_named t n) (move_named t n) n.branch (after_taking x) right (branch_exit t s n fits f) taking_long room_after u)

  pub ready_raised : (move_named t n).ready ≡ up → ready_count (instance_after x) (task_in (element_named t n)) ≡ ready_count (after_taking x) (task_in (element_named t n)) + 1
  ready_raised u =
      by_test (eqb (move_named t n).also clearing)
      (λ e. let z = (clears_none e).2 in absurd (omega arith))
      (λ e.
      ap (λ (y : List ℕ). ready_count y (task_in (element_named t n))) (not_cleared e)
      ∙ ready_one (element_named t n) (move_named t n) n.branch (after_taking x) right (branch_exit t s n fits f) taking_long room_after u)
