-- What an accepted step finds and leaves: a finished instance takes no further step, and one that is made is not finished. Assumes nothing.
use Prim.Native.Nat.{ℕ, zero, suc, ◌+◌, ◌≤◌, ◌<◌}
use mathlib.Core.Path.{◌≡◌, refl, sym, ◌∙◌, ap, subst}
use mathlib.Core.Bool.{Bool, true, false, false≢true}
use mathlib.Core.List.{List}
use native.Mathlib.Omega.{arith}
use lib.Dec.{eqb, ltb}
use lib.ListN.{length, length-set}
use lib.Seq.{get_or-drop, get_or-set_same}
use borrow.Author.Tests.{eqb-true, eqb-false, ltb-true, ltb-false, eq-eqb, ne_eqb}
use Rattle.base_words.specs.Each.{each}
use Rattle.base_words.specs.Iter.{iter}
use Rattle.base_words.specs.Pick.{if◌then◌or_else◌}
use Rattle.base_words.specs.Words.{at}
use Rattle.base_words.specs.Counts.{pools, instances, count_most}
use Rattle.base_words.proofs.AllLaws.{all_at}
use Rattle.base_words.proofs.ListLaws.{each_at}
use Rattle.base_kinds.specs.declared.moves.Move.{Move}
use Rattle.base_kinds.specs.Kinds.{start_rcv, kind_of, used}
use Rattle.base_kinds.specs.Moves.{every, branch, making, clearing, moves, no_move, rule_of, move_of}
use Rattle.base_table.specs.Table.{kind_in, mode_in, exit_count, exit_at}
use Rattle.base_state.specs.Places.{token_place, defined_place, instance_words, instance_place, shared_place, instances_words}
use Rattle.base_state.specs.Instances.{made_count, instance_at, tokens}
use Rattle.check_limits.specs.Limits.{zeros, element_fits, table_fits}
use Rattle.meaning.specs.declared.Name.{Name}
use Rattle.meaning.specs.Requirements.{touched, first_touched}
use Rattle.meaning.specs.Changes.{more, active_changed, ready_changed, put_one, puts, moved}
use Rattle.meaning.specs.Refusals.{first_refusal}
use Rattle.meaning.specs.Step.{Site, site_of, pool_named, element_named, move_named, after_taking, instance_after, instances_after, refusals}
use Rattle.state_fits.specs.Fits.{usable, state_fits}
use Rattle.state_figures.specs.Figures.{is_finished}
use Rattle.proof_steps.proofs.Choices.{by_test, by_choice, chosen, passed, chosen_true}
use Rattle.proof_steps.proofs.ChangesFit.{touched_within}
use Rattle.proof_steps.proofs.Elements.{exit_within}
use Rattle.proof_steps.proofs.Found.{Found, element_named_lem}
use Rattle.proof_steps.proofs.InstanceFits.{Fit}
use Rattle.proof_steps.proofs.InstanceAfter.{fit_after}
use Rattle.proof_steps.proofs.InstanceBefore.{instance_before}
use Rattle.proof_steps.proofs.MadeAfter.{named_made}
use Rattle.proof_steps.proofs.Rows.{row_kind, row_making}
use Rattle.proof_steps.proofs.Traffic.{here}
use Rattle.proof_listing.proofs.Idle.{accepted_stirs, quiet_stirs}
use Rattle.proof_listing.proofs.MoveRows.{start_rcv_makes}

-- a word that is not 0
pub unfinished_by : (h : List ℕ) (k : ℕ) → k < defined_place 0 → 0 < at h k → is_finished h ≡ false
unfolding is_finished zeros
unfinished_by h k l some =
    by_test (is_finished h) (λ e. let z = eqb-true (at h k) 0 (all_at (λ j. eqb (at h j) 0) (defined_place 0) e k l) in absurd (omega arith)) (λ e. e)

-- what makes an instance puts a token on every exit
making-puts : (k m p : ℕ) → (move_of k m p).also ≡ making → (move_of k m p).puts ≡ every
unfolding move_of each if◌then◌or_else◌
making-puts k m p e =
    let h = each_at (λ (r : Move). if eqb r.also making then eqb r.puts every or_else true) moves no_move refl refl (rule_of k m p) in
    eqb-true _ every (chosen_true _ _ true h (eq-eqb _ making e))

more_some : (n : ℕ) → 0 < more n
unfolding more
more_some n = by_choice (λ k. 0 < k) (ltb n count_most) (n + 1) n (λ e. omega arith) (λ e. omega (arith, ltb-false n count_most e))

-- an exit that it puts to has a token, and so has the last one
put_some : (el y : List ℕ) (c j : ℕ) → token_place (exit_at el (c + j)) < length (put_one el c j y) → 0 < at (put_one el c j y) (token_place (exit_at el (c + j)))
unfolding put_one
put_some el y c j l =
    let k : ℕ = token_place (exit_at el (c + j)) in
    subst (λ v. 0 < v) (sym (get_or-set_same y k (more (at y k)) 0 (subst (λ n. k < n) (length-set y k (more (at y k))) l))) (more_some (at y k))

puts_some : (el h : List ℕ) (m : Move) (b n : ℕ) → touched m.puts (exit_count el) ≡ suc n
    → token_place (exit_at el (first_touched m.puts b + n)) < length (puts el m b h) → 0 < at (puts el m b h) (token_place (exit_at el (first_touched m.puts b + n)))
unfolding puts iter
puts_some el h m b n e l = rw e (put_some el (iter (put_one el (first_touched m.puts b)) h n) (first_touched m.puts b) n (rw e at l))

module _ (t s q : List ℕ) (n : Name) (fits : table_fits t ≡ true) (accepted : first_refusal (refusals t s q n) ≡ 0) where
  abbrev x : Site
  x = site_of t s n

  abbrev el : List ℕ
  el = element_named t n

  abbrev m : Move
  m = move_named t n

  abbrev p : ℕ
  p = pool_named t n

  f : Found t s n
  f = here t s q n fits accepted

  right : element_fits el ≡ true
  right = element_named_lem t s n fits f

  -- A FINISHED INSTANCE takes no further step
  pub finished_rests : n.instance < made_count s p → is_finished (instance_at s p n.instance) ≡ true → ⊥
  finished_rests l e =
      false≢true (sym (quiet_stirs el (instance_at s p n.instance) n.instance (made_count s p) right e l) ∙ accepted_stirs t s q n fits accepted)

  pub unfinished_before : eqb m.also making ≡ false → is_finished (instance_at s p n.instance) ≡ false
  unfinished_before o = by_test (is_finished (instance_at s p n.instance)) (λ e. absurd (finished_rests (named_made t s n f o) e)) (λ e. e)

  -- A STEP THAT MAKES AN INSTANCE leaves a token in it
  module _ (o : m.also ≡ making) where
    kind : kind_in el ≡ start_rcv
    unfolding move_named
    kind = sym (row_kind (kind_in el) (mode_in el) n.phase f.move) ∙ row_making (kind_in el) (mode_in el) n.phase o

    one_exit : exit_count el ≡ 1
    unfolding exit_count used kind_of if◌then◌or_else◌
    one_exit = rw kind

    every_exit : m.puts ≡ every
    unfolding move_named
    every_exit = making-puts (kind_in el) (mode_in el) n.phase o

    touches_one : touched m.puts (exit_count el) ≡ 1
    unfolding touched
    touches_one = chosen (eqb m.puts every) (exit_count el) _ (eq-eqb m.puts every every_exit) ∙ one_exit

    abbrev exit : ℕ
    exit = first_touched m.puts n.branch + 0

    exit_there : exit < exit_count el
    exit_there =
        touched_within m.puts n.branch (exit_count el) 0 (λ e. absurd (omega (arith, every_exit, e))) (omega (arith, touches_one))

    puts_only : instance_after x ≡ puts el m n.branch (ready_changed el m (active_changed el m (after_taking x)))
    unfolding instance_after moved site_of
    puts_only = passed (eqb m.also clearing) _ _ (ne_eqb m.also clearing (λ e. omega (arith, o, e)))

    pub made_unfinished : state_fits t s q ≡ true → is_finished (instance_after x) ≡ false
    made_unfinished state =
        let w = exit_within el right exit exit_there in
        let l = (fit_after t s n fits f (instance_before t s q n fits state accepted)).long in
        let k : token_place (exit_at el exit) < defined_place 0 = omega (arith, w.0, w.1) in
        let r : token_place (exit_at el exit) < length (puts el m n.branch (ready_changed el m (active_changed el m (after_taking x)))) = subst (λ (y : List ℕ). token_place (exit_at el exit) < length y) puts_only (omega (arith, k, l)) in
        unfinished_by (instance_after x) (token_place (exit_at el exit)) k
        (subst (λ (y : List ℕ). 0 < at y (token_place (exit_at el exit))) (sym puts_only)
        (puts_some el (ready_changed el m (active_changed el m (after_taking x))) m n.branch 0 touches_one r))

  -- it is a startRcv's
  start_rcv_row : kind_in el ≡ start_rcv → m.also ≡ making
  unfolding move_named
  start_rcv_row e = start_rcv_makes (kind_in el) (mode_in el) n.phase (row_kind (kind_in el) (mode_in el) n.phase f.move ∙ e)

  pub makes_by : eqb m.also making ≡ eqb (kind_in el) start_rcv
  makes_by =
      by_test (eqb (kind_in el) start_rcv) (λ e. eq-eqb m.also making (start_rcv_row (eqb-true (kind_in el) start_rcv e)) ∙ sym e)
      (λ e. ne_eqb m.also making (λ z. eqb-false (kind_in el) start_rcv e (kind z)) ∙ sym e)
