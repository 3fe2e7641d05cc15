-- What holds of every row of the table of moves, and so of the move that a name finds. Assumes nothing.
use Prim.Native.Nat.{ℕ, ◌+◌, ◌<◌}
use mathlib.Core.Path.{◌≡◌, refl}
use mathlib.Core.Bool.{Bool, true, not, ◌&&◌, ◌||◌}
use mathlib.Core.Logic.{⊎_elim}
use native.Mathlib.Nat.{eq-or-lt_of_le}
use lib.Dec.{eqb, ltb}
use lib.ListN.{get_or}
use borrow.Author.Tests.{eqb-true, eqb-false, ltb-true, not-true, eq-eqb, ne_eqb}
use Rattle.base_words.specs.Each.{each}
use Rattle.base_words.specs.Pick.{if◌then◌or_else◌}
use Rattle.base_words.proofs.AllLaws.{and_left, and_right}
use Rattle.base_words.proofs.ListLaws.{each_at}
use Rattle.base_words.proofs.SeekLaws.{sought}
use Rattle.base_kinds.specs.declared.moves.Move.{Move}
use Rattle.base_kinds.specs.Kinds.{start_rcv, one, many, kind_of}
use Rattle.base_kinds.specs.Moves.{a, branch, on, making, clearing, moves, no_move, rules, mode_of, is_rule, rule_of, move_of}
use Rattle.proof_steps.proofs.Choices.{chosen_true, passed_true}

-- THE ROW FOUND is of the kind and the mode
module _ (k m p : ℕ) where
  every_row : (f : Move → Bool) → each f moves ≡ true → f no_move ≡ true → f (move_of k m p) ≡ true
  unfolding move_of
  every_row f e o = each_at f moves no_move e o (rule_of k m p)

  abbrev row : Move
  row = get_or moves (rule_of k m p) no_move

  abbrev is_kind : Bool
  is_kind = eqb row.kind k

  abbrev is_mode : Bool
  is_mode = eqb row.mode (mode_of m)

  abbrev is_phase : Bool
  is_phase = eqb row.phase p

  module _ (there : (move_of k m p).kind ≡ 0 → ⊥) where
    row_found : is_rule k m p (rule_of k m p) ≡ true
    unfolding move_of rule_of
    row_found = let s = sought (is_rule k m p) rules in ⊎_elim (λ e. absurd (there (rw e))) (λ h. s.1 h) (eq-or-lt_of_le s.0)

    pub row_kind : (move_of k m p).kind ≡ k
    unfolding is_rule move_of
    row_kind = eqb-true _ k (and_left is_kind is_mode (and_left (is_kind && is_mode) is_phase row_found))

    pub row_mode : (move_of k m p).mode ≡ mode_of m
    unfolding is_rule move_of
    row_mode = eqb-true _ (mode_of m) (and_right is_kind is_mode (and_left (is_kind && is_mode) is_phase row_found))

  -- no row takes and puts at the branch
  pub row_branch : (move_of k m p).puts ≡ branch → (move_of k m p).takes ≡ branch → ⊥
  unfolding each if◌then◌or_else◌
  row_branch e f =
      let h = every_row (λ r. if eqb r.puts branch then not (eqb r.takes branch) or_else true) refl refl in
      eqb-false _ branch (not-true _ (chosen_true _ _ true h (eq-eqb _ branch e))) f

  -- counts are of tasks that are not atomic, ready counts of those that receive or send
  pub row_active : ((move_of k m p).active ≡ 0 → ⊥) → a < (move_of k m p).mode
  unfolding each if◌then◌or_else◌
  row_active n =
      let h = every_row (λ r. if eqb r.active 0 then true or_else ltb a r.mode) refl refl in
      ltb-true a _ (passed_true _ true _ h (ne_eqb _ 0 n))

  pub row_ready : ((move_of k m p).ready ≡ 0 → ⊥) → a < (move_of k m p).mode
  unfolding each if◌then◌or_else◌
  row_ready n =
      let h = every_row (λ r. if eqb r.ready 0 then true or_else ltb a r.mode) refl refl in
      ltb-true a _ (passed_true _ true _ h (ne_eqb _ 0 n))

  pub row_speaks : ((move_of k m p).ready ≡ 0 → ⊥) → 0 < (kind_of (move_of k m p).kind).receives + (kind_of (move_of k m p).kind).sends
  unfolding each if◌then◌or_else◌ kind_of
  row_speaks n =
      let h = every_row (λ r. if eqb r.ready 0 then true or_else ltb 0 ((kind_of r.kind).receives + (kind_of r.kind).sends)) refl refl in
      ltb-true 0 _ (passed_true _ true _ h (ne_eqb _ 0 n))

  -- what makes an instance is a startRcv
  pub row_making : (move_of k m p).also ≡ making → (move_of k m p).kind ≡ start_rcv
  unfolding each if◌then◌or_else◌
  row_making e =
      let h = every_row (λ r. if eqb r.also making then eqb r.kind start_rcv or_else true) refl refl in
      eqb-true _ start_rcv (chosen_true _ _ true h (eq-eqb _ making e))

  -- what clears puts no token and raises no count
  pub row_clearing : (move_of k m p).also ≡ clearing → ((move_of k m p).puts ≡ 0) × ((move_of k m p).active ≡ 0) × ((move_of k m p).ready ≡ 0)
  unfolding each if◌then◌or_else◌
  row_clearing e =
      let h = every_row (λ r. if eqb r.also clearing then eqb r.puts 0 or_else true) refl refl in
      let g = every_row (λ r. if eqb r.also clearing then eqb r.active 0 or_else true) refl refl in
      let f = every_row (λ r. if eqb r.also clearing then eqb r.ready 0 or_else true) refl refl in
      let c = eq-eqb _ clearing e in
      (eqb-true _ 0 (chosen_true _ _ true h c), eqb-true _ 0 (chosen_true _ _ true g c), eqb-true _ 0 (chosen_true _ _ true f c))

  -- what receives is of a kind that does
  pub row_receives : (move_of k m p).receives ≡ on → 0 < (kind_of (move_of k m p).kind).receives
  unfolding each if◌then◌or_else◌ kind_of
  row_receives e =
      let h = every_row (λ r. if eqb r.receives on then ltb 0 (kind_of r.kind).receives or_else true) refl refl in
      ltb-true 0 _ (chosen_true _ _ true h (eq-eqb _ on e))

  -- a step that receives does not send
  pub row_one_way : (move_of k m p).receives ≡ on → (move_of k m p).sends ≡ on → ⊥
  unfolding each if◌then◌or_else◌
  row_one_way e f =
      let h = every_row (λ r. if eqb r.receives on then not (eqb r.sends on) or_else true) refl refl in
      eqb-false _ on (not-true _ (chosen_true _ _ true h (eq-eqb _ on e))) f

  -- what receives or sends has one message and no branches, or a message for each exit and the exits as branches
  abbrev Talks : Type 0
  Talks = eqb (move_of k m p).receives on || eqb (move_of k m p).sends on ≡ true

  pub row_alone : Talks → ((move_of k m p).puts ≡ branch → ⊥) → ((move_of k m p).takes ≡ branch → ⊥) × ((kind_of (move_of k m p).kind).receives + (kind_of (move_of k m p).kind).sends ≡ one)
  unfolding each if◌then◌or_else◌ kind_of
  row_alone e n =
      let h = every_row (λ r. if eqb r.receives on || eqb r.sends on then (if eqb r.puts branch then true or_else not (eqb r.takes branch)) or_else true) refl refl in
      let g = every_row (λ r. if eqb r.receives on || eqb r.sends on then (if eqb r.puts branch then true or_else eqb ((kind_of r.kind).receives + (kind_of r.kind).sends) one) or_else true) refl refl in (
        eqb-false _ branch (not-true _ (passed_true _ true _ (chosen_true _ _ true h e) (ne_eqb _ branch n))),
        eqb-true _ one (passed_true _ true _ (chosen_true _ _ true g e) (ne_eqb _ branch n)),
      )

  pub row_each : Talks → (move_of k m p).puts ≡ branch → ((kind_of (move_of k m p).kind).exits ≡ many) × ((kind_of (move_of k m p).kind).receives + (kind_of (move_of k m p).kind).sends ≡ many)
  unfolding each if◌then◌or_else◌ kind_of
  row_each e n =
      let h = every_row (λ r. if eqb r.receives on || eqb r.sends on then (if eqb r.puts branch then eqb (kind_of r.kind).exits many or_else true) or_else true) refl refl in
      let g = every_row (λ r. if eqb r.receives on || eqb r.sends on then (if eqb r.puts branch then eqb ((kind_of r.kind).receives + (kind_of r.kind).sends) many or_else true) or_else true) refl refl in (
        eqb-true _ many (chosen_true _ _ true (chosen_true _ _ true h e) (eq-eqb _ branch n)),
        eqb-true _ many (chosen_true _ _ true (chosen_true _ _ true g e) (eq-eqb _ branch n)),
      )
