-- What the rows of the table of moves say of an element that can move. Assumes nothing.
use Prim.Native.Nat.{ℕ, ◌<◌}
use mathlib.Core.Path.{◌≡◌, refl}
use mathlib.Core.Bool.{Bool, true, ◌&&◌}
use mathlib.Core.Logic.{⊎_elim}
use native.Mathlib.Nat.{eq-or-lt_of_le}
use native.Mathlib.Omega.{arith}
use lib.Dec.{eqb, ltb}
use lib.ListN.{get_or}
use borrow.Author.Tests.{eqb-true, ltb-true, eq-eqb, ne_eqb}
use Rattle.base_words.specs.Each.{each}
use Rattle.base_words.specs.Pick.{if◌then◌or_else◌}
use Rattle.base_words.proofs.AllLaws.{and_right}
use Rattle.base_words.proofs.ListLaws.{each_at}
use Rattle.base_words.proofs.SeekLaws.{sought}
use Rattle.base_kinds.specs.declared.moves.Move.{Move}
use Rattle.base_kinds.specs.Kinds.{start_rcv, xor_split, kind_of}
use Rattle.base_kinds.specs.Moves.{phases, every, branch, on, down, making, moves, no_move, rules, mode_of, is_rule, rule_of, move_of}
use Rattle.proof_steps.proofs.Choices.{chosen_true, passed_true}

module _ (k m p : ℕ) where
  every_row : (f : Move → Bool) → each f moves ≡ true → f no_move ≡ true → f (move_of k m p) ≡ true
  unfolding move_of
  every_row f e o = each_at f moves no_move e o (rule_of k m p)

  -- the row found is of the phase
  pub row_phase : ((move_of k m p).kind ≡ 0 → ⊥) → (move_of k m p).phase ≡ p
  unfolding move_of rule_of is_rule
  row_phase there =
      let s = sought (is_rule k m p) rules in
      let found : is_rule k m p (rule_of k m p) ≡ true = ⊎_elim (λ e. absurd (there (rw e))) (λ h. s.1 h) (eq-or-lt_of_le s.0) in
      let row : Move = get_or moves (rule_of k m p) no_move in
      eqb-true _ p (and_right (eqb row.kind k && eqb row.mode (mode_of m)) (eqb row.phase p) found)

  pub phase_few : ((move_of k m p).kind ≡ 0 → ⊥) → p < phases
  unfolding each
  phase_few there = let h = every_row (λ r. ltb r.phase phases) refl refl in omega (arith, row_phase there, ltb-true (move_of k m p).phase phases h)

  -- a startRcv makes one
  pub start_rcv_makes : (move_of k m p).kind ≡ start_rcv → (move_of k m p).also ≡ making
  unfolding each if◌then◌or_else◌
  start_rcv_makes e =
      let h = every_row (λ r. if eqb r.kind start_rcv then eqb r.also making or_else true) refl refl in
      eqb-true _ making (chosen_true _ _ true h (eq-eqb _ start_rcv e))

  -- an xorSplit asks its branch's condition, puts there, receives nothing and has no phases
  of_split : (cell : Move → ℕ) (x : ℕ) → each (λ r. if eqb r.kind xor_split then eqb (cell r) x or_else true) moves ≡ true
      → (if eqb no_move.kind xor_split then eqb (cell no_move) x or_else true) ≡ true → (move_of k m p).kind ≡ xor_split → cell (move_of k m p) ≡ x
  of_split cell x e o s = eqb-true _ x (chosen_true _ _ true (every_row (λ r. if eqb r.kind xor_split then eqb (cell r) x or_else true) e o) (eq-eqb _ xor_split s))

  pub split_row : (move_of k m p).kind ≡ xor_split → ((move_of k m p).puts ≡ branch) × ((move_of k m p).asks ≡ on) × ((move_of k m p).receives ≡ 0) × ((move_of k m p).phase ≡ 0)
  unfolding each if◌then◌or_else◌
  split_row s = (of_split (λ r. r.puts) branch refl refl s, of_split (λ r. r.asks) on refl refl s, of_split (λ r. r.receives) 0 refl refl s, of_split (λ r. r.phase) 0 refl refl s)

  -- what takes from every entry is of a kind that has entries
  pub takes_entries : (move_of k m p).takes ≡ every → 0 < (kind_of (move_of k m p).kind).entries
  unfolding each if◌then◌or_else◌ kind_of
  takes_entries e =
      let h = every_row (λ r. if eqb r.takes every then ltb 0 (kind_of r.kind).entries or_else true) refl refl in
      ltb-true 0 _ (chosen_true _ _ true h (eq-eqb _ every e))

  -- what makes no instance takes from an entry, or else lowers a count
  pub takes_or_lowers : ((move_of k m p).kind ≡ 0 → ⊥) → ((move_of k m p).also ≡ making → ⊥) → ((move_of k m p).takes ≡ every → ⊥) → ((move_of k m p).takes ≡ branch → ⊥) → ((move_of k m p).active ≡ down → ⊥) → (move_of k m p).ready ≡ down
  unfolding each if◌then◌or_else◌
  takes_or_lowers there o e b a =
      let h = every_row (λ r. if eqb r.kind 0 then true or_else if eqb r.also making then true or_else if eqb r.takes every then true or_else if eqb r.takes branch then true or_else if eqb r.active down then true or_else eqb r.ready down) refl refl in
      let h1 = passed_true _ true _ h (ne_eqb _ 0 there) in
      let h2 = passed_true _ true _ h1 (ne_eqb _ making o) in
      let h3 = passed_true _ true _ h2 (ne_eqb _ every e) in
      let h4 = passed_true _ true _ h3 (ne_eqb _ branch b) in
      eqb-true _ down (passed_true _ true _ h4 (ne_eqb _ down a))
