-- The rows of the code are those of the rules. Assumes nothing.
use Rattle.std.proofs.Common.{◌≡◌, ℕ, ◌<◌, ◌≤◌, Bool, true, false, ◌&&◌, ◌||◌, not, eqb, ltb, length, get_or, refl, sym, ◌∙◌, arith}
use Rattle.std.proofs.lemmas.Bool.{eqb-true}
use borrow.Author.Tests.{ltb-true, ne_eqb}
use mathlib.Core.Bool.{false≢true}
use mathlib.Core.Logic.{⊎_elim}
use native.Mathlib.Nat.{eq-or-lt_of_le}
use Rattle.base_words.specs.All.{all}
use Rattle.base_words.specs.Each.{each}
use Rattle.base_words.specs.Seek.{seek}
use Rattle.base_words.proofs.AllLaws.{all_at, and_left, and_right}
use Rattle.base_words.proofs.ListLaws.{each_at}
use Rattle.base_words.proofs.PickLaws.{pick_no, and_false_right}
use Rattle.base_words.proofs.SeekLaws.{sought}
use Rattle.base_kinds.specs.declared.moves.Move.{Move}
use Rattle.base_kinds.specs.Kinds.{kinds}
use Rattle.base_kinds.specs.Moves.{moves, no_move, modes, phases, rules, rules as many, rule_of, move_of, is_rule, mode_of, na, na_nc}

abbrev row : ℕ → Move
row r = get_or moves r no_move

-- A row of the code's at a kind, mode and phase is that of the rule there by computation.
pub row_known : (k m p a b c : ℕ) (r : Move) → k ≡ a → m ≡ b → p ≡ c → r ≡ move_of a b c → r ≡ move_of k m p
row_known k m p a b c r e f g h = rw (e, f, g) h

pub row_both : (k m p a c : ℕ) (r : Move) → 2 ≤ m → m < 4 → k ≡ a → p ≡ c → r ≡ move_of a 2 c → r ≡ move_of a 3 c → r ≡ move_of k m p
row_both k m p a c r from to e g h i = ⊎_elim (λ f. row_known k m p a 3 c r e f g i) (λ f. row_known k m p a 2 c r e (omega arith) g h) (eq-or-lt_of_le (let l : m ≤ 3 = omega arith in l))

-- Where there is a rule: without a mode, atomic and not atomic.
unfoldable pub has_rule : ℕ → ℕ → ℕ → Bool
has_rule k m p =
    (eqb m 0 && (eqb p 0 && (ltb 0 k && ltb k 13)))
    || ((eqb m 1 && (eqb p 0 && (ltb 12 k && ltb k 16)))
    || (eqb m 2 && ((ltb 0 p && ltb p 4) && (ltb 12 k && (ltb k 16 && not (eqb p 2 && eqb k 13))))))

every_row : all (λ i. has_rule (row i).kind (row i).mode (row i).phase) many ≡ true
unfolding all has_rule
every_row = refl

module _ (k m p : ℕ) (out : has_rule k (mode_of m) p ≡ false) where
  no_row : (r : ℕ) → r < many → is_rule k m p r ≡ false
  unfolding is_rule
  no_row r h = go (is_rule k m p r) refl
    where
      go : (b : Bool) → is_rule k m p r ≡ b → b ≡ false
      go false e = refl
      go true e =
          let both = and_left (eqb (row r).kind k && eqb (row r).mode (mode_of m)) (eqb (row r).phase p) e in
          let at-kind : (row r).kind ≡ k = eqb-true _ _ (and_left (eqb (row r).kind k) (eqb (row r).mode (mode_of m)) both) in
          let at-mode : (row r).mode ≡ mode_of m = eqb-true _ _ (and_right (eqb (row r).kind k) (eqb (row r).mode (mode_of m)) both) in
          let at-phase : (row r).phase ≡ p = eqb-true _ _ (and_right (eqb (row r).kind k && eqb (row r).mode (mode_of m)) (eqb (row r).phase p) e) in
          sym (all_at (λ i. has_rule (row i).kind (row i).mode (row i).phase) many every_row r h) ∙ rw (at-kind, at-mode, at-phase) out

  pub no_rule : no_move ≡ move_of k m p
  unfolding move_of rule_of
  no_rule =
      let s = sought (is_rule k m p) many in
      let none : seek (is_rule k m p) many ≡ many = ⊎_elim (λ e. e) (λ h. absurd (false≢true (sym (no_row (seek (is_rule k m p) many) h) ∙ s.1 h))) (eq-or-lt_of_le s.0) in
      rw none

-- no row has a kind, mode or phase outside the table
column : (f : Move → ℕ) (n : ℕ) → each (λ r. ltb (f r) n) moves ≡ true → ltb (f no_move) n ≡ true → (x : ℕ) → n ≤ x → (r : ℕ) → eqb (f (row r)) x ≡ false
column f n p q x h r = let l = ltb-true (f (row r)) n (each_at (λ r. ltb (f r) n) moves no_move p q r) in ne_eqb (f (row r)) x (λ e. omega arith)

and_off : (b : Bool) → b && false ≡ false
and_off b = and_false_right b false refl

module _ (k m p : ℕ) where
  none_meets : ((r : ℕ) → is_rule k m p r ≡ false) → rules ≡ rule_of k m p
  unfolding rule_of
  none_meets none =
      let s = sought (is_rule k m p) rules in
      ⊎_elim (λ e. sym e) (λ h. absurd (false≢true (sym (none (rule_of k m p)) ∙ s.1 h))) (eq-or-lt_of_le s.0)

  pub no_kind_lem : length kinds ≤ k → rules ≡ rule_of k m p
  unfolding is_rule each
  no_kind_lem h = none_meets (λ r. rw (column (λ x. x.kind) (length kinds) refl refl k h r))

  pub no_mode : modes ≤ m → rules ≡ rule_of k m p
  unfolding is_rule mode_of each
  no_mode h =
      let o : m ≡ mode_of m = pick_no (eqb m na_nc) m na m (ne_eqb m na_nc (λ e. omega arith)) refl in
      none_meets (λ r. rw (← o, column (λ x. x.mode) modes refl refl m h r, and_off))

  pub no_phase : phases ≤ p → rules ≡ rule_of k m p
  unfolding is_rule each
  no_phase h = none_meets (λ r. rw (column (λ x. x.phase) phases refl refl p h r, and_off))

  -- where there is no rule, its row is that of none
  pub cells_none : rules ≡ rule_of k m p → no_move ≡ move_of k m p
  unfolding move_of
  cells_none e = rw (← e)
