-- EVERY TRANSITION OF THE PAPER HAS ITS ROW, and so the process level whole: the row found for an element's words has exactly the transitions of the
-- element that they stand for. Assumes nothing.
use Prim.Native.Nat.{ℕ, zero, suc, ◌<◌}
use mathlib.Core.Path.{◌≡◌, refl, sym, ◌∙◌, ap, subst}
use mathlib.Core.Bool.{true, false, not, ◌&&◌, false≢true}
use mathlib.Core.List.{List}
use mathlib.Core.Logic.{⊎_elim}
use native.Mathlib.Nat.{eq-or-lt_of_le}
use native.Mathlib.Omega.{arith}
use lib.Dec.{eqb}
use lib.ListN.{length, get_or}
use borrow.Author.Tests.{eqb-true, eq-eqb}
use Rattle.base_words.specs.Pick.{if◌then◌or_else◌}
use Rattle.base_words.specs.Seek.{seek}
use Rattle.base_words.proofs.AllLaws.{and_left, and_right}
use Rattle.base_words.proofs.SeekLaws.{sought, seek_found}
use Rattle.base_kinds.specs.declared.moves.Move.{Move}
use Rattle.base_kinds.specs.Kinds.{kind_of}
use Rattle.base_kinds.specs.Moves.{moves, no_move, rules, mode_of, is_rule, rule_of, move_of}
use Rattle.base_table.specs.Table.{kind_in, mode_in}
use Rattle.check_limits.specs.Limits.{parts_fit, element_fits}
use Rattle.meaning.specs.Requirements.{branch_count}
use Rattle.proof_steps.proofs.Rows.{row_kind, row_mode}
use Rattle.paper.specs.Syntax.{Mode, a, na_c, na_nc, Element, start, start_rcv, end, terminate, end_snd, inter_rcv, inter_snd, event_based, and_split, and_join, xor_join, xor_split, task, task_rcv, task_snd, Stands, here, there}
use Rattle.paper.specs.States.{Local}
use Rattle.paper.specs.Processes.{Label, Moves, P-Start, P-End, P-Terminate, P-StartRcv, P-EndSnd, P-InterRcv, P-InterSnd, P-AndSplit, P-XorSplit1, P-XorSplit2, P-AndJoin, P-XorJoin, P-EventG, P-Task-A, P-TaskRcv-A, P-TaskSnd-A, P-Task-N1, P-Task-N2, P-TaskRcv-N1, P-TaskRcv-N2, P-TaskRcv-N3, P-TaskSnd-N1, P-TaskSnd-N2, P-TaskSnd-N3}
use Rattle.proof_paper.specs.Decoders.{mode_at, of_each_kind, element_of}
use Rattle.proof_paper.proofs.Rows.{Goes}
use Rattle.proof_paper.proofs.Words.{mode_few, mode_none, mode_some, number_of, mode_of_lem}
use Rattle.proof_paper.proofs.EachKind.{width, parts_at, Grants, Same, law}

-- the kind and the mode of the paper's element, as the table of moves numbers them
kind_number : Element → ℕ
kind_number (start e e') = 1
kind_number (start_rcv m ts e) = 2
kind_number (end e) = 3
kind_number (terminate e) = 4
kind_number (end_snd e m xs) = 5
kind_number (inter_rcv e m ts e') = 6
kind_number (inter_snd e m xs e') = 7
kind_number (event_based e bs) = 8
kind_number (and_split e E) = 9
kind_number (and_join E e) = 10
kind_number (xor_join E e) = 11
kind_number (xor_split e cs) = 12
kind_number (task e n N c A e') = 13
kind_number (task_rcv e n N c A m ts e') = 14
kind_number (task_snd e n N c A m xs e') = 15

mode_number : Element → ℕ
mode_number (start e e') = 0
mode_number (start_rcv m ts e) = 0
mode_number (end e) = 0
mode_number (terminate e) = 0
mode_number (end_snd e m xs) = 0
mode_number (inter_rcv e m ts e') = 0
mode_number (inter_snd e m xs e') = 0
mode_number (event_based e bs) = 0
mode_number (and_split e E) = 0
mode_number (and_join E e) = 0
mode_number (xor_join E e) = 0
mode_number (xor_split e cs) = 0
mode_number (task e n N c A e') = number_of N
mode_number (task_rcv e n N c A m ts e') = number_of N
mode_number (task_snd e n N c A m xs e') = number_of N

stands_below : {A : Type 0} {x : A} {j : ℕ} {xs : List A} → Stands x j xs → j < length xs
stands_below here = omega arith
stands_below (there s) = let l = stands_below s in omega arith

-- the row that is found first
row_by : (k m p r : ℕ) → r < rules → seek (is_rule k m p) r ≡ r → is_rule k m p r ≡ true → (get_or moves r no_move).kind ≡ k → (move_of k m p).kind ≡ k
unfolding move_of rule_of
row_by k m p r l e i q = ap (λ j. (get_or moves j no_move).kind) (sym (seek_found (is_rule k m p) rules r l e i)) ∙ q

na_row : (k p : ℕ) → (move_of k 2 p).kind ≡ k → (move_of k 3 p).kind ≡ k → (N : Mode) → (N ≡ a → ⊥) → (move_of k (number_of N) p).kind ≡ k
unfolding number_of
na_row k p x y a ne = absurd (ne refl)
na_row k p x y na_c ne = x
na_row k p x y na_nc ne = y

row_there : {v : ℕ} {E : Element} {p b : ℕ} {L : Local} {l : Label} {σ : Local} → Moves v E p b L l σ → ((move_of (kind_number E) (mode_number E) p).kind ≡ kind_number E) × (b < width E)
unfolding kind_number mode_number width number_of is_rule mode_of seek if◌then◌or_else◌
row_there (P-Start _ _) = (row_by 1 0 0 0 (omega arith) refl refl refl, omega arith)
row_there (P-End _) = (row_by 3 0 0 2 (omega arith) refl refl refl, omega arith)
row_there (P-Terminate _) = (row_by 4 0 0 3 (omega arith) refl refl refl, omega arith)
row_there (P-StartRcv _ _) = (row_by 2 0 0 1 (omega arith) refl refl refl, omega arith)
row_there (P-EndSnd _ _) = (row_by 5 0 0 4 (omega arith) refl refl refl, omega arith)
row_there (P-InterRcv _ _ _) = (row_by 6 0 0 5 (omega arith) refl refl refl, omega arith)
row_there (P-InterSnd _ _ _) = (row_by 7 0 0 6 (omega arith) refl refl refl, omega arith)
row_there (P-AndSplit _ _) = (row_by 9 0 0 8 (omega arith) refl refl refl, omega arith)
row_there (P-XorSplit1 s _ _ _ _) = (row_by 12 0 0 11 (omega arith) refl refl refl, stands_below s)
row_there (P-XorSplit2 s _ _ _ _) = (row_by 12 0 0 11 (omega arith) refl refl refl, stands_below s)
row_there (P-AndJoin _ _) = (row_by 10 0 0 9 (omega arith) refl refl refl, omega arith)
row_there (P-XorJoin s _ _) = (row_by 11 0 0 10 (omega arith) refl refl refl, stands_below s)
row_there (P-EventG s _ _ _) = (row_by 8 0 0 7 (omega arith) refl refl refl, stands_below s)
row_there (P-Task-A _ _ _ _) = (row_by 13 1 0 12 (omega arith) refl refl refl, omega arith)
row_there (P-TaskRcv-A _ _ _ _) = (row_by 14 1 0 13 (omega arith) refl refl refl, omega arith)
row_there (P-TaskSnd-A _ _ _ _ _) = (row_by 15 1 0 14 (omega arith) refl refl refl, omega arith)
row_there (P-Task-N1 {N = N} y _ _ _ _) = (na_row 13 1 (row_by 13 2 1 15 (omega arith) refl refl refl) (row_by 13 3 1 15 (omega arith) refl refl refl) N y, omega arith)
row_there (P-Task-N2 {N = N} y _ _ _) = (na_row 13 3 (row_by 13 2 3 18 (omega arith) refl refl refl) (row_by 13 3 3 18 (omega arith) refl refl refl) N y, omega arith)
row_there (P-TaskRcv-N1 {N = N} y _ _ _ _) = (na_row 14 1 (row_by 14 2 1 16 (omega arith) refl refl refl) (row_by 14 3 1 16 (omega arith) refl refl refl) N y, omega arith)
row_there (P-TaskRcv-N2 {N = N} y _ _ _) = (na_row 14 2 (row_by 14 2 2 19 (omega arith) refl refl refl) (row_by 14 3 2 19 (omega arith) refl refl refl) N y, omega arith)
row_there (P-TaskRcv-N3 {N = N} y _ _ _) = (na_row 14 3 (row_by 14 2 3 20 (omega arith) refl refl refl) (row_by 14 3 3 20 (omega arith) refl refl refl) N y, omega arith)
row_there (P-TaskSnd-N1 {N = N} y _ _ _ _) = (na_row 15 1 (row_by 15 2 1 17 (omega arith) refl refl refl) (row_by 15 3 1 17 (omega arith) refl refl refl) N y, omega arith)
row_there (P-TaskSnd-N2 {N = N} y _ _ _) = (na_row 15 2 (row_by 15 2 2 21 (omega arith) refl refl refl) (row_by 15 3 2 21 (omega arith) refl refl refl) N y, omega arith)
row_there (P-TaskSnd-N3 {N = N} y _ _ _) = (na_row 15 3 (row_by 15 2 3 22 (omega arith) refl refl refl) (row_by 15 3 3 22 (omega arith) refl refl refl) N y, omega arith)

-- OF THE WORDS el
module _ (el : List ℕ) (fits : element_fits el ≡ true) where
  lettered : (kind_of (kind_in el)).letters ≡ 0 → ⊥
  unfolding element_fits
  lettered z = false≢true (and_left false (parts_fit (kind_of (kind_in el)) el) (subst (λ y. not y && parts_fit (kind_of (kind_in el)) el ≡ true) (eq-eqb (kind_of (kind_in el)).letters 0 z) fits))

  kind_at : (k : ℕ) → ((kind_of k).letters ≡ 0 → ⊥) → kind_number (get_or (of_each_kind el) k (end 0)) ≡ k
  unfolding kind_number of_each_kind kind_of
  kind_at zero l = absurd (l refl)
  kind_at (suc zero) l = refl
  kind_at (suc (suc zero)) l = refl
  kind_at (suc (suc (suc zero))) l = refl
  kind_at (suc (suc (suc (suc zero)))) l = refl
  kind_at (suc (suc (suc (suc (suc zero))))) l = refl
  kind_at (suc (suc (suc (suc (suc (suc zero)))))) l = refl
  kind_at (suc (suc (suc (suc (suc (suc (suc zero))))))) l = refl
  kind_at (suc (suc (suc (suc (suc (suc (suc (suc zero)))))))) l = refl
  kind_at (suc (suc (suc (suc (suc (suc (suc (suc (suc zero))))))))) l = refl
  kind_at (suc (suc (suc (suc (suc (suc (suc (suc (suc (suc zero)))))))))) l = refl
  kind_at (suc (suc (suc (suc (suc (suc (suc (suc (suc (suc (suc zero))))))))))) l = refl
  kind_at (suc (suc (suc (suc (suc (suc (suc (suc (suc (suc (suc (suc zero)))))))))))) l = refl
  kind_at (suc (suc (suc (suc (suc (suc (suc (suc (suc (suc (suc (suc (suc zero))))))))))))) l = refl
  kind_at (suc (suc (suc (suc (suc (suc (suc (suc (suc (suc (suc (suc (suc (suc zero)))))))))))))) l = refl
  kind_at (suc (suc (suc (suc (suc (suc (suc (suc (suc (suc (suc (suc (suc (suc (suc zero))))))))))))))) l = refl
  kind_at (suc (suc (suc (suc (suc (suc (suc (suc (suc (suc (suc (suc (suc (suc (suc (suc (k))))))))))))))))) l = absurd (l refl)

  mode_at_lem : (k : ℕ) → kind_in el ≡ k → ((kind_of k).letters ≡ 0 → ⊥) → mode_number (get_or (of_each_kind el) k (end 0)) ≡ mode_in el
  unfolding mode_number of_each_kind kind_of mode_at
  mode_at_lem zero e l = absurd (l refl)
  mode_at_lem (suc zero) e l = sym (mode_none el fits (ap (λ y. (kind_of y).task) e))
  mode_at_lem (suc (suc zero)) e l = sym (mode_none el fits (ap (λ y. (kind_of y).task) e))
  mode_at_lem (suc (suc (suc zero))) e l = sym (mode_none el fits (ap (λ y. (kind_of y).task) e))
  mode_at_lem (suc (suc (suc (suc zero)))) e l = sym (mode_none el fits (ap (λ y. (kind_of y).task) e))
  mode_at_lem (suc (suc (suc (suc (suc zero))))) e l = sym (mode_none el fits (ap (λ y. (kind_of y).task) e))
  mode_at_lem (suc (suc (suc (suc (suc (suc zero)))))) e l = sym (mode_none el fits (ap (λ y. (kind_of y).task) e))
  mode_at_lem (suc (suc (suc (suc (suc (suc (suc zero))))))) e l = sym (mode_none el fits (ap (λ y. (kind_of y).task) e))
  mode_at_lem (suc (suc (suc (suc (suc (suc (suc (suc zero)))))))) e l = sym (mode_none el fits (ap (λ y. (kind_of y).task) e))
  mode_at_lem (suc (suc (suc (suc (suc (suc (suc (suc (suc zero))))))))) e l = sym (mode_none el fits (ap (λ y. (kind_of y).task) e))
  mode_at_lem (suc (suc (suc (suc (suc (suc (suc (suc (suc (suc zero)))))))))) e l = sym (mode_none el fits (ap (λ y. (kind_of y).task) e))
  mode_at_lem (suc (suc (suc (suc (suc (suc (suc (suc (suc (suc (suc zero))))))))))) e l = sym (mode_none el fits (ap (λ y. (kind_of y).task) e))
  mode_at_lem (suc (suc (suc (suc (suc (suc (suc (suc (suc (suc (suc (suc zero)))))))))))) e l = sym (mode_none el fits (ap (λ y. (kind_of y).task) e))
  mode_at_lem (suc (suc (suc (suc (suc (suc (suc (suc (suc (suc (suc (suc (suc zero))))))))))))) e l = mode_of_lem (mode_in el) (mode_few el fits) (mode_some el fits (ap (λ y. (kind_of y).task) e))
  mode_at_lem (suc (suc (suc (suc (suc (suc (suc (suc (suc (suc (suc (suc (suc (suc zero)))))))))))))) e l = mode_of_lem (mode_in el) (mode_few el fits) (mode_some el fits (ap (λ y. (kind_of y).task) e))
  mode_at_lem (suc (suc (suc (suc (suc (suc (suc (suc (suc (suc (suc (suc (suc (suc (suc zero))))))))))))))) e l = mode_of_lem (mode_in el) (mode_few el fits) (mode_some el fits (ap (λ y. (kind_of y).task) e))
  mode_at_lem (suc (suc (suc (suc (suc (suc (suc (suc (suc (suc (suc (suc (suc (suc (suc (suc (k))))))))))))))))) e l = absurd (l refl)

  kind_is : kind_number (element_of el) ≡ kind_in el
  unfolding element_of
  kind_is = kind_at (kind_in el) lettered

  mode_is : mode_number (element_of el) ≡ mode_in el
  unfolding element_of
  mode_is = mode_at_lem (kind_in el) refl lettered

  kind_some : kind_in el ≡ 0 → ⊥
  unfolding kind_of
  kind_some z = lettered (ap (λ y. (kind_of y).letters) z)

  abbrev found : ℕ → Move
  found p = move_of (kind_in el) (mode_in el) p

  module _ (p : ℕ) (is : (found p).kind ≡ 0 → ⊥) where
    phase_is : (found p).phase ≡ p
    unfolding move_of rule_of is_rule
    phase_is =
        let s = sought (is_rule (kind_in el) (mode_in el) p) rules in
        let r : is_rule (kind_in el) (mode_in el) p (rule_of (kind_in el) (mode_in el) p) ≡ true = ⊎_elim (λ e. absurd (is (rw e))) (λ h. s.1 h) (eq-or-lt_of_le s.0) in
        eqb-true _ p (and_right (eqb (found p).kind (kind_in el) && eqb (found p).mode (mode_of (mode_in el))) (eqb (found p).phase p) r)

    both : (v : ℕ) (L : Local) → (width (element_of el) ≡ branch_count el (found p)) × ((b : ℕ) → b < branch_count el (found p) → Same v el fits L (found p) b)
    both v L = law v el fits L p (sym (row_kind (kind_in el) (mode_in el) p is)) (sym (row_mode (kind_in el) (mode_in el) p is))

    -- FROM THE ROW TO THE RULE
    pub process_sound : (v : ℕ) (L : Local) (b : ℕ) → b < branch_count el (found p) → {l : Label} {σ : Local} → Goes (found p) (parts_at v el (found p) b) (Grants el b L) L l σ → Moves v (element_of el) p b L l σ
    process_sound v L b r {l} {σ} x = subst (λ y. Moves v (element_of el) y b L l σ) phase_is (((both v L).1 b r).to l σ x)

  -- FROM THE RULE TO THE ROW
  pub process_complete : {v p b : ℕ} {L : Local} {l : Label} {σ : Local} → Moves v (element_of el) p b L l σ
      → ((found p).kind ≡ 0 → ⊥) × (b < branch_count el (found p)) × Goes (found p) (parts_at v el (found p) b) (Grants el b L) L l σ
  process_complete {v} {p} {b} {L} {l} {σ} x =
      let (k, w) = row_there x in
      let k' : (found p).kind ≡ kind_in el = subst (λ y. (move_of y (mode_in el) p).kind ≡ y) kind_is (subst (λ y. (move_of (kind_number (element_of el)) y p).kind ≡ kind_number (element_of el)) mode_is k) in
      let is : (found p).kind ≡ 0 → ⊥ = λ z. kind_some (sym k' ∙ z) in
      let r : b < branch_count el (found p) = subst (λ y. b < y) (both p is v L).0 w in
      (is, r, ((both p is v L).1 b r).from l σ (subst (λ y. Moves v (element_of el) y b L l σ) (sym (phase_is p is)) x))
