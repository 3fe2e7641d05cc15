-- EACH KIND OF ELEMENT: the row of the table of moves that is found for its words is the rule of the paper's element that they stand for, both ways.
-- Assumes nothing.
use Prim.Native.Nat.{ℕ, zero, suc, ◌+◌, ◌<◌}
use mathlib.Core.Path.{◌≡◌, refl, sym, ◌∙◌, ap, subst}
use mathlib.Core.Bool.{true, false, not, ◌&&◌, false≢true}
use mathlib.Core.List.{List, [], ◌∷◌}
use mathlib.Core.Logic.{◌⊎◌, inl, inr, ⊎_elim}
use native.Mathlib.Nat.{not-suc-le-zero}
use native.Mathlib.Omega.{arith}
use lib.Dec.{eqb}
use lib.ListN.{length, get_or}
use Rattle.base_words.specs.Pick.{if◌then◌or_else◌}
use Rattle.base_words.specs.Words.{at}
use Rattle.base_words.proofs.AllLaws.{and_left}
use Rattle.base_kinds.specs.declared.moves.Move.{Move}
use Rattle.base_kinds.specs.Kinds.{one, kind_of, used}
use Rattle.base_kinds.specs.Moves.{moves, no_move, mode_of, rule_of, move_of}
use Rattle.base_table.specs.Places.{entries_place, exits_place}
use Rattle.base_table.specs.Table.{kind_in, task_in, mode_in, entry_count, exit_count, entry_at, exit_at, condition_at, message_name}
use Rattle.check_limits.specs.Limits.{condition_fits, parts_fit, element_fits}
use Rattle.meaning.specs.declared.Truth.TheVariants.{True, False}
use Rattle.meaning.specs.Requirements.{touched, first_touched, branch_count}
use Rattle.paper.specs.Syntax.{default, Choice, Element, start, start_rcv, end, terminate, end_snd, inter_rcv, inter_snd, event_based, and_split, and_join, xor_join, xor_split, task, task_rcv, task_snd, Each, none, more}
use Rattle.paper.specs.States.{Local}
use Rattle.paper.specs.Evaluation.{truth}
use Rattle.paper.specs.Processes.{Label, Moves}
use Rattle.proof_paper.specs.Decoders.{span, cond_at, template_of, message_of, assignments_of, mode_at, guard_of, entries_of, exits_of, choice_of, receipt_of, of_each_kind, element_of}
use Rattle.proof_paper.proofs.Spans.{from_here, length-span, stands_from_zero, zero_stands}
use Rattle.proof_paper.proofs.Changes.{taken_edges, put_edges}
use Rattle.proof_paper.proofs.Rows.{Parts, Goes}
use Rattle.proof_paper.proofs.Rules.{row, Given, parts, Alike, Chosen, start_rule, start_rcv_rule, end_rule, terminate_rule, end_snd_rule, inter_rcv_rule, inter_snd_rule, and_split_rule, and_join_rule, task-a_rule, task_rcv_a_rule, task_snd_a_rule, task_n1_rule, task_rcv_n1_rule, task_snd_n1_rule, task_n2_rule, task_rcv_n2_rule, task_rcv_n3_rule, task_snd_n2_rule, task_snd_n3_rule, event_rule, xor_join_rule, xor_split_rule}
use Rattle.proof_paper.proofs.Words.{condition_fits_lem, guard_plain, mode_is_a, mode_not-a}

-- how many branches an element has
unfoldable pub width : Element → ℕ
width (start e e') = 1
width (start_rcv m ts e) = 1
width (end e) = 1
width (terminate e) = 1
width (end_snd e m xs) = 1
width (inter_rcv e m ts e') = 1
width (inter_snd e m xs e') = 1
width (event_based e bs) = length bs
width (and_split e E) = 1
width (and_join E e) = 1
width (xor_join E e) = length E
width (xor_split e cs) = length cs
width (task e n N c A e') = 1
width (task_rcv e n N c A m ts e') = 1
width (task_snd e n N c A m xs e') = 1

-- the parts of the element of words el that a row m means by branch b, under version v
abbrev pub parts_at : ℕ → List ℕ → Move → ℕ → Parts
parts_at v el m b = record {
  takes = taken_edges el m b;
  puts = put_edges el m b;
  task = task_in el;
  version = v;
  mode = mode_at el;
  assigns = assignments_of el;
  name = message_name el b;
  template = template_of el b;
  message = message_of el b;
}

-- the branch's condition is true and every earlier one other than default is false, or it is the default and every other is false
abbrev pub Grants : List ℕ → ℕ → Local → Type 0
Grants el b L =
    ((truth L.σd (cond_at (condition_at el b)) ≡ True)
    × ((j : ℕ) → j < b → (cond_at (condition_at el j) ≡ default → ⊥) → truth L.σd (cond_at (condition_at el j)) ≡ False))
    ⊎ ((cond_at (condition_at el b) ≡ default) × ((j : ℕ) → j < exit_count el → (j ≡ b → ⊥) → truth L.σd (cond_at (condition_at el j)) ≡ False))

module _ (v : ℕ) (el : List ℕ) (fits : element_fits el ≡ true) (L : Local) where
  -- the row and the rule have the same transitions
  pub record Same (m : Move) (b : ℕ) : Type 0 where
    pub to : (l : Label) (σ : Local) → Goes m (parts_at v el m b) (Grants el b L) L l σ → Moves v (element_of el) m.phase b L l σ
    pub from : (l : Label) (σ : Local) → Moves v (element_of el) m.phase b L l σ → Goes m (parts_at v el m b) (Grants el b L) L l σ

  -- .. at each of the row's branches, which are the element's
  abbrev Agrees : Move → Type 0
  Agrees m = (width (element_of el) ≡ branch_count el m) × ((b : ℕ) → b < branch_count el m → Same m b)

  abbrev Law : Move → Type 0
  Law m = kind_in el ≡ m.kind → mode_of (mode_in el) ≡ m.mode → Agrees m

  abbrev given : ℕ → Given (mode_at el)
  given b = record {
    v = v;
    e = entry_at el 0;
    e' = exit_at el 0;
    n = task_in el;
    c = guard_of el;
    A = assignments_of el;
    m = message_name el b;
    ts = template_of el b;
    xs = message_of el b;
    G = Grants el b L;
    L = L;
  }

  abbrev here : Given (mode_at el)
  here = given 0

  -- a branch, by its rule
  by_branch : {m : Move} {b : ℕ} {E : Element} {takes puts : List ℕ} → Alike (given b) m b E takes puts → element_of el ≡ E → taken_edges el m b ≡ takes → put_edges el m b ≡ puts → Same m b
  by_branch {m} {b} {E} {takes} {puts} r e t p =
      let q : parts_at v el m b ≡ parts (given b) takes puts = λ i. parts (given b) (t i) (p i) in
      record {
        to = λ l σ x. subst (λ y. Moves v y m.phase b L l σ) (sym e) (r.to l σ (subst (λ y. Goes m y (Grants el b L) L l σ) q x));
        from = λ l σ x. subst (λ y. Goes m y (Grants el b L) L l σ) (sym q) (r.from l σ (subst (λ y. Moves v y m.phase b L l σ) e x));
      }

  -- a row of one branch
  by_rule : {m : Move} {E : Element} {takes puts : List ℕ} → Alike here m 0 E takes puts → width E ≡ 1 → branch_count el m ≡ 1 → element_of el ≡ E → taken_edges el m 0 ≡ takes → put_edges el m 0 ≡ puts → Agrees m
  by_rule {m} r w c e t p = (ap width e ∙ w ∙ sym c, (λ b l. let z : 0 ≡ b = omega (arith, c) in subst (Same m) z (by_branch r e t p)))

  element_is : {k : ℕ} → kind_in el ≡ k → element_of el ≡ get_or (of_each_kind el) k (end 0)
  unfolding element_of
  element_is e = ap (λ y. get_or (of_each_kind el) y (end 0)) e

  one_entry : {k : ℕ} → kind_in el ≡ k → used (kind_of k).entries (at el entries_place) ≡ 1 → span (λ j. entry_at el (0 + j)) 0 (entry_count el) ≡ entry_at el 0 ∷ []
  unfolding entry_count span
  one_entry e u = ap (span (λ j. entry_at el (0 + j)) 0) (ap (λ y. used (kind_of y).entries (at el entries_place)) e ∙ u)

  one_exit : {k : ℕ} → kind_in el ≡ k → used (kind_of k).exits (at el exits_place) ≡ 1 → span (λ j. exit_at el (0 + j)) 0 (exit_count el) ≡ exit_at el 0 ∷ []
  unfolding exit_count span
  one_exit e u = ap (span (λ j. exit_at el (0 + j)) 0) (ap (λ y. used (kind_of y).exits (at el exits_place)) e ∙ u)

  from_zero : (f : ℕ → ℕ) (n : ℕ) → span (λ j. f (0 + j)) 0 n ≡ span f 0 n
  from_zero f n = λ i. span (λ j. f (nothing_more j i)) 0 n
    where
      nothing_more : (j : ℕ) → 0 + j ≡ j
      nothing_more j = omega arith

  just_one : (f : ℕ → ℕ) (b : ℕ) → span (λ j. f (b + j)) 0 1 ≡ f b ∷ []
  unfolding span
  just_one f b = ap (λ k. f k ∷ []) (from_here b)

  -- a guard, which is no default
  guarded_by : {k : ℕ} → kind_in el ≡ k → (kind_of k).conditions ≡ one → Grants el 0 L → truth L.σd (guard_of el) ≡ True
  unfolding guard_of used
  guarded_by e c g =
      let o : (kind_of (kind_in el)).conditions ≡ one = ap (λ y. (kind_of y).conditions) e ∙ c in
      let l : 0 < used (kind_of (kind_in el)).conditions (at el exits_place) = subst (λ y. 0 < used y (at el exits_place)) (sym o) (unfold if◌then◌or_else◌ in omega arith) in
      let f : condition_fits one (condition_at el 0) ≡ true = subst (λ y. condition_fits y (condition_at el 0) ≡ true) o (condition_fits_lem el fits 0 l) in
      ⊎_elim (λ h. h.0) (λ d. absurd (guard_plain (condition_at el 0) f d.0)) g

  guard_by : truth L.σd (guard_of el) ≡ True → Grants el 0 L
  unfolding guard_of
  guard_by h = inl (h, (λ j l d. absurd (not-suc-le-zero l)))

  -- WHERE A LINE HAS A CHOICE
  xor_join_law : Law (row 10)
  unfolding entries_of touched first_touched if◌then◌or_else◌ branch_count of_each_kind kind_of used width
  xor_join_law k q = (
    ap width (element_is k) ∙ length-span (entry_at el) 0 (entry_count el),
    (λ b l. by_branch (xor_join_rule (given b) b (entry_at el b) (stands_from_zero (entry_at el) (entry_count el) b l)) (element_is k) (just_one (entry_at el) b) (one_exit k refl)),
  )

  event_law : Law (row 7)
  unfolding receipt_of touched first_touched if◌then◌or_else◌ branch_count of_each_kind kind_of used width
  event_law k q = (
    ap width (element_is k) ∙ length-span (receipt_of el) 0 (exit_count el),
    (λ b l. by_branch (event_rule (given b) b (exit_at el b) (stands_from_zero (receipt_of el) (exit_count el) b l)) (element_is k) (one_entry k refl) (just_one (exit_at el) b)),
  )

  abbrev Picked : ℕ → Type 0
  Picked b = Chosen (given b) b (choice_of el b) (span (choice_of el) 0 (exit_count el))

  xor_split_law : Law (row 11)
  unfolding choice_of touched first_touched if◌then◌or_else◌ branch_count of_each_kind kind_of used width
  xor_split_law k q = (
    ap width (element_is k) ∙ length-span (choice_of el) 0 (exit_count el),
    (λ b l. by_branch (xor_split_rule (given b) b (choice_of el b) (stands_from_zero (choice_of el) (exit_count el) b l) (chooses b) (grants b l)) (element_is k) (one_entry k refl) (just_one (exit_at el) b)),
  )
    where
      chooses : (b : ℕ) → Grants el b L → Picked b
      chooses b g =
          ⊎_elim
          (λ h. inl (
            h.0,
            (λ j c s e ne.
                let z = (zero_stands (choice_of el) c (exit_count el) j s).1 in
                subst (λ (y : Choice). truth L.σd y.condition ≡ False) (sym z) (h.1 j e (λ v. ne (ap (λ (y : Choice). y.condition) z ∙ v)))),
          ))
          (λ d. inr (
            d.0,
            (λ j c s ne.
                let w = zero_stands (choice_of el) c (exit_count el) j s in
                subst (λ (y : Choice). truth L.σd y.condition ≡ False) (sym w.1) (d.1 j w.0 ne)),
          )) g

      grants : (b : ℕ) → b < exit_count el → Picked b → Grants el b L
      grants b l =
          ⊎_elim
          (λ h. inl (h.0, (λ j r ne. h.1 j (choice_of el j) (stands_from_zero (choice_of el) (exit_count el) j (omega (arith, r, l))) r ne)))
          (λ d. inr (d.0, (λ j r ne. d.1 j (choice_of el j) (stands_from_zero (choice_of el) (exit_count el) j r) ne)))

  -- EVERY ROW
  no_law : Law no_move
  unfolding element_fits kind_of
  no_law k q =
      absurd (false≢true (and_left false (parts_fit (kind_of 0) el) (subst (λ y. not (eqb (kind_of y).letters 0) && parts_fit (kind_of y) el ≡ true) k fits)))

  laws : Each Law moves
  unfolding entries_of exits_of touched first_touched if◌then◌or_else◌ branch_count of_each_kind kind_of used width span
  laws =
      more (λ k q. by_rule (start_rule here) refl refl (element_is k) (one_entry k refl) (one_exit k refl))
      (more (λ k q. by_rule (start_rcv_rule here) refl refl (element_is k) refl (one_exit k refl))
      (more (λ k q. by_rule (end_rule here) refl refl (element_is k) (one_entry k refl) refl)
      (more (λ k q. by_rule (terminate_rule here) refl refl (element_is k) (one_entry k refl) refl)
      (more (λ k q. by_rule (end_snd_rule here) refl refl (element_is k) (one_entry k refl) refl)
      (more (λ k q. by_rule (inter_rcv_rule here) refl refl (element_is k) (one_entry k refl) (one_exit k refl))
      (more (λ k q. by_rule (inter_snd_rule here) refl refl (element_is k) (one_entry k refl) (one_exit k refl))
      (more event_law
      (more (λ k q. by_rule (and_split_rule here (exits_of el)) refl refl (element_is k) (one_entry k refl) (from_zero (exit_at el) (exit_count el)))
      (more (λ k q. by_rule (and_join_rule here (entries_of el)) refl refl (element_is k) (from_zero (entry_at el) (entry_count el)) (one_exit k refl))
      (more xor_join_law
      (more xor_split_law
      (more (λ k q. by_rule (task-a_rule here (guarded_by k refl) guard_by) refl refl (element_is k ∙ ap (λ N. task (entry_at el 0) (task_in el) N (guard_of el) (assignments_of el) (exit_at el 0)) (mode_is_a el q)) (one_entry k refl) (one_exit k refl))
      (more (λ k q. by_rule (task_rcv_a_rule here (guarded_by k refl) guard_by) refl refl (element_is k ∙ ap (λ N. task_rcv (entry_at el 0) (task_in el) N (guard_of el) (assignments_of el) (message_name el 0) (template_of el 0) (exit_at el 0)) (mode_is_a el q)) (one_entry k refl) (one_exit k refl))
      (more (λ k q. by_rule (task_snd_a_rule here (guarded_by k refl) guard_by) refl refl (element_is k ∙ ap (λ N. task_snd (entry_at el 0) (task_in el) N (guard_of el) (assignments_of el) (message_name el 0) (message_of el 0) (exit_at el 0)) (mode_is_a el q)) (one_entry k refl) (one_exit k refl))
      (more (λ k q. by_rule (task_n1_rule here (guarded_by k refl) guard_by (mode_not-a el q)) refl refl (element_is k) (one_entry k refl) refl)
      (more (λ k q. by_rule (task_rcv_n1_rule here (guarded_by k refl) guard_by (mode_not-a el q)) refl refl (element_is k) (one_entry k refl) refl)
      (more (λ k q. by_rule (task_snd_n1_rule here (guarded_by k refl) guard_by (mode_not-a el q)) refl refl (element_is k) (one_entry k refl) refl)
      (more (λ k q. by_rule (task_n2_rule here (mode_not-a el q)) refl refl (element_is k) refl (one_exit k refl))
      (more (λ k q. by_rule (task_rcv_n2_rule here (mode_not-a el q)) refl refl (element_is k) refl refl)
      (more (λ k q. by_rule (task_rcv_n3_rule here (mode_not-a el q)) refl refl (element_is k) refl (one_exit k refl))
      (more (λ k q. by_rule (task_snd_n2_rule here (mode_not-a el q)) refl refl (element_is k) refl refl)
      (more (λ k q. by_rule (task_snd_n3_rule here (mode_not-a el q)) refl refl (element_is k) refl (one_exit k refl))
      (more no_law none)))))))))))))))))))))))

  law_at : (r : ℕ) → Law (get_or moves r no_move)
  law_at r = go moves laws r
    where
      go : (ms : List Move) → Each Law ms → (i : ℕ) → Law (get_or ms i no_move)
      go [] e i = no_law
      go (m ∷ ms) (more p e) zero = p
      go (m ∷ ms) (more p e) (suc i) = go ms e i

  pub law : (p : ℕ) → Law (move_of (kind_in el) (mode_in el) p)
  unfolding move_of
  law p = law_at (rule_of (kind_in el) (mode_in el) p)
