-- WEIGHTS on edges and tasks: what a move puts on exits and counts, and what it takes, each weighed. i, o are weights of edges, d weights of tasks. Assumes nothing.
use Prim.Native.Nat.{ℕ, ◌+◌, ◌≤◌, ◌<◌}
use mathlib.Core.Path.{◌≡◌, refl, sym, ◌∙◌, ap, ap₂, subst}
use mathlib.Core.Bool.{Bool, true, false, not, ◌||◌}
use mathlib.Core.List.{List}
use mathlib.Core.Logic.{◌⊎◌, ⊎_elim}
use native.Mathlib.Omega.{arith}
use lib.Dec.{eqb, leb}
use borrow.Author.Tests.{eqb-true, eqb-false, eq-eqb, ne_eqb, leb-true, not-true}
use Rattle.base_words.specs.Each.{each}
use Rattle.base_words.specs.Pick.{if◌then◌or_else◌}
use Rattle.base_words.specs.Sum.{sum, one_if}
use Rattle.base_words.proofs.ListLaws.{each_at}
use Rattle.base_words.proofs.SumLaws.{sum_add, sum_ext, sum_mono}
use Rattle.base_kinds.specs.declared.moves.Move.{Move}
use Rattle.base_kinds.specs.Kinds.{start_rcv, xor_join, xor_split, event_based, task, task_rcv, task_snd}
use Rattle.base_kinds.specs.Moves.{every, branch, up, down, making, moves, no_move, rule_of, move_of}
use Rattle.base_table.specs.Table.{entry_count, exit_count, entry_at, exit_at}
use Rattle.meaning.specs.Requirements.{touched, first_touched}
use Rattle.proof_steps.proofs.Rows.{row_kind}
use Rattle.proof_steps.proofs.Choices.{by_test, passed, chosen_true, passed_true}

-- the weight of the exits that a move touches, of the entries; of a count that it raises or lowers
unfoldable pub putting : (ℕ → ℕ) → List ℕ → Move → ℕ → ℕ
putting o el m b = sum (λ j. o (exit_at el (first_touched m.puts b + j))) (touched m.puts (exit_count el))

unfoldable pub taking : (ℕ → ℕ) → List ℕ → Move → ℕ → ℕ
taking i el m b = sum (λ j. i (entry_at el (first_touched m.takes b + j))) (touched m.takes (entry_count el))

unfoldable pub counted : ℕ → ℕ → ℕ → ℕ
counted cell way w = if eqb cell way then w or_else 0

unfoldable pub counts : ℕ → ℕ → Move → ℕ
counts way w m = counted m.active way w + counted m.ready way w

-- ADDED UP
module _ (f g : ℕ → ℕ) (el : List ℕ) (m : Move) (b : ℕ) where
  pub putting_add : putting (λ k. f k + g k) el m b ≡ putting f el m b + putting g el m b
  unfolding putting
  putting_add = sum_add (λ j. f (exit_at el (first_touched m.puts b + j))) (λ j. g (exit_at el (first_touched m.puts b + j))) (touched m.puts (exit_count el))

  pub taking_add : taking (λ k. f k + g k) el m b ≡ taking f el m b + taking g el m b
  unfolding taking
  taking_add = sum_add (λ j. f (entry_at el (first_touched m.takes b + j))) (λ j. g (entry_at el (first_touched m.takes b + j))) (touched m.takes (entry_count el))

counted_add : (cell way v w : ℕ) → counted cell way (v + w) ≡ counted cell way v + counted cell way w
unfolding counted if◌then◌or_else◌
counted_add cell way v w = go (eqb cell way)
  where
    go : (t : Bool) → (if t then v + w or_else 0) ≡ (if t then v or_else 0) + (if t then w or_else 0)
    go true = refl
    go false = refl

pub counts_add : (way v w : ℕ) (m : Move) → counts way (v + w) m ≡ counts way v m + counts way w m
unfolding counts
counts_add way v w m = omega (arith, counted_add m.active way v w, counted_add m.ready way v w)

counted_most : (cell way w : ℕ) → w ≤ 1 → counted cell way w ≤ one_if (eqb cell way)
unfolding counted if◌then◌or_else◌
counted_most cell way w l = go (eqb cell way)
  where
    go : (t : Bool) → (if t then w or_else 0) ≤ one_if t
    go true = l
    go false = omega arith

counted_least : (cell way w : ℕ) → (cell ≡ way → 1 ≤ w) → one_if (eqb cell way) ≤ counted cell way w
unfolding counted if◌then◌or_else◌
counted_least cell way w l = go (eqb cell way) refl
  where
    go : (t : Bool) → eqb cell way ≡ t → one_if t ≤ (if t then w or_else 0)
    go true e = l (eqb-true cell way e)
    go false e = omega arith

pub counts_most : (way w : ℕ) (m : Move) → w ≤ 1 → counts way w m ≤ one_if (eqb m.active way) + one_if (eqb m.ready way)
unfolding counts
counts_most way w m l = omega (arith, counted_most m.active way w l, counted_most m.ready way w l)

pub counts_least : (way w : ℕ) (m : Move) → (m.active ≡ way → 1 ≤ w) → (m.ready ≡ way → 1 ≤ w) → one_if (eqb m.active way) + one_if (eqb m.ready way) ≤ counts way w m
unfolding counts
counts_least way w m a r = omega (arith, counted_least m.active way w a, counted_least m.ready way w r)

pub counts_none : (way w : ℕ) (m : Move) → w ≡ 0 → counts way w m ≡ 0
unfolding counts counted if◌then◌or_else◌
counts_none way w m e = rw e (go (eqb m.active way) (eqb m.ready way))
  where
    go : (t u : Bool) → (if t then 0 or_else 0) + (if u then 0 or_else 0) ≡ 0
    go true true = refl
    go true false = refl
    go false true = refl
    go false false = refl

pub counts_away : (way w : ℕ) (m : Move) → (m.active ≡ way → ⊥) → (m.ready ≡ way → ⊥) → counts way w m ≡ 0
unfolding counts counted
counts_away way w m a r = ap₂ ◌+◌ (passed (eqb m.active way) w 0 (ne_eqb _ way a)) (passed (eqb m.ready way) w 0 (ne_eqb _ way r))

-- HOW MUCH AT LEAST AND AT MOST
abbrev pub some : ℕ → ℕ
some cell = one_if (not (eqb cell 0))

pub by_touch : (Q : ℕ → ℕ → Type 0) (cell b n : ℕ) → (cell ≡ every → Q 0 n) → (cell ≡ branch → Q b 1) → ((cell ≡ every → ⊥) → (cell ≡ branch → ⊥) → Q 0 0) → Q (first_touched cell b) (touched cell n)
unfolding first_touched touched if◌then◌or_else◌
by_touch Q cell b n f g h = go (eqb cell every) refl (eqb cell branch) refl
  where
    go : (t : Bool) → eqb cell every ≡ t → (u : Bool) → eqb cell branch ≡ u → Q (if u then b or_else 0) (if t then n or_else (if u then 1 or_else 0))
    go true e true d = absurd (let x = eqb-true cell every e in let y = eqb-true cell branch d in omega arith)
    go true e false d = f (eqb-true cell every e)
    go false e true d = g (eqb-true cell branch d)
    go false e false d = h (eqb-false cell every e) (eqb-false cell branch d)

pub sum_one : (f : ℕ → ℕ) → sum f 1 ≡ f 0
unfolding sum
sum_one f = omega arith

pub sum_nil : (f : ℕ → ℕ) → sum f 0 ≡ 0
unfolding sum
sum_nil f = refl

pub some_most : (cell : ℕ) → some cell ≤ 1
some_most cell = go (eqb cell 0)
  where
    go : (t : Bool) → one_if (not t) ≤ 1
    go true = omega arith
    go false = omega arith

pub some_is : (cell : ℕ) → (cell ≡ 0 → ⊥) → some cell ≡ 1
some_is cell n = ap (λ t. one_if (not t)) (ne_eqb cell 0 n)

module _ (f : ℕ → ℕ) (el : List ℕ) (m : Move) (b : ℕ) where
  pub putting_most : (m.puts ≡ every → sum (λ j. f (exit_at el j)) (exit_count el) ≤ 1) → (m.puts ≡ branch → f (exit_at el b) ≤ 1) → putting f el m b ≤ some m.puts
  unfolding putting
  putting_most p q =
      by_touch (λ a n. sum (λ j. f (exit_at el (a + j))) n ≤ some m.puts) m.puts b (exit_count el)
      (λ e. let h = p e in let s = some_is m.puts (λ z. omega arith) in let g : sum (λ j. f (exit_at el (0 + j))) (exit_count el) ≡ sum (λ j. f (exit_at el j)) (exit_count el) = sum_ext (λ j. f (exit_at el (0 + j))) (λ j. f (exit_at el j)) (exit_count el) (λ j l. let z : 0 + j ≡ j = omega arith in ap (λ y. f (exit_at el y)) z) in omega arith)
      (λ e. let h = q e in let s = some_is m.puts (λ z. omega arith) in let z : b + 0 ≡ b = omega arith in let g = sum_one (λ j. f (exit_at el (b + j))) ∙ ap (λ y. f (exit_at el y)) z in omega arith)
      (λ d e. let g = sum_nil (λ j. f (exit_at el (0 + j))) in omega arith)

  pub taking_least : ((m.takes ≡ 0 → ⊥) → (m.takes ≡ every → ⊥) → m.takes ≡ branch) → (m.takes ≡ every → 1 ≤ sum (λ j. f (entry_at el j)) (entry_count el)) → (m.takes ≡ branch → 1 ≤ f (entry_at el b)) → some m.takes ≤ taking f el m b
  unfolding taking
  taking_least w p q =
      by_touch (λ a n. some m.takes ≤ sum (λ j. f (entry_at el (a + j))) n) m.takes b (entry_count el)
      (λ e. let h = p e in let s = some_is m.takes (λ z. omega arith) in let g : sum (λ j. f (entry_at el (0 + j))) (entry_count el) ≡ sum (λ j. f (entry_at el j)) (entry_count el) = sum_ext (λ j. f (entry_at el (0 + j))) (λ j. f (entry_at el j)) (entry_count el) (λ j l. let z : 0 + j ≡ j = omega arith in ap (λ y. f (entry_at el y)) z) in omega arith)
      (λ e. let h = q e in let s = some_is m.takes (λ z. omega arith) in let z : b + 0 ≡ b = omega arith in let g = sum_one (λ j. f (entry_at el (b + j))) ∙ ap (λ y. f (entry_at el y)) z in omega arith)
      (λ d e. by_test (eqb m.takes 0) (λ z. let s : some m.takes ≡ 0 = ap (λ t. one_if (not t)) z in omega arith) (λ z. absurd (e (w (eqb-false m.takes 0 z) d))))

  pub putting_same : (g : ℕ → ℕ) → ((j : ℕ) → j < touched m.puts (exit_count el) → f (exit_at el (first_touched m.puts b + j)) ≡ g (exit_at el (first_touched m.puts b + j))) → putting f el m b ≡ putting g el m b
  unfolding putting
  putting_same g h = sum_ext (λ j. f (exit_at el (first_touched m.puts b + j))) (λ j. g (exit_at el (first_touched m.puts b + j))) (touched m.puts (exit_count el)) h

  pub taking_mono : (g : ℕ → ℕ) → ((e : ℕ) → f e ≤ g e) → taking f el m b ≤ taking g el m b
  unfolding taking
  taking_mono g h = sum_mono (λ j. f (entry_at el (first_touched m.takes b + j))) (λ j. g (entry_at el (first_touched m.takes b + j))) (touched m.takes (entry_count el)) (λ j l. h (entry_at el (first_touched m.takes b + j)))

  pub putting_none : ((j : ℕ) → j < touched m.puts (exit_count el) → f (exit_at el (first_touched m.puts b + j)) ≡ 0) → putting f el m b ≡ 0
  unfolding putting
  putting_none h = sum_zero' (λ j. f (exit_at el (first_touched m.puts b + j))) (touched m.puts (exit_count el)) h
    where
      sum_zero' : (f : ℕ → ℕ) (n : ℕ) → ((k : ℕ) → k < n → f k ≡ 0) → sum f n ≡ 0
      sum_zero' f n h = Rattle.base_words.proofs.SumLaws.sum-zero f n h

abbrev pub is_task : ℕ → Bool
is_task y = eqb y task || (eqb y task_rcv || eqb y task_snd)

-- THE ROWS: a move that makes no instance gains no more than it takes; what it takes is none, all or the branch's
module _ (k m p : ℕ) where
  pub every_row : (f : Move → Bool) → each f moves ≡ true → f no_move ≡ true → f (move_of k m p) ≡ true
  unfolding move_of
  every_row f e o = each_at f moves no_move e o (rule_of k m p)

  abbrev pub gained : Move → ℕ
  gained r = some r.puts + (one_if (eqb r.active up) + one_if (eqb r.ready up))

  abbrev pub lost : Move → ℕ
  lost r = some r.takes + (one_if (eqb r.active down) + one_if (eqb r.ready down))

  pub row_balanced : ((move_of k m p).also ≡ making → ⊥) → gained (move_of k m p) ≤ lost (move_of k m p)
  unfolding each if◌then◌or_else◌
  row_balanced n =
      let h = every_row (λ r. if eqb r.also making then true or_else leb (gained r) (lost r)) refl refl in
      leb-true _ _ (passed_true _ true _ h (ne_eqb _ making n))

  pub row_takes : ((move_of k m p).takes ≡ 0 → ⊥) → ((move_of k m p).takes ≡ every → ⊥) → (move_of k m p).takes ≡ branch
  unfolding each if◌then◌or_else◌
  row_takes n e =
      let h = every_row (λ r. if eqb r.takes 0 then true or_else (if eqb r.takes every then true or_else eqb r.takes branch)) refl refl in
      eqb-true _ branch (passed_true _ true _ (passed_true _ true _ h (ne_eqb _ 0 n)) (ne_eqb _ every e))

  -- only an xorJoin takes the branch's alone; only an xorSplit and an eventBased put on the branch's alone, and they always do; only a task has counts
  pub row_join : (move_of k m p).takes ≡ branch → k ≡ xor_join
  unfolding each if◌then◌or_else◌
  row_join e =
      let h = every_row (λ r. if eqb r.takes branch then eqb r.kind xor_join or_else true) refl refl in
      let q : (move_of k m p).kind ≡ xor_join = eqb-true _ xor_join (chosen_true _ _ true h (eq-eqb _ branch e)) in
      sym (row_kind k m p (λ z. omega (arith, q, z))) ∙ q

  pub row_join_one : (move_of k m p).takes ≡ every → k ≡ xor_join → ⊥
  unfolding each if◌then◌or_else◌
  row_join_one e z =
      let h = every_row (λ r. if eqb r.takes every then not (eqb r.kind 0) or_else true) refl refl in
      let g = every_row (λ r. if eqb r.takes every then not (eqb r.kind xor_join) or_else true) refl refl in
      let c = eq-eqb _ every e in
      let q : (move_of k m p).kind ≡ k = row_kind k m p (eqb-false _ 0 (not-true _ (chosen_true _ _ true h c))) in
      eqb-false _ xor_join (not-true _ (chosen_true _ _ true g c)) (q ∙ z)

  pub row_split : (move_of k m p).puts ≡ every → (k ≡ xor_split → ⊥) × (k ≡ event_based → ⊥)
  unfolding each if◌then◌or_else◌
  row_split e =
      let h = every_row (λ r. if eqb r.puts every then not (eqb r.kind 0) or_else true) refl refl in
      let g = every_row (λ r. if eqb r.puts every then not (eqb r.kind xor_split) or_else true) refl refl in
      let f = every_row (λ r. if eqb r.puts every then not (eqb r.kind event_based) or_else true) refl refl in
      let c = eq-eqb _ every e in
      let q : (move_of k m p).kind ≡ k = row_kind k m p (eqb-false _ 0 (not-true _ (chosen_true _ _ true h c))) in
      (λ z. eqb-false _ xor_split (not-true _ (chosen_true _ _ true g c)) (q ∙ z), λ z. eqb-false _ event_based (not-true _ (chosen_true _ _ true f c)) (q ∙ z))

  pub row_lowers : ((move_of k m p).active ≡ down) ⊎ ((move_of k m p).ready ≡ down) → is_task k ≡ true
  unfolding each if◌then◌or_else◌
  row_lowers e =
      let h = every_row (λ r. if eqb r.active down then is_task r.kind or_else true) refl refl in
      let g = every_row (λ r. if eqb r.ready down then is_task r.kind or_else true) refl refl in
      let n = every_row (λ r. if eqb r.active down then not (eqb r.kind 0) or_else true) refl refl in
      let o = every_row (λ r. if eqb r.ready down then not (eqb r.kind 0) or_else true) refl refl in
      ⊎_elim
      (λ a. let c = eq-eqb _ down a in subst (λ y. is_task y ≡ true) (row_kind k m p (eqb-false _ 0 (not-true _ (chosen_true _ _ true n c)))) (chosen_true _ _ true h c))
      (λ a. let c = eq-eqb _ down a in subst (λ y. is_task y ≡ true) (row_kind k m p (eqb-false _ 0 (not-true _ (chosen_true _ _ true o c)))) (chosen_true _ _ true g c))
      e

  pub row_raises : ((move_of k m p).active ≡ up) ⊎ ((move_of k m p).ready ≡ up) → is_task k ≡ true
  unfolding each if◌then◌or_else◌
  row_raises e =
      let h = every_row (λ r. if eqb r.active up then is_task r.kind or_else true) refl refl in
      let g = every_row (λ r. if eqb r.ready up then is_task r.kind or_else true) refl refl in
      let n = every_row (λ r. if eqb r.active up then not (eqb r.kind 0) or_else true) refl refl in
      let o = every_row (λ r. if eqb r.ready up then not (eqb r.kind 0) or_else true) refl refl in
      ⊎_elim
      (λ a. let c = eq-eqb _ up a in subst (λ y. is_task y ≡ true) (row_kind k m p (eqb-false _ 0 (not-true _ (chosen_true _ _ true n c)))) (chosen_true _ _ true h c))
      (λ a. let c = eq-eqb _ up a in subst (λ y. is_task y ≡ true) (row_kind k m p (eqb-false _ 0 (not-true _ (chosen_true _ _ true o c)))) (chosen_true _ _ true g c))
      e

  -- a startRcv does nothing but make an instance
  pub row_made : k ≡ start_rcv → ((move_of k m p).also ≡ making → ⊥) → (move_of k m p).puts ≡ 0
  unfolding each if◌then◌or_else◌
  row_made is n =
      let h = every_row (λ r. if eqb r.puts 0 then true or_else not (eqb r.kind 0)) refl refl in
      let g = every_row (λ r. if eqb r.kind start_rcv then eqb r.also making or_else true) refl refl in
      by_test (eqb (move_of k m p).puts 0) (eqb-true _ 0)
      (λ e.
      let q : (move_of k m p).kind ≡ k = row_kind k m p (eqb-false _ 0 (not-true _ (passed_true _ true _ h e))) in
      absurd (n (eqb-true _ making (chosen_true _ _ true g (eq-eqb _ start_rcv (q ∙ is))))))

  pub row_counts : ((move_of k m p).active ≡ 0 → ⊥) ⊎ ((move_of k m p).ready ≡ 0 → ⊥) → is_task k ≡ true
  unfolding each if◌then◌or_else◌
  row_counts e =
      let h = every_row (λ r. if eqb r.active 0 then true or_else is_task r.kind) refl refl in
      let g = every_row (λ r. if eqb r.ready 0 then true or_else is_task r.kind) refl refl in
      let n = every_row (λ r. if eqb r.active 0 then true or_else not (eqb r.kind 0)) refl refl in
      let o = every_row (λ r. if eqb r.ready 0 then true or_else not (eqb r.kind 0)) refl refl in
      ⊎_elim
      (λ a. let c = ne_eqb _ 0 a in subst (λ y. is_task y ≡ true) (row_kind k m p (eqb-false _ 0 (not-true _ (passed_true _ true _ n c)))) (passed_true _ true _ h c))
      (λ a. let c = ne_eqb _ 0 a in subst (λ y. is_task y ≡ true) (row_kind k m p (eqb-false _ 0 (not-true _ (passed_true _ true _ o c)))) (passed_true _ true _ g c))
      e
