-- WHAT THE TABLES OF KINDS AND MOVES SAY of an element that is next to move: one that takes from its entries, and a task that has begun. Assumes nothing.
use Prim.Native.Nat.{ℕ, ◌+◌, ◌≤◌, ◌<◌}
use mathlib.Core.Path.{◌≡◌, refl, sym, ap, subst}
use mathlib.Core.Bool.{Bool, true, not, ◌&&◌, ◌||◌}
use mathlib.Core.Logic.{◌⊎◌, inl, inr, ⊎_elim}
use native.Mathlib.Omega.{arith}
use lib.Dec.{eqb, leb, ltb}
use lib.ListN.{get_or-eq_default}
use borrow.Author.Tests.{eqb-true, eqb-false, eq-eqb, ne_eqb, ltb-true, ltb-false, leb-true, not-true}
use Rattle.std.proofs.lemmas.Bool.{or_cases}
use Rattle.base_words.specs.All.{all}
use Rattle.base_words.specs.Pick.{if◌then◌or_else◌}
use Rattle.base_words.specs.Seek.{seek}
use Rattle.base_words.proofs.AllLaws.{all_at, and_left, and_right}
use Rattle.base_kinds.specs.declared.Kind.{Kind}
use Rattle.base_kinds.specs.declared.moves.Move.{Move}
use Rattle.base_kinds.specs.Kinds.{none, one, many, kinds, no_kind, kind_of, and_join, xor_join, task, task_rcv, task_snd}
use Rattle.base_kinds.specs.Moves.{a, na_c, na_nc, modes, every, branch, down, making, move_of, rule_of, is_rule, mode_of}
use Rattle.proof_steps.proofs.Choices.{by_test, chosen_true, passed_true}
use Rattle.proof_nesting.proofs.Weights.{is_task}

-- how many kinds there are, with that of no element
abbrev rows : ℕ
rows = 16

-- a kind that has entries is one of them
row_few : (q : ℕ) → ((kind_of q).entries ≡ none → ⊥) → q < rows
unfolding kind_of
row_few q n =
    by_test (ltb q rows) (ltb-true q rows)
    (λ e. absurd (n (ap (λ (y : Kind). y.entries) (get_or-eq_default kinds no_kind (ltb-false q rows e)))))

-- ENTRIES: several only of an andJoin and an xorJoin
many_rows : all (λ q. if eqb (kind_of q).entries many then (eqb q and_join || eqb q xor_join) or_else true) rows ≡ true
unfolding all kind_of if◌then◌or_else◌
many_rows = refl

pub many_joins : (q : ℕ) → (kind_of q).entries ≡ many → (q ≡ and_join) ⊎ (q ≡ xor_join)
many_joins q e =
    let l = row_few q (λ z. omega (arith, z, e)) in
    let h = chosen_true _ _ true (all_at (λ q. if eqb (kind_of q).entries many then (eqb q and_join || eqb q xor_join) or_else true) rows many_rows q l) (eq-eqb _ many e) in
    ⊎_elim (λ z. inl (eqb-true q and_join z)) (λ z. inr (eqb-true q xor_join z)) (or_cases _ _ h)

few_rows : all (λ q. leb (kind_of q).entries many) rows ≡ true
unfolding all kind_of
few_rows = refl

pub one_or_many : (q : ℕ) → ((kind_of q).entries ≡ none → ⊥) → ((kind_of q).entries ≡ one) ⊎ ((kind_of q).entries ≡ many)
one_or_many q n =
    let m = leb-true (kind_of q).entries many (all_at (λ q. leb (kind_of q).entries many) rows few_rows q (row_few q n)) in
    by_test (eqb (kind_of q).entries one) (λ e. inl (eqb-true _ one e)) (λ e. let d = eqb-false (kind_of q).entries one e in inr (go (kind_of q).entries n m d))
  where
    go : (k : ℕ) → (k ≡ none → ⊥) → k ≤ many → (k ≡ one → ⊥) → k ≡ many
    go k n m d = by_test (eqb k 0) (λ z. absurd (n (eqb-true k 0 z))) (λ z. let y = eqb-false k 0 z in omega (arith, m, d, y))

-- THE FIRST MOVE of an element that has entries
unfoldable pub first_phase : ℕ → ℕ
first_phase m = if leb m a then 0 or_else 1

abbrev fit_mode : ℕ → ℕ → Bool
fit_mode q m = if is_task q then leb 1 m or_else eqb m 0

abbrev takes_from : ℕ → ℕ
takes_from q = if eqb q xor_join then branch or_else every

abbrev enters : ℕ → Move → Bool
enters q r =
    not (eqb r.kind 0)
    && (not (eqb r.also making)
    && (not (eqb r.active down) && (not (eqb r.ready down) && (eqb r.takes (takes_from q) && (if eqb r.puts branch then eqb (kind_of q).exits many or_else true)))))

enter_rows : all (λ q. all (λ m. if eqb (kind_of q).entries none then true or_else (if fit_mode q m then enters q (move_of q m (first_phase m)) or_else true)) modes) rows ≡ true
unfolding all kind_of if◌then◌or_else◌ move_of rule_of is_rule mode_of seek first_phase
enter_rows = refl

pub record Enters (q : ℕ) (r : Move) : Type 0 where
  pub there : r.kind ≡ 0 → ⊥
  pub old : r.also ≡ making → ⊥
  pub active : r.active ≡ down → ⊥
  pub ready : r.ready ≡ down → ⊥
  pub takes : r.takes ≡ (if eqb q xor_join then branch or_else every)
  pub puts : r.puts ≡ branch → (kind_of q).exits ≡ many

differs : (x y : ℕ) → not (eqb x y) ≡ true → x ≡ y → ⊥
differs x y h = eqb-false x y (not-true (eqb x y) h)

pub first_move : (q m : ℕ) → ((kind_of q).entries ≡ none → ⊥) → m < modes → fit_mode q m ≡ true → Enters q (move_of q m (first_phase m))
first_move q m some few fit =
    let r : Move = move_of q m (first_phase m) in
    let row = all_at (λ q. all (λ m. if eqb (kind_of q).entries none then true or_else (if fit_mode q m then enters q (move_of q m (first_phase m)) or_else true)) modes) rows enter_rows q (row_few q some) in
    let cell = all_at (λ m. if eqb (kind_of q).entries none then true or_else (if fit_mode q m then enters q (move_of q m (first_phase m)) or_else true)) modes row m few in
    let h = chosen_true (fit_mode q m) _ true (passed_true (eqb (kind_of q).entries none) true _ cell (ne_eqb _ none some)) fit in
    let h1 = and_right (not (eqb r.kind 0)) _ h in
    let h2 = and_right (not (eqb r.also making)) _ h1 in
    let h3 = and_right (not (eqb r.active down)) _ h2 in
    let h4 = and_right (not (eqb r.ready down)) _ h3 in
    record {
      there = differs _ 0 (and_left (not (eqb r.kind 0)) _ h);
      old = differs _ making (and_left (not (eqb r.also making)) _ h1);
      active = differs _ down (and_left (not (eqb r.active down)) _ h2);
      ready = differs _ down (and_left (not (eqb r.ready down)) _ h3);
      takes = eqb-true _ (takes_from q) (and_left (eqb r.takes (takes_from q)) _ h4);
      puts = λ e. eqb-true _ many (chosen_true (eqb r.puts branch) (eqb (kind_of q).exits many) true (and_right (eqb r.takes (takes_from q)) _ h4) (eq-eqb _ branch e));
    }

-- A TASK THAT HAS BEGUN goes on: it lowers its active count, or its ready one
pub record Lowers (r : Move) : Type 0 where
  pub there : r.kind ≡ 0 → ⊥
  pub old : r.also ≡ making → ⊥
  pub takes : r.takes ≡ 0
  pub puts : r.puts ≡ branch → ⊥
  pub alone : r.alone ≡ 0

abbrev lowers : Move → Bool
lowers r = not (eqb r.kind 0) && (not (eqb r.also making) && (eqb r.takes 0 && (not (eqb r.puts branch) && eqb r.alone 0)))

lowered : (r : Move) → lowers r ≡ true → Lowers r
lowered r h =
    let h1 = and_right (not (eqb r.kind 0)) _ h in
    let h2 = and_right (not (eqb r.also making)) _ h1 in
    let h3 = and_right (eqb r.takes 0) _ h2 in
    record {
      there = differs _ 0 (and_left (not (eqb r.kind 0)) _ h);
      old = differs _ making (and_left (not (eqb r.also making)) _ h1);
      takes = eqb-true _ 0 (and_left (eqb r.takes 0) _ h2);
      puts = differs _ branch (and_left (not (eqb r.puts branch)) _ h3);
      alone = eqb-true _ 0 (and_right (not (eqb r.puts branch)) _ h3);
    }

by_task : (F : ℕ → Type 0) (q : ℕ) → is_task q ≡ true → F task → F task_rcv → F task_snd → F q
by_task F q h x y z =
    ⊎_elim (λ e. subst F (sym (eqb-true q task e)) x)
    (λ o. ⊎_elim (λ e. subst F (sym (eqb-true q task_rcv e)) y) (λ e. subst F (sym (eqb-true q task_snd e)) z) (or_cases (eqb q task_rcv) (eqb q task_snd) o))
    (or_cases (eqb q task) _ h)

by_mode : (F : ℕ → Type 0) (m : ℕ) → a < m → m < modes → F na_c → F na_nc → F m
by_mode F m l r x y =
    by_test (eqb m na_c) (λ e. subst F (sym (eqb-true m na_c e)) x)
    (λ e. let d = eqb-false m na_c e in let z : m ≡ na_nc = omega (arith, d, l, r) in subst F (sym z) y)

unfoldable pub active_phase : ℕ → ℕ
active_phase q = if eqb q task then 3 or_else 2

-- r lowers the one count and leaves the other
abbrev goes_by : (Move → ℕ) → (Move → ℕ) → Move → Bool
goes_by lowered left r = lowers r && (eqb (lowered r) down && not (eqb (left r) down))

gone_by : (x y : Move → ℕ) (r : Move) → goes_by x y r ≡ true → Lowers r × (x r ≡ down) × (y r ≡ down → ⊥)
gone_by x y r h =
    let h1 = and_right (lowers r) (eqb (x r) down && not (eqb (y r) down)) h in
    (lowered r (and_left (lowers r) (eqb (x r) down && not (eqb (y r) down)) h), eqb-true _ down (and_left (eqb (x r) down) (not (eqb (y r) down)) h1), differs _ down (and_right (eqb (x r) down) (not (eqb (y r) down)) h1))

active_test : (q m : ℕ) → is_task q ≡ true → a < m → m < modes → goes_by (λ r. r.active) (λ r. r.ready) (move_of q m (active_phase q)) ≡ true
unfolding if◌then◌or_else◌ move_of rule_of is_rule mode_of seek active_phase
active_test q m h l r =
    by_task (λ q. goes_by (λ r. r.active) (λ r. r.ready) (move_of q m (active_phase q)) ≡ true) q h
    (by_mode (λ m. goes_by (λ r. r.active) (λ r. r.ready) (move_of task m 3) ≡ true) m l r refl refl)
    (by_mode (λ m. goes_by (λ r. r.active) (λ r. r.ready) (move_of task_rcv m 2) ≡ true) m l r refl refl)
    (by_mode (λ m. goes_by (λ r. r.active) (λ r. r.ready) (move_of task_snd m 2) ≡ true) m l r refl refl)

pub active_move : (q m : ℕ) → is_task q ≡ true → a < m → m < modes → Lowers (move_of q m (active_phase q)) × ((move_of q m (active_phase q)).active ≡ down) × ((move_of q m (active_phase q)).ready ≡ down → ⊥)
active_move q m h l r = gone_by (λ r. r.active) (λ r. r.ready) (move_of q m (active_phase q)) (active_test q m h l r)

ready_test : (q m : ℕ) → is_task q ≡ true → ((kind_of q).receives + (kind_of q).sends ≡ 0 → ⊥) → a < m → m < modes → goes_by (λ r. r.ready) (λ r. r.active) (move_of q m 3) ≡ true
unfolding if◌then◌or_else◌ move_of rule_of is_rule mode_of seek kind_of
ready_test q m h speaks l r =
    by_task (λ q. ((kind_of q).receives + (kind_of q).sends ≡ 0 → ⊥) → goes_by (λ r. r.ready) (λ r. r.active) (move_of q m 3) ≡ true) q h
    (λ s. absurd (s refl))
    (λ s. by_mode (λ m. goes_by (λ r. r.ready) (λ r. r.active) (move_of task_rcv m 3) ≡ true) m l r refl refl)
    (λ s. by_mode (λ m. goes_by (λ r. r.ready) (λ r. r.active) (move_of task_snd m 3) ≡ true) m l r refl refl)
    speaks

pub ready_move : (q m : ℕ) → is_task q ≡ true → ((kind_of q).receives + (kind_of q).sends ≡ 0 → ⊥) → a < m → m < modes → Lowers (move_of q m 3) × ((move_of q m 3).ready ≡ down) × ((move_of q m 3).active ≡ down → ⊥)
ready_move q m h speaks l r = gone_by (λ r. r.ready) (λ r. r.active) (move_of q m 3) (ready_test q m h speaks l r)
