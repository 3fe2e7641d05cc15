-- What a move does to the tokens and counts of an instance, in the paper's state: each loop over edges is the paper's inc or dec of a set, each count
-- one inc or dec. Assumes nothing.
use Prim.Native.Nat.{ℕ, zero, suc, ◌+◌, ◌-◌, ◌<◌, ◌≤◌}
use mathlib.Core.Path.{◌≡◌, refl, sym, ◌∙◌, ap}
use mathlib.Core.List.{List, [], ◌∷◌}
use mathlib.Core.Logic.{◌⊎◌, inl, inr}
use native.Mathlib.Omega.{arith}
use lib.Dec.{eqb}
use lib.ListN.{length, length-set}
use lib.Seq.{get_or-set_other, set-get_or}
use borrow.Author.Tests.{eqb-true}
use Rattle.base_words.specs.Iter.{iter}
use Rattle.base_words.specs.Pick.{if◌then◌or_else◌}
use Rattle.base_words.specs.Words.{at}
use Rattle.base_words.specs.Counts.{edges, tasks, count_most}
use Rattle.check_limits.specs.Limits.{within}
use Rattle.base_kinds.specs.declared.moves.Move.{Move}
use Rattle.base_kinds.specs.Moves.{up, down}
use Rattle.base_table.specs.Table.{task_in, entry_count, exit_count, entry_at, exit_at}
use Rattle.base_state.specs.Places.{token_place, active_place, ready_place, copy_words}
use Rattle.base_state.specs.Instances.{tokens, active_count, ready_count, with_tokens, with_active, with_ready}
use Rattle.meaning.specs.Requirements.{touched, first_touched}
use Rattle.meaning.specs.Changes.{take_one, taken, more, count_changed, active_changed, ready_changed, put_one, puts}
use Rattle.proof_steps.proofs.Choices.{by_test, chosen, passed}
use Rattle.proof_steps.proofs.MadeAfter.{more_one}
use Rattle.proof_steps.proofs.RaiseLaws.{raised_other}
use Rattle.paper.specs.States.{Local, put, inc, dec, incs, decs, ◌edges:◌, ◌active:◌, ◌ready:◌}
use Rattle.proof_paper.specs.Decoders.{span, local_of}
use Rattle.proof_paper.proofs.Stores.{tokens_put, active_put, ready_put, is_inside}

-- the edges that a move takes from and puts on
abbrev pub taken_edges : List ℕ → Move → ℕ → List ℕ
taken_edges el m b = span (λ j. entry_at el (first_touched m.takes b + j)) 0 (touched m.takes (entry_count el))

abbrev pub put_edges : List ℕ → Move → ℕ → List ℕ
put_edges el m b = span (λ j. exit_at el (first_touched m.puts b + j)) 0 (touched m.puts (exit_count el))

-- a count by its cell
unfoldable pub changed : ℕ → (ℕ → ℕ) → ℕ → ℕ → ℕ
changed cell σ n = if eqb cell up then inc σ n or_else if eqb cell down then dec σ n or_else σ

-- what a number in range says of the paper's state
pub tokens_are : (h : List ℕ) (e : ℕ) → 1 ≤ e → e ≤ edges → (local_of h).σe e ≡ tokens h e
tokens_are h e l r = chosen (within 1 edges e) _ 0 (is_inside 1 edges e l r)

pub active_is : (h : List ℕ) (n : ℕ) → 1 ≤ n → n ≤ tasks → (local_of h).active n ≡ active_count h n
active_is h n l r = chosen (within 1 tasks n) _ 0 (is_inside 1 tasks n l r)

pub ready_is : (h : List ℕ) (n : ℕ) → 1 ≤ n → n ≤ tasks → (local_of h).ready n ≡ ready_count h n
ready_is h n l r = chosen (within 1 tasks n) _ 0 (is_inside 1 tasks n l r)

-- A LOOP OVER EDGES: each turn changes the tokens of one edge by `turn`, which is `op` there; `many` is op for one edge after the other
module _ (edge turn op : ℕ → ℕ) (many : (ℕ → ℕ) → List ℕ → ℕ → ℕ)
    (many-none : (σ : ℕ → ℕ) → many σ [] ≡ σ) (many_more : (σ : ℕ → ℕ) (k : ℕ) (ks : List ℕ) → many σ (k ∷ ks) ≡ many (put σ k (op (σ k))) ks)
    (h : List ℕ) (long : length h ≡ copy_words) where
  abbrev go : ℕ → List ℕ → List ℕ
  go j g = with_tokens g (edge j) (turn (tokens g (edge j)))

  length_turned : (n : ℕ) → length (iter go h n) ≡ copy_words
  unfolding iter
  length_turned zero = long
  length_turned (suc n) = length-set (iter go h n) (token_place (edge n)) (turn (tokens (iter go h n) (edge n))) ∙ length_turned n

  module _ (most : ℕ) (inside : (j : ℕ) → j < most → (1 ≤ edge j) × (edge j ≤ edges)) (right : (j : ℕ) → j < most → turn (tokens (iter go h j) (edge j)) ≡ op (tokens (iter go h j) (edge j))) where
    one_turn : (k : ℕ) → k < most → local_of (iter go h (suc k)) ≡ (local_of (iter go h k) edges: put (local_of (iter go h k)).σe (edge k) (op ((local_of (iter go h k)).σe (edge k))))
    unfolding iter
    one_turn k l =
        let w = inside k l in
        tokens_put (iter go h k) (length_turned k) (edge k) (turn (tokens (iter go h k) (edge k))) w.0 w.1
        ∙ ap (λ v. local_of (iter go h k) edges: put (local_of (iter go h k)).σe (edge k) v) (right k l ∙ ap op (sym (tokens_are (iter go h k) (edge k) w.0 w.1)))

    turns : (k n : ℕ) → k + n ≤ most → local_of (iter go h (k + n)) ≡ (local_of (iter go h k) edges: many (local_of (iter go h k)).σe (span edge k n))
    unfolding span
    turns k zero l =
        let z : k + zero ≡ k = omega arith in
        ap (λ j. local_of (iter go h j)) z ∙ ap (λ σ. local_of (iter go h k) edges: σ) (sym (many-none (local_of (iter go h k)).σe))
    turns k (suc n) l =
        let z : k + suc n ≡ suc k + n = omega arith in
        ap (λ j. local_of (iter go h j)) z
        ∙ turns (suc k) n (omega arith)
        ∙ ap (λ (L : Local). L edges: many L.σe (span edge (suc k) n)) (one_turn k (omega arith))
        ∙ ap (λ σ. local_of (iter go h k) edges: σ) (sym (many_more (local_of (iter go h k)).σe (edge k) (span edge (suc k) n)))

    pub turned : local_of (iter go h most) ≡ (local_of h edges: many (local_of h).σe (span edge 0 most))
    unfolding iter
    turned = let z : most ≡ 0 + most = omega arith in ap (λ j. local_of (iter go h j)) z ∙ turns 0 most (omega arith)

-- A COUNT: stored by `store`, shown by `into`
module _ (cell n x : ℕ) (store : ℕ → List ℕ) (σ : ℕ → ℕ) (into : (ℕ → ℕ) → Local)
    (law : 1 ≤ n → (v : ℕ) → local_of (store v) ≡ into (put σ n v)) (idle : local_of (store x) ≡ into σ) (reads : 1 ≤ n → σ n ≡ x)
    (there : (cell ≡ 0 → ⊥) → 1 ≤ n) (room : cell ≡ up → x < count_most) where
  count_changed_lem : local_of (store (count_changed cell x)) ≡ into (changed cell σ n)
  unfolding count_changed changed
  count_changed_lem =
      by_test (eqb cell up)
      (λ u.
      let c : cell ≡ up = eqb-true cell up u in
      let p : 1 ≤ n = there (λ z. omega arith) in
      ap (λ v. local_of (store v)) (chosen (eqb cell up) _ _ u ∙ more_one x (room c))
      ∙ law p (x + 1)
      ∙ ap (λ v. into (put σ n (v + 1))) (sym (reads p))
      ∙ ap into (sym (chosen (eqb cell up) (inc σ n) _ u)))
      (λ u.
      ap (λ v. local_of (store v)) (passed (eqb cell up) _ _ u)
      ∙ by_test (eqb cell down)
      (λ d.
      let c : cell ≡ down = eqb-true cell down d in
      let p : 1 ≤ n = there (λ z. omega arith) in
      ap (λ v. local_of (store v)) (chosen (eqb cell down) _ _ d)
      ∙ law p (x - 1)
      ∙ ap (λ v. into (put σ n (v - 1))) (sym (reads p))
      ∙ ap into (sym (chosen (eqb cell down) (dec σ n) _ d)))
      (λ d. ap (λ v. local_of (store v)) (passed (eqb cell down) _ _ d) ∙ idle ∙ ap into (sym (passed (eqb cell down) (dec σ n) _ d)))
      ∙ ap into (sym (passed (eqb cell up) (inc σ n) _ u)))

-- A MOVE m at an element el by branch b
module _ (el : List ℕ) (m : Move) (b : ℕ) where
  module _ (entries : (j : ℕ) → j < touched m.takes (entry_count el) → (1 ≤ entry_at el (first_touched m.takes b + j)) × (entry_at el (first_touched m.takes b + j) ≤ edges))
      (h : List ℕ) (long : length h ≡ copy_words) where
    pub taken_long : length (taken el m b h) ≡ copy_words
    unfolding taken take_one
    taken_long = length_turned (λ j. entry_at el (first_touched m.takes b + j)) (λ v. v - 1) (λ v. v - 1) decs (unfold decs in λ σ. refl) (unfold decs in λ σ k ks. refl) h long (touched m.takes (entry_count el))

    -- dec(σe, E)
    pub taken_is : local_of (taken el m b h) ≡ (local_of h edges: decs (local_of h).σe (taken_edges el m b))
    unfolding taken take_one decs
    taken_is =
        turned (λ j. entry_at el (first_touched m.takes b + j)) (λ v. v - 1) (λ v. v - 1) decs (λ σ. refl) (λ σ k ks. refl) h long
        (touched m.takes (entry_count el)) entries (λ j l. refl)

  module _ (exits : (j : ℕ) → j < touched m.puts (exit_count el) → (1 ≤ exit_at el (first_touched m.puts b + j)) × (exit_at el (first_touched m.puts b + j) ≤ edges))
      (apart : (j k : ℕ) → j < touched m.puts (exit_count el) → k < touched m.puts (exit_count el) → (j ≡ k → ⊥) → exit_at el (first_touched m.puts b + j) ≡ exit_at el (first_touched m.puts b + k) → ⊥)
      (h : List ℕ) (long : length h ≡ copy_words) (room : (j : ℕ) → j < touched m.puts (exit_count el) → tokens h (exit_at el (first_touched m.puts b + j)) < count_most) where
    -- inc(σe, E)
    pub puts_is : local_of (puts el m b h) ≡ (local_of h edges: incs (local_of h).σe (put_edges el m b))
    unfolding puts put_one incs
    puts_is =
        turned (λ j. exit_at el (first_touched m.puts b + j)) more (λ v. v + 1) incs (λ σ. refl) (λ σ k ks. refl) h long
        (touched m.puts (exit_count el)) exits
        (λ j l.
        let w = exits j l in
        let s : tokens (iter (λ k g. with_tokens g (exit_at el (first_touched m.puts b + k)) (more (tokens g (exit_at el (first_touched m.puts b + k))))) h j) (exit_at el (first_touched m.puts b + j)) ≡ tokens h (exit_at el (first_touched m.puts b + j)) =
        raised_other (λ k. token_place (exit_at el (first_touched m.puts b + k))) h j (token_place (exit_at el (first_touched m.puts b + j)))
        (λ k r q. let v = exits k (omega arith) in apart j k l (omega arith) (λ e. omega arith) (omega (arith, w.0, v.0))) in
        more_one _ (omega (arith, s, room j l)))

  module _ (task : (m.active ≡ 0 → ⊥) ⊎ (m.ready ≡ 0 → ⊥) → 1 ≤ task_in el) (few : task_in el ≤ tasks) (h : List ℕ) (long : length h ≡ copy_words)
      (raise-active : m.active ≡ up → active_count h (task_in el) < count_most) (raise-ready : m.ready ≡ up → ready_count h (task_in el) < count_most) where
    abbrev n : ℕ
    n = task_in el

    abbrev mid : List ℕ
    mid = active_changed el m h

    mid_long : length mid ≡ copy_words
    unfolding active_changed
    mid_long = length-set h (active_place n) (count_changed m.active (active_count h n)) ∙ long

    pub counts_long : length (ready_changed el m mid) ≡ copy_words
    unfolding ready_changed
    counts_long = length-set mid (ready_place n) (count_changed m.ready (ready_count mid n)) ∙ mid_long

    mid_is : local_of mid ≡ (local_of h active: changed m.active (local_of h).active n)
    unfolding active_changed
    mid_is =
        count_changed_lem m.active n (active_count h n) (with_active h n) (local_of h).active (λ σ. local_of h active: σ)
        (λ l v. active_put h long n v l few) (ap local_of (set-get_or h (active_place n) 0)) (λ l. active_is h n l few) (λ z. task (inl z)) raise-active

    mid_ready : ready_count mid n ≡ ready_count h n
    unfolding active_changed
    mid_ready = get_or-set_other h (active_place n) (ready_place n) (count_changed m.active (active_count h n)) 0 (λ q. omega arith)

    -- inc or dec of σt
    pub counts_are : local_of (ready_changed el m mid) ≡ (local_of h active: changed m.active (local_of h).active n ready: changed m.ready (local_of h).ready n)
    unfolding ready_changed
    counts_are =
        count_changed_lem m.ready n (ready_count mid n) (with_ready mid n) (local_of mid).ready (λ σ. local_of mid ready: σ)
        (λ l v. ready_put mid mid_long n v l few) (ap local_of (set-get_or mid (ready_place n) 0)) (λ l. ready_is mid n l few) (λ z. task (inr z)) (λ u. omega (arith, mid_ready, raise-ready u))
        ∙ ap (λ (L : Local). L ready: changed m.ready L.ready n) mid_is

    -- the tokens stay
    pub counts_tokens : (k : ℕ) → k < edges → at (ready_changed el m mid) k ≡ at h k
    unfolding ready_changed active_changed
    counts_tokens k l =
        get_or-set_other mid (ready_place n) k (count_changed m.ready (ready_count mid n)) 0 (λ e. omega arith)
        ∙ get_or-set_other h (active_place n) k (count_changed m.active (active_count h n)) 0 (λ e. omega arith)
