-- WORDS STAY WORDS: every word of a list that was changed is at most the greatest, where what was put there is; and so is every value worked out. Assumes nothing.
use Prim.Native.Nat.{ℕ, zero, suc, ◌+◌, ◌-◌, ◌≤◌}
use mathlib.Core.Path.{sym, subst}
use mathlib.Core.Bool.{true}
use mathlib.Core.List.{List, [], ◌∷◌, ◌++◌}
use native.Mathlib.Omega.{arith}
use lib.Dec.{eqb, leb, ltb}
use lib.ListN.{set, take, drop, replicate}
use lib.Seq.{get_or-drop}
use borrow.Author.Tests.{leb-true, ltb-true}
use Rattle.std.specs.Prelude.{Some, None}
use Rattle.base_words.specs.Counts.{values, assignments, count_most}
use Rattle.base_words.specs.Each.{tab}
use Rattle.base_words.specs.Words.{at, greatest}
use Rattle.base_words.specs.Writes.{writes}
use Rattle.base_words.proofs.IterLaws.{iter_keeps}
use Rattle.base_kinds.specs.declared.moves.Move.{Move}
use Rattle.base_kinds.specs.Moves.{up, down, clearing}
use Rattle.base_table.specs.Places.{form_place, left_place, right_place, operand_number, plus, minus, item_place, assignment_place, assigned_in}
use Rattle.base_table.specs.Table.{item_at, assignment_at, message_length, assignment_count, task_in, entry_at, exit_at, entry_count, exit_count}
use Rattle.base_state.specs.Places.{token_place, active_place, ready_place, defined_place, value_place}
use Rattle.base_state.specs.Instances.{with_field, tokens, active_count, ready_count}
use Rattle.meaning.specs.declared.Tuple.{Tuple}
use Rattle.meaning.specs.Tuples.{value_of}
use Rattle.meaning.specs.Values.{Value, sum_of, difference_of, number_in}
use Rattle.meaning.specs.Expressions.{field_of, operand_of, expression_of}
use Rattle.meaning.specs.Templates.{binds, item_value, gathered, evaluated, bind_one, bound}
use Rattle.meaning.specs.Assignments.{Assigned, assigned_value, assign_one, assigned}
use Rattle.meaning.specs.Requirements.{touched, first_touched}
use Rattle.meaning.specs.Changes.{take_one, taken, more, count_changed, active_changed, ready_changed, put_one, puts, cleared, moved}
use Rattle.proof_steps.proofs.Choices.{by_choice}

abbrev pub Worded : List ℕ → Type 0
Worded w = (i : ℕ) → at w i ≤ greatest

pub nothing : 0 ≤ greatest
nothing = omega arith

one : 1 ≤ greatest
one = omega arith

-- LISTS
pub set_worded : (w : List ℕ) (i v : ℕ) → Worded w → v ≤ greatest → (j : ℕ) → at (set w i v) j ≤ greatest
set_worded [] i v s h j = s j
set_worded (x ∷ w) zero v s h zero = h
set_worded (x ∷ w) zero v s h (suc j) = s (suc j)
set_worded (x ∷ w) (suc i) v s h zero = s zero
set_worded (x ∷ w) (suc i) v s h (suc j) = set_worded w i v (λ k. s (suc k)) h j

pub append_worded : (v w : List ℕ) → Worded v → Worded w → (j : ℕ) → at (v ++ w) j ≤ greatest
append_worded [] w a b j = b j
append_worded (x ∷ v) w a b zero = a zero
append_worded (x ∷ v) w a b (suc j) = append_worded v w (λ k. a (suc k)) b j

pub take_worded : (n : ℕ) (w : List ℕ) → Worded w → (j : ℕ) → at (take n w) j ≤ greatest
take_worded zero w a j = nothing
take_worded (suc n) [] a j = nothing
take_worded (suc n) (x ∷ w) a zero = a zero
take_worded (suc n) (x ∷ w) a (suc j) = take_worded n w (λ k. a (suc k)) j

pub drop_worded : (n : ℕ) (w : List ℕ) → Worded w → (j : ℕ) → at (drop n w) j ≤ greatest
drop_worded n w a j = subst (λ (k : ℕ). k ≤ greatest) (sym (get_or-drop n w j 0)) (a (n + j))

pub zeros_worded : (n j : ℕ) → at (replicate n 0) j ≤ greatest
zeros_worded zero j = nothing
zeros_worded (suc n) zero = nothing
zeros_worded (suc n) (suc j) = zeros_worded n j

single_worded : (v : ℕ) → v ≤ greatest → (j : ℕ) → at (v ∷ []) j ≤ greatest
single_worded v h zero = h
single_worded v h (suc j) = nothing

pub four_worded : (a b c d : ℕ) → a ≤ greatest → b ≤ greatest → c ≤ greatest → d ≤ greatest → (j : ℕ) → at (a ∷ b ∷ c ∷ d ∷ []) j ≤ greatest
four_worded a b c d e f g h zero = e
four_worded a b c d e f g h (suc zero) = f
four_worded a b c d e f g h (suc (suc zero)) = g
four_worded a b c d e f g h (suc (suc (suc zero))) = h
four_worded a b c d e f g h (suc (suc (suc (suc j)))) = nothing

pub tab_worded : (f : ℕ → ℕ) → ((k : ℕ) → f k ≤ greatest) → (n j : ℕ) → at (tab f n) j ≤ greatest
unfolding tab
tab_worded f h zero j = nothing
tab_worded f h (suc n) j = append_worded (tab f n) (f n ∷ []) (tab_worded f h n) (single_worded (f n) (h n)) j

pub writes_worded : (f : ℕ → ℕ) → ((k : ℕ) → f k ≤ greatest) → (s : List ℕ) (a n : ℕ) → Worded s → (j : ℕ) → at (writes f s a n) j ≤ greatest
unfolding writes
writes_worded f h s a zero w j = w j
writes_worded f h s a (suc n) w j = set_worded (writes f s a n) (a + n) (f n) (writes_worded f h s a n w) (h n) j

-- VALUES
pub value_fine : (g : Tuple) → Worded g.values → (j : ℕ) → value_of g j ≤ greatest
unfolding value_of
value_fine g w j = by_choice (λ (k : ℕ). k ≤ greatest) (ltb j g.length) (at g.values j) 0 (λ e. w j) (λ e. nothing)

abbrev Fine : Value → Type 0
Fine v = number_in v ≤ greatest

sum_fine : (x y : Value) → Fine (sum_of x y)
unfolding sum_of number_in
sum_fine (Some x) (Some y) = by_choice Fine (leb (x + y) greatest) (Some (x + y)) None (λ e. leb-true (x + y) greatest e) (λ e. nothing)
sum_fine (Some x) None = nothing
sum_fine None y = nothing

less_fine : (x y : ℕ) → x ≤ greatest → x - y ≤ greatest
less_fine x y h = omega (arith, h)

difference_fine : (x y : Value) → Fine x → Fine (difference_of x y)
unfolding difference_of number_in
difference_fine (Some x) (Some y) h = by_choice Fine (leb y x) (Some (x - y)) None (λ e. less_fine x y h) (λ e. nothing)
difference_fine (Some x) None h = nothing
difference_fine None y h = nothing

module _ (w h : List ℕ) (a : Worded w) (b : Worded h) where
  field_fine : (d : ℕ) → Fine (field_of h d)
  unfolding field_of number_in
  field_fine d = by_choice Fine (eqb (at h (defined_place d)) 0) None (Some (at h (value_place d))) (λ e. nothing) (λ e. b (value_place d))

  operand_fine : (place : ℕ) → Fine (operand_of w h place)
  unfolding operand_of number_in
  operand_fine place =
      by_choice Fine (eqb (at w place) 0) (Some (at w (place + operand_number))) (field_of h (at w (place + operand_number))) (λ e. a (place + operand_number)) (λ e. field_fine (at w (place + operand_number)))

  expression_fine : Fine (expression_of w h)
  unfolding expression_of
  expression_fine =
      let x : Value = operand_of w h left_place in
      let y : Value = operand_of w h right_place in
      by_choice Fine (eqb (at w form_place) plus) (sum_of x y) _ (λ e. sum_fine x y)
      (λ e. by_choice Fine (eqb (at w form_place) minus) (difference_of x y) x (λ d. difference_fine x y (operand_fine left_place)) (λ d. operand_fine left_place))

-- A TEMPLATE OR A MESSAGE, and what is bound
module _ (el h : List ℕ) (b : ℕ) (g : Tuple) (words : Worded el) (fine : Worded h) (given : (j : ℕ) → value_of g j ≤ greatest) where
  item_fine : (j : ℕ) → Fine (item_value el b h g j)
  unfolding item_value number_in
  item_fine j =
      by_choice Fine (leb (message_length el b) j) (Some 0) _ (λ e. nothing)
      (λ e. by_choice Fine (binds el b j) (Some (value_of g j)) (expression_of (item_at el b j) h) (λ d. given j) (λ d. expression_fine (item_at el b j) h (drop_worded (item_place b j) el words) fine))

  pub evaluated_worded : Worded (evaluated el b h g).tuple.values
  unfolding evaluated gathered
  evaluated_worded = four_worded _ _ _ _ (item_fine 0) (item_fine 1) (item_fine 2) (item_fine 3)

  bind_worded : (j : ℕ) (x : List ℕ) → Worded x → Worded (bind_one el b g j x)
  unfolding bind_one
  bind_worded j x w =
      let d : ℕ = at (item_at el b j) (left_place + operand_number) in
      by_choice Worded (binds el b j) (with_field x d (value_of g j)) x
      (λ e. set_worded (set x (defined_place d) 1) (value_place d) (value_of g j) (set_worded x (defined_place d) 1 w one) (given j))
      (λ e. w)

  pub bound_worded : Worded (bound el b g h)
  unfolding bound
  bound_worded = iter_keeps (bind_one el b g) h Worded values (λ k x l w. bind_worded k x w) fine

-- ASSIGNMENTS
value_assigned : (x : List ℕ) (d : ℕ) (v : Value) → Fine v → Worded x → Worded (assigned_value x d v).instance
unfolding assigned_value number_in
value_assigned x d (Some v) h w = set_worded (set x (defined_place d) 1) (value_place d) v (set_worded x (defined_place d) 1 w one) h
value_assigned x d None h w = w

module _ (el : List ℕ) (words : Worded el) where
  abbrev After : Assigned → Type 0
  After r = Worded r.instance

  assign_worded : (j : ℕ) (r : Assigned) → After r → After (assign_one el j r)
  unfolding assign_one
  assign_worded j r w =
      let e : List ℕ = drop assigned_in (assignment_at el j) in
      by_choice After (leb (assignment_count el) j) r _ (λ k. w)
      (λ k.
      by_choice After r.defined (assigned_value r.instance (at (assignment_at el j) 0) (expression_of e r.instance)) r
      (λ d. value_assigned r.instance (at (assignment_at el j) 0) (expression_of e r.instance) (expression_fine e r.instance (drop_worded assigned_in (assignment_at el j) (drop_worded (assignment_place j) el words)) w) w)
      (λ d. w))

  pub assigned_worded : (h : List ℕ) → Worded h → After (assigned el h)
  unfolding assigned
  assigned_worded h fine = iter_keeps (assign_one el) (record { defined = true; instance = h }) After assignments (λ k r l w. assign_worded k r w) fine

-- TOKENS AND COUNTS
pub more_fine : (n : ℕ) → n ≤ greatest → more n ≤ greatest
unfolding more
more_fine n h = by_choice (λ (k : ℕ). k ≤ greatest) (ltb n count_most) (n + 1) n (λ e. omega (arith, ltb-true n count_most e)) (λ e. h)

change_fine : (cell n : ℕ) → n ≤ greatest → count_changed cell n ≤ greatest
unfolding count_changed
change_fine cell n h =
    by_choice (λ (k : ℕ). k ≤ greatest) (eqb cell up) (more n) _ (λ e. more_fine n h)
    (λ e. by_choice (λ (k : ℕ). k ≤ greatest) (eqb cell down) (n - 1) n (λ d. less_fine n 1 h) (λ d. h))

module _ (el : List ℕ) (m : Move) (b : ℕ) where
  take_worded_one : (from j : ℕ) (x : List ℕ) → Worded x → Worded (take_one el from j x)
  unfolding take_one
  take_worded_one from j x w =
      set_worded x (token_place (entry_at el (from + j))) (tokens x (entry_at el (from + j)) - 1) w (less_fine (tokens x (entry_at el (from + j))) 1 (w (token_place (entry_at el (from + j)))))

  pub taken_worded : (h : List ℕ) → Worded h → Worded (taken el m b h)
  unfolding taken
  taken_worded h fine = iter_keeps (take_one el (first_touched m.takes b)) h Worded (touched m.takes (entry_count el)) (λ k x l w. take_worded_one (first_touched m.takes b) k x w) fine

  put_worded : (from j : ℕ) (x : List ℕ) → Worded x → Worded (put_one el from j x)
  unfolding put_one
  put_worded from j x w =
      set_worded x (token_place (exit_at el (from + j))) (more (tokens x (exit_at el (from + j)))) w (more_fine (tokens x (exit_at el (from + j))) (w (token_place (exit_at el (from + j)))))

  active_worded : (h : List ℕ) → Worded h → Worded (active_changed el m h)
  unfolding active_changed
  active_worded h w = set_worded h (active_place (task_in el)) (count_changed m.active (active_count h (task_in el))) w (change_fine m.active (active_count h (task_in el)) (w (active_place (task_in el))))

  ready_worded : (h : List ℕ) → Worded h → Worded (ready_changed el m h)
  unfolding ready_changed
  ready_worded h w = set_worded h (ready_place (task_in el)) (count_changed m.ready (ready_count h (task_in el))) w (change_fine m.ready (ready_count h (task_in el)) (w (ready_place (task_in el))))

  puts_worded : (h : List ℕ) → Worded h → Worded (puts el m b h)
  unfolding puts
  puts_worded h fine = iter_keeps (put_one el (first_touched m.puts b)) h Worded (touched m.puts (exit_count el)) (λ k x l w. put_worded (first_touched m.puts b) k x w) fine

  pub moved_worded : (h : List ℕ) → Worded h → Worded (moved el m b h)
  unfolding moved cleared
  moved_worded h w =
      by_choice Worded (eqb m.also clearing) (writes (λ k. 0) h 0 (defined_place 0)) (puts el m b (ready_changed el m (active_changed el m h)))
      (λ e. writes_worded (λ k. 0) (λ k. nothing) h 0 (defined_place 0) w)
      (λ e. puts_worded (ready_changed el m (active_changed el m h)) (ready_worded (active_changed el m h) (active_worded h w)))
