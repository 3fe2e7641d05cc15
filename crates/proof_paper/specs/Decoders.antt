-- THE DECODERS: the paper's syntax that the words of a table stand for, and the paper's state that the words of a state stand for. They are total; a
-- number outside its range (edge 0, field 32, a pool that is not there) finds nothing, and never the place of another.
use Rattle.std.specs.Prelude.{ℕ, zero, suc, ◌+◌, ◌*◌, Bool, ◌&&◌, List, [], ◌∷◌, eqb, ltb, length, get_or, drop, None, Some}
use Rattle.base_words.specs.Pick.{if◌then◌or_else◌}
use Rattle.base_words.specs.Words.{at}
use Rattle.base_words.specs.Counts.{edges, tasks, fields, names, fields_named}
use Rattle.base_table.specs.Places.{operand_number, form_place, left_place, right_place, plus, minus, binding, always, equals, below, assigned_in, pool_place, limit_place}
use Rattle.base_table.specs.Table.{pool_count, element_count, element_at, pool_of, limit_of, kind_in, task_in, mode_in, entry_count, exit_count, entry_at, exit_at, condition_at, message_name, message_length, item_at, assignment_count, assignment_at}
use Rattle.base_state.specs.Places.{shared_place}
use Rattle.base_state.specs.Instances.{made_count, tokens, active_count, ready_count}
use Rattle.check_limits.specs.Limits.{within}
use Rattle.meaning.specs.Values.{Value}
use Rattle.meaning.specs.declared.Tuple.{Tuple}
use Rattle.meaning.specs.declared.Name.{Name}
use Rattle.meaning.specs.declared.Answer.{Answer}
use Rattle.meaning.specs.declared.Traffic.{Traffic}
use Rattle.meaning.specs.declared.Traffic.TheVariants.{Nothing, Consumed, Sent}
use Rattle.meaning.specs.Expressions.{field_of}
use Rattle.meaning.specs.Messages.{times}
use Rattle.meaning.specs.Queues.{messages_of}
use Rattle.meaning.specs.Step.{instance_of}
use Rattle.paper.specs.Syntax.{Operand, number, field, Exp, alone, sum, difference, Cond, default, equal, less, Item, exp, Assignments, ε, ◌:=◌, ◌&◌, Mode, a, na_c, na_nc, Choice, Receipt, Element, start, start_rcv, end, terminate, end_snd, inter_rcv, inter_snd, event_based, and_split, and_join, xor_join, xor_split, task, task_rcv, task_snd, Mark, Pool}
use Rattle.paper.specs.States.{Local, blank, Multiset, Configuration, own_of}
use Rattle.paper.specs.Collaborations.{Named, Seen}

-- f k, f (k + 1), .., n of them: as a list, and as assignments one after the other
unfoldable pub span : {A : Type 0} → (ℕ → A) → ℕ → ℕ → List A
span f k zero = []
span f k (suc n) = f k ∷ span f (suc k) n

unfoldable pub chain : (ℕ → Assignments) → ℕ → ℕ → Assignments
chain f k zero = ε
chain f k (suc n) = f k & chain f (suc k) n

-- AN ELEMENT, el its words; x the words of an expression, a condition or an item
unfoldable pub operand_at : List ℕ → ℕ → Operand
operand_at x p = if eqb (at x p) 0 then number (at x (p + operand_number)) or_else field (at x (p + operand_number))

unfoldable pub exp_at : List ℕ → Exp
exp_at x =
    if eqb (at x form_place) plus then sum (operand_at x left_place) (operand_at x right_place)
    or_else if eqb (at x form_place) minus then difference (operand_at x left_place) (operand_at x right_place)
    or_else alone (operand_at x left_place)

unfoldable pub cond_at : List ℕ → Cond
cond_at x =
    if eqb (at x form_place) always then Cond.always
    or_else if eqb (at x form_place) equals then equal (operand_at x left_place) (operand_at x right_place)
    or_else if eqb (at x form_place) below then less (operand_at x left_place) (operand_at x right_place)
    or_else default

unfoldable pub item_of : List ℕ → Item
item_of x = if eqb (at x form_place) binding then Item.formal (at x (left_place + operand_number)) or_else exp (exp_at x)

unfoldable pub template_of : List ℕ → ℕ → List Item
template_of el b = span (λ j. item_of (item_at el b j)) 0 (message_length el b)

unfoldable pub message_of : List ℕ → ℕ → List Exp
message_of el b = span (λ j. exp_at (item_at el b j)) 0 (message_length el b)

unfoldable pub assignment_of : List ℕ → ℕ → Assignments
assignment_of el j = at (assignment_at el j) 0 := exp_at (drop assigned_in (assignment_at el j))

unfoldable pub assignments_of : List ℕ → Assignments
assignments_of el = chain (assignment_of el) 0 (assignment_count el)

unfoldable pub mode_at : List ℕ → Mode
mode_at el = get_or (a ∷ a ∷ na_c ∷ na_nc ∷ []) (mode_in el) a

unfoldable pub guard_of : List ℕ → Cond
guard_of el = cond_at (condition_at el 0)

unfoldable pub entries_of : List ℕ → List ℕ
entries_of el = span (entry_at el) 0 (entry_count el)

unfoldable pub exits_of : List ℕ → List ℕ
exits_of el = span (exit_at el) 0 (exit_count el)

unfoldable pub choice_of : List ℕ → ℕ → Choice
choice_of el b = record { exit = exit_at el b; condition = cond_at (condition_at el b) }

unfoldable pub receipt_of : List ℕ → ℕ → Receipt
receipt_of el b = record { name = message_name el b; template = template_of el b; exit = exit_at el b }

-- what the words stand for if the element is of kind 0 (which none is), 1, 2, ..
unfoldable pub of_each_kind : List ℕ → List Element
of_each_kind el =
    end 0 ∷
    start (entry_at el 0) (exit_at el 0) ∷
    start_rcv (message_name el 0) (template_of el 0) (exit_at el 0) ∷
    end (entry_at el 0) ∷
    terminate (entry_at el 0) ∷
    end_snd (entry_at el 0) (message_name el 0) (message_of el 0) ∷
    inter_rcv (entry_at el 0) (message_name el 0) (template_of el 0) (exit_at el 0) ∷
    inter_snd (entry_at el 0) (message_name el 0) (message_of el 0) (exit_at el 0) ∷
    event_based (entry_at el 0) (span (receipt_of el) 0 (exit_count el)) ∷
    and_split (entry_at el 0) (exits_of el) ∷
    and_join (entries_of el) (exit_at el 0) ∷
    xor_join (entries_of el) (exit_at el 0) ∷
    xor_split (entry_at el 0) (span (choice_of el) 0 (exit_count el)) ∷
    task (entry_at el 0) (task_in el) (mode_at el) (guard_of el) (assignments_of el) (exit_at el 0) ∷
    task_rcv (entry_at el 0) (task_in el) (mode_at el) (guard_of el) (assignments_of el) (message_name el 0) (template_of el 0) (exit_at el 0) ∷
    task_snd (entry_at el 0) (task_in el) (mode_at el) (guard_of el) (assignments_of el) (message_name el 0) (message_of el 0) (exit_at el 0) ∷ []

unfoldable pub element_of : List ℕ → Element
element_of el = get_or (of_each_kind el) (kind_in el) (end 0)

-- A TABLE t: its pools
unfoldable pub process_at : List ℕ → ℕ → List Element
process_at t p = span (λ e. element_of (element_at t p e)) 0 (element_count t p)

unfoldable pub pool_at : List ℕ → ℕ → Pool
pool_at t p = record { mark = if eqb (at t (limit_place p)) 0 then Mark.pool or_else Mark.mi_pool; name = at t (pool_place p); process = process_at t p; limit = limit_of t p }

unfoldable pub collaboration_of : List ℕ → List Pool
collaboration_of t = span (pool_at t) 0 (pool_count t)

-- AN INSTANCE, h its words, or those that a step sees, with the stores behind its fields: what stands at a number of the right range, and nothing at
-- another
abbrev pub inside_or : {A : Type 0} → A → Bool → A → A
inside_or none inside x = if inside then x or_else none

abbrev pub local_of : List ℕ → Local
local_of h = record {
  σe = λ e. inside_or 0 (within 1 edges e) (tokens h e);
  σd = λ d. inside_or None (ltb d fields_named) (field_of h d);
  active = λ n. inside_or 0 (within 1 tasks n) (active_count h n);
  ready = λ n. inside_or 0 (within 1 tasks n) (ready_count h n);
}

-- A STATE of table t, s its instances and q its queues: a pool by its number, an instance that is made, a message name 0 to 15
abbrev pub tuple_of : List ℕ → Tuple
tuple_of vs = record { length = length vs; values = vs }

unfoldable pub values_of : Tuple → List ℕ
values_of g = span (at g.values) 0 g.length

unfoldable pub is_pool : List ℕ → ℕ → Bool
is_pool t p = ltb (pool_of t p) (pool_count t)

abbrev pub nothing : Multiset
nothing = record { times = λ vs. 0; size = 0 }

abbrev pub queue_of : List ℕ → ℕ → Multiset
queue_of q m = record { times = λ vs. times (tuple_of vs) (messages_of q m); size = length (messages_of q m) }

-- store d: whether it is defined, and its value
unfoldable pub store_of : List ℕ → ℕ → Value
store_of s d = if eqb (at s (shared_place + 2 * d)) 0 then None or_else Some (at s (shared_place + (2 * d + 1)))

abbrev pub configuration_of : List ℕ → List ℕ → List ℕ → Configuration
configuration_of t s q = record {
  σi = λ p i. inside_or blank (is_pool t p && ltb i (made_count s (pool_of t p))) (own_of (local_of (instance_of s (pool_of t p) i)));
  made = λ p. inside_or 0 (is_pool t p) (made_count s (pool_of t p));
  σm = λ m. inside_or nothing (ltb m names) (queue_of q m);
  σds = λ d. inside_or None (ltb d fields) (store_of s d);
}

-- THE NAME of a step
abbrev pub named_of : Name → Named
named_of n = record {
  pool = n.pool;
  instance = n.instance;
  element = n.element;
  phase = n.phase;
  branch = n.branch;
  values = values_of n.given;
}

-- WHAT IS TOLD of a step: whether a message was consumed or sent, its name and values; by the paper's label, and by the engine's answer
pub record Told : Type 0 where
  pub traffic : Traffic
  pub name : ℕ
  pub values : List ℕ

abbrev pub seen_as : Seen → Told
seen_as (Seen.τ l) = record { traffic = Nothing; name = 0; values = [] }
seen_as (Seen.sends m vs) = record { traffic = Sent; name = m; values = vs }
seen_as (Seen.receives m vs) = record { traffic = Consumed; name = m; values = vs }
seen_as (Seen.new m vs) = record { traffic = Consumed; name = m; values = vs }

abbrev pub told_of : Answer → Told
told_of answer = record { traffic = answer.traffic; name = answer.name; values = values_of answer.tuple }
