-- The words of the mission's three demands, over the public calls: t is a table, z a state. The theorems stand in proofs/. They are over every valid table, and a table that was drawn is one
-- (`proof_drawings`), so that they hold of it with nothing to add.
use Rattle.std.specs.Prelude.{ℕ, zero, suc, ◌+◌, ◌<◌, ◌≤◌, ◌≡◌, Bool, true, false, ◌&&◌, List, [], ◌∷◌, ◌++◌, eqb, leb, length, take}
use Rattle.base_words.specs.All.{all}
use Rattle.base_words.specs.Each.{each}
use Rattle.base_words.specs.Pick.{if◌then◌or_else◌}
use Rattle.base_words.specs.Sum.{one_if}
use Rattle.base_words.specs.Counts.{names, messages}
use Rattle.base_words.specs.Words.{at, greatest}
use Rattle.base_table.specs.Places.{table_words}
use Rattle.base_table.specs.Table.{pool_count}
use Rattle.base_state.specs.Places.{state_words}
use Rattle.base_state.specs.Instances.{instances_of, queues_of}
use Rattle.base_state.specs.Versions.{is_version}
use Rattle.meaning.specs.declared.Name.{Name}
use Rattle.meaning.specs.declared.Answer.{Answer}
use Rattle.meaning.specs.declared.Tuple.{Tuple}
use Rattle.meaning.specs.Messages.{times}
use Rattle.meaning.specs.Queues.{messages_of, sending}
use Rattle.meaning.specs.Refusals.{Refusal, first_refusal}
use Rattle.meaning.specs.Step.{site_of, refusals, instances_after, queues_after}
use Rattle.meaning.specs.Post.{post_refusals}
use Rattle.step_list.specs.Listing.{listed}
use Rattle.state_figures.specs.Figures.{counted, record_at}
use Rattle.engine.specs.Engine.{verdict_of, freshened, lent_number, fitting, posted_to, listed_at, RanTo, ran_to, WrittenTo, written_to}
use Rattle.engine.specs.Calls.{Act, a_step, a_post, did, after, polled_to, judged_to}
use Rattle.engine.specs.Desk.{stepped_at, ran_at, polled_at, figured_to}
use Rattle.engine.specs.Profile.{nested_of}
use Rattle.engine.specs.Replay.{replayed_to, resumed_to}
use Rattle.proof_demands.specs.Promises.{Steps, Posts}

-- DEMAND 1. "Bad ones are refused with the number document 01 gives": 10 where table or state are bad, 25 for another version, else that of the first
-- condition that does not hold (RULES: calls)
unfoldable pub number_given : List ℕ → Act → List ℕ → ℕ
number_given t (a_step n) z = if fitting t z then first_refusal (refusals t (instances_of z) (queues_of z) n) or_else lent_number t z
number_given t (a_post name g) z = if fitting t z then first_refusal (post_refusals (queues_of z) name g) or_else lent_number t z

-- the numbers that each call can give
unfoldable pub is_one_of : List ℕ → ℕ → Bool
is_one_of [] k = false
is_one_of (n ∷ ns) k = if eqb k n then true or_else is_one_of ns k

abbrev pub check_numbers : List ℕ
check_numbers = 0 ∷ 4 ∷ 10 ∷ []

abbrev pub fresh_numbers : List ℕ
fresh_numbers = 0 ∷ 10 ∷ 25 ∷ []

abbrev pub step_numbers : List ℕ
step_numbers = 0 ∷ 10 ∷ 11 ∷ 12 ∷ 13 ∷ 14 ∷ 15 ∷ 16 ∷ 17 ∷ 18 ∷ 25 ∷ 26 ∷ []

abbrev pub post_numbers : List ℕ
post_numbers = 0 ∷ 10 ∷ 17 ∷ 19 ∷ 25 ∷ []

abbrev pub list_numbers : List ℕ
list_numbers = 0 ∷ 6 ∷ 10 ∷ 25 ∷ []

abbrev pub run_numbers : List ℕ
run_numbers = 0 ∷ 10 ∷ 25 ∷ 26 ∷ []

abbrev pub figures_numbers : List ℕ
figures_numbers = 0 ∷ 10 ∷ 25 ∷ 26 ∷ []

abbrev pub read_numbers : List ℕ
read_numbers = 0 ∷ 1 ∷ 2 ∷ 3 ∷ 4 ∷ 28 ∷ []

abbrev pub write_numbers : List ℕ
write_numbers = 0 ∷ 5 ∷ 10 ∷ []

abbrev pub judge_numbers : List ℕ
judge_numbers = 0 ∷ 10 ∷ 23 ∷ 24 ∷ 25 ∷ []

abbrev pub repair_numbers : List ℕ
repair_numbers = 0 ∷ 5 ∷ 27 ∷ []

abbrev pub nested_numbers : List ℕ
nested_numbers = 0 ∷ 10 ∷ 29 ∷ []

-- beside 24: the step's or post's own, 0 where only the text is untrue
abbrev pub own_numbers : List ℕ
own_numbers = 0 ∷ 11 ∷ 12 ∷ 13 ∷ 14 ∷ 15 ∷ 16 ∷ 17 ∷ 18 ∷ 19 ∷ []

-- DEMAND 2. "A step is accepted exactly when the rules permit it": table and state are right, and every condition of its list of refusals holds
unfoldable pub all_hold : List Refusal → Bool
all_hold rs = each (λ (r : Refusal). r.holds) rs

unfoldable pub permitted : List ℕ → Act → List ℕ → Bool
permitted t (a_step n) z = fitting t z && all_hold (refusals t (instances_of z) (queues_of z) n)
permitted t (a_post name g) z = fitting t z && all_hold (post_refusals (queues_of z) name g)

-- "and the state afterwards is the one they give"
unfoldable pub after_act : List ℕ → Act → List ℕ → List ℕ
after_act t (a_step n) z = instances_after t (instances_of z) n ++ queues_after (site_of t (instances_of z) n) (queues_of z)
after_act t (a_post name g) z = instances_of z ++ sending (queues_of z) name g

-- permitted or not: "a refused call changes no byte it was lent"
unfoldable pub state_given : List ℕ → Act → List ℕ → List ℕ
state_given t a z = if permitted t a z then after_act t a z or_else z

-- the same of calls one after the other, by the rules alone: whether all are permitted, their numbers, the state after them
unfoldable pub all_permitted : List ℕ → List Act → List ℕ → Bool
all_permitted t [] z = true
all_permitted t (a ∷ rest) z = permitted t a z && all_permitted t rest (after_act t a z)

unfoldable pub numbers_given : List ℕ → List Act → List ℕ → List ℕ
numbers_given t [] z = []
numbers_given t (a ∷ rest) z = number_given t a z ∷ numbers_given t rest (state_given t a z)

unfoldable pub given_after : List ℕ → List Act → List ℕ → List ℕ
given_after t [] z = z
given_after t (a ∷ rest) z = given_after t rest (state_given t a z)

-- THE RUN by the public list and step: "takes the first listed step until none is accepted or the limit is used up, and returns the number of steps
-- taken and 1 or 0 for whether one is still accepted"
unfoldable pub run_steps : List ℕ → ℕ → List ℕ → List Act
run_steps t zero z = []
run_steps t (suc limit) z =
    if eqb (listed_at t z 0).number 0 then
    a_step (listed_at t z 0).name ∷ run_steps t limit (did t (a_step (listed_at t z 0).name) z).state
    or_else []

unfoldable pub run_left : List ℕ → List ℕ → ℕ
run_left t z = one_if (eqb (listed_at t z 0).number 0)

unfoldable pub ran_given : List ℕ → ℕ → List ℕ → RanTo
ran_given t limit z =
    record {
      number = 0;
      steps = length (run_steps t limit z);
      left = run_left t (after t (run_steps t limit z) z);
      state = after t (run_steps t limit z) z;
    }

-- DEMAND 3. "two valid states of one model, alike but for further messages in the second's queues": equal instances, and in each queue exactly the
-- further messages e more, "equal ones counted singly". The version stands with the instances, so that "states of one version" is said by `alike` (RULES: calls)
pub record Further (e : ℕ → List Tuple) (z₁ z₂ : List ℕ) : Type 0 where
  pub alike : instances_of z₁ ≡ instances_of z₂
  pub more : (m : ℕ) → m < names → (g : Tuple) → times g (messages_of (queues_of z₂) m) ≡ times g (messages_of (queues_of z₁) m) + times g (e m)

-- "no queue, with the further messages added, passes 64"
unfoldable pub room_for_more : (ℕ → List Tuple) → List ℕ → Bool
room_for_more e z = all (λ m. leb (length (messages_of (queues_of z) m) + length (e m)) messages) names

-- "ever": at the start and after each
unfoldable pub never_passes : List ℕ → (ℕ → List Tuple) → List Act → List ℕ → Bool
never_passes t e [] z = room_for_more e z
never_passes t e (a ∷ rest) z = room_for_more e z && never_passes t e rest (did t a z).state

-- RECORDS THAT AGREE with a state, which is as long as its type says
pub record Agrees (t z : List ℕ) (rs : List (List ℕ)) : Type 0 where
  pub long : length z ≡ state_words
  pub same : rs ≡ counted t (instances_of z)

-- what the type of lent records says of each
abbrev pub RecordsOfThree : List (List ℕ) → Type 0
RecordsOfThree rs = (p : ℕ) → p < length rs → length (record_at rs p) ≡ 3

-- THE ROUND TRIP: what the type of a lent table says of its words
pub record Table (t : List ℕ) : Type 0 where
  pub long : length t ≡ table_words
  pub small : (i : ℕ) → at t i ≤ greatest

-- the text that a writing left in the buffer
abbrev pub text_in : WrittenTo → List ℕ
text_in w = take w.length w.buffer

-- WHAT THE ENGINE MADE of a table: a fresh state for version 10 or 20, and what steps, posts, runs and polls leave of it, accepted or not; z is what stood in the block that was lent
pub data Made (t : List ℕ) : List ℕ → Type 0 where
  afresh : (v : ℕ) → is_version v ≡ true → (z : List ℕ) → Made t (freshened t v z).state
  by_act : {z : List ℕ} (a : Act) → Made t z → Made t (did t a z).state
  by_run : {z : List ℕ} (limit : ℕ) → Made t z → Made t (ran_to t z limit).state
  by_poll : {z : List ℕ} (w : List ℕ) (count : ℕ) → Made t z → Made t (polled_to t z w count).state

-- neither 10 nor 25 nor 26
abbrev pub Right : ℕ → Type 0
Right k = (k ≡ 10 → ⊥) × (k ≡ 25 → ⊥) × (k ≡ 26 → ⊥)

-- no call answers 10, 25 or 26 to a table, a state and the records that a count over it gives, nor for a version that there is
pub record NeverBad (t z : List ℕ) : Type 0 where
  pub check : Right (verdict_of t).number
  pub fresh : (v : ℕ) → is_version v ≡ true → (y : List ℕ) → Right (freshened t v y).number
  pub step : (n : Name) → Right (stepped_at t z (counted t (instances_of z)) n).done.answer.number
  pub post : (name : ℕ) (g : Tuple) → Right (posted_to t z name g).number
  pub list : (k : ℕ) → Right (listed_at t z k).number
  pub run : (limit : ℕ) → Right (ran_at t z (counted t (instances_of z)) limit).done.number
  pub write : (out : List ℕ) → Right (written_to t out).number
  pub poll : (w : List ℕ) (count : ℕ) → Right (polled_at t z (counted t (instances_of z)) w count).done.number
  pub figures : (rs : List (List ℕ)) → length rs ≡ pool_count t → Right (figured_to t z rs).number
  pub judge : (v : ℕ) → is_version v ≡ true → (log : List ℕ) → Right (judged_to t v log).number
  pub nested : Right (nested_of t).number
  pub replay : (v : ℕ) → is_version v ≡ true → (log y : List ℕ) → Right (replayed_to t v log y).answer.number
  pub resume : (log : List ℕ) → Right (resumed_to t z log).answer.number

-- how many steps are accepted
unfoldable pub accepted_steps : List ℕ → List ℕ → ℕ
accepted_steps t z = length (listed t (instances_of z) (queues_of z))

-- HOW FIRM THE PROMISES ARE: what the promise of the public call allows, r the number returned, y the state and ys the records left; a post is lent no records
unfoldable pub Allowed : List ℕ → Act → List ℕ → List (List ℕ) → ℕ → List ℕ → List (List ℕ) → Type 0
Allowed t (a_step n) z rs r y ys = (a : Answer) × (r ≡ a.number) × Steps t z rs n a y ys
Allowed t (a_post name g) z rs r y ys = Posts t z name g r y × (ys ≡ rs)

-- and of calls one after the other, each lent the state x and the records xs that the one before left
unfoldable pub AllAllowed : List ℕ → List Act → List ℕ → List (List ℕ) → List ℕ → List ℕ → List (List ℕ) → Type 0
AllAllowed t [] z rs [] y ys = (y ≡ z) × (ys ≡ rs)
AllAllowed t [] z rs (k ∷ ks) y ys = ⊥
AllAllowed t (a ∷ rest) z rs [] y ys = ⊥
AllAllowed t (a ∷ rest) z rs (k ∷ ks) y ys = (x : List ℕ) × (xs : List (List ℕ)) × Allowed t a z rs k x xs × AllAllowed t rest x xs ks y ys
