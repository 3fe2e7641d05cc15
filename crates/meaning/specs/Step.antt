-- A STEP: t the table, s the instances, q the queues of a state, n the step's name.
use Rattle.std.specs.Prelude.{ℕ, ◌+◌, Bool, true, not, ◌&&◌, ◌||◌, List, [], ◌∷◌, ◌++◌, eqb, ltb, length, replicate}
use Rattle.base_words.specs.Blocks.{Block, Table, Element, Instances, Queues, Instance}
use Rattle.base_words.specs.Each.{tab}
use Rattle.base_words.specs.Pick.{if◌then◌or_else◌}
use Rattle.base_words.specs.Words.{at}
use Rattle.base_words.specs.Counts.{messages}
use Rattle.meaning.specs.declared.Tuple.{Tuple}
use Rattle.meaning.specs.Tuples.{empty, same_tuple}
use Rattle.base_kinds.specs.declared.moves.Move.{Move}
use Rattle.base_kinds.specs.Moves.{on, making, move_of}
use Rattle.base_table.specs.Table.{pool_count, element_count, element_at, pool_of, limit_of, kind_in, mode_in, message_name}
use Rattle.base_state.specs.Places.{instance_words, instance_place, shared_words, shared_place}
use Rattle.base_state.specs.Instances.{made_count, with_instance, with_stores, with_made}
use Rattle.meaning.specs.Messages.{has}
use Rattle.meaning.specs.Queues.{messages_of, sending, consuming}
use Rattle.meaning.specs.declared.Evaluated.{Evaluated}
use Rattle.meaning.specs.Assignments.{Assigned}
use Rattle.meaning.specs.declared.Name.{Name}
use Rattle.meaning.specs.declared.Answer.{Answer}
use Rattle.meaning.specs.declared.Traffic.{Traffic}
use Rattle.meaning.specs.declared.Traffic.TheVariants.{Nothing, Consumed, Sent}
use Rattle.meaning.specs.Requirements.{branch_count, instance_named, counts_permit, granted, below_limit, roomy}
use Rattle.meaning.specs.Changes.{expected, received, worked, message_sent, taken, more, moved}
use Rattle.meaning.specs.Refusals.{Refusal, ◌unless◌, first_refusal}

-- WHERE. What a name finds: the place of its pool, the element's words, the move of the element's kind and mode in this phase, how many
-- instances the pool has made and may make, and the words that it sees. "startRcv: its template sees only undefined fields", and the stores.
abbrev pub pool_named : Table → Name → ℕ
pool_named t n = pool_of t n.pool

unfoldable pub element_named : Table → Name → Element
element_named t n = element_at t (pool_named t n) n.element

unfoldable pub move_named : Table → Name → Move
move_named t n = move_of (kind_in (element_named t n)) (mode_in (element_named t n)) n.phase

unfoldable pub instance_of : Instances → ℕ → ℕ → Instance
instance_of s p i = tab (λ k. at s (instance_place p i + k)) instance_words

unfoldable pub shared_of : Instances → Block
shared_of s = tab (λ k. at s (shared_place + k)) shared_words

-- what a step sees: the words of its instance, own, and behind them those that all share
unfoldable pub before : Move → Instance → Block → Instance
before m own shared = (if eqb m.also making then replicate instance_words 0 or_else own) ++ shared

pub record Site : Type 0 where
  pub element : Element
  pub move : Move
  pub branch : ℕ
  pub given : Tuple
  pub made : ℕ
  pub limit : ℕ
  pub instance : Instance

unfoldable pub site_of : Table → Instances → Name → Site
site_of t s n =
    record {
      element = element_named t n;
      move = move_named t n;
      branch = n.branch;
      given = n.given;
      made = made_count s (pool_named t n);
      limit = limit_of t (pool_named t n);
      instance = before (move_named t n) (instance_of s (pool_named t n) n.instance) (shared_of s);
    }

-- 11: there is such a pool, element, phase, branch and instance
unfoldable pub exists : Table → Instances → Name → Bool
exists t s n =
    ltb (pool_named t n) (pool_count t)
    && ltb n.element (element_count t (pool_named t n))
    && not (eqb (move_named t n).kind 0)
    && ltb n.branch (branch_count (element_named t n) (move_named t n))
    && instance_named (move_named t n) n.instance (made_count s (pool_named t n))

-- WHAT IT COMES TO, x being where: the template; the instance after the binds and the assignments; the message sent; the instance after the step.
abbrev pub receives : Site → Bool
receives x = eqb x.move.receives on

abbrev pub sends : Site → Bool
sends x = eqb x.move.sends on

unfoldable pub template : Site → Evaluated
template x = expected x.element x.instance x.move x.branch x.given

unfoldable pub work : Site → Assigned
work x = worked x.element (received x.element x.instance x.move x.branch x.given) x.move

unfoldable pub sent : Site → Evaluated
sent x = message_sent x.element (work x).instance x.move x.branch

-- the assignments and the message are defined
unfoldable pub defined : Site → Bool
defined x = (work x).defined && (sent x).defined

-- its values match: those of the template, or none where nothing is received
unfoldable pub matches : Site → Bool
matches x = same_tuple (template x).tuple x.given

-- the instance with its fields as they will be, after the taking
unfoldable pub after_taking : Site → Instance
after_taking x = taken x.element x.move x.branch (work x).instance

-- the name of the message received or sent
abbrev pub message_named : Site → ℕ
message_named x = message_name x.element x.branch

-- THE QUEUES enter here, and only here: the message consumed is there, the queue sent to holds fewer than 64.
unfoldable pub queued : Site → Queues → Bool
queued x q = if receives x then has x.given (messages_of q (message_named x)) or_else true

unfoldable pub space : Site → Queues → Bool
space x q = if sends x then ltb (length (messages_of q (message_named x))) messages or_else true

-- THE REFUSALS, in the order they are looked at. "Checked in the order of the numbers", but "taskRcv looks for undefined assignments only when
-- the values match: 14 goes before that 13, and that 13 before 15." (RULES: refusals)
unfoldable pub refusals_at : Site → Queues → List Refusal
refusals_at x q =
    12 unless counts_permit x.element x.instance x.move x.branch ∷  -- tokens or task counts don't permit the step
    13 unless granted x.element x.instance x.move x.branch ∷  -- condition not true
    13 unless (template x).defined ∷  -- an undefined value in the template
    13 unless (receives x || defined x) ∷  -- an undefined value in an assignment or the message
    14 unless matches x ∷  -- values don't match, or were given to a step that receives nothing
    13 unless defined x ∷  -- taskRcv: an undefined value in an assignment, after the binds
    15 unless queued x q ∷  -- no equal message queued
    16 unless below_limit x.move x.made x.limit ∷  -- startRcv: the pool's limit is reached
    17 unless space x q ∷  -- the queue sent to holds 64
    18 unless roomy x.element (after_taking x) x.move x.branch ∷ []  -- an edge or task count, after the taking, would pass 255

unfoldable pub refusals : Table → Instances → Queues → Name → List Refusal
refusals t s q n = 11 unless exists t s n ∷ refusals_at (site_of t s n) q  -- no such pool, instance, element, phase or branch

-- THE STATE AFTER: the instance's words, the stores and the count of its pool; the message consumed or sent.
unfoldable pub instance_after : Site → Instance
instance_after x = moved x.element x.move x.branch (after_taking x)

unfoldable pub made_after : Site → ℕ
made_after x = if eqb x.move.also making then more x.made or_else x.made

unfoldable pub instances_after : Table → Instances → Name → Instances
instances_after t s n =
    with_made (with_stores (with_instance s (pool_named t n) n.instance (instance_after (site_of t s n))) (instance_after (site_of t s n))) (pool_named t n)
    (made_after (site_of t s n))

unfoldable pub queues_after : Site → Queues → Queues
queues_after x q =
    if receives x then consuming q (message_named x) x.given
    or_else if sends x then sending q (message_named x) (sent x).tuple
    or_else q

-- what was consumed or sent
unfoldable pub traffic : Site → Answer
traffic x =
    if receives x then record { number = 0; traffic = Consumed; name = message_named x; tuple = (template x).tuple }
    or_else if sends x then record { number = 0; traffic = Sent; name = message_named x; tuple = (sent x).tuple }
    or_else record { number = 0; traffic = Nothing; name = 0; tuple = empty }

pub record Outcome : Type 0 where
  pub answer : Answer
  pub instances : Instances
  pub queues : Queues

-- a refusal says its number and nothing else, and changes nothing
abbrev pub refused : ℕ → Instances → Queues → Outcome
refused number s q = record { answer = record { number = number; traffic = Nothing; name = 0; tuple = empty }; instances = s; queues = q }

unfoldable pub step : Table → Instances → Queues → Name → Outcome
step t s q n =
    if eqb (first_refusal (refusals t s q n)) 0 then
    record { answer = traffic (site_of t s n); instances = instances_after t s n; queues = queues_after (site_of t s n) q }
    or_else refused (first_refusal (refusals t s q n)) s q
