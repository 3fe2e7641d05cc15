-- The starred points of document 01 ('Points to try'): one table. Each row says in the document's words what is tried, and tries it by a step on a
-- small table and state: pool 1 with one element, its instance 0, messages under name 0. Rows behind them try what else is easily got wrong.
-- A second table has the branches of document 02's wish 6, a third the versions of its wish 7, a fourth the stores of its wish 8. (RULES: steps)
use Rattle.std.specs.Prelude.{ℕ, ◌+◌, ◌-◌, ◌*◌, ◌≡◌, Bool, true, false, List, [], ◌∷◌, ◌++◌, length, replicate, get_or, drop}
use Prim.Native.String.{String}
use Rattle.base_words.specs.Each.{tab}
use Rattle.base_words.specs.Words.{at, greatest}
use Rattle.base_words.specs.Counts.{branches, fields, values, pools, messages}
use Rattle.base_kinds.specs.Kinds.{start_rcv, terminate, inter_rcv, xor_split, task, task_rcv, task_snd}
use Rattle.base_kinds.specs.declared.moves.Move.{Move}
use Rattle.base_kinds.specs.Moves.{o, a, na_c, na_nc, moves, no_move, move_of}
use Rattle.base_table.specs.Places.{a_field, single, plus, minus, binding, always, default, equals, below, expression_words, message_words}
use Rattle.base_table.specs.Table.{kind_in, mode_in}
use Rattle.base_state.specs.Places.{instance_words, instance_place, store_words, shared_words, shared_place, queue_words}
use Rattle.base_state.specs.Versions.{former, present}
use Rattle.base_state.specs.Instances.{made_count, instance_at, tokens, active_count, ready_count, with_tokens, with_active, with_ready, with_field}
use Rattle.meaning.specs.declared.Tuple.{Tuple}
use Rattle.meaning.specs.declared.Name.{Name}
use Rattle.meaning.specs.Values.{number_in}
use Rattle.meaning.specs.Tuples.{empty}
use Rattle.meaning.specs.Messages.{times}
use Rattle.meaning.specs.Queues.{messages_of}
use Rattle.meaning.specs.Expressions.{field_of}
use Rattle.meaning.specs.Conditions.{holds}
use Rattle.meaning.specs.Requirements.{is_alone}
use Rattle.meaning.specs.Refusals.{first_refusal}
use Rattle.meaning.specs.Post.{post}
use Rattle.meaning.specs.Step.{Site, before, refusals_at, instance_after, Outcome, step}

-- WORDS OF A TABLE. A block with 0 behind what it holds; operands, expressions, conditions.
abbrev filled : ℕ → List ℕ → List ℕ
filled n l = l ++ replicate (n - length l) 0

abbrev number : ℕ → List ℕ
number x = 0 ∷ x ∷ []

abbrev d : ℕ → List ℕ
d k = a_field ∷ k ∷ []

abbrev form : ℕ → List ℕ → List ℕ → List ℕ
form f x y = f ∷ filled (expression_words - 1) (x ++ y)

abbrev alone : List ℕ → List ℕ
alone x = form single x []

abbrev true_condition : List ℕ
true_condition = form always [] []

-- a list of edges; an assignment; a message
abbrev listed : List ℕ → List ℕ
listed es = filled (1 + branches) (length es ∷ es)

infix 70 ◌becomes◌
abbrev ◌becomes◌ : ℕ → List ℕ → List ℕ
k becomes x = k ∷ x

abbrev tuple : ℕ → List ℕ → List ℕ
tuple n items = filled message_words (0 ∷ n ∷ items)

-- an element: kind, task number, mode, entries, exits, conditions, messages, count of assignments and assignments
abbrev element : ℕ → ℕ → ℕ → List ℕ → List ℕ → List ℕ → List ℕ → ℕ → List ℕ → List ℕ
element kind n mode es xs conditions messages count assignments =
    kind ∷
    n ∷
    mode ∷
    (listed es ++ (listed xs ++ (filled (expression_words * branches) conditions ++ (filled (message_words * branches) messages ++ (count ∷ assignments)))))

abbrev table : ℕ → List ℕ → List ℕ
table limit el = 1 ∷ 1 ∷ limit ∷ 1 ∷ el

-- WORDS OF A STATE. An instance with a token on edge 1; how many instances are made, and the first; messages under name 0.
abbrev fresh : List ℕ
fresh = with_tokens (replicate instance_words 0) 1 1

abbrev instances : ℕ → List ℕ → List ℕ
instances made h = made ∷ (replicate (pools - 1) 0 ++ filled (instance_words * 4) h)

abbrev message : ℕ → ℕ → ℕ → Tuple
message n x y = record { length = n; values = filled values (x ∷ y ∷ []) }

abbrev slots : List Tuple → List ℕ
slots [] = []
slots (g ∷ gs) = g.length ∷ (g.values ++ slots gs)

abbrev queue : List Tuple → List ℕ
queue ms = filled queue_words (length ms ∷ slots ms)

abbrev name : ℕ → ℕ → ℕ → Tuple → Name
name i phase branch given = record { pool = 1; instance = i; element = 0; phase = phase; branch = branch; given = given }

-- WHAT CAME OF IT. The number given back; the value of a field of instance 0; how many instances are made; tokens of instance i on edge e, its active
-- and its ready count of task 1; how often a message is queued.
abbrev answered : Outcome → ℕ
answered x = x.answer.number

abbrev field : Outcome → ℕ → ℕ
field x k = number_in (field_of (instance_at x.instances 0 0) k)

abbrev made : Outcome → ℕ
made x = made_count x.instances 0

abbrev tokens_in : Outcome → ℕ → ℕ → ℕ
tokens_in x i e = tokens (instance_at x.instances 0 i) e

abbrev active_in : Outcome → ℕ → ℕ
active_in x i = active_count (instance_at x.instances 0 i) 1

abbrev ready_in : Outcome → ℕ → ℕ
ready_in x i = ready_count (instance_at x.instances 0 i) 1

abbrev waiting : List ℕ → Tuple → ℕ
waiting q g = times g (messages_of q 0)

-- task(1,1,a,true,{d0:=x},2), tried once
abbrev assigning : ℕ → List ℕ → Outcome
assigning count given = step (table 0 (element task 1 a (1 ∷ []) (2 ∷ []) true_condition [] count given)) (instances 1 fresh) (queue []) (name 0 0 0 empty)

abbrev assigning_d0 : List ℕ → Outcome
assigning_d0 x = assigning 1 (0 becomes x)

-- task(1,1,a,C,{},2)
abbrev guarded : List ℕ → Outcome
guarded c = step (table 0 (element task 1 a (1 ∷ []) (2 ∷ []) c [] 0 [])) (instances 1 fresh) (queue []) (name 0 0 0 empty)

-- interRcv(1,0:T,2) with messages queued, one of them named
abbrev receiving : List ℕ → List Tuple → Tuple → Outcome
receiving template ms g = step (table 0 (element inter_rcv 0 o (1 ∷ []) (2 ∷ []) [] template 0 [])) (instances 1 fresh) (queue ms) (name 0 0 0 g)

-- (7,9)
abbrev seven_nine : Tuple
seven_nine = message 2 7 9

-- <7,?d1>
abbrev seven_bind : List ℕ
seven_bind = tuple 2 (alone (number 7) ++ form binding (d 1) [])

-- xorSplit(1,{(2,1=2),(3,d5=1),(4,default)})
abbrev splitting : ℕ → Outcome
splitting b =
    step (table 0 (element xor_split 0 o (1 ∷ []) (2 ∷ 3 ∷ 4 ∷ []) (form equals (number 1) (number 2) ++ (form equals (d 5) (number 1) ++ form default [] [])) [] 0 []))
    (instances 1 fresh) (queue []) (name 0 0 b empty)

-- xorSplit(1,{(2,d0=d1),(3,default)})
abbrev splitting_undefined : ℕ → Outcome
splitting_undefined b =
    step (table 0 (element xor_split 0 o (1 ∷ []) (2 ∷ 3 ∷ []) (form equals (d 0) (d 1) ++ form default [] []) [] 0 []))
    (instances 1 fresh) (queue []) (name 0 0 b empty)

-- task(1,1,k,true,{},2) with active 1, phase 1
abbrev beginning : ℕ → Outcome
beginning k = step (table 0 (element task 1 k (1 ∷ []) (2 ∷ []) true_condition [] 0 [])) (instances 1 (with_active fresh 1 1)) (queue []) (name 0 1 0 empty)

-- miPool(1,startRcv(0:<>,1),2) with two messages queued
abbrev making_of : ℕ → ℕ → Outcome
making_of made i =
    step (table 2 (element start_rcv 0 o [] (1 ∷ []) [] (tuple 0 []) 0 [])) (instances made fresh) (queue (empty ∷ empty ∷ [])) (name i 0 0 empty)

-- terminate(1) with a token on edge 2 too, and both counts of task 1 not 0
abbrev terminating : Outcome
terminating =
    step (table 0 (element terminate 0 o (1 ∷ []) [] [] [] 0 [])) (instances 1 (with_ready (with_active (with_tokens fresh 2 1) 1 1) 1 1)) (queue []) (name 0 0 0 empty)

-- task(1,1,na_c,d0=7,{},2) with active 1 and d0 = 8, phase 3
abbrev completing : Outcome
completing =
    step (table 0 (element task 1 na_c (1 ∷ []) (2 ∷ []) (form equals (d 0) (number 7)) [] 0 [])) (instances 1 (with_field (with_active fresh 1 1) 0 8)) (queue []) (name 0 3 0 empty)

-- THE TABLE
pub record Point : Type 0 where
  pub says : String
  pub comes : ℕ
  pub due : ℕ

infix 70 ◌shown_by◌being◌
abbrev ◌shown_by◌being◌ : String → ℕ → ℕ → Point
s shown_by x being n = record { says = s; comes = x; due = n }

abbrev pub points : List Point
points =
    "4,294,967,295+0 is 4,294,967,295" shown_by field (assigning_d0 (form plus (number greatest) (number 0))) 0 being greatest ∷
    "4,294,967,295+1 is undefined" shown_by answered (assigning_d0 (form plus (number greatest) (number 1))) being 13 ∷
    "65,535+1 is 65,536" shown_by field (assigning_d0 (form plus (number 65535) (number 1))) 0 being 65536 ∷
    "0-1 is undefined" shown_by answered (assigning_d0 (form minus (number 0) (number 1))) being 13 ∷
    "Undefined = undefined does not hold" shown_by answered (guarded (form equals (d 0) (d 1))) being 13 ∷
    "Undefined = undefined does not fail either" shown_by answered (splitting_undefined 1) being 13 ∷
    "<7,?d1> matches (7,9)" shown_by answered (receiving seven_bind (seven_nine ∷ []) seven_nine) being 0 ∷
    "with d1 = 9" shown_by field (receiving seven_bind (seven_nine ∷ []) seven_nine) 1 being 9 ∷
    "not (8,9)" shown_by answered (receiving seven_bind (message 2 8 9 ∷ []) (message 2 8 9)) being 14 ∷
    "not (7)" shown_by answered (receiving seven_bind (message 1 7 0 ∷ []) (message 1 7 0)) being 14 ∷
    "<> matches the empty tuple" shown_by answered (receiving (tuple 0 []) (empty ∷ []) empty) being 0 ∷
    "{d0:=1,d1:=d0} gives 1" shown_by field (assigning 2 (0 becomes alone (number 1) ++ 1 becomes alone (d 0))) 0 being 1 ∷
    "and 1" shown_by field (assigning 2 (0 becomes alone (number 1) ++ 1 becomes alone (d 0))) 1 being 1 ∷
    "{d0:=d5}, d5 undefined: 13" shown_by answered (assigning_d0 (alone (d 5))) being 13 ∷
    "Two equal messages" shown_by waiting (post (queue (seven_nine ∷ [])) 0 seven_nine).queues seven_nine being 2 ∷
    "one consumed" shown_by answered (receiving seven_bind (seven_nine ∷ seven_nine ∷ []) seven_nine) being 0 ∷
    "one stays" shown_by waiting (receiving seven_bind (seven_nine ∷ seven_nine ∷ []) seven_nine).queues seven_nine being 1 ∷
    "na_nc with active 1: phase 1 gives 12" shown_by answered (beginning na_nc) being 12 ∷
    "na_c is accepted" shown_by answered (beginning na_c) being 0 ∷
    "xorSplit with one false, one undefined and a default: no branch: not the first" shown_by answered (splitting 0) being 13 ∷
    "not the second" shown_by answered (splitting 1) being 13 ∷
    "not the default" shown_by answered (splitting 2) being 13 ∷
    "miPool limit 2, matching messages queued: the second is made" shown_by answered (making_of 1 1) being 0 ∷
    "there are two then" shown_by made (making_of 1 1) being 2 ∷
    "with a token on its exit" shown_by tokens_in (making_of 1 1) 1 1 being 1 ∷
    "a third gives 16" shown_by answered (making_of 2 2) being 16 ∷
    -- beside the starred ones
    "terminate clears all tokens: that on its entry" shown_by tokens_in terminating 0 1 being 0 ∷
    "the other" shown_by tokens_in terminating 0 2 being 0 ∷
    "and task counts of its instance: active" shown_by active_in terminating 0 being 0 ∷
    "ready" shown_by ready_in terminating 0 being 0 ∷
    "phase 3 of an na task, its guard false by then, is accepted" shown_by answered completing being 0 ∷ []

-- the claim: every row comes to what is due
abbrev pub Hold : List Point → Type 0
Hold [] = Unit {0}
Hold (p ∷ ps) = (p.comes ≡ p.due) × Hold ps

-- THE BRANCHES PERMITTED of xorSplit(1,{(2,C),(3,C),..}) with d0 = 1 and d9 undefined: document 02, wish 6 (RULES: branches)
abbrev conditions : List (List ℕ) → List ℕ
conditions [] = []
conditions (c ∷ cs) = c ++ conditions cs

abbrev split_by : List (List ℕ) → List ℕ
split_by cs = element xor_split 0 o (1 ∷ []) (tab (λ j. 2 + j) (length cs)) (conditions cs) [] 0 []

pub record Choice : Type 0 where
  pub says : String
  pub permits : List Bool
  pub due : List Bool

infix 70 ◌choosing◌being◌
abbrev ◌choosing◌being◌ : String → List (List ℕ) → List Bool → Choice
s choosing cs being bs = record { says = s; permits = tab (holds (split_by cs) (with_field fresh 0 1)) (length cs); due = bs }

infix 70 ◌is◌
abbrev ◌is◌ : ℕ → ℕ → List ℕ
k is x = form equals (d k) (number x)

abbrev otherwise : List ℕ
otherwise = form default [] []

abbrev pub choices : List Choice
choices =
    "true, true: 0" choosing (true_condition ∷ true_condition ∷ []) being (true ∷ false ∷ []) ∷
    "d0=2, d0=1, true: 1" choosing (0 is 2 ∷ 0 is 1 ∷ true_condition ∷ []) being (false ∷ true ∷ false ∷ []) ∷
    "d9=1, d0=1: none" choosing (9 is 1 ∷ 0 is 1 ∷ []) being (false ∷ false ∷ []) ∷
    "d0=1, d9=1: 0" choosing (0 is 1 ∷ 9 is 1 ∷ []) being (true ∷ false ∷ []) ∷
    "default, d0=1, d0<2: 1" choosing (otherwise ∷ 0 is 1 ∷ form below (d 0) (number 2) ∷ []) being (false ∷ true ∷ false ∷ []) ∷
    "d0=2, default, d0=1: 2" choosing (0 is 2 ∷ otherwise ∷ 0 is 1 ∷ []) being (false ∷ false ∷ true ∷ []) ∷
    "d0=2, d0=3, default: 2" choosing (0 is 2 ∷ 0 is 3 ∷ otherwise ∷ []) being (false ∷ false ∷ true ∷ []) ∷
    "default, d9=3, d0=1: none" choosing (otherwise ∷ 9 is 3 ∷ 0 is 1 ∷ []) being (false ∷ false ∷ false ∷ []) ∷
    "d0=2, default, d9=1, true: none" choosing (0 is 2 ∷ otherwise ∷ 9 is 1 ∷ true_condition ∷ []) being (false ∷ false ∷ false ∷ false ∷ []) ∷ []

abbrev pub Chosen : List Choice → Type 0
Chosen [] = Unit {0}
Chosen (x ∷ xs) = (x.permits ≡ x.due) × Chosen xs

-- PHASE 1 UNDER A VERSION of taskRcv(1,1,k,true,{},0:<>,2) in an instance h: document 02, wish 7. Behind the words of the instance a step sees the stores and the version. (RULES: versions)
abbrev seen_under : ℕ → List ℕ → List ℕ
seen_under version h = h ++ (replicate store_words 0 ++ (version ∷ []))

abbrev begins : ℕ → ℕ → List ℕ → Bool
begins version k h = is_alone (task_rcv ∷ 1 ∷ k ∷ []) (seen_under version h) (get_or moves 16 no_move)  -- P-TaskRcv-N1

pub record Wait : Type 0 where
  pub says : String
  pub permits : List Bool
  pub due : List Bool

-- under 10, under 20
infix 70 ◌waiting◌having◌being◌
abbrev ◌waiting◌having◌being◌ : String → ℕ → List ℕ → List Bool → Wait
s waiting k having h being bs = record { says = s; permits = begins former k h ∷ begins present k h ∷ []; due = bs }

abbrev pub versions : List Wait
versions =
    "na_c with active 1: 12 under 10, accepted under 20" waiting na_c having (with_active fresh 1 1) being (false ∷ true ∷ []) ∷
    "with ready 1 alone: the same" waiting na_c having (with_ready fresh 1 1) being (false ∷ true ∷ []) ∷
    "with both counts 0: accepted" waiting na_c having fresh being (true ∷ true ∷ []) ∷
    "na_nc with active 1: 12 under both" waiting na_nc having (with_active fresh 1 1) being (false ∷ false ∷ []) ∷
    "with ready 1 alone: the same" waiting na_nc having (with_ready fresh 1 1) being (false ∷ false ∷ []) ∷
    "with both counts 0: accepted" waiting na_nc having fresh being (true ∷ true ∷ []) ∷
    "counts of another task: accepted" waiting na_c having (with_active fresh 2 1) being (true ∷ true ∷ []) ∷ []

abbrev pub Waited : List Wait → Type 0
Waited [] = Unit {0}
Waited (x ∷ xs) = (x.permits ≡ x.due) × Waited xs

-- THE STORES: document 02, wish 8. A step at the words that it sees, of its instance, own, and of what all share behind them; store k is field 16 + k. (RULES: stores)
abbrev s : ℕ → List ℕ
s k = d (fields + k)

infix 70 ◌set_to◌
abbrev ◌set_to◌ : ℕ → List ℕ → List ℕ
k set_to x = (fields + k) ∷ x

-- store k is v, and the others are undefined
abbrev board : ℕ → ℕ → List ℕ
board k v = filled shared_words (replicate (2 * k) 0 ++ (1 ∷ v ∷ []))

abbrev bare : List ℕ
bare = replicate shared_words 0

abbrev site : List ℕ → List ℕ → List ℕ → Tuple → Site
site el own shared g =
    record { element = el; move = rule_in el; branch = 0; given = g; made = 0; limit = 1; instance = before (rule_in el) own shared }
  where
    rule_in : List ℕ → Move
    rule_in el = move_of (kind_in el) (mode_in el) 0

-- its number, the message that it asks for being queued; a field after it; what all share after it
abbrev number_of : Site → ℕ
number_of x = first_refusal (refusals_at x (queue (x.given ∷ [])))

abbrev left : Site → ℕ → ℕ
left x k = number_in (field_of (instance_after x) k)

abbrev shared_after : Site → List ℕ
shared_after x = drop instance_words (instance_after x)

-- startRcv(0:<s0,?d0>,1), startRcv(0:<d1>,1)
abbrev begun_by : List ℕ → List ℕ → Tuple → Site
begun_by template shared g = site (element start_rcv 0 o [] (1 ∷ []) [] template 0 []) (with_field fresh 1 7) shared g

abbrev store_bind : List ℕ
store_bind = tuple 2 (alone (s 0) ++ form binding (d 0) [])

-- task(1,1,a,C,{..},2)
abbrev setting : List ℕ → ℕ → List ℕ → List ℕ → List ℕ → Site
setting c count given own shared = site (element task 1 a (1 ∷ []) (2 ∷ []) c [] count given) own shared empty

-- taskRcv(1,1,a,true,{s1:=s0,s0:=s0+1,d0:=s0},0:<?s0>,2) and 4
abbrev hearing : Site
hearing =
    site (element task_rcv 1 a (1 ∷ []) (2 ∷ []) true_condition (tuple 1 (form binding (s 0) [])) 3 (1 set_to alone (s 0) ++ (0 set_to form plus (s 0) (number 1) ++ 0 becomes alone (s 0))))
    fresh bare (message 1 4 0)

-- interRcv(1,0:<s1,?s1>,2) with s1 = 5 and (5,9)
abbrev matching : Site
matching = site (element inter_rcv 0 o (1 ∷ []) (2 ∷ []) [] (tuple 2 (alone (s 1) ++ form binding (s 1) [])) 0 []) fresh (board 1 5) (message 2 5 9)

-- terminate(1) with s0 = 7
abbrev ending : Site
ending = site (element terminate 0 o (1 ∷ []) [] [] [] 0 []) fresh (board 0 7) empty

-- {s0:=s0+1} in instance 0 with s0 = 0; the guard s0<d0 in instance 1, where d0 = 1, before and after it
abbrev raising : Site
raising = setting true_condition 1 (0 set_to form plus (s 0) (number 1)) fresh (board 0 0)

abbrev watching : List ℕ → Site
watching shared = setting (form below (s 0) (d 0)) 0 [] (with_field fresh 0 1) shared

-- the same as a step of a whole state
abbrev raised_on : List ℕ → Outcome
raised_on shared =
    step (table 0 (element task 1 a (1 ∷ []) (2 ∷ []) true_condition [] 1 (0 set_to form plus (s 0) (number 1)))) (filled shared_place (1 ∷ 0 ∷ 0 ∷ 0 ∷ fresh) ++ shared) (queue []) (name 0 0 0 empty)

-- taskSnd(1,1,a,true,{s0:=1},0:<>,2) where the queue is full
abbrev sent_when_full : List ℕ → Outcome
sent_when_full shared =
    step (table 0 (element task_snd 1 a (1 ∷ []) (2 ∷ []) true_condition (tuple 0 []) 1 (0 set_to alone (number 1)))) (filled shared_place (1 ∷ 0 ∷ 0 ∷ 0 ∷ fresh) ++ shared) (queue (replicate messages empty)) (name 0 0 0 empty)

abbrev pub stores : List Point
stores =
    "startRcv(3:<s0,?d0>,1): 13 while s0 is undefined" shown_by number_of (begun_by store_bind bare seven_nine) being 13 ∷
    "with s0 = 7 it matches (7,9)" shown_by number_of (begun_by store_bind (board 0 7) seven_nine) being 0 ∷
    "and binds d0" shown_by left (begun_by store_bind (board 0 7) seven_nine) 0 being 9 ∷
    "it sees undefined own fields" shown_by number_of (begun_by (tuple 1 (alone (d 1))) bare (message 1 7 0)) being 13 ∷
    "{s0:=1,d0:=s0} gives 1" shown_by left (setting true_condition 2 (0 set_to alone (number 1) ++ 0 becomes alone (s 0)) fresh bare) (fields + 0) being 1 ∷
    "and 1" shown_by left (setting true_condition 2 (0 set_to alone (number 1) ++ 0 becomes alone (s 0)) fresh bare) 0 being 1 ∷
    "{s0:=1,s1:=s9}: 13" shown_by number_of (setting true_condition 2 (0 set_to alone (number 1) ++ 1 set_to alone (s 9)) fresh bare) being 13 ∷
    "taskRcv <?s0> with {s1:=s0,s0:=s0+1,d0:=s0} and 4: s0 = 5" shown_by left hearing (fields + 0) being 5 ∷
    "s1 = 4" shown_by left hearing (fields + 1) being 4 ∷
    "d0 = 5" shown_by left hearing 0 being 5 ∷
    "interRcv <s1,?s1> with s1 = 5: (5,9) matches" shown_by number_of matching being 0 ∷
    "and s1 becomes 9" shown_by left matching (fields + 1) being 9 ∷
    "terminate leaves them" shown_by left ending (fields + 0) being 7 ∷
    "the guard s0<d0 of instance 1 holds" shown_by number_of (watching (board 0 0)) being 0 ∷
    "instance 0 raises s0; it turns false: 13" shown_by number_of (watching (shared_after raising)) being 13 ∷
    "the state has it" shown_by at (raised_on (board 0 4)).instances (shared_place + 1) being 5 ∷
    "a taskSnd that sets s0 and finds its queue full: 17" shown_by answered (sent_when_full (board 0 4)) being 17 ∷
    "s0 as before" shown_by at (sent_when_full (board 0 4)).instances (shared_place + 1) being 4 ∷ []
