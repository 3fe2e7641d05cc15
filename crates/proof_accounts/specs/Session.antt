-- A SESSION ACCOUNTED FOR, on document 01's own model: "posts 3:7, 3:7, one refused (name 16), 3:7,7; startRcv with 8 refused (15), with 7 accepted; pool 1 sends 3:7; startRcv with 7 accepted; a third refused (16).
-- For (3, 7): 2 + 1 = 1 + 2. For (3, 7,7): 1 + 0 = 1 + 0. A history with the send left out, a post told twice or a queue with one message fewer doesn't add up." (RULES: accounts)
use Rattle.std.specs.Prelude.{ℕ, List, [], ◌∷◌, ◌++◌}
use Rattle.base_words.specs.Text.{bytes}
use Rattle.base_state.specs.Instances.{instances_of, queues_of}
use Rattle.base_state.specs.Versions.{present}
use Rattle.meaning.specs.declared.Name.{Name}
use Rattle.meaning.specs.declared.Answer.{Answer}
use Rattle.meaning.specs.declared.Traffic.TheVariants.{Nothing, Consumed, Sent}
use Rattle.meaning.specs.declared.Tuple.{Tuple}
use Rattle.meaning.specs.Tuples.{empty}
use Rattle.meaning.specs.Step.{step}
use Rattle.meaning.specs.Post.{post}
use Rattle.state_fits.specs.Fresh.{fresh}
use Rattle.text_read.specs.Notation.{read_into}
use Rattle.step_poll.specs.Items.{Act, a_step, a_post}
use Rattle.step_poll.specs.Poll.{Left, Stepped}
use Rattle.step_history.specs.History.{Entry, step_gave, post_gave, left_by}
use Rattle.engine.specs.Engine.{leaving}

abbrev pub model : List ℕ
model = bytes "pool(1,start(1,2)|taskSnd(2,1,a,true,{d0:=7},3:<d0>,3)|end(3))|miPool(2,startRcv(3:<?d0>,1)|task(1,1,na_nc,d0=7,{d1:=d0+1},2)|end(2),2)"

-- its table
abbrev pub table : List ℕ
table = (read_into model []).table

-- steps and posts on a table and a state that are right
unfoldable pub step_on : List ℕ → List ℕ → Name → Stepped
step_on t z n = leaving (step t (instances_of z) (queues_of z) n)

unfoldable pub post_on : List ℕ → ℕ → Tuple → Left
post_on z m g = record { number = (post (queues_of z) m g).number; state = instances_of z ++ (post (queues_of z) m g).queues }

abbrev pub seven : Tuple
seven = record { length = 1; values = 7 ∷ 0 ∷ 0 ∷ 0 ∷ [] }

abbrev pub eight : Tuple
eight = record { length = 1; values = 8 ∷ 0 ∷ 0 ∷ 0 ∷ [] }

abbrev pub sevens : Tuple
sevens = record { length = 2; values = 7 ∷ 7 ∷ 0 ∷ 0 ∷ [] }

-- a step of instance i of pool p at element e
abbrev pub session_step : ℕ → ℕ → ℕ → Tuple → Name
session_step p i e g = record { pool = p; instance = i; element = e; phase = 0; branch = 0; given = g }

abbrev pub refused_with : ℕ → Answer
refused_with k = record { number = k; traffic = Nothing; name = 0; tuple = empty }

abbrev pub quiet : Answer
quiet = refused_with 0

abbrev pub sent_answer : ℕ → Tuple → Answer
sent_answer m g = record { number = 0; traffic = Sent; name = m; tuple = g }

abbrev pub consumed : ℕ → Tuple → Answer
consumed m g = record { number = 0; traffic = Consumed; name = m; tuple = g }

-- THE CALLS
abbrev pub calls : List Act
calls =
    a_post 3 seven ∷ a_post 3 seven ∷ a_post 16 empty ∷ a_post 3 sevens ∷
    a_step (session_step 2 0 0 eight) ∷ a_step (session_step 2 0 0 seven) ∷
    a_step (session_step 1 0 0 empty) ∷ a_step (session_step 1 0 1 empty) ∷
    a_step (session_step 2 1 0 seven) ∷ a_step (session_step 2 2 0 seven) ∷ []

-- and what they gave
abbrev pub history : List Entry
history =
    post_gave 3 seven 0 ∷ post_gave 3 seven 0 ∷ post_gave 16 empty 19 ∷ post_gave 3 sevens 0 ∷
    step_gave (session_step 2 0 0 eight) (refused_with 15) ∷ step_gave (session_step 2 0 0 seven) (consumed 3 seven) ∷
    step_gave (session_step 1 0 0 empty) quiet ∷ step_gave (session_step 1 0 1 empty) (sent_answer 3 seven) ∷
    step_gave (session_step 2 1 0 seven) (consumed 3 seven) ∷ step_gave (session_step 2 2 0 seven) (refused_with 16) ∷ []

-- the state that they left
abbrev pub last : List ℕ
last = left_by (step_on table) post_on calls (fresh table present)

-- WHAT DOES NOT ADD UP: the send left out, a post told twice
abbrev pub send_left_out : List Entry
send_left_out =
    post_gave 3 seven 0 ∷ post_gave 3 seven 0 ∷ post_gave 16 empty 19 ∷ post_gave 3 sevens 0 ∷
    step_gave (session_step 2 0 0 eight) (refused_with 15) ∷ step_gave (session_step 2 0 0 seven) (consumed 3 seven) ∷
    step_gave (session_step 1 0 0 empty) quiet ∷
    step_gave (session_step 2 1 0 seven) (consumed 3 seven) ∷ step_gave (session_step 2 2 0 seven) (refused_with 16) ∷ []

abbrev pub post_twice : List Entry
post_twice = post_gave 3 seven 0 ∷ history
