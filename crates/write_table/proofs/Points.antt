-- The text of document 01's session as a table, written back, and texts of forms that are not in it, each computed.
use Prim.Native.Nat.{ℕ, ◌+◌, ◌*◌, ◌-◌}
use mathlib.Core.Path.{◌≡◌, refl}
use mathlib.Core.List.{List, [], ◌∷◌, ◌++◌}
use lib.ListN.{length, replicate}
use Rattle.base_words.specs.Counts.{elements, branches, assignments}
use Rattle.base_words.specs.Each.{joined}
use Rattle.base_words.specs.Pick.{if◌then◌or_else◌}
use Rattle.base_words.specs.Text.{bytes}
use Rattle.base_kinds.specs.Kinds.{kind_of, start, start_rcv, end, event_based, and_split, xor_split, task, task_snd}
use Rattle.base_kinds.specs.Moves.{a, na_c, na_nc}
use Rattle.base_table.specs.Places.{expression_words, message_words, assignment_words, element_words, single, plus, minus, binding, always, default, equals, below, a_field}
use Rattle.write_decimals.specs.Decimals.{shown, shown_from}
use Rattle.write_shown.specs.Shown.{lead, separated, shown_field, shown_operand, shown_pair, shown_expression, shown_item, shown_condition, shown_tuple, shown_message, shown_exits, shown_guarded, shown_guarded_list, shown_receiving, shown_receiving_list, shown_mode, shown_assignment, shown_assignments, shown_task, shown_part, shown_parts, shown_element, shown_elements, shown_limit, shown_pool, shown_pools, shown_table}

-- words, zeros behind them up to n; a list of edges with its count; an element
abbrev full : ℕ → List ℕ → List ℕ
full n w = w ++ replicate (n - length w) 0

abbrev edges : List ℕ → List ℕ
edges w = length w ∷ full branches w

abbrev element : ℕ → List ℕ → List ℕ → List ℕ → List ℕ → List ℕ → List ℕ → List ℕ
element kind kept entries exits conditions messages assigned =
    kind ∷ full 2 kept ++ (edges entries ++ (edges exits ++ (full (branches * expression_words) conditions ++ (full (branches * message_words) messages ++ full (1 + assignments * assignment_words) assigned))))

-- an expression, a message of one item
abbrev number : ℕ → List ℕ
number n = 0 ∷ n ∷ []

abbrev field : ℕ → List ℕ
field d = a_field ∷ d ∷ []

abbrev message : ℕ → ℕ → List ℕ → List ℕ
message name n items = full message_words (name ∷ n ∷ items)

abbrev expression : ℕ → List ℕ → List ℕ → List ℕ
expression form l r = form ∷ l ++ r

abbrev pool : ℕ → ℕ → ℕ → List ℕ → List ℕ
pool number limit n els = number ∷ limit ∷ n ∷ full (elements * element_words) els

abbrev truth : List ℕ
truth = expression always (number 0) (number 0)

abbrev session : List ℕ
session =
    2 ∷ pool 1 0 3
    (element start [] (1 ∷ []) (2 ∷ []) [] [] []
    ++ (element task_snd (1 ∷ a ∷ []) (2 ∷ []) (3 ∷ []) truth (message 3 1 (expression single (field 0) (number 0))) (1 ∷ 0 ∷ expression single (number 7) (number 0))
    ++ element end [] (3 ∷ []) [] [] [] []))
    ++ pool 2 2 3
    (element start_rcv [] [] (1 ∷ []) [] (message 3 1 (expression binding (field 0) (number 0))) []
    ++ (element task (1 ∷ na_nc ∷ []) (1 ∷ []) (2 ∷ []) (expression equals (field 0) (number 7)) [] (1 ∷ 1 ∷ expression plus (field 0) (number 1))
    ++ element end [] (2 ∷ []) [] [] [] []))

pub session_text : shown_table session ≡ bytes "pool(1,start(1,2)|taskSnd(2,1,a,true,{d0:=7},3:<d0>,3)|end(3))|miPool(2,startRcv(3:<?d0>,1)|task(1,1,na_nc,d0=7,{d1:=d0+1},2)|end(2),2)\n"
unfolding lead separated joined if◌then◌or_else◌ kind_of shown shown_from shown_field shown_operand shown_pair shown_expression shown_item shown_condition shown_tuple shown_message shown_mode shown_assignment shown_assignments shown_task shown_part shown_parts shown_element shown_elements shown_limit shown_pool shown_pools shown_table
session_text = refl

-- lists of edges and of branches, a tuple of none and of two items, a difference, no assignment
abbrev forms : List (List ℕ)
forms =
    shown_element (element and_split [] (1 ∷ []) (2 ∷ 3 ∷ []) [] [] [])
    ∷ shown_element (element xor_split [] (1 ∷ []) (2 ∷ 3 ∷ []) (expression default (number 0) (number 0) ++ expression below (number 0) (field 15)) [] [])
    ∷ shown_element (element event_based [] (1 ∷ []) (2 ∷ 3 ∷ []) [] (message 0 0 [] ++ message 15 2 (expression minus (field 1) (number 4294967295) ++ expression binding (field 2) (number 0))) [])
    ∷ shown_element (element task (16 ∷ na_c ∷ []) (47 ∷ []) (48 ∷ []) truth [] [])
    ∷ []

pub forms_text : forms ≡ bytes "andSplit(1,{2,3})" ∷ bytes "xorSplit(1,{(2,default),(3,0<d15)})" ∷ bytes "eventBased(1,(0:<>,2),(15:<d1-4294967295,?d2>,3))" ∷ bytes "task(47,16,na_c,true,{},48)" ∷ []
unfolding lead separated joined if◌then◌or_else◌ kind_of shown shown_from shown_field shown_operand shown_pair shown_expression shown_item shown_condition shown_tuple shown_message shown_exits shown_guarded shown_guarded_list shown_receiving shown_receiving_list shown_mode shown_assignment shown_assignments shown_task shown_part shown_parts shown_element
forms_text = refl
