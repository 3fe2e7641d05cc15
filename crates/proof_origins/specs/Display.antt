-- THE TEXT OF A COLLABORATION, over the paper's own syntax: document 01's notation, with no table and no words of one. "The writer writes no blanks, keeps
-- the order of the table, ends with one newline." (RULES: calls)
use Prim.Native.Char.{code}
use Prim.Native.String.{String}
use Rattle.std.specs.Prelude.{ℕ, ◌-◌, List, [], ◌∷◌, ◌++◌, ltb}
use Rattle.base_words.specs.Pick.{if◌then◌or_else◌}
use Rattle.base_words.specs.Text.{bytes}
use Rattle.write_decimals.specs.Decimals.{shown}
use Rattle.paper.specs.Syntax.{Operand, number, field, Exp, alone, sum, difference, Cond, always, default, equal, less, Item, exp, Assignments, ε, ◌:=◌, ◌&◌, Mode, a, na_c, na_nc, Choice, Receipt, Element, start, start_rcv, end, terminate, end_snd, inter_rcv, inter_snd, event_based, and_split, and_join, xor_join, xor_split, task, task_rcv, task_snd, Mark, Pool}

-- the texts of things behind a sign each, or between signs; a text between two signs
unfoldable pub behind : {A : Type 0} → ℕ → (A → List ℕ) → List A → List ℕ
behind s f [] = []
behind s f (x ∷ xs) = s ∷ (f x ++ behind s f xs)

unfoldable pub between_signs : {A : Type 0} → ℕ → (A → List ℕ) → List A → List ℕ
between_signs s f [] = []
between_signs s f (x ∷ xs) = f x ++ behind s f xs

abbrev pub enclosed : ℕ → ℕ → List ℕ → List ℕ
enclosed opener closer w = opener ∷ (w ++ (closer ∷ []))

unfoldable pub list : {A : Type 0} → (A → List ℕ) → List A → List ℕ
list f xs = between_signs (code ",") f xs

-- OPERANDS, EXPRESSIONS, ITEMS, CONDITIONS. Fields are d0 to d15 and, behind them, the stores s0 to s15
unfoldable pub field_text : ℕ → List ℕ
field_text d = if ltb d 16 then code "d" ∷ shown d or_else code "s" ∷ shown (d - 16)

unfoldable pub operand_text : Operand → List ℕ
operand_text (number v) = shown v
operand_text (field d) = field_text d

unfoldable pub two_text : ℕ → Operand → Operand → List ℕ
two_text s x y = operand_text x ++ (s ∷ operand_text y)

unfoldable pub exp_text : Exp → List ℕ
exp_text (alone x) = operand_text x
exp_text (sum x y) = two_text (code "+") x y
exp_text (difference x y) = two_text (code "-") x y

unfoldable pub item_text : Item → List ℕ
item_text (exp x) = exp_text x
item_text (Item.formal d) = code "?" ∷ field_text d

unfoldable pub cond_text : Cond → List ℕ
cond_text always = bytes "true"
cond_text default = bytes "default"
cond_text (equal x y) = two_text (code "=") x y
cond_text (less x y) = two_text (code "<") x y

-- m:T, m:X, {e,f,..}
unfoldable pub message_text : {A : Type 0} → (A → List ℕ) → ℕ → List A → List ℕ
message_text f m xs = shown m ++ (code ":" ∷ enclosed (code "<") (code ">") (list f xs))

unfoldable pub edges_text : List ℕ → List ℕ
edges_text E = enclosed (code "{") (code "}") (list shown E)

-- (f,C) and (m:T,f)
unfoldable pub choice_text : Choice → List ℕ
choice_text g = enclosed (code "(") (code ")") (shown g.exit ++ (code "," ∷ cond_text g.condition))

unfoldable pub receipt_text : Receipt → List ℕ
receipt_text r = enclosed (code "(") (code ")") (message_text item_text r.name r.template ++ (code "," ∷ shown r.exit))

-- assignments in their order; n,k,C,A
pub record Assignment : Type 0 where
  pub field : ℕ
  pub worth : Exp

unfoldable pub in_order : Assignments → List Assignment
in_order ε = []
in_order (d := x) = record { field = d; worth = x } ∷ []
in_order (A & B) = in_order A ++ in_order B

unfoldable pub assignment_text : Assignment → List ℕ
assignment_text s = field_text s.field ++ (code ":" ∷ code "=" ∷ exp_text s.worth)

unfoldable pub assignments_text : Assignments → List ℕ
assignments_text A = enclosed (code "{") (code "}") (list assignment_text (in_order A))

unfoldable pub mode_text : Mode → List ℕ
mode_text a = bytes "a"
mode_text na_c = bytes "na_c"
mode_text na_nc = bytes "na_nc"

unfoldable pub task_text : ℕ → Mode → Cond → Assignments → List ℕ
task_text n N c A = shown n ++ (code "," ∷ (mode_text N ++ (code "," ∷ (cond_text c ++ (code "," ∷ assignments_text A)))))

-- AN ELEMENT: a keyword and its parts in brackets
unfoldable pub behind_each : ℕ → List (List ℕ) → List ℕ
behind_each s [] = []
behind_each s (w ∷ ws) = s ∷ (w ++ behind_each (code ",") ws)

unfoldable pub called : String → List (List ℕ) → List ℕ
called keyword parts = bytes keyword ++ (behind_each (code "(") parts ++ (code ")" ∷ []))

unfoldable pub element_text : Element → List ℕ
element_text (start e e') = called "start" (shown e ∷ shown e' ∷ [])
element_text (start_rcv m ts e) = called "startRcv" (message_text item_text m ts ∷ shown e ∷ [])
element_text (end e) = called "end" (shown e ∷ [])
element_text (terminate e) = called "terminate" (shown e ∷ [])
element_text (end_snd e m xs) = called "endSnd" (shown e ∷ message_text exp_text m xs ∷ [])
element_text (inter_rcv e m ts e') = called "interRcv" (shown e ∷ message_text item_text m ts ∷ shown e' ∷ [])
element_text (inter_snd e m xs e') = called "interSnd" (shown e ∷ message_text exp_text m xs ∷ shown e' ∷ [])
element_text (event_based e branches) = called "eventBased" (shown e ∷ list receipt_text branches ∷ [])
element_text (and_split e E) = called "andSplit" (shown e ∷ edges_text E ∷ [])
element_text (and_join E e) = called "andJoin" (edges_text E ∷ shown e ∷ [])
element_text (xor_join E e) = called "xorJoin" (edges_text E ∷ shown e ∷ [])
element_text (xor_split e G) = called "xorSplit" (shown e ∷ enclosed (code "{") (code "}") (list choice_text G) ∷ [])
element_text (task e n N c A e') = called "task" (shown e ∷ task_text n N c A ∷ shown e' ∷ [])
element_text (task_rcv e n N c A m ts e') = called "taskRcv" (shown e ∷ task_text n N c A ∷ message_text item_text m ts ∷ shown e' ∷ [])
element_text (task_snd e n N c A m xs e') = called "taskSnd" (shown e ∷ task_text n N c A ∷ message_text exp_text m xs ∷ shown e' ∷ [])

-- A POOL: pool(p,P) or miPool(p,P,n)
unfoldable pub mark_text : Mark → List ℕ
mark_text Mark.pool = bytes "pool"
mark_text Mark.mi_pool = bytes "miPool"

unfoldable pub limit_text : Mark → ℕ → List ℕ
limit_text Mark.pool n = []
limit_text Mark.mi_pool n = code "," ∷ shown n

unfoldable pub pool_text : Pool → List ℕ
pool_text P =
    mark_text P.mark
    ++ enclosed (code "(") (code ")") (shown P.name ++ (code "," ∷ (between_signs (code "|") element_text P.process ++ limit_text P.mark P.limit)))

-- A COLLABORATION: its pools with bars between them, and a newline
unfoldable pub display : List Pool → List ℕ
display C = between_signs (code "|") pool_text C ++ (code "\n" ∷ [])
