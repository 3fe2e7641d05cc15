-- THE TEXT OF A TABLE: "The writer writes no blanks, keeps the order of the table, ends with one newline." x is the words from a place on, el an element's,
-- t a table. The parts of an element are those of the table of kinds, as they are read. (RULES: writing)
use Prim.Native.Char.{code}
use Rattle.std.specs.Prelude.{ℕ, zero, suc, ◌+◌, ◌-◌, Bool, true, false, List, [], ◌∷◌, ◌++◌, eqb, ltb, drop}
use Rattle.base_words.specs.Blocks.{Block, Bytes, Table, Element}
use Rattle.base_words.specs.Each.{joined}
use Rattle.base_words.specs.Pick.{if◌then◌or_else◌}
use Rattle.base_words.specs.Text.{bytes}
use Rattle.base_words.specs.Words.{at}
use Rattle.base_words.specs.Counts.{pools, fields}
use Rattle.base_kinds.specs.declared.Kind.{Kind}
use Rattle.base_kinds.specs.Kinds.{kind_of, keyword_of}
use Rattle.base_kinds.specs.Moves.{a, na_c}
use Rattle.base_table.specs.Places.{a_field, operand_number, form_place, left_place, right_place, plus, minus, binding, always, default, equals, entries_place, exits_place, assigned_in, pool_place, limit_place}
use Rattle.base_table.specs.Table.{pool_count, element_count, element_at, kind_in, task_in, mode_in, entry_at, exit_at, condition_at, message_name, message_length, item_at, assignment_count, assignment_at}
use Rattle.write_decimals.specs.Decimals.{shown}

-- n pieces with a sign between them
unfoldable pub lead : ℕ → ℕ → Bytes
lead s k = if eqb k 0 then [] or_else s ∷ []

unfoldable pub separated : ℕ → (ℕ → List ℕ) → ℕ → Bytes
separated s f n = joined (λ k. lead s k ++ f k) n

abbrev pub commas : (ℕ → List ℕ) → ℕ → Bytes
commas f n = separated (code ",") f n

-- a text between two signs
abbrev pub enclosed_by : ℕ → ℕ → Bytes → Bytes
enclosed_by opener closer w = opener ∷ (w ++ (closer ∷ []))

-- a field of an instance or a store; an operand, an expression, an item of a template, a condition
unfoldable pub shown_field : ℕ → Bytes
shown_field d = if ltb d fields then code "d" ∷ shown d or_else code "s" ∷ shown (d - fields)

unfoldable pub shown_operand : Block → Bytes
shown_operand x = if eqb (at x 0) a_field then shown_field (at x operand_number) or_else shown (at x operand_number)

unfoldable pub shown_pair : ℕ → Block → Bytes
shown_pair s x = shown_operand (drop left_place x) ++ (s ∷ shown_operand (drop right_place x))

unfoldable pub shown_expression : Block → Bytes
shown_expression x =
    if eqb (at x form_place) plus then shown_pair (code "+") x
    or_else if eqb (at x form_place) minus then shown_pair (code "-") x
    or_else shown_operand (drop left_place x)

unfoldable pub shown_item : Block → Bytes
shown_item x = if eqb (at x form_place) binding then code "?" ∷ shown_field (at x (left_place + operand_number)) or_else shown_expression x

unfoldable pub shown_condition : Block → Bytes
shown_condition x =
    if eqb (at x form_place) always then bytes "true"
    or_else if eqb (at x form_place) default then bytes "default"
    or_else if eqb (at x form_place) equals then shown_pair (code "=") x
    or_else shown_pair (code "<") x

-- a message `m:<..>` of branch b; n edges `{e,f,..}` of a list
unfoldable pub shown_tuple : Element → ℕ → Bytes
shown_tuple el b = enclosed_by (code "<") (code ">") (commas (λ j. shown_item (item_at el b j)) (message_length el b))

unfoldable pub shown_message : Element → ℕ → Bytes
shown_message el b = shown (message_name el b) ++ (code ":" ∷ shown_tuple el b)

unfoldable pub shown_entries : Element → Bytes
shown_entries el = enclosed_by (code "{") (code "}") (commas (λ j. shown (entry_at el j)) (at el entries_place))

unfoldable pub shown_exits : Element → Bytes
shown_exits el = enclosed_by (code "{") (code "}") (commas (λ j. shown (exit_at el j)) (at el exits_place))

-- branches `(f,C)` and `(m:T,f)`
unfoldable pub shown_guarded : Element → ℕ → Bytes
shown_guarded el b = enclosed_by (code "(") (code ")") (shown (exit_at el b) ++ (code "," ∷ shown_condition (condition_at el b)))

unfoldable pub shown_guarded_list : Element → Bytes
shown_guarded_list el = enclosed_by (code "{") (code "}") (commas (shown_guarded el) (at el exits_place))

unfoldable pub shown_receiving : Element → ℕ → Bytes
shown_receiving el b = enclosed_by (code "(") (code ")") (shown_message el b ++ (code "," ∷ shown (exit_at el b)))

unfoldable pub shown_receiving_list : Element → Bytes
shown_receiving_list el = commas (shown_receiving el) (at el exits_place)

-- task number, mode, condition, assignments
unfoldable pub shown_mode : ℕ → Bytes
shown_mode m = if eqb m a then bytes "a" or_else if eqb m na_c then bytes "na_c" or_else bytes "na_nc"

unfoldable pub shown_assignment : Block → Bytes
shown_assignment x = shown_field (at x 0) ++ (code ":" ∷ code "=" ∷ shown_expression (drop assigned_in x))

unfoldable pub shown_assignments : Element → Bytes
shown_assignments el = enclosed_by (code "{") (code "}") (commas (λ j. shown_assignment (assignment_at el j)) (assignment_count el))

unfoldable pub shown_task : Element → Bytes
shown_task el = shown (task_in el) ++ (code "," ∷ (shown_mode (mode_in el) ++ (code "," ∷ (shown_condition (condition_at el 0) ++ (code "," ∷ shown_assignments el)))))

-- the part with a code of the table of kinds; all parts behind a sign, then commas; an element
unfoldable pub shown_part : ℕ → Element → Bytes
shown_part c el =
    if eqb c (code "E") then shown (entry_at el 0)
    or_else if eqb c (code "X") then shown (exit_at el 0)
    or_else if eqb c (code "F") then shown_entries el
    or_else if eqb c (code "Y") then shown_exits el
    or_else if eqb c (code "N") then shown_task el
    or_else if eqb c (code "T") then shown_message el 0
    or_else if eqb c (code "S") then shown_message el 0
    or_else if eqb c (code "G") then shown_guarded_list el
    or_else shown_receiving_list el

unfoldable pub shown_parts : ℕ → List ℕ → Element → Bytes
shown_parts s [] el = []
shown_parts s (c ∷ cs) el = if eqb c (code " ") then [] or_else s ∷ (shown_part c el ++ shown_parts (code ",") cs el)

unfoldable pub shown_element : Element → Bytes
shown_element el = keyword_of (kind_in el) ++ (shown_parts (code "(") (kind_of (kind_in el)).parts el ++ (code ")" ∷ []))

-- the pool at place p; the text: each pool that is in use, with bars between them, and a newline
unfoldable pub shown_elements : Table → ℕ → Bytes
shown_elements t p = separated (code "|") (λ e. shown_element (element_at t p e)) (element_count t p)

unfoldable pub shown_limit : ℕ → Bytes
shown_limit n = if eqb n 0 then [] or_else code "," ∷ shown n

unfoldable pub shown_pool : Table → ℕ → Bytes
shown_pool t p =
    (if eqb (at t (limit_place p)) 0 then bytes "pool" or_else bytes "miPool")
    ++ enclosed_by (code "(") (code ")") (shown (at t (pool_place p)) ++ (code "," ∷ (shown_elements t p ++ shown_limit (at t (limit_place p)))))

unfoldable pub shown_pools : Table → Bytes
shown_pools t = joined (λ p. if ltb p (pool_count t) then lead (code "|") p ++ shown_pool t p or_else []) pools

unfoldable pub shown_table : Table → Bytes
shown_table t = shown_pools t ++ (code "\n" ∷ [])
