-- Every reader of an element's text follows a course, by what it is made of. Assumes nothing.
use Prim.Native.Char.{code}
use Prim.Native.Nat.{ℕ, zero, suc, ◌+◌}
use mathlib.Core.Bool.{Bool, true, false, not, ◌&&◌, ◌||◌}
use mathlib.Core.List.{List, [], ◌∷◌}
use lib.Dec.{eqb, ltb}
use lib.ListN.{set}
use Rattle.base_words.specs.Pick.{if◌then◌or_else◌}
use Rattle.base_words.specs.Text.{bytes}
use Rattle.base_words.specs.Counts.{edges}
use Rattle.base_kinds.specs.Kinds.{kind_of}
use Rattle.base_table.specs.Places.{form_place, left_place, always, default, entries_place, exits_place}
use Rattle.text_lexer.specs.Lexer.{if_word, if_sign}
use Rattle.text_numerals.specs.Numerals.{number_of, field_of}
use Rattle.base_bytes.specs.Bytes.{same_bytes}
use Rattle.text_readers.specs.Reading.{Reader, misplaced, refused_at, if_at, onward, ◌then◌, nothing, place_of, sign_at, sign, operand, is_spelled, starts_number, starts_field, starts_sign}
use Rattle.text_terms.specs.Terms.{store, joint, expression, bind, template_item, comparison, condition, assignment, guarded}
use Rattle.text_parts.specs.declared.Series.{Series}
use Rattle.text_parts.specs.Parts.{an_edge, a_template_item, a_message_item, an_assignment, edge_list, guarded_list, assignment_list, tuple, item_of, starts, too_many, counted, items_from, items, inside, series, message, receiving, receiving_branches, one_edge, task_part, part_of}
use Rattle.text_elements.specs.Elements.{kind_named, blank, parts_from, parts_of, element_of, element, starts_element}
use Rattle.proof_places.proofs.Course.{Reads, skip, ◌next◌, sign_else, token_reads, if_reads, if_each, word_reads, sign_reads, assign_reads, number_reads, field_reads, operand_reads, mode_reads, refused_reads, still_reads, skip_reads, Told, told, many_follows}

-- TERMS
store_reads : (place v : ℕ) → Reads (store place v)
store_reads place v = still_reads (λ x. set x place v)

nothing_reads : Reads nothing
nothing_reads = still_reads (λ x. x)

-- a word stored, and an operand behind it
stored_operand : (place v right : ℕ) → Reads (store place v then operand right)
stored_operand place v right = store_reads place v next operand_reads right

pub joint_reads : (place : ℕ) → Reads (joint place)
unfolding joint
joint_reads place =
    sign_else (code "+") (stored_operand _ _ _)
    (sign_else (code "-") (stored_operand _ _ _) (store_reads _ _))

pub expression_reads : (place : ℕ) → Reads (expression place)
unfolding expression
expression_reads place = operand_reads _ next joint_reads place

pub bind_reads : (place : ℕ) → Reads (bind place)
unfolding bind
bind_reads place = store_reads _ _ next store_reads _ _ next field_reads _

pub template_reads : (place : ℕ) → Reads (template_item place)
unfolding template_item
template_reads place = sign_else (code "?") (bind_reads place) (expression_reads place)

pub comparison_reads : (place : ℕ) → Reads (comparison place)
unfolding comparison
comparison_reads place = sign_else (code "=") (stored_operand _ _ _) (sign_reads (code "<") next stored_operand _ _ _)

pub condition_reads : (defaults : Bool) (place : ℕ) → Reads (condition defaults place)
unfolding condition
condition_reads defaults place =
    token_reads
    (λ m w t at x.
    if_word m
    (if same_bytes w (bytes "true") then skip (λ x. set x (place + form_place) always) t at x
    or_else if defaults && same_bytes w (bytes "default") then skip (λ x. set x (place + form_place) default) t at x
    or_else (operand (place + left_place) then comparison place) t at x)
    (refused_at misplaced (place_of t at) x))
    (λ m w.
    word_reads m
    (if_each (same_bytes w (bytes "true")) (skip_reads (λ x. set x (place + form_place) always))
    (if_each (defaults && same_bytes w (bytes "default")) (skip_reads (λ x. set x (place + form_place) default))
    (operand_reads (place + left_place) next comparison_reads place)))
    (refused_reads (λ x. x)))

pub assignment_reads : (j : ℕ) → Reads (assignment j)
unfolding assignment
assignment_reads j = field_reads _ next assign_reads next expression_reads _

pub guarded_reads : (b : ℕ) → Reads (guarded b)
unfolding guarded
guarded_reads b = sign_reads _ next number_reads _ _ _ next sign_reads _ next condition_reads true _ next sign_reads _

-- WHAT CAN START AN ITEM
number_told : Told starts_number
unfolding starts_number
number_told = told (λ m w. if_word m (is_spelled (number_of w)) false)

field_told : Told starts_field
unfolding starts_field
field_told = told (λ m w. if_word m (is_spelled (field_of w)) false)

sign-told : (s : ℕ) → Told (starts_sign s)
unfolding starts_sign
sign-told s = told (λ m w. if_sign m (λ b. eqb b s) false)

pub element-told : Told starts_element
unfolding starts_element
element-told = told (λ m w. if_word m (not (eqb (kind_named w) 0)) false)

or_told : {f g : List ℕ → ℕ → Bool} → Told f → Told g → Told (λ t at. f t at || g t at)
or_told a b = record { test = λ m w. a.test m w || b.test m w; is = λ t at i. a.is t at i || b.is t at i }

if_told : (c : Bool) {f g : List ℕ → ℕ → Bool} → Told f → Told g → Told (λ t at. if c then f t at or_else g t at)
unfolding if◌then◌or_else◌
if_told true a b = a
if_told false a b = b

starts-told : (item : ℕ) → Told (starts item)
unfolding starts
starts-told item =
    if_told (eqb item an_edge) number_told
    (if_told (eqb item a_template_item) (or_told (sign-told (code "?")) (or_told field_told number_told))
    (if_told (eqb item a_message_item) (or_told field_told number_told)
    (if_told (eqb item an_assignment) field_told (sign-told (code "(")))))

-- LISTS
counted_reads : (least count k : ℕ) → Reads (counted least count k)
unfolding counted
counted_reads least count k = if_each (ltb k least) (refused_reads (λ x. x)) (still_reads (λ x. set x count k))

many_reads : {starting : List ℕ → ℕ → Bool} → Told starting → Reads (λ t at x. too_many (starting t at) (place_of t at) x)
unfolding too_many
many_reads o = record { from = λ x. many_follows x o }

pub items_reads : {item : ℕ → Reader} {starting : List ℕ → ℕ → Bool} → ((k : ℕ) → Reads (item k)) → Told starting → (least count n k : ℕ) → Reads (items_from item starting least count n k)
unfolding items_from ◌then◌
items_reads {item} {starting} li ls least count zero k = many_reads ls
items_reads {item} {starting} li ls least count (suc n) k =
    ◌next◌ {f = item k} {g = λ t q y. if_at (sign_at (code ",") t q) (λ a. items_from item starting least count n (k + 1) t a y) (counted least count (k + 1) t q y)} (li k)
    (sign_else (code ",") (items_reads li ls least count n (k + 1)) (counted_reads least count (k + 1)))

item_reads : (s : Series) (k : ℕ) → Reads (item_of s k)
unfolding item_of
item_reads s k =
    if_reads (eqb s.item an_edge) (number_reads 1 edges _)
    (if_reads (eqb s.item a_template_item) (template_reads _)
    (if_reads (eqb s.item a_message_item) (expression_reads _)
    (if_reads (eqb s.item an_assignment) (assignment_reads k) (guarded_reads k))))

closed_items : (s : Series) → Reads (items s then sign s.closer)
unfolding items
closed_items s = items_reads (item_reads s) (starts-told s.item) _ _ _ _ next sign_reads s.closer

inside_reads : (s : Series) → Reads (inside s)
unfolding inside
inside_reads s = if_each (eqb s.least 0) (sign_else s.closer (store_reads _ _) (closed_items s)) (closed_items s)

pub series_reads : (s : Series) → Reads (series s)
unfolding series
series_reads s = sign_reads s.opener next inside_reads s

-- PARTS
pub message_reads : (item b : ℕ) → Reads (message item b)
unfolding message
message_reads item b = number_reads _ _ _ next sign_reads _ next series_reads (tuple item b)

receiving_reads : (b : ℕ) → Reads (receiving b)
unfolding receiving
receiving_reads b = sign_reads _ next message_reads a_template_item b next sign_reads _ next number_reads _ _ _ next sign_reads _

branches_reads : Reads receiving_branches
unfolding receiving_branches
branches_reads = items_reads receiving_reads (sign-told (code "(")) _ _ _ _

one_reads : (list : ℕ) → Reads (one_edge list)
unfolding one_edge
one_reads list = number_reads _ _ _ next store_reads _ _

task_reads : Reads task_part
unfolding task_part
task_reads =
    number_reads _ _ _ next sign_reads _
    next mode_reads next sign_reads _
    next condition_reads false _ next sign_reads _
    next series_reads assignment_list

pub part_reads : (c : ℕ) → Reads (part_of c)
unfolding part_of
part_reads c =
    if_reads (eqb c (code "E")) (one_reads entries_place)
    (if_reads (eqb c (code "X")) (one_reads exits_place)
    (if_reads (eqb c (code "F")) (series_reads (edge_list entries_place))
    (if_reads (eqb c (code "Y")) (series_reads (edge_list exits_place))
    (if_reads (eqb c (code "N")) task_reads
    (if_reads (eqb c (code "T")) (message_reads a_template_item 0)
    (if_reads (eqb c (code "S")) (message_reads a_message_item 0)
    (if_reads (eqb c (code "G")) (series_reads guarded_list)
    (if_reads (eqb c (code "B")) branches_reads nothing_reads))))))))

-- AN ELEMENT
parts_from_lem : (s : ℕ) (cs : List ℕ) → Reads (parts_from s cs)
unfolding parts_from
parts_from_lem s [] = nothing_reads
parts_from_lem s (c ∷ cs) = if_reads (eqb c (code " ")) nothing_reads (sign_reads s next part_reads c next parts_from_lem (code ",") cs)

parts_reads : (k : ℕ) → Reads (parts_of k)
unfolding parts_of
parts_reads k = parts_from_lem (code "(") (kind_of k).parts next sign_reads (code ")")

pub element_reads : Reads element
unfolding element element_of ◌then◌ onward if_at
element_reads =
    token_reads
    (λ m w t at x.
    if_word m
    (if eqb (kind_named w) 0 then refused_at misplaced (place_of t at) (blank 0 x) or_else (skip (blank (kind_named w)) then parts_of (kind_named w)) t at x)
    (refused_at misplaced (place_of t at) (blank 0 x)))
    (λ m w.
    word_reads m
    (if_each (eqb (kind_named w) 0) (refused_reads (blank 0)) (skip_reads (blank (kind_named w)) next parts_reads (kind_named w)))
    (refused_reads (blank 0)))
