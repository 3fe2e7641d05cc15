-- Every list and part of an element's text, and an element, by a grammar. Assumes nothing.
use Prim.Native.Char.{code}
use Prim.Native.Nat.{ℕ, suc, ◌+◌, ◌-◌, ◌≤◌}
use mathlib.Core.Path.{◌≡◌, ◌∙◌, refl, sym, ap, subst}
use mathlib.Core.Bool.{Bool, true, false, ◌||◌, false≢true}
use mathlib.Core.List.{List}
use native.Mathlib.Omega.{arith}
use lib.Dec.{eqb}
use borrow.Author.Tests.{eq-eqb, eqb-true}
use Rattle.std.proofs.lemmas.Bool.{or_left, or_right}
use Rattle.base_words.specs.Pick.{if◌then◌or_else◌}
use Rattle.base_words.specs.Text.{bytes}
use Rattle.base_words.specs.Counts.{edges, tasks, names, fewest}
use Rattle.base_table.specs.Places.{entries_place, exits_place}
use Rattle.text_lexer.specs.declared.Form.{Form}
use Rattle.text_lexer.specs.declared.Form.TheVariants.{Word, Sign, Assign, End, Other}
use Rattle.text_lexer.specs.Lexer.{is_sign, if_word, if_sign}
use Rattle.base_bytes.specs.Bytes.{among, between, is_digit}
use Rattle.text_numerals.specs.Numerals.{value_from, leading_zero, number_of, field_behind, field_from, field_of}
use Rattle.text_readers.specs.Reading.{Reader, ◌then◌, sign, is_spelled, starts_number, starts_field, starts_sign}
use Rattle.text_parts.specs.declared.Series.{Series}
use Rattle.text_parts.specs.Parts.{an_edge, a_template_item, a_message_item, an_assignment, edge_list, guarded_list, assignment_list, tuple, item_of, starts, items, inside, series, message, receiving, receiving_branches, one_edge, task_part, part_of, items_from}
use Rattle.proof_places.proofs.Tests.{either}
use Rattle.proof_places.proofs.Pieces.{lexeme, met, signed, colon}
use Rattle.proof_places.proofs.Grammar.{of_number, of_field, of_sign, numeral, sample}
use Rattle.proof_places.proofs.Runs.{any, Reads, once_reads, led_reads, led_calm, signal_once, signal_led, once_then, then_calm, then_led, signal_then}
use Rattle.proof_places.proofs.Leaves.{showing, sign_signal, number_once, mode_once}
use Rattle.proof_places.proofs.Choices.{Starting, items_reads}
use Rattle.proof_places.proofs.ContinuedReaders.{signal, comma, store_reads, look_at, expression_reads, template_reads, condition_reads, assignment_reads, guarded_reads}

-- WHAT STARTS AN ITEM
number_starting : Starting starts_number
unfolding starts_number
number_starting = record {
  test = of_number;
  same = λ t from. refl;
  such = sample true;
  passing = unfold if_word is_spelled number_of leading_zero value_from is_digit between if◌then◌or_else◌ in refl;
  item = λ k e. or_left _ _ (or_left _ _ e);
}

field_starting : Starting starts_field
unfolding starts_field
field_starting = record {
  test = of_field;
  same = λ t from. refl;
  such = sample false;
  passing = unfold if_word is_spelled field_of field_from field_behind number_of leading_zero value_from is_digit between if◌then◌or_else◌ in refl;
  item = λ k e. or_left _ _ (or_right (of_number k) _ e);
}

binding_starting : Starting (starts_sign (code "?"))
unfolding starts_sign if_sign is_sign among
binding_starting = record {
  test = of_sign (code "?");
  same = λ t from. refl;
  such = signed (code "?") refl;
  passing = refl;
  item = λ k e. or_right (numeral k) _ (or_left _ _ e);
}

branch_starting : Starting (starts_sign (code "("))
unfolding starts_sign if_sign is_sign among
branch_starting = record {
  test = of_sign (code "(");
  same = λ t from. refl;
  such = signed (code "(") refl;
  passing = refl;
  item = λ k e. or_right (numeral k) _ (or_right (of_sign (code "?") k) _ (or_left _ _ e));
}

or_starting : {f g : List ℕ → ℕ → Bool} → Starting f → Starting g → Starting (λ t from. f t from || g t from)
or_starting {f} {g} a b = record {
  test = λ k. a.test k || b.test k;
  same = λ t from. ap (λ (c : Bool). c || g t from) (a.same t from) ∙ ap (λ (c : Bool). a.test (lexeme t from) || c) (b.same t from);
  such = a.such;
  passing = or_left (a.test (met a.such)) (b.test (met a.such)) a.passing;
  item = λ k e. either (a.test k) (b.test k) e (a.item k) (b.item k);
}

if_starting : (c : Bool) {f g : List ℕ → ℕ → Bool} → Starting f → Starting g → Starting (λ t from. if c then f t from or_else g t from)
unfolding if◌then◌or_else◌
if_starting true a b = a
if_starting false a b = b

starts_starting : (item : ℕ) → Starting (starts item)
unfolding starts
starts_starting item =
    if_starting (eqb item an_edge) number_starting
    (if_starting (eqb item a_template_item) (or_starting binding_starting (or_starting field_starting number_starting))
    (if_starting (eqb item a_message_item) (or_starting field_starting number_starting)
    (if_starting (eqb item an_assignment) field_starting branch_starting)))

-- LISTS
if_reads : {P : Form → Bool} (c : Bool) {f g : Reader} → Reads P f → Reads P g → Reads P (if c then f or_else g)
unfolding if◌then◌or_else◌
if_reads true a b = a
if_reads false a b = b

if_each : {P : Form → Bool} (c : Bool) {f g : Reader} → Reads P f → Reads P g → Reads P (λ t from x. if c then f t from x or_else g t from x)
unfolding if◌then◌or_else◌
if_each true a b = a
if_each false a b = b

item_reads : (s : Series) (k : ℕ) → Reads any (item_of s k)
unfolding item_of
item_reads s k =
    if_reads (eqb s.item an_edge) (once_reads (number_once 1 edges _ refl))
    (if_reads (eqb s.item a_template_item) (template_reads _)
    (if_reads (eqb s.item a_message_item) (expression_reads _)
    (if_reads (eqb s.item an_assignment) (assignment_reads k) (guarded_reads k))))

comma_apart : (c : ℕ) → eqb c (code ",") ≡ false → (m : Form) → showing c m ≡ true → showing (code ",") m ≡ false
comma_apart c h Word e = refl
comma_apart c h (Sign b) e = ap (λ (k : ℕ). eqb k (code ",")) (eqb-true b c e) ∙ h
comma_apart c h Assign e = refl
comma_apart c h End e = refl
comma_apart c h Other e = refl

-- a list behind which its closing sign follows
comma-items : (c : ℕ) → eqb c (code ",") ≡ false → (item : ℕ → Reader) (starting : List ℕ → ℕ → Bool) (least total n : ℕ) → ((k : ℕ) → Reads any (item k)) → Starting starting → least ≤ 0 + suc n → Reads (showing c) (items_from item starting least total (suc n) 0)
unfolding is_sign among
comma-items c h item starting least total n each_item st l =
    items_reads (showing c) item starting least total each_item st (signed (code ",") refl) refl (comma_apart c h) n 0 l

module _ (s : Series) (n : ℕ) (most : s.most ≡ suc n) (least : s.least ≤ 0 + suc n) (opens : is_sign s.opener ≡ true) (closes : is_sign s.closer ≡ true) (apart : eqb s.closer (code ",") ≡ false) where
  some_items : Reads (showing s.closer) (items s)
  unfolding items
  some_items =
      subst (λ (m : ℕ). Reads (showing s.closer) (items_from (item_of s) (starts s.item) s.least s.count m 0)) (sym most)
      (comma-items s.closer apart (item_of s) (starts s.item) s.least s.count n (item_reads s) (starts_starting s.item) least)

  closed_items : Reads any (items s then sign s.closer)
  closed_items = then_led some_items (signal_led (signal s.closer closes)) (eq-eqb s.closer s.closer refl)

  inside_reads : Reads any (inside s)
  unfolding inside
  inside_reads = if_each (eqb s.least 0) (look_at s.closer closes (store_reads _ _) closed_items) closed_items

  series_reads : Reads any (series s)
  unfolding series
  series_reads = led_reads (signal_then (signal s.opener opens) inside_reads)

tuple_reads : (item b : ℕ) → Reads any (series (tuple item b))
unfolding is_sign among
tuple_reads item b = series_reads (tuple item b) 3 refl (omega arith) refl refl refl

edges_reads : (list : ℕ) → Reads any (series (edge_list list))
unfolding is_sign among
edges_reads list = series_reads (edge_list list) 7 refl (omega arith) refl refl refl

guards_reads : Reads any (series guarded_list)
unfolding is_sign among
guards_reads = series_reads guarded_list 7 refl (omega arith) refl refl refl

assignments_reads : Reads any (series assignment_list)
unfolding is_sign among
assignments_reads = series_reads assignment_list 3 refl (omega arith) refl refl refl

-- PARTS
message_reads : (item b : ℕ) → Reads any (message item b)
unfolding message
message_reads item b = once_then (number_once 0 (names - 1) _ refl) (once_then (signal_once (sign_signal (code ":") colon refl)) (tuple_reads item b))

receiving_reads : (b : ℕ) → Reads any (receiving b)
unfolding receiving is_sign among
receiving_reads b =
    led_reads (signal_then (signal (code "(") refl)
    (then_calm (message_reads a_template_item b) (led_calm (signal_then comma (once_then (number_once 1 edges _ refl) (once_reads (signal_once (signal (code ")") refl))))))))

branches_reads : Reads (showing (code ")")) receiving_branches
unfolding receiving_branches
branches_reads = comma-items (code ")") refl receiving (starts_sign (code "(")) fewest exits_place 7 receiving_reads branch_starting (omega arith)

one_reads : (list : ℕ) → Reads any (one_edge list)
unfolding one_edge
one_reads list = once_then (number_once 1 edges _ refl) (store_reads _ _)

task_reads : Reads any task_part
unfolding task_part
task_reads =
    once_then (number_once 1 tasks _ refl) (once_then (signal_once comma)
    (once_then mode_once (once_then (signal_once comma)
    (then_calm (condition_reads false _) (led_calm (signal_then comma assignments_reads))))))

-- the part with a letter, by the letters that there are
pick_reads : {P : Form → Bool} (c d : Bool) {f g : Reader} → c || d ≡ true → Reads P f → (d ≡ true → Reads P g) → Reads P (if c then f or_else g)
unfolding if◌then◌or_else◌
pick_reads true d e a b = a
pick_reads false d e a b = b e

pub part_reads : (c : ℕ) → among (bytes "EXFYNTSG") c ≡ true → Reads any (part_of c)
unfolding part_of among
part_reads c h =
    pick_reads (eqb c (code "E")) _ h (one_reads entries_place) λ h.
    pick_reads (eqb c (code "X")) _ h (one_reads exits_place) λ h.
    pick_reads (eqb c (code "F")) _ h (edges_reads entries_place) λ h.
    pick_reads (eqb c (code "Y")) _ h (edges_reads exits_place) λ h.
    pick_reads (eqb c (code "N")) _ h task_reads λ h.
    pick_reads (eqb c (code "T")) _ h (message_reads a_template_item 0) λ h.
    pick_reads (eqb c (code "S")) _ h (message_reads a_message_item 0) λ h.
    pick_reads (eqb c (code "G")) false h guards_reads λ h. absurd (false≢true h)

pub last_reads : Reads (showing (code ")")) (part_of (code "B"))
unfolding part_of if◌then◌or_else◌
last_reads = branches_reads
