-- AN ELEMENT: the text that its row of the table of kinds gives its words is the text of the paper's element that they stand for. One law for each code of a
-- part, one test over the rows, and the rows beside the paper's elements. Assumes nothing.
use Prim.Native.Char.{code}
use Prim.Native.Nat.{ℕ, zero, suc, ◌+◌, ◌<◌}
use mathlib.Core.Path.{◌≡◌, refl, sym, ◌∙◌, ap, ap₂, subst}
use mathlib.Core.Bool.{Bool, true, false, not, ◌&&◌, false≢true}
use mathlib.Core.List.{List, [], ◌∷◌, ◌++◌}
use native.Mathlib.Omega.{arith}
use lib.Dec.{eqb}
use lib.ListN.{drop, get_or, take}
use borrow.Author.Tests.{eqb-true, eq-eqb}
use Rattle.std.proofs.lemmas.Bool.{not-true}
use Rattle.base_words.specs.Each.{each}
use Rattle.base_words.specs.Pick.{if◌then◌or_else◌}
use Rattle.base_words.specs.Words.{at}
use Rattle.base_words.proofs.AllLaws.{and_left, and_right}
use Rattle.base_words.proofs.ListLaws.{each_at}
use Rattle.base_kinds.specs.declared.Kind.{Kind}
use Rattle.base_kinds.specs.Kinds.{none, one, many, kinds, no_kind, kind_of, keyword_of, used}
use Rattle.base_table.specs.Places.{entries_place, exits_place, assigned_in}
use Rattle.base_table.specs.Table.{kind_in, task_in, mode_in, entry_count, exit_count, entry_at, exit_at, condition_at, message_name, message_length, item_at, assignment_count, assignment_at}
use Rattle.check_limits.specs.Limits.{parts_fit, element_fits}
use Rattle.write_decimals.specs.Decimals.{shown}
use Rattle.write_shown.specs.Shown.{enclosed_by, shown_field, shown_item, shown_tuple, shown_message, shown_entries, shown_exits, shown_guarded, shown_guarded_list, shown_receiving, shown_receiving_list, shown_assignment, shown_assignments, shown_task, shown_part, shown_parts, shown_element}
use Rattle.proof_steps.proofs.Choices.{chosen, passed}
use Rattle.paper.specs.Syntax.{Element, end}
use Rattle.proof_paper.specs.Decoders.{span, chain, exp_at, item_of, template_of, message_of, assignment_of, assignments_of, mode_at, guard_of, entries_of, exits_of, choice_of, receipt_of, of_each_kind, element_of}
use Rattle.proof_paper.proofs.Words.{mode_few, mode_some, assignment_fits_lem, condition_fits_lem, item_expression, item_plain}
use Rattle.proof_origins.specs.Display.{between_signs, enclosed, list, field_text, exp_text, item_text, cond_text, message_text, edges_text, choice_text, receipt_text, Assignment, in_order, assignment_text, assignments_text, mode_text, task_text, behind_each, called, element_text}
use Rattle.proof_origins.proofs.Lists.{separated_is}
use Rattle.proof_origins.proofs.Pieces.{expression_text, item_text_lem, sent_text, condition_text, mode_text_lem}

-- WHAT A PART of an element is written as, by its code
unfoldable pub part_text : ℕ → List ℕ → List ℕ
part_text c el =
    if eqb c (code "E") then shown (entry_at el 0)
    or_else if eqb c (code "X") then shown (exit_at el 0)
    or_else if eqb c (code "F") then edges_text (entries_of el)
    or_else if eqb c (code "Y") then edges_text (exits_of el)
    or_else if eqb c (code "N") then task_text (task_in el) (mode_at el) (guard_of el) (assignments_of el)
    or_else if eqb c (code "T") then message_text item_text (message_name el 0) (template_of el 0)
    or_else if eqb c (code "S") then message_text exp_text (message_name el 0) (message_of el 0)
    or_else if eqb c (code "G") then enclosed (code "{") (code "}") (list choice_text (span (choice_of el) 0 (exit_count el)))
    or_else list receipt_text (span (receipt_of el) 0 (exit_count el))

unfoldable pub parts_text : ℕ → List ℕ → List ℕ → List ℕ
parts_text s [] el = []
parts_text s (c ∷ cs) el = if eqb c (code " ") then [] or_else s ∷ (part_text c el ++ parts_text (code ",") cs el)

unfoldable pub row_text : Kind → List ℕ → List ℕ
row_text k el = take k.letters k.keyword ++ (parts_text (code "(") k.parts el ++ (code ")" ∷ []))

-- WHAT A ROW has to say for a part with a code; of all its parts
unfoldable suits : Kind → ℕ → Bool
suits k c =
    if eqb c (code "E") then true
    or_else if eqb c (code "X") then true
    or_else if eqb c (code "F") then eqb k.entries many
    or_else if eqb c (code "Y") then eqb k.exits many
    or_else if eqb c (code "N") then eqb k.task one && eqb k.conditions one
    or_else if eqb c (code "T") then eqb (k.receives + k.sends) one
    or_else if eqb c (code "S") then eqb (k.receives + k.sends) one && eqb k.receives none
    or_else if eqb c (code "G") then eqb k.exits many && eqb k.conditions many
    or_else eqb k.exits many && eqb (k.receives + k.sends) many

unfoldable all_suit : Kind → List ℕ → Bool
all_suit k [] = true
all_suit k (c ∷ cs) = if eqb c (code " ") then true or_else suits k c && all_suit k cs

rows_suit : (k : ℕ) → all_suit (kind_of k) (kind_of k).parts ≡ true
unfolding kind_of all_suit suits each if◌then◌or_else◌
rows_suit k = each_at (λ (r : Kind). all_suit r r.parts) kinds no_kind refl refl k

-- two chains with the tests of a third
choices : {A : Type 0} (b u w : Bool) (x x' y y' : A) → (u ≡ true → x ≡ x') → (w ≡ true → y ≡ y') → (if b then u or_else w) ≡ true → (if b then x or_else y) ≡ (if b then x' or_else y')
unfolding if◌then◌or_else◌
choices true u w x x' y y' f g h = f h
choices false u w x x' y y' f g h = g h

module _ (el : List ℕ) where
  -- A MESSAGE
  message_text_lem : {A : Type 0} (b : ℕ) (f : A → List ℕ) (h : ℕ → A) → ((j : ℕ) → j < message_length el b → shown_item (item_at el b j) ≡ f (h j)) → shown_message el b ≡ message_text f (message_name el b) (span h 0 (message_length el b))
  unfolding shown_message shown_tuple message_text list
  message_text_lem b f h e =
      ap (λ w. shown (message_name el b) ++ (code ":" ∷ enclosed_by (code "<") (code ">") w)) (separated_is (code ",") (λ j. shown_item (item_at el b j)) h f (message_length el b) e)

  -- ASSIGNMENTS
  abbrev assigned : ℕ → Assignment
  assigned j = record { field = at (assignment_at el j) 0; worth = exp_at (drop assigned_in (assignment_at el j)) }

  in_order_lem : (k n : ℕ) → in_order (chain (assignment_of el) k n) ≡ span assigned k n
  unfolding in_order chain span assignment_of
  in_order_lem k zero = refl
  in_order_lem k (suc n) = ap (λ (l : List Assignment). assigned k ∷ l) (in_order_lem (suc k) n)

module _ (el : List ℕ) (fits : element_fits el ≡ true) where
  abbrev kind : Kind
  kind = kind_of (kind_in el)

  abbrev exits : ℕ
  exits = at el exits_place

  -- how many there are of what is one, and of what is many
  one_there : (n : ℕ) → n ≡ one → 0 < used n exits
  unfolding used
  one_there n e = let z : used n exits ≡ one = ap (λ k. used k exits) e ∙ passed (eqb one many) exits one refl in omega (arith, z)

  many_are : (n m : ℕ) → n ≡ many → used n m ≡ m
  unfolding used
  many_are n m e = chosen (eqb n many) m n (eq-eqb n many e)

  -- received, sent
  received_text : (b : ℕ) → b < used (kind.receives + kind.sends) exits → shown_message el b ≡ message_text item_text (message_name el b) (template_of el b)
  unfolding template_of
  received_text b l = message_text_lem el b item_text (λ j. item_of (item_at el b j)) (λ j r. item_text_lem (item_at el b j) (item_expression el fits b l j r))

  given_text : (b : ℕ) → b < used (kind.receives + kind.sends) exits → kind.receives ≡ none → shown_message el b ≡ message_text exp_text (message_name el b) (message_of el b)
  unfolding message_of
  given_text b l z = message_text_lem el b exp_text (λ j. exp_at (item_at el b j)) (λ j r. let e = item_plain el fits b l z j r in sent_text (item_at el b j) e (item_expression el fits b l j r e))

  -- lists of edges
  entries_text : kind.entries ≡ many → shown_entries el ≡ edges_text (entries_of el)
  unfolding shown_entries edges_text entries_of list entry_count
  entries_text e =
      ap (enclosed_by (code "{") (code "}"))
      (separated_is (code ",") (λ j. shown (entry_at el j)) (entry_at el) shown (at el entries_place) (λ j l. refl) ∙ ap (λ n. between_signs (code ",") shown (span (entry_at el) 0 n)) (sym (many_are kind.entries (at el entries_place) e)))

  exit_count_lem : kind.exits ≡ many → exits ≡ exit_count el
  unfolding exit_count
  exit_count_lem e = sym (many_are kind.exits exits e)

  exits_text : kind.exits ≡ many → shown_exits el ≡ edges_text (exits_of el)
  unfolding shown_exits edges_text exits_of list
  exits_text e =
      ap (enclosed_by (code "{") (code "}"))
      (separated_is (code ",") (λ j. shown (exit_at el j)) (exit_at el) shown exits (λ j l. refl) ∙ ap (λ n. between_signs (code ",") shown (span (exit_at el) 0 n)) (exit_count_lem e))

  -- branches
  guarded_text : kind.exits ≡ many → kind.conditions ≡ many → shown_guarded_list el ≡ enclosed (code "{") (code "}") (list choice_text (span (choice_of el) 0 (exit_count el)))
  unfolding shown_guarded_list shown_guarded list choice_text choice_of
  guarded_text e c =
      ap (enclosed_by (code "{") (code "}"))
      (separated_is (code ",") (shown_guarded el) (choice_of el) choice_text exits
      (λ b l. ap (λ w. enclosed_by (code "(") (code ")") (shown (exit_at el b) ++ (code "," ∷ w))) (condition_text (condition_at el b) kind.conditions (condition_fits_lem el fits b (subst (λ n. b < n) (sym (many_are kind.conditions exits c)) l))))
      ∙ ap (λ n. between_signs (code ",") choice_text (span (choice_of el) 0 n)) (exit_count_lem e))

  receiving_text : kind.exits ≡ many → kind.receives + kind.sends ≡ many → shown_receiving_list el ≡ list receipt_text (span (receipt_of el) 0 (exit_count el))
  unfolding shown_receiving_list shown_receiving list receipt_text receipt_of
  receiving_text e c =
      separated_is (code ",") (shown_receiving el) (receipt_of el) receipt_text exits
      (λ b l. ap (λ w. enclosed_by (code "(") (code ")") (w ++ (code "," ∷ shown (exit_at el b)))) (received_text b (subst (λ n. b < n) (sym (many_are (kind.receives + kind.sends) exits c)) l)))
      ∙ ap (λ n. between_signs (code ",") receipt_text (span (receipt_of el) 0 n)) (exit_count_lem e)

  -- a task
  assignments_text_lem : shown_assignments el ≡ assignments_text (assignments_of el)
  unfolding shown_assignments shown_assignment shown_field assignments_text assignment_text field_text assignments_of list
  assignments_text_lem =
      ap (enclosed_by (code "{") (code "}"))
      (separated_is (code ",") (λ j. shown_assignment (assignment_at el j)) (assigned el) assignment_text (assignment_count el)
      (λ j l. ap (λ w. field_text (at (assignment_at el j) 0) ++ (code ":" ∷ code "=" ∷ w)) (expression_text (drop assigned_in (assignment_at el j)) (assignment_fits_lem el fits j l)))
      ∙ ap (between_signs (code ",") assignment_text) (sym (in_order_lem el 0 (assignment_count el))))

  task_text_lem : kind.task ≡ one → kind.conditions ≡ one → shown_task el ≡ task_text (task_in el) (mode_at el) (guard_of el) (assignments_of el)
  unfolding shown_task task_text mode_at guard_of
  task_text_lem e c =
      let m = mode_text_lem (mode_in el) (mode_few el fits) (mode_some el fits e) in
      let g = condition_text (condition_at el 0) kind.conditions (condition_fits_lem el fits 0 (one_there kind.conditions c)) in
      ap₂ (λ u v. shown (task_in el) ++ (code "," ∷ (u ++ (code "," ∷ (v ++ (code "," ∷ shown_assignments el)))))) m g
      ∙ ap (λ w. shown (task_in el) ++ (code "," ∷ (mode_text (mode_at el) ++ (code "," ∷ (cond_text (guard_of el) ++ (code "," ∷ w)))))) assignments_text_lem

  -- A PART with a code that suits the row
  part_text_lem : (c : ℕ) → suits kind c ≡ true → shown_part c el ≡ part_text c el
  unfolding suits shown_part part_text
  part_text_lem c =
      choices (eqb c (code "E")) _ _ _ _ _ _ (λ h. refl)
      (choices (eqb c (code "X")) _ _ _ _ _ _ (λ h. refl)
      (choices (eqb c (code "F")) _ _ _ _ _ _ (λ h. entries_text (eqb-true kind.entries many h))
      (choices (eqb c (code "Y")) _ _ _ _ _ _ (λ h. exits_text (eqb-true kind.exits many h))
      (choices (eqb c (code "N")) _ _ _ _ _ _ (λ h. task_text_lem (eqb-true kind.task one (and_left (eqb kind.task one) (eqb kind.conditions one) h)) (eqb-true kind.conditions one (and_right (eqb kind.task one) (eqb kind.conditions one) h)))
      (choices (eqb c (code "T")) _ _ _ _ _ _ (λ h. received_text 0 (one_there (kind.receives + kind.sends) (eqb-true (kind.receives + kind.sends) one h)))
      (choices (eqb c (code "S")) _ _ _ _ _ _ (λ h. given_text 0 (one_there (kind.receives + kind.sends) (eqb-true (kind.receives + kind.sends) one (and_left (eqb (kind.receives + kind.sends) one) (eqb kind.receives none) h))) (eqb-true kind.receives none (and_right (eqb (kind.receives + kind.sends) one) (eqb kind.receives none) h)))
      (choices (eqb c (code "G")) _ _ _ _ _ _ (λ h. guarded_text (eqb-true kind.exits many (and_left (eqb kind.exits many) (eqb kind.conditions many) h)) (eqb-true kind.conditions many (and_right (eqb kind.exits many) (eqb kind.conditions many) h)))
      (λ h. receiving_text (eqb-true kind.exits many (and_left (eqb kind.exits many) (eqb (kind.receives + kind.sends) many) h)) (eqb-true (kind.receives + kind.sends) many (and_right (eqb kind.exits many) (eqb (kind.receives + kind.sends) many) h))))))))))

  parts_text_lem : (s : ℕ) (cs : List ℕ) → all_suit kind cs ≡ true → shown_parts s cs el ≡ parts_text s cs el
  unfolding shown_parts parts_text all_suit
  parts_text_lem s [] h = refl
  parts_text_lem s (c ∷ cs) h =
      choices (eqb c (code " ")) true (suits kind c && all_suit kind cs) [] [] _ _ (λ e. refl)
      (λ e. ap₂ (λ u v. s ∷ (u ++ v)) (part_text_lem c (and_left (suits kind c) (all_suit kind cs) e)) (parts_text_lem (code ",") cs (and_right (suits kind c) (all_suit kind cs) e))) h

-- THE ROWS beside the paper's elements
data Both {A B : Type 0} (R : A → B → Type 0) : List A → List B → Type 0 where
  nil : Both R [] []
  cons : {x : A} {y : B} {xs : List A} {ys : List B} → R x y → Both R xs ys → Both R (x ∷ xs) (y ∷ ys)

at_both : {A B : Type 0} (R : A → B → Type 0) (xs : List A) (ys : List B) (d : A) (e : B) → Both R xs ys → R d e → (k : ℕ) → R (get_or xs k d) (get_or ys k e)
at_both R [] [] d e nil r k = r
at_both R (x ∷ xs) (y ∷ ys) d e (cons p b) r zero = p
at_both R (x ∷ xs) (y ∷ ys) d e (cons p b) r (suc k) = at_both R xs ys d e b r k
at_both R [] (y ∷ ys) d e b r k = elim b [ ]
at_both R (x ∷ xs) [] d e b r k = elim b [ ]

module _ (el : List ℕ) where
  abbrev Says : Element → Kind → Type 0
  Says x k = eqb k.letters 0 ≡ false → element_text x ≡ row_text k el

  rows_say : Both Says (of_each_kind el) kinds
  unfolding of_each_kind element_text called behind_each row_text parts_text part_text if◌then◌or_else◌
  rows_say = cons (λ q. absurd (false≢true (sym q))) (cons (λ q. refl) (cons (λ q. refl) (cons (λ q. refl) (cons (λ q. refl) (cons (λ q. refl) (cons (λ q. refl) (cons (λ q. refl) (cons (λ q. refl) (cons (λ q. refl) (cons (λ q. refl) (cons (λ q. refl) (cons (λ q. refl) (cons (λ q. refl) (cons (λ q. refl) (cons (λ q. refl) nil)))))))))))))))

  row_says : (k : ℕ) → eqb (kind_of k).letters 0 ≡ false → element_text (get_or (of_each_kind el) k (end 0)) ≡ row_text (kind_of k) el
  unfolding kind_of
  row_says = at_both Says (of_each_kind el) kinds (end 0) no_kind rows_say (λ q. absurd (false≢true (sym q)))

-- EVERY ELEMENT within the limits
pub element_text_lem : (el : List ℕ) → element_fits el ≡ true → shown_element el ≡ element_text (element_of el)
unfolding shown_element element_of row_text element_fits
element_text_lem el fits =
    ap (λ w. keyword_of (kind_in el) ++ (w ++ (code ")" ∷ []))) (parts_text_lem el fits (code "(") (kind_of (kind_in el)).parts (rows_suit (kind_in el)))
    ∙ sym (row_says el (kind_in el) (not-true (eqb (kind_of (kind_in el)).letters 0) (and_left (not (eqb (kind_of (kind_in el)).letters 0)) (parts_fit (kind_of (kind_in el)) el) fits)))
