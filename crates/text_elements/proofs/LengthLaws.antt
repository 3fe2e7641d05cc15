-- A reader keeps the length of the words that it may store in. Assumes nothing.
use Prim.Native.Char.{code}
use Prim.Native.Nat.{ℕ, zero, suc, ◌+◌}
use mathlib.Core.Path.{◌≡◌, refl, ◌∙◌}
use mathlib.Core.Bool.{Bool, true, false, ◌&&◌}
use mathlib.Core.List.{List, [], ◌∷◌}
use lib.Dec.{eqb, ltb}
use lib.ListN.{length, length-set, length-replicate}
use Rattle.base_words.specs.Pick.{if◌then◌or_else◌}
use Rattle.base_words.specs.Text.{bytes}
use Rattle.base_kinds.specs.Kinds.{kind_of}
use Rattle.text_lexer.specs.Lexer.{token_at}
use Rattle.base_bytes.specs.Bytes.{same_bytes}
use Rattle.std.specs.declared.result.Result.TheVariants.{Ok, Err}
use Rattle.text_readers.specs.Reading.{Read, Parsed, Reader, if_at, ◌then◌, place_of, behind, letters, sign_at, sign, operand}
use Rattle.text_readers.proofs.ReadingLaws.{Keeps, keeps_then, keeps_number, keeps_field, keeps_operand, keeps_mode, onward-length, word_length}
use Rattle.text_parts.specs.declared.Series.{Series}
use Rattle.text_parts.specs.Parts.{store, joint, expression, bind, template_item, comparison, condition, assignment, guarded, item_of, starts, too_many, counted, items_from, items, inside, series, message, receiving, receiving_branches, one_edge, task_part, part_of}
use Rattle.text_elements.specs.Elements.{kind_named, blank, parts_from, parts_of, element_of, element}

-- a choice keeps what both sides keep
module _ (n : ℕ) where
  either : (b : Bool) (r s : Parsed) → length r.words ≡ n → length s.words ≡ n → length (if b then r or_else s).words ≡ n
  unfolding if◌then◌or_else◌
  either true r s h k = h
  either false r s h k = k

  placed : (e : Read) (go : ℕ → Parsed) (s : Parsed) → ((q : ℕ) → length (go q).words ≡ n) → length s.words ≡ n → length (if_at e go s).words ≡ n
  unfolding if_at
  placed (Ok q) go s h k = h q
  placed (Err e) go s h k = k

either_reader : (b : Bool) (f g : Reader) → Keeps f → Keeps g → Keeps (if b then f or_else g)
unfolding if◌then◌or_else◌
either_reader true f g h k = h
either_reader false f g h k = k

store_keeps : (place v : ℕ) → Keeps (store place v)
store_keeps place v text at x = simp length-set

-- THE PARTS of an element
stored_operand : (place v to : ℕ) → Keeps (store place v then operand to)
stored_operand place v to = keeps_then (store place v) (operand to) (store_keeps place v) (keeps_operand to)

joint_keeps : (place : ℕ) → Keeps (joint place)
unfolding joint
joint_keeps place text at x =
    placed (length x) (sign_at (code "+") text at) _ _ (λ q. stored_operand _ _ _ text q x)
    (placed (length x) (sign_at (code "-") text at) _ _ (λ q. stored_operand _ _ _ text q x) (simp length-set))

expression_keeps : (place : ℕ) → Keeps (expression place)
unfolding expression
expression_keeps place = keeps_then _ _ (keeps_operand _) (joint_keeps place)

bind_keeps : (place : ℕ) → Keeps (bind place)
unfolding bind
bind_keeps place = keeps_then _ _ (store_keeps _ _) (keeps_then _ _ (store_keeps _ _) (keeps_field _))

template_item_keeps : (place : ℕ) → Keeps (template_item place)
unfolding template_item
template_item_keeps place text at x = placed (length x) (sign_at (code "?") text at) _ _ (λ q. bind_keeps place text q x) (expression_keeps place text at x)

comparison_keeps : (place : ℕ) → Keeps (comparison place)
unfolding comparison
comparison_keeps place text at x =
    placed (length x) (sign_at (code "=") text at) _ _ (λ q. stored_operand _ _ _ text q x)
    (keeps_then (sign (code "<")) _ (λ t a y. refl) (stored_operand _ _ _) text at x)

condition_keeps : (defaults : Bool) (place : ℕ) → Keeps (condition defaults place)
unfolding condition
condition_keeps defaults place text at x =
    word_length (token_at text at).form x _ _
    (either (length x) (same_bytes (letters text at) (bytes "true")) _ _ (simp length-set)
    (either (length x) (defaults && same_bytes (letters text at) (bytes "default")) _ _ (simp length-set)
    (keeps_then (operand _) (comparison place) (keeps_operand _) (comparison_keeps place) text at x)))
    refl

assignment_keeps : (j : ℕ) → Keeps (assignment j)
unfolding assignment
assignment_keeps j = keeps_then _ _ (keeps_field _) (keeps_then _ _ (λ t a y. refl) (expression_keeps _))

guarded_keeps : (b : ℕ) → Keeps (guarded b)
unfolding guarded
guarded_keeps b =
    keeps_then _ _ (λ t a y. refl) (keeps_then _ _ (keeps_number _ _ _) (keeps_then _ _ (λ t a y. refl) (keeps_then _ _ (condition_keeps true _) (λ t a y. refl))))

-- lists
item_keeps : (s : Series) (k : ℕ) → Keeps (item_of s k)
unfolding item_of
item_keeps s k =
    either_reader _ _ _ (keeps_number _ _ _)
    (either_reader _ _ _ (template_item_keeps _)
    (either_reader _ _ _ (expression_keeps _) (either_reader _ _ _ (assignment_keeps k) (guarded_keeps k))))

counted_keeps : (least count k : ℕ) → Keeps (counted least count k)
unfolding counted
counted_keeps least count k text at x = either (length x) (ltb k least) _ _ refl (simp length-set)

items_keep : (item : ℕ → Reader) (starting : List ℕ → ℕ → Bool) (least count n k : ℕ) → ((j : ℕ) → Keeps (item j)) → Keeps (items_from item starting least count n k)
unfolding items_from too_many
items_keep item starting least count zero k h text at x = refl
items_keep item starting least count (suc n) k h text at x =
    onward-length (item k text at x) _ (length x) (h k text at x)
    (λ q. go (λ a y. items_keep item starting least count n (k + 1) h text a y) q (item k text at x).words ∙ h k text at x)
  where
    go : ((a : ℕ) (y : List ℕ) → length (items_from item starting least count n (k + 1) text a y).words ≡ length y)
        → (q : ℕ) (y : List ℕ) → length (if_at (sign_at (code ",") text q) (λ a. items_from item starting least count n (k + 1) text a y) (counted least count (k + 1) text q y)).words ≡ length y
    go more q y = placed (length y) (sign_at (code ",") text q) _ _ (λ a. more a y) (counted_keeps least count (k + 1) text q y)

inside_keeps : (s : Series) → Keeps (inside s)
unfolding inside items
inside_keeps s text at x =
    let whole = keeps_then _ _ (items_keep (item_of s) (starts s.item) s.least s.count s.most 0 (item_keeps s)) (λ t a y. refl) in
    either (length x) (eqb s.least 0) _ _
    (placed (length x) (sign_at s.closer text at) _ _ (λ q. simp length-set) (whole text at x))
    (whole text at x)

series_keeps : (s : Series) → Keeps (series s)
unfolding series
series_keeps s = keeps_then _ _ (λ t a y. refl) (inside_keeps s)

message_keeps : (item b : ℕ) → Keeps (message item b)
unfolding message
message_keeps item b = keeps_then _ _ (keeps_number _ _ _) (keeps_then _ _ (λ t a y. refl) (series_keeps _))

receiving_keeps : (b : ℕ) → Keeps (receiving b)
unfolding receiving
receiving_keeps b =
    keeps_then _ _ (λ t a y. refl) (keeps_then _ _ (message_keeps _ b) (keeps_then _ _ (λ t a y. refl) (keeps_then _ _ (keeps_number _ _ _) (λ t a y. refl))))

branches_keep : Keeps receiving_branches
unfolding receiving_branches
branches_keep = items_keep receiving _ _ _ _ 0 receiving_keeps

one_edge_keeps : (list : ℕ) → Keeps (one_edge list)
unfolding one_edge
one_edge_keeps list = keeps_then _ _ (keeps_number _ _ _) (store_keeps _ _)

task_keeps : Keeps task_part
unfolding task_part
task_keeps =
    keeps_then _ _ (keeps_number _ _ _) (keeps_then _ _ (λ t a y. refl)
    (keeps_then _ _ keeps_mode (keeps_then _ _ (λ t a y. refl)
    (keeps_then _ _ (condition_keeps false _) (keeps_then _ _ (λ t a y. refl) (series_keeps _))))))

part_keeps : (c : ℕ) → Keeps (part_of c)
unfolding part_of
part_keeps c =
    either_reader _ _ _ (one_edge_keeps _)
    (either_reader _ _ _ (one_edge_keeps _)
    (either_reader _ _ _ (series_keeps _)
    (either_reader _ _ _ (series_keeps _)
    (either_reader _ _ _ task_keeps
    (either_reader _ _ _ (message_keeps _ _)
    (either_reader _ _ _ (message_keeps _ _)
    (either_reader _ _ _ (series_keeps _)
    (either_reader _ _ _ branches_keep (λ text at x. refl)))))))))

-- AN ELEMENT
parts_keep : (s : ℕ) (cs : List ℕ) → Keeps (parts_from s cs)
unfolding parts_from
parts_keep s [] = λ text at x. refl
parts_keep s (c ∷ cs) =
    either_reader (eqb c (code " ")) _ _ (λ text at x. refl) (keeps_then _ _ (λ t a y. refl) (keeps_then _ _ (part_keeps c) (parts_keep (code ",") cs)))

parts_of_keep : (k : ℕ) → Keeps (parts_of k)
unfolding parts_of
parts_of_keep k = keeps_then _ _ (parts_keep _ (kind_of k).parts) (λ t a y. refl)

pub blank_keeps : (k : ℕ) (x : List ℕ) → length (blank k x) ≡ length x
unfolding blank
blank_keeps k x = simp (length-set, length-replicate)

element_of_keeps : (k p : ℕ) → Keeps (element_of k p)
unfolding element_of
element_of_keeps k p text q x = either (length x) (eqb k 0) _ _ (blank_keeps 0 x) (parts_of_keep k text q (blank k x) ∙ blank_keeps k x)

pub element_keeps : Keeps element
unfolding element
element_keeps text at x =
    word_length (token_at text at).form x _ _ (element_of_keeps (kind_named (letters text at)) (place_of text at) text (behind text at) x) (blank_keeps 0 x)
