-- An event of a printed log: its tags, the line that is read, and the date that is passed. Assumes nothing.
use Rattle.std.specs.Prelude.{Some}
use mathlib.Core.Path.{◌≡◌, ◌∙◌, refl, sym, ap}
use mathlib.Core.Bool.{Bool, true, false, not, false≢true}
use mathlib.Core.List.{List, [], ◌∷◌, ◌++◌}
use Prim.Native.Nat.{ℕ, ◌+◌, ◌-◌, ◌<◌}
use native.Mathlib.Omega.{arith}
use lib.Dec.{ltb, eqb}
use lib.ListN.{length, drop}
use lib.Seq.{drop-drop}
use Rattle.base_words.specs.Pick.{if◌then◌or_else◌}
use Rattle.base_words.specs.Text.{bytes}
use Rattle.base_words.specs.Words.{part}
use Rattle.base_words.specs.Each.{each}
use Rattle.base_words.proofs.AllLaws.{and_left, and_right}
use Rattle.base_words.proofs.PickLaws.{and_true}
use Rattle.base_bytes.specs.Bytes.{same_bytes}
use Rattle.xml_scanner.specs.declared.Sort.TheVariants.{EmptyTag}
use Rattle.xml_markup.specs.declared.Class.TheVariants.{Blanks, Value}
use Rattle.xml_markup.specs.Markup.{opens_markup, marked, placed, markup}
use Rattle.xml_markup.specs.Staying.{is_plain}
use Rattle.xml_markup.specs.Spans.{is_of, run, name_at, bytes_of, local_from, local_of, behind_colon, value_of, attribute}
use Rattle.xml_skip.specs.Skipping.{tag_by, tag_of}
use Rattle.log_lines.specs.Entries.{entry_of}
use Rattle.log_text.specs.declared.Level.{Level}
use Rattle.log_text.specs.declared.Level.TheVariants.{Trace, Event}
use Rattle.log_text.specs.declared.Cursor.{Cursor}
use Rattle.log_text.specs.declared.Move.TheVariants.{On}
use Rattle.log_text.specs.Cursors.{reached, in_event, named, behind_event, lacks_by, tag_by as openTag}
use Rattle.log_text.specs.Logs.{over_named, line_by, name_by, string_by, string_at, event_by, entered_by, left_by, advance}
use Rattle.proof_local.proofs.Stands.{behind, whole_part, rest}
use Rattle.xml_markup.specs.Tokens.{begun}
use Rattle.xml_markup.specs.declared.Scan.TheVariants.{On as Reading}
use Rattle.xml_scanner.specs.declared.InTag.TheVariants.{Value as InValue}
use Rattle.xml_scanner.specs.declared.State.TheVariants.{Tag}
use Rattle.proof_local.proofs.Shifted.{read_to, scan_on, markup_opened, found_at}
use Rattle.proof_local.proofs.Tags.{value_is, empty_closed}
use Rattle.proof_local.proofs.Elements.{StartAt, EndAt, no_blank, newline, at_element, at_end, skipped_empty, passed_in_event}
use Rattle.proof_logs.proofs.Known.{string_start, event_start, date_start, event_markup, string_opening, date_tag, string_opened, date_opened, key_found, value_found}

-- "A line has no byte that XML would write in another way": every byte is from 32 on and is not `"`, `&` or `<`
abbrev pub Plain : List ℕ → Type 0
Plain line = each (is_plain 34) line ≡ true

plain_byte : (b : ℕ) → is_plain 34 b ≡ true → is_of (Value 34) b ≡ true
unfolding is_plain is_of if◌then◌or_else◌
plain_byte b = go (ltb b 32) (eqb b 34)
  where
    go : (x y : Bool) → (if x then false or_else if y then false or_else if eqb b 38 then false or_else not (eqb b 60)) ≡ true → not y ≡ true
    go true y e = absurd (false≢true e)
    go false true e = absurd (false≢true e)
    go false false e = refl

plain_value : (v : List ℕ) → Plain v → each (is_of (Value 34)) v ≡ true
unfolding each
plain_value [] e = refl
plain_value (b ∷ v) e = and_true _ _ (plain_byte b (and_left (is_plain 34 b) (each (is_plain 34) v) e)) (plain_value v (and_right (is_plain 34 b) (each (is_plain 34) v) e))

-- THE EVENT'S TAG
pub event_begun : (t x : List ℕ) (c : Cursor) → c.level ≡ Trace → drop c.at t ≡ 10 ∷ (bytes "<event>" ++ x) → advance t c ≡ On (in_event c (c.at + 1) (c.at + 1 + 7))
unfolding entered_by event_by tag_of tag_by same_bytes local_of local_from behind_colon if◌then◌or_else◌
event_begun t x c l e =
    at_element t (bytes "event>" ++ x) (bytes "event") c (c.at + 1) (newline t (bytes "event>" ++ x) c.at e) (rest t (bytes "<event>" ++ x) 10 c.at e) is_event
    ∙ rw (l, is_event.called (bytes "event"), event_markup t x (c.at + 1) (rest t (bytes "<event>" ++ x) 10 c.at e)) refl
  where
    is_event : StartAt t (bytes "event") (c.at + 1)
    is_event = event_start t x (c.at + 1) (rest t (bytes "<event>" ++ x) 10 c.at e)

-- A TAG BY ITSELF, its last value v written as it is: w and then v
module _ (t w v x : List ℕ) (p mark : ℕ) (stands : drop p t ≡ (60 ∷ w) ++ (v ++ (bytes "\"/>" ++ x))) (opened : read_to (60 ∷ w) (begun 0) (60 ∷ w) 0 ≡ Reading (record { state = Tag (InValue 34); mark = mark })) (plain : Plain v) where
  opens : opens_markup 60 ≡ true
  unfolding opens_markup
  opens = refl

  value_stands : drop (p + length (60 ∷ w)) t ≡ v ++ (bytes "\"/>" ++ x)
  value_stands = behind t (60 ∷ w) (v ++ (bytes "\"/>" ++ x)) p stands

  single_markup : markup t p ≡ marked EmptyTag (p + length (60 ∷ w) + length v + 3)
  unfolding placed
  single_markup =
      markup_opened t (w ++ (v ++ (bytes "\"/>" ++ x))) 60 p stands opens
      ∙ ap placed (scan_on t (60 ∷ w) (v ++ (bytes "\"/>" ++ x)) p stands _ opened ∙ empty_closed t v x p (p + mark) (p + length (60 ∷ w)) value_stands plain)

  single_behind : drop (p + length (60 ∷ w) + length v + 3) t ≡ x
  single_behind = behind t (bytes "\"/>") x (p + length (60 ∷ w) + length v) (behind t v (bytes "\"/>" ++ x) (p + length (60 ∷ w)) value_stands)

-- ITS STRING, which stands at p
module _ (t line x : List ℕ) (p : ℕ) (stands : drop p t ≡ string_opening ++ (line ++ (bytes "\"/>" ++ x))) (plain : Plain line) where
  is_string : StartAt t (bytes "string") p
  is_string = string_start t (bytes "key=\"concept:name\" value=\"" ++ (line ++ (bytes "\"/>" ++ x))) p stands

  line_stands : drop (p + 34) t ≡ line ++ (bytes "\"/>" ++ x)
  line_stands = behind t string_opening (line ++ (bytes "\"/>" ++ x)) p stands

  string_markup : markup t p ≡ marked EmptyTag (p + 34 + length line + 3)
  string_markup = single_markup t (bytes "string key=\"concept:name\" value=\"") line x p 27 stands string_opened plain

  further : (i : ℕ) (y : List ℕ) → drop i (string_opening ++ (line ++ (bytes "\"/>" ++ x))) ≡ y → drop (p + i) t ≡ y
  further i y e = sym (drop-drop i p t) ∙ ap (drop i) stands ∙ e

  plain_key : each (is_of (Value 34)) (bytes "concept:name") ≡ true
  unfolding each is_of
  plain_key = refl

  key_stands : drop (p + 11) t ≡ 61 ∷ (34 ∷ (bytes "concept:name" ++ (34 ∷ (bytes " value=\"" ++ (line ++ (bytes "\"/>" ++ x))))))
  key_stands = further 11 _ refl

  key_is : attribute t p (bytes "key") ≡ Some (p + 11 + 2, p + 11 + 2 + 12)
  unfolding attribute
  key_is =
      ap (value_of t) (found_at t string_opening (line ++ (bytes "\"/>" ++ x)) p stands (bytes "key") 11 key_found)
      ∙ value_is t (bytes "concept:name") (bytes " value=\"" ++ (line ++ (bytes "\"/>" ++ x))) (p + 11) key_stands plain_key

  key_says : part t (p + 11 + 2) (p + 11 + 2 + 12) ≡ bytes "concept:name"
  key_says = whole_part t (bytes "concept:name") (34 ∷ (bytes " value=\"" ++ (line ++ (bytes "\"/>" ++ x)))) (p + 11 + 2) (ap (λ (n : ℕ). drop n t) (let z : p + 11 + 2 ≡ p + 13 = omega arith in z) ∙ further 13 _ refl)

  line_is : attribute t p (bytes "value") ≡ Some (p + 32 + 2, p + 32 + 2 + length line)
  unfolding attribute
  line_is =
      ap (value_of t) (found_at t string_opening (line ++ (bytes "\"/>" ++ x)) p stands (bytes "value") 32 value_found)
      ∙ value_is t line (bytes "/>" ++ x) (p + 32) (further 32 _ refl) (plain_value line plain)

  pub line_says : part t (p + 32 + 2) (p + 32 + 2 + length line) ≡ line
  line_says = whole_part t line (bytes "\"/>" ++ x) (p + 32 + 2) (ap (λ (n : ℕ). drop n t) (let z : p + 32 + 2 ≡ p + 34 = omega arith in z) ∙ line_stands)

  same_key : same_bytes (bytes "concept:name") (bytes "concept:name") ≡ true
  unfolding same_bytes
  same_key = refl

  pub string_read : (c : Cursor) → c.to ≡ 0 → (entry_of line).right ≡ true → string_at t c p ≡ On (named c (p + 32 + 2) (p + 32 + 2 + length line) (p + 34 + length line + 3))
  unfolding string_at string_by tag_of tag_by name_by line_by over_named if◌then◌or_else◌
  string_read c z r =
      rw (string_markup, key_is, key_says, same_key, z, line_is, line_says, r, skipped_empty t p (p + 34 + length line + 3) string_markup) refl

  string_entered : (c : Cursor) → c.to ≡ 0 → (entry_of line).right ≡ true → entered_by Event t c p ≡ On (named c (p + 32 + 2) (p + 32 + 2 + length line) (p + 34 + length line + 3))
  unfolding entered_by same_bytes local_of local_from behind_colon if◌then◌or_else◌
  string_entered c z r = rw (is_string.called (bytes "string")) (string_read c z r)

  pub string_passed : (c : Cursor) → c.level ≡ Event → c.at ≡ p → c.to ≡ 0 → (entry_of line).right ≡ true → advance t c ≡ On (named c (p + 32 + 2) (p + 32 + 2 + length line) (p + 34 + length line + 3))
  string_passed c l a z r =
      at_element t (bytes "string key=\"concept:name\" value=\"" ++ (line ++ (bytes "\"/>" ++ x))) (bytes "string") c p (rw a (no_blank t (bytes "string key=\"concept:name\" value=\"" ++ (line ++ (bytes "\"/>" ++ x))) p stands)) stands is_string
      ∙ ap (λ (v : Level). entered_by v t c p) l
      ∙ string_entered c z r

  pub string_behind : drop (p + 34 + length line + 3) t ≡ x
  string_behind = single_behind t (bytes "string key=\"concept:name\" value=\"") line x p 27 stands string_opened plain

-- ITS DATE, which stands at p
module _ (t v x : List ℕ) (p : ℕ) (stands : drop p t ≡ date_tag ++ (v ++ (bytes "\"/>" ++ x))) (plain : Plain v) where
  is_date : StartAt t (bytes "date") p
  is_date = date_start t (bytes "key=\"time:timestamp\" value=\"" ++ (v ++ (bytes "\"/>" ++ x))) p stands

  date_markup : markup t p ≡ marked EmptyTag (p + 34 + length v + 3)
  date_markup = single_markup t (bytes "date key=\"time:timestamp\" value=\"") v x p 27 stands date_opened plain

  pub date_passed : (c : Cursor) → c.level ≡ Event → c.at ≡ p → advance t c ≡ On (reached c (p + 34 + length v + 3))
  unfolding same_bytes local_of local_from behind_colon if◌then◌or_else◌
  date_passed c l a =
      at_element t (bytes "date key=\"time:timestamp\" value=\"" ++ (v ++ (bytes "\"/>" ++ x))) (bytes "date") c p (rw a (no_blank t (bytes "date key=\"time:timestamp\" value=\"" ++ (v ++ (bytes "\"/>" ++ x))) p stands)) stands is_date
      ∙ ap (λ (k : Level). entered_by k t c p) l
      ∙ passed_in_event t (bytes "date") c p (p + 34 + length v + 3) is_date refl refl refl refl (skipped_empty t p (p + 34 + length v + 3) date_markup)

-- ITS END, of whatever name
pub event_ended : (t name x : List ℕ) (c : Cursor) → c.level ≡ Event → eqb c.to 0 ≡ false → bytes_of t (name_at t c.event) ≡ name → run Blanks t c.at ≡ c.at → EndAt t name x c.at → advance t c ≡ On (behind_event t c (c.at + 3 + length name))
unfolding left_by lacks_by openTag
event_ended t name x c l z n b k = at_end t name x c c.at b (rw l z) k (rw l n) ∙ rw l refl
