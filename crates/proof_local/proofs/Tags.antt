-- A tag's name, and a value in it, where their bytes are known. Assumes nothing.
use Rattle.std.specs.Prelude.{Some}
use Prim.Native.Char.{code}
use mathlib.Core.Path.{◌≡◌, ◌∙◌, refl, sym, ap}
use mathlib.Core.Bool.{Bool, true, false, false≢true}
use mathlib.Core.List.{List, ◌∷◌, ◌++◌}
use Prim.Native.Nat.{ℕ, ◌+◌, ◌<◌}
use native.Mathlib.Omega.{arith}
use lib.Dec.{eqb}
use lib.ListN.{length, drop}
use borrow.Author.Tests.{lt-leb, eqb-true}
use Rattle.base_words.specs.Pick.{if◌then◌or_else◌}
use Rattle.base_words.specs.Words.{at, part}
use Rattle.base_words.specs.Each.{each}
use Rattle.base_words.proofs.AllLaws.{and_left, and_right}
use Rattle.base_bytes.specs.Bytes.{between, is_letter, is_digit, past}
use Rattle.base_bytes.proofs.PastLaws.{past_run}
use Rattle.base_bytes.specs.Bytes.{same_bytes}
use Rattle.xml_characters.specs.Names.{is_blank, begins_name, is_name, is_control}
use Rattle.xml_scanner.specs.declared.Sort.TheVariants.{EmptyTag, EndTag as anEndTag}
use Rattle.xml_scanner.specs.declared.InTag.TheVariants.{Value as InValue, Behind as InBehind, Slash}
use Rattle.xml_scanner.specs.declared.InOpening.TheVariants.{Less}
use Rattle.xml_scanner.specs.declared.InEnd.TheVariants.{Opened as EndOpened, Name as EndName}
use Rattle.xml_scanner.specs.declared.State.TheVariants.{Opening, Tag, EndTag}
use Rattle.xml_scanner.specs.Openings.{in_opening, behind_less}
use Rattle.xml_scanner.specs.Tags.{in_tag, in_value, behind, closing, in_end, behind_end}
use Rattle.xml_scanner.specs.Moves.{at_begin, step}
use Rattle.xml_markup.specs.declared.Class.TheVariants.{Name, Value}
use Rattle.xml_markup.specs.declared.Span.{Span}
use Rattle.xml_markup.specs.declared.Opener.TheVariants.{Start, End, Other}
use Rattle.xml_markup.specs.declared.Cursor.{Cursor}
use Rattle.xml_markup.specs.declared.Scan.{Scan}
use Rattle.xml_markup.specs.declared.Scan.TheVariants.{On, Past}
use Rattle.xml_markup.specs.declared.Whole.TheVariants.{Nothing}
use Rattle.xml_markup.specs.Tokens.{whole, whole_in_tag, move_to, moved, if_on, begun, is_faulty}
use Rattle.xml_markup.specs.Markup.{advance, scan_from, scan, opens_markup, marked, placed, markup}
use Rattle.xml_markup.specs.Staying.{is_plain, stays_in_tag, stays_in_end, stays}
use Rattle.xml_markup.proofs.StayLaws.{scan_stay, in_state}
use Rattle.xml_markup.specs.Spans.{is_of, run, after, has_second, name_from, name_at, bytes_of, opens_name, second, opener, local_of, is_called, quote_at, value_at, value_of}
use Rattle.proof_local.proofs.Shifted.{markup_opened}
use Rattle.proof_local.proofs.Stands.{behind as stands-behind, whole_part, within, first, rest, after_is}

-- THE NAME of a tag at p, from f on, with the byte b behind it
module _ (t name x : List ℕ) (p f b : ℕ) (from_is : name_from t p ≡ f) (stands : drop f t ≡ name ++ (b ∷ x)) (named : each (is_of Name) name ≡ true) (ends : is_of Name b ≡ false) where
  pub name_is : name_at t p ≡ record { from = f; to = f + length name }
  unfolding name_at run
  name_is =
      ap (λ (n : ℕ). record { from = n; to = past (is_of Name) (drop n t) n }) from_is
      ∙ ap (λ (l : List ℕ). record { from = f; to = past (is_of Name) l f }) stands
      ∙ ap (λ (n : ℕ). record { from = f; to = n }) (past_run (is_of Name) name (b ∷ x) f named ends)

  pub named_so : bytes_of t (name_at t p) ≡ name
  unfolding bytes_of
  named_so = ap (λ (s : Span). part t s.from s.to) name_is ∙ whole_part t name (b ∷ x) f stands

  pub called_so : (w : List ℕ) → is_called t p w ≡ same_bytes (local_of name) w
  unfolding is_called
  called_so w = ap (λ (l : List ℕ). same_bytes (local_of l) w) named_so

  -- it is whole
  behind_in : f + length name < length t
  behind_in = within t x b (f + length name) (stands-behind t name (b ∷ x) f stands)

  pub opens_name_lem : (s : List ℕ) → drop p t ≡ 60 ∷ s → begins_name (at t f) ≡ true → opens_name t p ≡ true
  unfolding opens_name if◌then◌or_else◌
  opens_name_lem s e n = rw (first t s 60 p e, name_is, lt-leb (length t) (f + length name) behind_in) n

-- behind `<` alone, or with a second byte
module _ (t s : List ℕ) (p c : ℕ) (stands : drop p t ≡ 60 ∷ (c ∷ s)) where
  second_is : at t (after t p) ≡ c
  second_is = ap (at t) (after_is t (c ∷ s) 60 p stands) ∙ first t s c (p + 1) (rest t (c ∷ s) 60 p stands)

  pub from_first : has_second c ≡ false → name_from t p ≡ p + 1
  unfolding name_from if◌then◌or_else◌
  from_first e = rw (second_is, e) (after_is t (c ∷ s) 60 p stands)

  pub from_second : has_second c ≡ true → name_from t p ≡ p + 2
  unfolding name_from if◌then◌or_else◌
  from_second e = rw (second_is, e) (ap (after t) (after_is t (c ∷ s) 60 p stands) ∙ after_is t s c (p + 1) (rest t (c ∷ s) 60 p stands) ∙ (let z : p + 1 + 1 ≡ p + 2 = omega arith in z))

  pub opener_by : opens_name t p ≡ true → opener t p ≡ (if eqb c (code "/") then End or_else if eqb c (code "?") then Other or_else Start)
  unfolding opener second if◌then◌or_else◌
  opener_by e = rw (e, second_is) refl

-- a start tag
module _ (t name x : List ℕ) (p c b : ℕ) (stands : drop p t ≡ 60 ∷ ((c ∷ name) ++ (b ∷ x))) (begins : begins_name c ≡ true) (named : each (is_of Name) (c ∷ name) ≡ true) (ends : is_of Name b ≡ false) where
  other : (k : ℕ) → begins_name k ≡ false → eqb c k ≡ false
  other k f = go (eqb c k) refl
    where
      go : (e : Bool) → eqb c k ≡ e → e ≡ false
      go true e = absurd (false≢true (sym f ∙ ap begins_name (sym (eqb-true c k e)) ∙ begins))
      go false e = refl

  no_slash : eqb c (code "/") ≡ false
  unfolding begins_name is_letter between
  no_slash = other 47 refl

  no_question : eqb c (code "?") ≡ false
  unfolding begins_name is_letter between
  no_question = other 63 refl

  alone : has_second c ≡ false
  unfolding has_second
  alone = rw (no_slash, no_question) refl

  name_begun : drop (p + 1) t ≡ (c ∷ name) ++ (b ∷ x)
  name_begun = rest t ((c ∷ name) ++ (b ∷ x)) 60 p stands

  from_is : name_from t p ≡ p + 1
  from_is = from_first t (name ++ (b ∷ x)) p c stands alone

  pub start_named : bytes_of t (name_at t p) ≡ c ∷ name
  start_named = named_so t (c ∷ name) x p (p + 1) b from_is name_begun named ends

  pub start_called : (w : List ℕ) → is_called t p w ≡ same_bytes (local_of (c ∷ name)) w
  start_called = called_so t (c ∷ name) x p (p + 1) b from_is name_begun named ends

  pub start_opens : opener t p ≡ Start
  unfolding if◌then◌or_else◌
  start_opens =
      opener_by t (name ++ (b ∷ x)) p c stands (opens_name_lem t (c ∷ name) x p (p + 1) b from_is name_begun named ends ((c ∷ name) ++ (b ∷ x)) stands (ap begins_name (first t (name ++ (b ∷ x)) c (p + 1) name_begun) ∙ begins))
      ∙ rw (no_slash, no_question) refl

-- THE VALUE behind an attribute's name that ends at i
module _ (t v x : List ℕ) (i : ℕ) (stands : drop i t ≡ 61 ∷ (34 ∷ (v ++ (34 ∷ x)))) (plain : each (is_of (Value 34)) v ≡ true) where
  quoted : drop (i + 1) t ≡ 34 ∷ (v ++ (34 ∷ x))
  quoted = rest t (34 ∷ (v ++ (34 ∷ x))) 61 i stands

  valued : drop (i + 2) t ≡ v ++ (34 ∷ x)
  valued = ap (λ (n : ℕ). drop n t) (let z : i + 2 ≡ i + 1 + 1 = omega arith in z) ∙ rest t (v ++ (34 ∷ x)) 34 (i + 1) quoted

  quote_is : quote_at t i ≡ i + 1
  unfolding quote_at run past is_of is_blank if◌then◌or_else◌
  quote_is = rw (stands, after_is t (34 ∷ (v ++ (34 ∷ x))) 61 i stands, quoted) refl

  value_from : after t (i + 1) ≡ i + 2
  value_from = after_is t (v ++ (34 ∷ x)) 34 (i + 1) quoted ∙ (let z : i + 1 + 1 ≡ i + 2 = omega arith in z)

  closes : is_of (Value 34) 34 ≡ false
  unfolding is_of
  closes = refl

  pub value_is : value_of t (Some i) ≡ Some (i + 2, i + 2 + length v)
  unfolding value_of value_at run
  value_is =
      rw (quote_is, value_from, first t (v ++ (34 ∷ x)) 34 (i + 1) quoted, valued)
      (ap (λ (e : ℕ). Some (i + 2, e)) (past_run (is_of (Value 34)) v (34 ∷ x) (i + 2) plain closes))

-- ONE BYTE that shows no token to be whole
module _ (t : List ℕ) (start : ℕ) (c : Cursor) (s : List ℕ) (b i : ℕ) (stands : drop i t ≡ b ∷ s) (nothing : whole c.state b ≡ Nothing) (free : is_control b ≡ false) where
  one_byte : advance t start c i ≡ moved c b i (i + 1)
  unfolding advance is_faulty if◌then◌or_else◌
  one_byte = rw (lt-leb (length t) i (within t s b i stands), first t s b i stands, nothing, free) refl

  pub goes : (a : Scan) → moved c b i (i + 1) ≡ a → scan_from t start c (b ∷ s) i ≡ if_on a (λ next. scan_from t start next s (i + 1)) a
  unfolding scan_from
  goes a e = rw (one_byte, e) refl

-- an end tag, `>` straight behind its name
module _ (t name x : List ℕ) (p c : ℕ) (stands : drop p t ≡ 60 ∷ (47 ∷ ((c ∷ name) ++ (62 ∷ x)))) (begins : begins_name c ≡ true) (named : each (is_of Name) (c ∷ name) ≡ true) where
  slash_stands : drop (p + 1) t ≡ 47 ∷ ((c ∷ name) ++ (62 ∷ x))
  slash_stands = rest t (47 ∷ ((c ∷ name) ++ (62 ∷ x))) 60 p stands

  name_stands : drop (p + 1 + 1) t ≡ (c ∷ name) ++ (62 ∷ x)
  name_stands = rest t ((c ∷ name) ++ (62 ∷ x)) 47 (p + 1) slash_stands

  begun_end : drop (p + 2) t ≡ (c ∷ name) ++ (62 ∷ x)
  begun_end = ap (λ (n : ℕ). drop n t) (let z : p + 2 ≡ p + 1 + 1 = omega arith in z) ∙ name_stands

  stops_name : is_of Name 62 ≡ false
  unfolding is_of is_name begins_name is_letter is_digit between
  stops_name = refl

  end_from : name_from t p ≡ p + 2
  end_from = from_second t ((c ∷ name) ++ (62 ∷ x)) p 47 stands (unfold has_second in refl)

  pub end_named : bytes_of t (name_at t p) ≡ c ∷ name
  end_named = named_so t (c ∷ name) x p (p + 2) 62 end_from begun_end named stops_name

  pub end_opens : opener t p ≡ End
  unfolding if◌then◌or_else◌
  end_opens =
      opener_by t ((c ∷ name) ++ (62 ∷ x)) p 47 stands (opens_name_lem t (c ∷ name) x p (p + 2) 62 end_from begun_end named stops_name (47 ∷ ((c ∷ name) ++ (62 ∷ x))) stands (ap begins_name (first t (name ++ (62 ∷ x)) c (p + 2) begun_end) ∙ begins))

  is_name_lem : is_name c ≡ true
  unfolding each is_of
  is_name_lem = and_left (is_name c) (each (is_of Name) name) named

  free : is_control c ≡ false
  unfolding stays stays_in_end
  free = (in_state 0 c 0 0 (EndTag EndName) is_name_lem).plain

  abbrev in_name : Cursor
  in_name = record { state = EndTag EndName; mark = p }

  opened_on : scan_from t p (begun p) (60 ∷ (47 ∷ ((c ∷ name) ++ (62 ∷ x)))) p ≡ scan_from t p in_name (name ++ (62 ∷ x)) (p + 1 + 1 + 1)
  unfolding whole is_control is_blank moved move_to step at_begin in_opening behind_less in_end if_on if◌then◌or_else◌
  opened_on =
      goes t p (begun p) (47 ∷ ((c ∷ name) ++ (62 ∷ x))) 60 p stands refl refl (On (record { state = Opening Less; mark = p })) refl
      ∙ goes t p (record { state = Opening Less; mark = p }) ((c ∷ name) ++ (62 ∷ x)) 47 (p + 1) slash_stands refl refl (On (record { state = EndTag EndOpened; mark = p })) refl
      ∙ goes t p (record { state = EndTag EndOpened; mark = p }) (name ++ (62 ∷ x)) c (p + 1 + 1) name_stands refl free (On in_name) (rw begins refl)

  more_stands : drop (p + 1 + 1 + 1) t ≡ name ++ (62 ∷ x)
  more_stands = rest t (name ++ (62 ∷ x)) c (p + 1 + 1) name_stands

  more_named : each (is_of Name) name ≡ true
  unfolding each
  more_named = and_right (is_of Name c) (each (is_of Name) name) named

  abbrev close : ℕ
  close = p + 1 + 1 + 1 + length name

  name_passed : close ≡ past (stays (EndTag EndName)) (drop (p + 1 + 1 + 1) t) (p + 1 + 1 + 1)
  unfolding stays stays_in_end is_of
  name_passed = sym (ap (λ (l : List ℕ). past is_name l (p + 1 + 1 + 1)) more_stands ∙ past_run is_name name (62 ∷ x) (p + 1 + 1 + 1) more_named stops_name)

  close_stands : drop close t ≡ 62 ∷ x
  close_stands = stands-behind t name (62 ∷ x) (p + 1 + 1 + 1) more_stands

  pub end_behind : drop (p + 4 + length name) t ≡ x
  end_behind = ap (λ (n : ℕ). drop n t) (let z : p + 4 + length name ≡ close + 1 = omega arith in z) ∙ rest t x 62 close close_stands

  closed_on : scan_from t p in_name (62 ∷ x) close ≡ Past anEndTag (close + 1)
  unfolding whole is_control is_blank moved move_to step in_end behind_end is_name begins_name is_letter is_digit between if_on if◌then◌or_else◌
  closed_on = goes t p in_name x 62 close close_stands refl refl (Past anEndTag (close + 1)) refl

  end_scanned : scan t p ≡ Past anEndTag (p + 4 + length name)
  unfolding scan
  end_scanned =
      ap (λ (l : List ℕ). scan_from t p (begun p) l p) stands
      ∙ opened_on
      ∙ ap (λ (l : List ℕ). scan_from t p in_name l (p + 1 + 1 + 1)) (sym more_stands)
      ∙ scan_stay t p in_name (p + 1 + 1 + 1) close name_passed
      ∙ ap (λ (l : List ℕ). scan_from t p in_name l close) close_stands
      ∙ closed_on
      ∙ ap (Past anEndTag) (let z : close + 1 ≡ p + 4 + length name = omega arith in z)

  opens_markup_lem : opens_markup 60 ≡ true
  unfolding opens_markup
  opens_markup_lem = refl

  pub end_markup : markup t p ≡ marked anEndTag (p + 4 + length name)
  unfolding placed
  end_markup = markup_opened t (47 ∷ ((c ∷ name) ++ (62 ∷ x))) 60 p stands opens_markup_lem ∙ ap placed end_scanned

-- an empty tag's end behind a value of plain bytes
module _ (t v x : List ℕ) (start m i : ℕ) (stands : drop i t ≡ v ++ (34 ∷ (47 ∷ (62 ∷ x)))) (plain : each (is_plain 34) v ≡ true) where
  abbrev in_line : Cursor
  in_line = record { state = Tag (InValue 34); mark = m }

  abbrev j : ℕ
  j = i + length v

  here : drop j t ≡ 34 ∷ (47 ∷ (62 ∷ x))
  here = stands-behind t v (34 ∷ (47 ∷ (62 ∷ x))) i stands

  slash : drop (j + 1) t ≡ 47 ∷ (62 ∷ x)
  slash = rest t (47 ∷ (62 ∷ x)) 34 j here

  last : drop (j + 1 + 1) t ≡ 62 ∷ x
  last = rest t (62 ∷ x) 47 (j + 1) slash

  stops : is_plain 34 34 ≡ false
  unfolding is_plain if◌then◌or_else◌
  stops = refl

  passed : j ≡ past (stays (Tag (InValue 34))) (drop i t) i
  unfolding stays stays_in_tag
  passed = sym (ap (λ (l : List ℕ). past (is_plain 34) l i) stands ∙ past_run (is_plain 34) v (34 ∷ (47 ∷ (62 ∷ x))) i plain stops)

  closing_on : scan_from t start in_line (34 ∷ (47 ∷ (62 ∷ x))) j ≡ Past EmptyTag (j + 1 + 1 + 1)
  unfolding whole whole_in_tag is_control is_blank moved move_to step in_tag in_value behind closing if_on if◌then◌or_else◌
  closing_on =
      goes t start in_line (47 ∷ (62 ∷ x)) 34 j here refl refl (On (record { state = Tag InBehind; mark = m })) refl
      ∙ goes t start (record { state = Tag InBehind; mark = m }) (62 ∷ x) 47 (j + 1) slash refl refl (On (record { state = Tag Slash; mark = j + 1 })) refl
      ∙ goes t start (record { state = Tag Slash; mark = j + 1 }) x 62 (j + 1 + 1) last refl refl (Past EmptyTag (j + 1 + 1 + 1)) refl

  pub empty_closed : scan_from t start in_line (v ++ (34 ∷ (47 ∷ (62 ∷ x)))) i ≡ Past EmptyTag (i + length v + 3)
  empty_closed =
      ap (λ (l : List ℕ). scan_from t start in_line l i) (sym stands)
      ∙ scan_stay t start in_line i j passed
      ∙ ap (λ (l : List ℕ). scan_from t start in_line l j) here
      ∙ closing_on
      ∙ ap (Past EmptyTag) (let z : j + 1 + 1 + 1 ≡ j + 3 = omega arith in z)
