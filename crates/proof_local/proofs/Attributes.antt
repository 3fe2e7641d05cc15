-- AN ATTRIBUTE OF A TAG THAT IS WHOLE in a beginning of a text is the text's own. Assumes nothing.
use Rattle.std.specs.Prelude.{Some, None, Option}
use mathlib.Core.Path.{◌≡◌, ◌∙◌, refl, sym, ap, subst}
use mathlib.Core.Bool.{Bool, true, false, not, false≢true}
use mathlib.Core.List.{List, [], ◌∷◌}
use Prim.Native.Nat.{ℕ, zero, suc, ◌+◌, ◌-◌, ◌<◌, ◌≤◌}
use native.Mathlib.Omega.{arith}
use lib.ListN.{length, take, drop, length-drop}
use lib.Seq.{drop-drop}
use Rattle.base_words.specs.Pick.{if◌then◌or_else◌}
use Rattle.base_words.specs.Words.{at, part}
use Rattle.base_bytes.specs.Bytes.{same_bytes}
use Rattle.xml_characters.specs.Names.{is_name}
use Rattle.xml_scanner.specs.declared.Sort.{Sort}
use Rattle.xml_scanner.specs.declared.Sort.TheVariants.{StartTag, EmptyTag, EndTag as AnEndTag, Text, Reference as AReference, Comment as AComment, Data as ASection, Instruction as AnInstruction, End, Fault as AFault}
use Rattle.xml_scanner.specs.declared.InInstruction.{InInstruction}
use Rattle.xml_scanner.specs.declared.InInstruction.TheVariants.{Opened, Target as InTarget, TargetMark, Inside, Mark}
use Rattle.xml_scanner.specs.declared.InTag.{InTag}
use Rattle.xml_scanner.specs.declared.InTag.TheVariants.{Name, Blank, Attribute as InAttribute, Named, Equals, Value, Reference as InReference, Behind as BehindValue, Slash}
use Rattle.xml_scanner.specs.declared.State.{State}
use Rattle.xml_scanner.specs.declared.State.TheVariants.{Begin, Opening, Comment, Data, Instruction, Tag, EndTag, Reference as AtReference}
use Rattle.xml_skip.specs.declared.Tag.{Tag as TagAnswer}
use Rattle.xml_skip.specs.declared.Tag.TheVariants.{Open, Empty, Fault as TagFault}
use Rattle.xml_skip.specs.Skipping.{tag_by, tag_of}
use Rattle.xml_markup.specs.declared.Class.TheVariants.{Blanks, Value as NotByte}
use Rattle.xml_markup.specs.declared.Cursor.{Cursor}
use Rattle.xml_markup.specs.declared.Scan.{Scan}
use Rattle.xml_markup.specs.declared.Scan.TheVariants.{On, Past, Fault}
use Rattle.xml_markup.specs.declared.Whole.{Whole}
use Rattle.xml_markup.specs.declared.Whole.TheVariants.{Attribute as AnAttribute, Target, Reference}
use Rattle.xml_markup.specs.Tokens.{end_of, whole_in_tag, whole_in_instruction, whole, moved, if_on, if_attribute, is_named, found_from, found, begun}
use Rattle.xml_markup.specs.Markup.{scan_from, scan, opens_markup, placed, markup}
use Rattle.xml_markup.specs.Spans.{run, quote_at, value_at, value_of, attribute}
use Rattle.proof_local.proofs.Beginnings.{byte, piece, rest, ran, next_is, next_in}
use Rattle.proof_local.proofs.Scans.{late_from}
use Rattle.proof_local.proofs.Markups.{opened_is}
use Rattle.proof_local.proofs.Courses.{here, Ends, ends_before, ends_moved, Goes}
use Rattle.proof_local.proofs.Values.{Valued, attribute_valued}

-- ONLY IN AN ATTRIBUTE'S NAME does a byte show one to be whole, and that byte is none of a name
pub record Shows (s : State) (b : ℕ) : Type 0 where
  pub state : s ≡ Tag InAttribute
  pub ended : is_name b ≡ false

module _ (x : Bool) where
  not_ended : {A : Type 0} (w : Whole) (q : Bool) → if_attribute w x false ≡ false → if_attribute (end_of w q) x false ≡ true → A
  unfolding end_of if_attribute if◌then◌or_else◌
  not_ended w true e f = absurd (false≢true (sym e ∙ f))
  not_ended w false e f = absurd (false≢true f)

  shown : (b : ℕ) (n : Bool) → is_name b ≡ n → if_attribute (end_of AnAttribute (not n)) x false ≡ true → Shows (Tag InAttribute) b
  unfolding end_of if_attribute if◌then◌or_else◌
  shown b true e f = absurd (false≢true f)
  shown b false e f = record { state = refl; ended = e }

  in_tag_lem : (s : InTag) (b : ℕ) → if_attribute (whole_in_tag s b) x false ≡ true → Shows (Tag s) b
  unfolding whole_in_tag if_attribute
  in_tag_lem Name b e = absurd (false≢true e)
  in_tag_lem Blank b e = absurd (false≢true e)
  in_tag_lem InAttribute b e = shown b (is_name b) refl e
  in_tag_lem Named b e = absurd (false≢true e)
  in_tag_lem Equals b e = absurd (false≢true e)
  in_tag_lem (Value q) b e = absurd (false≢true e)
  in_tag_lem (InReference q) b e = not_ended Reference _ refl e
  in_tag_lem BehindValue b e = absurd (false≢true e)
  in_tag_lem Slash b e = absurd (false≢true e)

  in_instruction_lem : {A : Type 0} (s : InInstruction) (b : ℕ) → if_attribute (whole_in_instruction s b) x false ≡ true → A
  unfolding whole_in_instruction if_attribute
  in_instruction_lem Opened b e = absurd (false≢true e)
  in_instruction_lem InTarget b e = not_ended Target _ refl e
  in_instruction_lem TargetMark b e = absurd (false≢true e)
  in_instruction_lem Inside b e = absurd (false≢true e)
  in_instruction_lem Mark b e = absurd (false≢true e)

  in_state : (s : State) (b : ℕ) → if_attribute (whole s b) x false ≡ true → Shows s b
  unfolding whole if_attribute
  in_state Begin b e = absurd (false≢true e)
  in_state (Opening s) b e = absurd (false≢true e)
  in_state (Comment s) b e = absurd (false≢true e)
  in_state (Data s) b e = absurd (false≢true e)
  in_state (Instruction s) b e = in_instruction_lem s b e
  in_state (Tag s) b e = in_tag_lem s b e
  in_state (EndTag s) b e = absurd (false≢true e)
  in_state AtReference b e = not_ended Reference _ refl e

-- a value that ends before n
abbrev pub Short : ℕ → Option (ℕ × ℕ) → Type 0
Short n (Some (from, to)) = to ≤ n
Short n None = Unit {0}

-- x is the text's, y the beginning's
pub record Alike (n : ℕ) (x y : Option (ℕ × ℕ)) : Type 0 where
  pub same : y ≡ x
  pub short : Short n x

module _ (t : List ℕ) (n : ℕ) (inside : n ≤ length t) (start : ℕ) (name : List ℕ) where
  -- THE NAME is found at the same place
  named_same : (c : Cursor) (i : ℕ) → i < n → is_named (take n t) name c i ≡ is_named t name c i
  unfolding is_named
  named_same c i h = rw (byte t n inside i h, piece t n inside c.mark i (omega arith)) refl

  found_from_lem : (s : List ℕ) (c : Cursor) (i k : ℕ) → i + k ≡ n → k ≤ length s → Ends n (scan_from t start c s i) → found_from (take n t) name c (take k s) i ≡ found_from t name c s i
  unfolding found_from
  found_from_lem s c i zero e l g = absurd (omega (arith, e, ends_before n i (scan_from t start c s i) (late_from t start s c i) g))
  found_from_lem [] c i (suc k) e l g = absurd (omega (arith, l))
  found_from_lem (b ∷ s) c i (suc k) e l g =
      rw (named_same c i (omega arith), byte t n inside i (omega arith))
      (go (is_named t name c i) (moved c (at t i) i (i + 1)) (ends_moved t n start c b s i g) (λ next f. found_from_lem s next (i + 1) k (omega arith) (omega arith) f))
    where
      go : (x : Bool) (r : Scan) → Ends n (if_on r (λ next. scan_from t start next s (i + 1)) r) → ((next : Cursor) → Ends n (scan_from t start next s (i + 1)) → found_from (take n t) name next (take k s) (i + 1) ≡ found_from t name next s (i + 1)) → (if x then Some i or_else if_on r (λ next. found_from (take n t) name next (take k s) (i + 1)) None) ≡ (if x then Some i or_else if_on r (λ next. found_from t name next s (i + 1)) None)
      go true r f q = unfold if◌then◌or_else◌ in refl
      go false (On next) f q = unfold if◌then◌or_else◌ if_on in q next (unfold if_on in f)
      go false (Past sort j) f q = unfold if◌then◌or_else◌ if_on in refl
      go false (Fault j) f q = unfold if◌then◌or_else◌ if_on in refl

  -- ITS VALUE is the same
  at_quote : (j : ℕ) → j < n → run (NotByte (at t j)) t (j + 1) < n → Alike n (value_at t j) (value_at (take n t) j)
  unfolding value_at
  at_quote j h k =
      rw (next_in t n inside j h, next_is t n inside j (omega arith), byte t n inside j h)
      (record { same = ap (λ (e : ℕ). Some (j + 1, e)) ((ran t n inside (NotByte (at t j)) (j + 1) (omega arith)).same (omega (arith, k))); short = omega (arith, k) })

  module _ (i : ℕ) (h : i < n) (v : Valued t n start inside i) where
    equals_same : run Blanks (take n t) i ≡ run Blanks t i
    equals_same = (ran t n inside Blanks i (omega arith)).same (omega (arith, v.equals_in))

    quote_same : quote_at (take n t) i ≡ run Blanks t (run Blanks t i + 1)
    unfolding quote_at
    quote_same = rw (equals_same, next_in t n inside (run Blanks t i) v.equals_in) ((ran t n inside Blanks (run Blanks t i + 1) (omega (arith, v.equals_in))).same (omega (arith, v.quoted_in.quote_in)))

    quote_is : quote_at t i ≡ run Blanks t (run Blanks t i + 1)
    unfolding quote_at
    quote_is = rw (next_is t n inside (run Blanks t i) (omega (arith, v.equals_in, inside))) refl

    value_alike : Alike n (value_at t (quote_at t i)) (value_at (take n t) (quote_at (take n t) i))
    value_alike = rw (quote_same, quote_is) (at_quote (run Blanks t (run Blanks t i + 1)) v.quoted_in.quote_in v.quoted_in.value_in_lem)

  shown_value : (c : Cursor) (i : ℕ) → Ends n (scan_from t start c (drop i t) i) → is_named t name c i ≡ true → Alike n (value_at t (quote_at t i)) (value_at (take n t) (quote_at (take n t) i))
  shown_value c i g e = value_alike i (ends_before n i (scan_from t start c (drop i t) i) (late_from t start (drop i t) c i) g) (attribute_valued t n start inside i shows.ended goes)
    where
      shows : Shows c.state (at t i)
      shows = unfold is_named in in_state (same_bytes (part t c.mark i) name) c.state (at t i) (unfold is_named in e)

      goes : Goes t n start (Tag InAttribute) i
      goes = record { mark = c.mark; ends = subst (λ (s : State). Ends n (scan_from t start (here s c.mark) (drop i t) i)) shows.state g }

  value_from : (s : List ℕ) (c : Cursor) (i : ℕ) → s ≡ drop i t → Ends n (scan_from t start c s i) → Alike n (value_of t (found_from t name c s i)) (value_of (take n t) (found_from t name c s i))
  unfolding found_from value_of
  value_from [] c i e g = record { same = refl; short = tt }
  value_from (b ∷ s) c i e g = go (is_named t name c i) refl (moved c (at t i) i (i + 1)) (ends_moved t n start c b s i g) (λ next f. value_from s next (i + 1) (ap (drop 1) e ∙ drop-drop 1 i t) f)
    where
      go : (x : Bool) → is_named t name c i ≡ x → (r : Scan) → Ends n (if_on r (λ next. scan_from t start next s (i + 1)) r) → ((next : Cursor) → Ends n (scan_from t start next s (i + 1)) → Alike n (value_of t (found_from t name next s (i + 1))) (value_of (take n t) (found_from t name next s (i + 1)))) → Alike n (value_of t (if x then Some i or_else if_on r (λ next. found_from t name next s (i + 1)) None)) (value_of (take n t) (if x then Some i or_else if_on r (λ next. found_from t name next s (i + 1)) None))
      go true ex r f q = unfold if◌then◌or_else◌ value_of in shown_value c i (subst (λ (l : List ℕ). Ends n (scan_from t start c l i)) e g) ex
      go false ex (On next) f q = unfold if◌then◌or_else◌ if_on in q next (unfold if_on in f)
      go false ex (Past sort j) f q = unfold if◌then◌or_else◌ if_on value_of in record { same = refl; short = tt }
      go false ex (Fault j) f q = unfold if◌then◌or_else◌ if_on value_of in record { same = refl; short = tt }

-- THE LAW: in a tag that is whole
abbrev pub WholeTag : ℕ → TagAnswer → Type 0
WholeTag n (Open q) = q ≤ n
WholeTag n (Empty q) = q ≤ n
WholeTag n (TagFault q) = ⊥

ends_sort : (n p : ℕ) (s : Sort) (q : ℕ) → WholeTag n (tag_by s q p) → q ≤ n
unfolding tag_by
ends_sort n p StartTag q h = h
ends_sort n p EmptyTag q h = h
ends_sort n p AnEndTag q h = absurd h
ends_sort n p Text q h = absurd h
ends_sort n p AReference q h = absurd h
ends_sort n p AComment q h = absurd h
ends_sort n p ASection q h = absurd h
ends_sort n p AnInstruction q h = absurd h
ends_sort n p End q h = absurd h
ends_sort n p AFault q h = absurd h

ends_tag : (n p : ℕ) (r : Scan) → WholeTag n (tag_of (placed r) p) → Ends n r
unfolding tag_of placed
ends_tag n p (On c) h = absurd (unfold tag_by in h)
ends_tag n p (Past s q) h = ends_sort n p s q h
ends_tag n p (Fault q) h = absurd (unfold tag_by in h)

module _ (t : List ℕ) (n : ℕ) (inside : n ≤ length t) (p : ℕ) (h : p < n) (opens : opens_markup (at t p) ≡ true) (tag : WholeTag n (tag_of (markup t p) p)) (name : List ℕ) where
  ends : Ends n (scan t p)
  ends = ends_tag n p (scan t p) (rw (opened_is t n inside p h opens) at tag)

  found_same : found (take n t) name p ≡ found t name p
  unfolding found
  found_same = rw (rest t n inside p (omega arith)) (found_from_lem t n inside p name (drop p t) (begun p) p (n - p) (omega arith) (omega (arith, length-drop p t)) (unfold scan in ends))

  pub attribute_alike : Alike n (attribute t p name) (attribute (take n t) p name)
  unfolding attribute
  attribute_alike = rw found_same (unfold found in value_from t n inside p name (drop p t) (begun p) p refl (unfold scan in ends))
