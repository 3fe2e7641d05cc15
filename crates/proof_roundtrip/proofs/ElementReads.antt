-- AN ELEMENT READ BACK, wherever its text stands, word for word. Assumes nothing.
use Prim.Native.Char.{code}
use Prim.Native.Nat.{ℕ, ◌+◌, ◌≤◌, ◌<◌}
use mathlib.Core.Path.{◌≡◌, ◌∙◌, refl, sym, ap}
use mathlib.Core.Bool.{Bool, true, false}
use mathlib.Core.List.{List, [], ◌∷◌, ◌++◌, append_assoc}
use mathlib.Core.Logic.{◌⊎◌, inl, inr, ⊎_elim}
use native.Mathlib.Decide.{ℕ_discrete}
use native.Mathlib.Omega.{arith}
use lib.Dec.{eqb}
use lib.ListN.{length, drop, take, length-append}
use lib.Seq.{get_or-take, ext_get_or, length-take-le}
use borrow.Author.Tests.{ne_eqb}
use Rattle.base_words.specs.Pick.{if◌then◌or_else◌}
use Rattle.base_words.specs.Words.{at, part, greatest}
use Rattle.base_words.proofs.PickLaws.{pick_no}
use Rattle.base_kinds.specs.Kinds.{kind_of, keyword_of}
use Rattle.base_table.specs.Places.{element_words}
use Rattle.base_table.specs.Table.{kind_in}
use Rattle.check_limits.specs.Limits.{element_fits}
use Rattle.text_lexer.specs.declared.Token.{Token}
use Rattle.text_lexer.specs.Lexer.{is_word, is_sign, if_word}
use Rattle.base_bytes.specs.Bytes.{is_letter, is_digit, among, between}
use Rattle.text_lexer.proofs.TokenLaws.{left_at, bytes_at}
use Rattle.text_readers.specs.Reading.{misplaced, passed_to, refused_at, ◌then◌}
use Rattle.text_elements.specs.Elements.{kind_named, blank, parts_of, element_of, element}
use Rattle.write_shown.specs.Shown.{shown_part, shown_parts, shown_element}
use Rattle.proof_roundtrip.specs.Trip.{Below, may_follow, ends}
use Rattle.proof_roundtrip.proofs.ReadsLaws.{Onto, Reads, Both, Nowhere, anything, reads_then}
use Rattle.proof_roundtrip.proofs.SignReads.{reads_sign}
use Rattle.proof_roundtrip.proofs.NumberReads.{Worded, word_token}
use Rattle.proof_roundtrip.proofs.PartTrips.{part_trip}
use Rattle.proof_roundtrip.proofs.BlankLaws.{blank_kind, blank-length, blank_zero}
use Rattle.proof_roundtrip.proofs.KindLaws.{kind_bounds, keyword_names, keyword_word, keyword_some}
use Rattle.proof_roundtrip.proofs.RowLaws.{row_lastly, row_length}
use Rattle.proof_roundtrip.proofs.FitLaws.{fits_kind}
use Rattle.proof_roundtrip.proofs.PartsReads.{Stored, PartTrips, listed_place, reads_parts}
use Rattle.proof_roundtrip.proofs.CoverLaws.{covered}

-- words with nothing but the kind
blank_below : (el x : List ℕ) → length x ≡ element_words → Below el (blank (kind_in el) x)
blank_below el x l = record { each = λ i. go i (ℕ_discrete i 0) }
  where
    go : (i : ℕ) → Dec (i ≡ 0) → (at (blank (kind_in el) x) i ≡ 0) ⊎ (at (blank (kind_in el) x) i ≡ at el i)
    go i (yes e) = inr (ap (at (blank (kind_in el) x)) e ∙ blank_kind (kind_in el) x l ∙ ap (at el) (sym e))
    go i (no n) = inl (blank_zero (kind_in el) x i n)

module _ (el : List ℕ) (small : (i : ℕ) → at el i ≤ greatest) (fit : element_fits el ≡ true) where
  low : 0 < kind_in el
  low = (kind_bounds (kind_in el) (fits_kind el fit)).0

  high : kind_in el < 16
  high = (kind_bounds (kind_in el) (fits_kind el fit)).1

  parts : PartTrips el (kind_of (kind_in el)).parts
  parts c h =
      let r = listed_place (kind_of (kind_in el)).parts c h in
      part_trip el small fit c r.0 (omega (arith, r.1, row_length (kind_in el) low high)) r.2 r.3

  -- its text behind the keyword
  shown_row : List ℕ
  shown_row = shown_parts (code "(") (kind_of (kind_in el)).parts el ++ (code ")" ∷ [])

  reads_row : Reads el (parts_of (kind_in el)) shown_row anything (Both (Stored (kind_of (kind_in el)).parts) Nowhere)
  unfolding parts_of shown_row
  reads_row =
      reads_then (reads_parts el (code "(") (unfold is_sign among in refl) (kind_of (kind_in el)).parts (row_lastly (kind_in el) low high) parts)
      (reads_sign (code ")") (unfold is_sign among in refl)) (λ rest f. unfold ends in refl)

  -- the words read are the element's
  whole : (x y : List ℕ) → length x ≡ element_words → element_words ≤ length el → Onto el (blank (kind_in el) x) y (Both (Stored (kind_of (kind_in el)).parts) Nowhere) → y ≡ take element_words el
  whole x y l long o =
      ext_get_or 0 y (take element_words el) (ly ∙ sym (length-take-le element_words el long))
      (λ i u. word i (omega (arith, u, ly)) (ℕ_discrete i 0) ∙ sym (get_or-take element_words el i 0 (omega (arith, u, ly))))
    where
      ly : length y ≡ element_words
      ly = o.same_length ∙ blank-length (kind_in el) x ∙ l

      word : (i : ℕ) → i < element_words → Dec (i ≡ 0) → at y i ≡ at el i
      word i u (yes e) = o.keeps i (ap (at (blank (kind_in el) x)) e ∙ blank_kind (kind_in el) x l ∙ ap (at el) (sym e))
      word i u (no n) =
          ⊎_elim (λ s. o.reaches i (inl s)) (λ z. ⊎_elim (λ e. e ∙ sym z) (λ e. e) (o.below.each i)) (covered el fit i n u)

  keyword : Worded (keyword_of (kind_in el))
  keyword = record { some = keyword_some (kind_in el) low high; plain = keyword_word (kind_in el) low high }

  -- the sign behind the keyword
  row_stops : (rest : List ℕ) → may_follow (shown_row ++ rest) ≡ true
  unfolding shown_row shown_parts
  row_stops rest = go (kind_of (kind_in el)).parts
    where
      first : (c : ℕ) (cs : List ℕ) (b : Bool) → may_follow (((if b then [] or_else code "(" ∷ (shown_part c el ++ shown_parts (code ",") cs el)) ++ (code ")" ∷ [])) ++ rest) ≡ true
      first c cs true = unfold if◌then◌or_else◌ may_follow is_word is_letter is_digit between in refl
      first c cs false = unfold if◌then◌or_else◌ may_follow is_word is_letter is_digit between in refl

      go : (cs : List ℕ) → may_follow ((shown_parts (code "(") cs el ++ (code ")" ∷ [])) ++ rest) ≡ true
      go [] = unfold may_follow is_word is_letter is_digit between in refl
      go (c ∷ cs) = first c cs (eqb c (code " "))

  -- THE LAW
  pub element_trip : (text rest x : List ℕ) (from : ℕ) → drop from text ≡ shown_element el ++ rest → length x ≡ element_words → element_words ≤ length el
      → element text from x ≡ passed_to (from + length (shown_element el)) (take element_words el)
  unfolding shown_element shown_row
  element_trip text rest x from d l long =
      taken
      ∙ ap (λ (k : ℕ). element_of k from text (from + length (keyword_of (kind_in el))) x) (keyword_names (kind_in el) low high)
      ∙ chosen
      ∙ y.1
      ∙ ap (λ (z : List ℕ). passed_to (from + length w + length shown_row) z) (whole x y.0 l long y.2)
      ∙ ap (λ (q : ℕ). passed_to q (take element_words el)) (let z : from + length w + length shown_row ≡ from + length (w ++ shown_row) = omega (arith, length-append w shown_row) in z)
    where
      w : List ℕ
      w = keyword_of (kind_in el)

      d₁ : drop from text ≡ keyword_of (kind_in el) ++ (shown_row ++ rest)
      d₁ = unfold shown_row in d ∙ append_assoc (keyword_of (kind_in el)) shown_row rest

      y : (z : List ℕ) × (parts_of (kind_in el) text (from + length (keyword_of (kind_in el))) (blank (kind_in el) x) ≡ passed_to (from + length (keyword_of (kind_in el)) + length shown_row) z) × Onto el (blank (kind_in el) x) z (Both (Stored (kind_of (kind_in el)).parts) Nowhere)
      y = reads_row.reads text rest (blank (kind_in el) x) (from + length (keyword_of (kind_in el))) (left_at text from (keyword_of (kind_in el)) (shown_row ++ rest) d₁) refl (blank-length (kind_in el) x ∙ l) (blank_below el x l)

      taken : element text from x ≡ element_of (kind_named (keyword_of (kind_in el))) from text (from + length (keyword_of (kind_in el))) x
      taken =
          unfold element if_word in
          ap (λ (k : Token). if_word k.form (element_of (kind_named (part text k.at k.next)) k.at text k.next x) (refused_at misplaced k.at (blank 0 x)))
          (word_token text (keyword_of (kind_in el)) (shown_row ++ rest) from d₁ keyword (row_stops rest))
          ∙ ap (λ (v : List ℕ). element_of (kind_named v) from text (from + length (keyword_of (kind_in el))) x)
          (bytes_at text from (keyword_of (kind_in el)) (shown_row ++ rest) d₁)

      chosen : element_of (kind_in el) from text (from + length (keyword_of (kind_in el))) x ≡ parts_of (kind_in el) text (from + length (keyword_of (kind_in el))) (blank (kind_in el) x)
      chosen = unfold element_of in sym (pick_no (eqb (kind_in el) 0) _ _ _ (ne_eqb (kind_in el) 0 (λ e. omega (arith, e, low))) refl)
