-- Keywords, parts one after the other, and an element, by the calls on the way. Assumes nothing.
use Prim.Native.Nat.{ℕ, ◌+◌, ◌-◌, ◌<◌, ◌≤◌}
use mathlib.Core.Path.{◌≡◌, refl, sym, ◌∙◌, ap}
use mathlib.Core.Bool.{Bool, false, not}
use mathlib.Core.List.{List}
use native.Mathlib.Numerals.{add-one}
use native.Mathlib.Omega.{arith}
use lib.Dec.{eqb}
use lib.ListN.{length, set, drop, take, get_or, replicate, drop_of_length-le}
use lib.Seq.{drop-cons}
use borrow.Author.Tests.{eq-eqb, ne_eqb, eqb-true}
use Rattle.base_words.specs.Each.{each}
use Rattle.base_words.specs.Pick.{if◌then◌or_else◌}
use Rattle.base_words.specs.Seek.{seek}
use Rattle.base_words.specs.Words.{part}
use Rattle.base_words.proofs.AllLaws.{lt_ltb_by, le_ltb_by}
use Rattle.base_words.proofs.ListLaws.{each_at}
use Rattle.base_words.proofs.PickLaws.{pick_yes, pick_no}
use Rattle.base_kinds.specs.declared.Kind.{Kind}
use Rattle.base_kinds.specs.Kinds.{no_kind, kinds, kind_of, keyword_of}
use Rattle.base_table.specs.Places.{kind_place}
use Rattle.text_lexer.specs.declared.Token.{Token}
use Rattle.text_lexer.specs.declared.Form.TheVariants.{Word}
use Rattle.text_lexer.specs.Lexer.{token_at}
use Rattle.base_bytes.specs.Bytes.{same_bytes}
use Rattle.base_bytes.proofs.SameLaws.{same_lengths}
use Rattle.std.specs.Result.{IsErrAnd}
use Rattle.std.specs.declared.result.Result.TheVariants.{Ok, Err}
use Rattle.text_readers.specs.declared.Refusal.{Refusal}
use Rattle.text_readers.specs.Reading.{Read, Parsed, Reader, misplaced, passed_to, refused_at, if_at, onward, ◌then◌, letters, sign_at, sign}
use Rattle.text_readers.proofs.ReadingLaws.{then_passed, then_stopped, sign_last}
use Rattle.text_readers.proofs.WordLaws.{word_read, word_missed}
use Rattle.text_parts.specs.Parts.{part_of}
use Rattle.text_elements.specs.Elements.{kind_count, is_keyword, kind_named, blank, parts_from, parts_of, element_of, element, starts_element}

-- the keyword of kind k: its letters, and how many they are
letters_many : (k : ℕ) → length (keyword_of k) ≡ (kind_of k).letters
unfolding each kind_of
letters_many k = eqb-true _ _ (each_at (λ (r : Kind). eqb (length (take r.letters r.keyword)) r.letters) kinds no_kind refl refl k)

pub keyword_other : (w : List ℕ) (k m n : ℕ) → m ≡ (kind_of k).letters → n ≡ m → (length w ≡ n → ⊥) → false ≡ same_bytes w (keyword_of k)
keyword_other w k m n e g h = sym (same_lengths w (keyword_of k) (λ q. h (q ∙ letters_many k ∙ sym (g ∙ e))))

pub keyword_is : (w l b : List ℕ) (k m n : ℕ) (r : Bool) → m ≡ (kind_of k).letters → n ≡ m → b ≡ (kind_of k).keyword → l ≡ part b 0 n → r ≡ same_bytes w l → r ≡ same_bytes w (keyword_of k)
keyword_is w l b k m n r e g q p h =
    let z : n - 0 ≡ n = omega arith in
    h ∙ ap (same_bytes w) (p ∙ ap (λ j. take j b) (z ∙ g ∙ e) ∙ ap (take (kind_of k).letters) q)

pub keyword_no : (w : List ℕ) (j : ℕ) (r : Bool) → r ≡ same_bytes w (keyword_of (j + 1)) → r ≡ is_keyword w j
unfolding is_keyword
keyword_no w j r e = e

-- readers one after the other, in either grouping
pub then_then : (f g h : Reader) (text : List ℕ) (at : ℕ) (x : List ℕ) → ((f then g) then h) text at x ≡ (f then (g then h)) text at x
unfolding ◌then◌ onward if_at
then_then f g h text at x = go (f text at x).end (f text at x).words
  where
    go : (e : Read) (y : List ℕ) → onward (onward (record { end = e; words = y }) (g text)) (h text) ≡ onward (record { end = e; words = y }) (λ q z. onward (g text q z) (h text))
    go (Ok q) y = refl
    go (Err e) y = refl

-- one turn of the parts, from the code at the place i on: W is what they come to
module _ (s : ℕ) (cs text : List ℕ) (at i : ℕ) (x : List ℕ) (W : Parsed) (inv : parts_from s (drop i cs) text at x ≡ W) where
  pub parts_end : length cs ≤ i → passed_to at x ≡ W
  unfolding parts_from
  parts_end h = sym (ap (λ l. parts_from s l text at x) (drop_of_length-le cs h)) ∙ inv

  module _ (h : i < length cs) where
    pub parts_blank : get_or cs i 0 ≡ 32 → passed_to at x ≡ W
    unfolding parts_from if◌then◌or_else◌
    parts_blank e = (rw (drop-cons cs i 0 h, e)) ∙ inv

    module _ (n : get_or cs i 0 ≡ 32 → ⊥) (r : Read) (y : List ℕ) (e : record { end = r; words = y } ≡ (sign s then part_of (get_or cs i 0)) text at x) where
      turn : ((sign s then part_of (get_or cs i 0)) then parts_from 44 (drop (i + 1) cs)) text at x ≡ W
      unfolding parts_from if◌then◌or_else◌
      turn =
          then_then (sign s) (part_of (get_or cs i 0)) (parts_from 44 (drop (i + 1) cs)) text at x
          ∙ (rw (drop-cons cs i 0 h, ne_eqb (get_or cs i 0) 32 n, add-one)) ∙ inv

      pub parts_stopped : (d : Refusal) (v : Read) → r ≡ Err d → IsErrAnd v (λ (z : Refusal). z ≡ d) → record { end = v; words = y } ≡ W
      parts_stopped d v q k = then_stopped (sign s then part_of (get_or cs i 0)) (parts_from 44 (drop (i + 1) cs)) text at x r y e d v q k ∙ turn

      pub parts_more : (a : ℕ) → r ≡ Ok a → parts_from 44 (drop (i + 1) cs) text a y ≡ W
      parts_more a q = then_passed (sign s then part_of (get_or cs i 0)) (parts_from 44 (drop (i + 1) cs)) text at x r y e a _ q refl ∙ turn

-- what stands in x beforehand does not matter
pub blank_any : (k : ℕ) (x y : List ℕ) → length x ≡ length y → blank k x ≡ blank k y
unfolding blank
blank_any k x y e = ap (λ n. set (replicate n 0) kind_place k) e

pub element_any : (text : List ℕ) (at : ℕ) (x y : List ℕ) → length x ≡ length y → element text at x ≡ element text at y
unfolding element element_of
element_any text at x y e = rw (blank_any 0 x y e, blank_any (kind_named (letters text at)) x y e)

-- an element of kind k
module _ (text : List ℕ) (k p q : ℕ) (x y : List ℕ) (e : y ≡ blank k x) where
  pub no_kind_lem : k ≡ 0 → refused_at misplaced p y ≡ element_of k p text q x
  unfolding element_of
  no_kind_lem z = pick_yes _ _ _ _ (eq-eqb k 0 z) (ap (refused_at misplaced p) (e ∙ ap (λ j. blank j x) z))

  pub of_kind_lem : (w : Parsed) → (k ≡ 0 → ⊥) → w ≡ parts_of k text q y → w ≡ element_of k p text q x
  unfolding element_of
  of_kind_lem w n h = pick_no _ _ _ _ (ne_eqb k 0 n) (h ∙ ap (parts_of k text q) e)

-- the kind that a word names
pub named : (w : List ℕ) (j : ℕ) → j ≡ seek (is_keyword w) kind_count → j < kind_count → j + 1 ≡ kind_named w
unfolding kind_named
named w j e h = pick_yes _ _ _ _ (lt_ltb_by j _ kind_count e h) (ap (λ n. n + 1) e)

pub unnamed : (w : List ℕ) (j : ℕ) → j ≡ seek (is_keyword w) kind_count → kind_count ≤ j → 0 ≡ kind_named w
unfolding kind_named
unnamed w j e h = pick_no _ _ _ _ (le_ltb_by j _ kind_count e h) refl

-- an element by its first token
module _ (text : List ℕ) (at : ℕ) (t : Token) (e : t ≡ token_at text at) where
  module _ (x : List ℕ) where
    abbrev of_word : List ℕ → ℕ → ℕ → Parsed
    of_word l p q = element_of (kind_named l) p text q x

    abbrev of_other : ℕ → Parsed
    of_other p = refused_at misplaced p (blank 0 x)

    pub element_no : (y : List ℕ) → (t.form ≡ Word → ⊥) → y ≡ blank 0 x → refused_at misplaced t.at y ≡ element text at x
    unfolding element
    element_no y f h = word_missed text at t e of_word of_other (refused_at misplaced t.at y) f (ap (refused_at misplaced t.at) h)

    pub element_yes : (w : Parsed) (l : List ℕ) (k : ℕ) → t.form ≡ Word → l ≡ part text t.at t.next → k ≡ kind_named l → w ≡ element_of k t.at text t.next x → w ≡ element text at x
    unfolding element
    element_yes w l k f h n r = word_read text at t e of_word of_other w l f h (r ∙ ap (λ j. element_of j t.at text t.next x) n)

  pub starts_no : (t.form ≡ Word → ⊥) → false ≡ starts_element text at
  unfolding starts_element
  starts_no f = word_missed text at t e (λ l p q. not (eqb (kind_named l) 0)) (λ p. false) false f refl

  pub starts_yes : (l : List ℕ) (k : ℕ) → t.form ≡ Word → l ≡ part text t.at t.next → k ≡ kind_named l → not (eqb k 0) ≡ starts_element text at
  unfolding starts_element
  starts_yes l k f h n = word_read text at t e (λ z p q. not (eqb (kind_named z) 0)) (λ p. false) (not (eqb k 0)) l f h (ap (λ j. not (eqb j 0)) n)

-- the parts of kind k, and the closing sign
module _ (text : List ℕ) (at : ℕ) (x : List ℕ) (k : ℕ) (codes : List ℕ) (er : codes ≡ (kind_of k).parts) (r : Read) (y : List ℕ)
    (e : record { end = r; words = y } ≡ parts_from 40 codes text at x) where
  by_row : record { end = r; words = y } ≡ parts_from 40 (kind_of k).parts text at x
  by_row = e ∙ ap (λ (d : List ℕ). parts_from 40 d text at x) er

  pub row_stopped : (d : Refusal) (v : Read) → r ≡ Err d → IsErrAnd v (λ (z : Refusal). z ≡ d) → record { end = v; words = y } ≡ parts_of k text at x
  unfolding parts_of
  row_stopped d v h f = then_stopped (parts_from 40 (kind_of k).parts) (sign 41) text at x r y by_row d v h f

  pub row_closed : (q : ℕ) (v : Read) → r ≡ Ok q → v ≡ sign_at 41 text q → record { end = v; words = y } ≡ parts_of k text at x
  unfolding parts_of
  row_closed q v h s = then_passed (parts_from 40 (kind_of k).parts) (sign 41) text at x r y by_row q _ h (sign_last 41 text q y v s)
