-- Laws of an element's parts: what every row of the table of kinds has, and the loop over a row's codes. Assumes nothing.
use Prim.Native.Char.{code}
use Prim.Native.Nat.{ℕ, ◌+◌, ◌*◌, ◌≤◌, ◌<◌}
use mathlib.Core.Path.{◌≡◌, refl, sym, ap, ◌∙◌}
use mathlib.Core.Bool.{Bool, true, false}
use mathlib.Core.List.{List, [], ◌++◌, append_assoc, append-nil}
use native.Mathlib.Numerals.{add-one}
use native.Mathlib.Omega.{arith}
use lib.Dec.{leb, ltb, eqb}
use lib.ListN.{length, take, drop, get_or, drop_of_length-le}
use lib.Seq.{drop-cons}
use borrow.Author.Tests.{leb-true, eqb-true, eq-eqb, ne_eqb, lt-ltb, le-ltb}
use Rattle.base_words.specs.Each.{each}
use Rattle.base_words.specs.Pick.{if◌then◌or_else◌}
use Rattle.base_words.proofs.ListLaws.{each_at}
use Rattle.base_words.proofs.PickLaws.{pick_yes, pick_no}
use Rattle.base_kinds.specs.declared.Kind.{Kind}
use Rattle.base_kinds.specs.Kinds.{kinds, kind_of, keyword_of, no_kind}
use Rattle.base_table.specs.Places.{entries_place, exits_place}
use Rattle.base_table.specs.Table.{kind_in}
use Rattle.write_buffer.specs.Buffers.{Put}
use Rattle.write_buffer.proofs.OverLaws.{after, put_as, put_within, put_nothing}
use Rattle.write_shown.specs.Lengths.{keyword_most}
use Rattle.write_shown.specs.Shown.{shown_entries, shown_exits, shown_receiving_list, shown_part, shown_parts}
use Rattle.write_phrases.specs.Pieces.{edge_list, shown_branch, branches}
use Rattle.write_table.specs.Pieces.{signed, parts}

-- every row
row : (f : Kind → Bool) → each f kinds ≡ true → f no_kind ≡ true → (k : ℕ) → f (kind_of k) ≡ true
unfolding kind_of
row f p q k = each_at f kinds no_kind p q k

pub letters_in : (k : ℕ) → (kind_of k).letters ≤ length (kind_of k).keyword
unfolding each
letters_in k = leb-true _ _ (row (λ r. leb r.letters (length r.keyword)) refl refl k)

pub keyword_short : (k : ℕ) → length (keyword_of k) ≤ keyword_most
unfolding each
keyword_short k = leb-true _ _ (row (λ r. leb (length (take r.letters r.keyword)) keyword_most) refl refl k)

-- the keyword by the letters m and the bytes w that calls gave
pub prefix_by : (m k : ℕ) (w : List ℕ) → m ≡ (kind_of k).letters → w ≡ (kind_of k).keyword → m ≤ length w
prefix_by m k w e h = rw (e, h) (letters_in k)

pub keyword_by : (m k : ℕ) (w : List ℕ) → m ≡ (kind_of k).letters → w ≡ (kind_of k).keyword → take m w ≡ keyword_of k
keyword_by m k w e h = rw (e, h)

-- the parts by the codes r that a call gave
pub codes_four : (r : List ℕ) (k : ℕ) → r ≡ (kind_of k).parts → length r ≡ 4
unfolding each
codes_four r k e = rw e (eqb-true _ _ (row (λ x. eqb (length x.parts) 4) refl refl k))

pub parts_by : (el r : List ℕ) (k : ℕ) → r ≡ (kind_of k).parts → k ≡ kind_in el → shown_parts (code "(") r el ≡ parts el
parts_by el r k e h = rw (e, h)

-- the parts that are lists, as they are written
pub entries_is : (el : List ℕ) → edge_list el entries_place ≡ shown_entries el
unfolding shown_entries
entries_is el = refl

pub exits_is : (el : List ℕ) → edge_list el exits_place ≡ shown_exits el
unfolding shown_exits
exits_is el = refl

pub receiving_is : (el : List ℕ) → branches true el ≡ shown_receiving_list el
unfolding shown_receiving_list shown_branch if◌then◌or_else◌
receiving_is el = refl

-- the part with none of the other codes
pub other_part : (c : ℕ) (el : List ℕ) → (c ≡ code "E" → ⊥) → (c ≡ code "X" → ⊥) → (c ≡ code "F" → ⊥) → (c ≡ code "Y" → ⊥) → (c ≡ code "N" → ⊥) → (c ≡ code "T" → ⊥) → (c ≡ code "S" → ⊥) → (c ≡ code "G" → ⊥)
    → shown_receiving_list el ≡ shown_part c el
unfolding shown_part
other_part c el e x f y n t s g =
    pick_no _ _ _ _ (ne_eqb c _ e) (pick_no _ _ _ _ (ne_eqb c _ x) (pick_no _ _ _ _ (ne_eqb c _ f) (pick_no _ _ _ _ (ne_eqb c _ y)
    (pick_no _ _ _ _ (ne_eqb c _ n) (pick_no _ _ _ _ (ne_eqb c _ t) (pick_no _ _ _ _ (ne_eqb c _ s) (pick_no _ _ _ _ (ne_eqb c _ g) refl)))))))

-- What is known in a loop that writes a text piece by piece: of the whole text, so much was written, and a rest is to come.
pub record Going (whole rest : List ℕ) (most from : ℕ) (out : List ℕ) (r : ℕ) (now : List ℕ) : Type 0 where
  pub text : List ℕ
  pub written : Put text most from out r now
  pub is : text ++ rest ≡ whole

pub going_none : (w : List ℕ) (k from : ℕ) (out : List ℕ) → Going w w (0 * k) from out from out
going_none w k from out = record { text = []; written = put_within (put_nothing from out) (omega arith); is = refl }

pub going_more : {whole rest out o now : List ℕ} {m most m' from k r : ℕ} (w next : List ℕ) → rest ≡ w ++ next → Going whole rest m from out k o → Put w most k o r now → m + most ≤ m' → Going whole next m' from out r now
going_more w next q g p l = record {
  text = g.text ++ w;
  written = put_within (after g.written p) l;
  is = append_assoc g.text w next ∙ ap (λ x. g.text ++ x) (sym q) ∙ g.is;
}

pub going_done : {whole rest out now : List ℕ} {m from r : ℕ} → rest ≡ [] → Going whole rest m from out r now → Put whole m from out r now
going_done {whole} q g = put_as whole (sym (append-nil g.text) ∙ ap (λ x. g.text ++ x) (sym q) ∙ g.is) g.written

-- the rest of a row's four codes from place i on
module _ (s : ℕ) (codes el : List ℕ) (i : ℕ) (four : length codes ≡ 4) where
  pub parts_next : i < 4 → (get_or codes i 0 ≡ code " " → ⊥) → shown_parts s (drop i codes) el ≡ signed s (get_or codes i 0) el ++ shown_parts (code ",") (drop (i + 1) codes) el
  unfolding shown_parts
  parts_next h n = rw (add-one i, drop-cons codes i 0 (omega arith)) (sym (pick_no _ _ _ _ (ne_eqb (get_or codes i 0) (code " ") n) refl))

  pub parts_end : i < 4 → get_or codes i 0 ≡ code " " → shown_parts s (drop i codes) el ≡ []
  unfolding shown_parts
  parts_end h e = rw (drop-cons codes i 0 (omega arith)) (sym (pick_yes _ _ _ _ (eq-eqb (get_or codes i 0) (code " ") e) refl))

  pub parts_out : 4 ≤ i → shown_parts s (drop i codes) el ≡ []
  unfolding shown_parts
  parts_out h = let l : length codes ≤ i = omega arith in rw (drop_of_length-le codes l)

-- a place among the pools, by the count n that a call's result r is known to equal
pub in_use : (p r n : ℕ) → r ≡ n → p < r → ltb p n ≡ true
in_use p r n e h = lt-ltb p n (omega arith)

pub not_in_use : (p r n : ℕ) → r ≡ n → r ≤ p → ltb p n ≡ false
not_in_use p r n e h = le-ltb p n (omega arith)
