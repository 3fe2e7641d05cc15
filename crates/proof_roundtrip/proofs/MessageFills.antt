-- Messages and assignments stored. Assumes nothing.
use Prim.Native.Char.{code}
use Prim.Native.Nat.{ℕ, ◌+◌, ◌-◌, ◌/◌, ◌≤◌, ◌<◌}
use mathlib.Core.Path.{◌≡◌, ◌∙◌, refl, ap}
use mathlib.Core.Bool.{true, ◌&&◌}
use mathlib.Core.List.{List}
use mathlib.Core.Logic.{⊎_elim}
use native.Mathlib.Omega.{arith}
use lib.Dec.{leb, ltb}
use lib.ListN.{drop}
use lib.Seq.{get_or-drop, drop-drop}
use borrow.Author.Tests.{le-leb, lt-ltb}
use Rattle.base_words.specs.Counts.{branches, names, values}
use Rattle.base_words.specs.Pick.{if◌then◌or_else◌}
use Rattle.base_words.specs.Words.{at, greatest}
use Rattle.base_words.proofs.PickLaws.{and_true}
use Rattle.base_kinds.specs.Kinds.{none}
use Rattle.base_table.specs.Places.{element_words, message_place, length_place, item_place}
use Rattle.check_limits.specs.Limits.{things, item_fits, message_fits}
use Rattle.text_readers.specs.Reading.{Reader}
use Rattle.text_parts.specs.Parts.{a_template_item, a_message_item, tuple, item_of, starts, series, message}
use Rattle.proof_roundtrip.proofs.NumberReads.{Span}
use Rattle.check_limits.proofs.SameLaws.{things_same, item_same, message_same}
use Rattle.proof_roundtrip.proofs.FillLaws.{Fills, span_region, idle_sign, fills_then, fills_behind, fills_wider}
use Rattle.proof_roundtrip.proofs.WordFills.{Ranged, fills_number}
use Rattle.proof_roundtrip.proofs.ExpressionFills.{tail_same, fills_message_item, fills_template_item}
use Rattle.proof_roundtrip.proofs.ListFills.{things_of, Region, Many, region_cases, fills_all, fills_empty, fills_series}

message_of : (x : List ℕ) (receives : ℕ) → at x 0 < names → at x 1 ≤ values → things (drop 2 x) 5 values (at x 1) (item_fits receives) ≡ true → message_fits receives x ≡ true
unfolding message_fits
message_of x receives n l t =
    and_true (ltb (at x 0) names && leb (at x 1) values) (things (drop 2 x) 5 values (at x 1) (item_fits receives)) (and_true (ltb (at x 0) names) (leb (at x 1) values) (lt-ltb (at x 0) names n) (le-leb (at x 1) values l)) t

-- ITEMS: how many there are, and that they are right
module _ (b receives : ℕ) (h : b < branches) where
  abbrev Tuple : List ℕ → Type 0
  Tuple y = (at y (length_place b) ≤ values) × (things (drop (message_place b + 2) y) 5 values (at y (length_place b)) (item_fits receives) ≡ true)

  tuple_local : (y z : List ℕ) → ((i : ℕ) → Span (length_place b) 21 i → at z i ≡ at y i) → Tuple y → Tuple z
  tuple_local y z s t =
      let e : at z (length_place b) ≡ at y (length_place b) = s (length_place b) (omega arith, omega arith) in (
        omega (arith, e, t.0),
        ap (λ (n : ℕ). things (drop (message_place b + 2) z) 5 values n (item_fits receives)) e
            ∙ things_same (drop (message_place b + 2) y) (drop (message_place b + 2) z) 5 values (at y (length_place b)) 20 (item_fits receives) (λ j l. omega (arith, l, t.0)) (omega (arith, t.0))
            (λ c d e. item_same c d receives e) (tail_same y z (message_place b + 2) 20 (λ i r. s i (omega (arith, r.0), omega (arith, r.1))))
            ∙ t.1,
      )

  module _ (item : ℕ) (each_item : (j : ℕ) → j < values → Fills (item_of (tuple item b) j) (Span (item_place b j) 5) (λ y. item_fits receives (drop (item_place b j) y) ≡ true)) where
    abbrev Place : ℕ → ℕ → Type 0
    Place j = Span (item_place b j) 5

    abbrev Right : ℕ → List ℕ → Type 0
    Right j y = item_fits receives (drop (item_place b j) y) ≡ true

    items_apart : (j k i : ℕ) → j < k → k < values → Place j i → Place k i → ⊥
    items_apart j k i l u s t = omega (arith, l, s.1, t.0)

    items_outside : (j : ℕ) → j < values → Place j (length_place b) → ⊥
    items_outside j l s = omega (arith, s.0)

    in_words : length_place b < element_words
    in_words = omega (arith, h)

    few : values ≤ greatest
    few = omega arith

    wider : {f : Reader} → Fills f (Region (item_of (tuple item b)) (starts item) 0 (length_place b) values Place Right each_item items_apart items_outside in_words few 0 values) (Many (item_of (tuple item b)) (starts item) 0 (length_place b) values Place Right each_item items_apart items_outside in_words few 0 0 values) → Fills f (Span (length_place b) 21) Tuple
    wider a =
        fills_wider (span_region (length_place b) 21)
        (λ i r. ⊎_elim (λ e. (omega (arith, e), omega (arith, e))) (λ m. (omega (arith, m.3.0), omega (arith, m.3.1, m.2))) (region_cases (item_of (tuple item b)) (starts item) 0 (length_place b) values Place Right each_item items_apart items_outside in_words few values 0 i r))
        tuple_local
        (λ y m z. (
          omega (arith, m.counts, m.most),
          ap (λ (n : ℕ). things (drop (message_place b + 2) y) 5 values n (item_fits receives)) m.counts
              ∙ things_of y (message_place b + 2) 5 values m.number (item_fits receives) (λ j l. m.right j (omega arith) l)
              (λ i s. m.rest ((i - (message_place b + 2)) / 5) (omega (arith, s.0)) (omega (arith, s.0, s.1, m.most)) i (omega (arith, s.0), omega (arith, s.0))),
        ))
        a

    fills_tuple : Fills (series (tuple item b)) (Span (length_place b) 21) Tuple
    fills_tuple = fills_series (tuple item b) (wider (fills_all (item_of (tuple item b)) (starts item) 0 (length_place b) values Place Right each_item items_apart items_outside in_words few)) (λ e. wider (fills_empty (item_of (tuple item b)) (starts item) 0 (length_place b) values Place Right each_item items_apart items_outside in_words few refl))

    -- A MESSAGE
    fills_message : Fills (message item b) (Span (message_place b) 22) (λ y. message_fits receives (drop (message_place b) y) ≡ true)
    unfolding message
    fills_message =
        fills_wider (span_region (message_place b) 22) (λ i. ⊎_elim (λ e. (omega (arith, e), omega (arith, e))) (λ s. (omega (arith, s.0), omega (arith, s.1))))
        (λ y z s f. message_same (drop (message_place b) y) (drop (message_place b) z) receives (tail_same y z (message_place b) 22 s) ∙ f)
        (λ y q z. fit y q.0 q.1)
        (fills_then (fills_number 0 15 (message_place b) (omega (arith, h)) (omega arith)) (fills_behind (idle_sign (code ":")) fills_tuple) (λ i e s. omega (arith, e, s.0)))
      where
        fit : (y : List ℕ) → Ranged 0 15 (message_place b) y → Tuple y → message_fits receives (drop (message_place b) y) ≡ true
        fit y r t =
            message_of (drop (message_place b) y) receives
            (omega (arith, r.1, get_or-drop (message_place b) y 0 0 ∙ ap (at y) (let e : message_place b + 0 ≡ message_place b = omega arith in e)))
            (omega (arith, t.0, get_or-drop (message_place b) y 1 0))
            (ap (λ (n : ℕ). things (drop 2 (drop (message_place b) y)) 5 values n (item_fits receives)) (get_or-drop (message_place b) y 1 0)
            ∙ ap (λ (x : List ℕ). things x 5 values (at y (length_place b)) (item_fits receives)) (drop-drop 2 (message_place b) y)
            ∙ t.1)

  -- a template, and a message that is sent
  pub fills_template : (receives ≡ none → ⊥) → Fills (message a_template_item b) (Span (message_place b) 22) (λ y. message_fits receives (drop (message_place b) y) ≡ true)
  fills_template n = fills_message a_template_item each
    where
      each : (j : ℕ) → j < values → Fills (item_of (tuple a_template_item b) j) (Span (item_place b j) 5) (λ y. item_fits receives (drop (item_place b j) y) ≡ true)
      each j l = unfold item_of if◌then◌or_else◌ in fills_template_item (item_place b j) (omega (arith, h, l)) receives n

  pub fills_output : Fills (message a_message_item b) (Span (message_place b) 22) (λ y. message_fits receives (drop (message_place b) y) ≡ true)
  fills_output = fills_message a_message_item each
    where
      each : (j : ℕ) → j < values → Fills (item_of (tuple a_message_item b) j) (Span (item_place b j) 5) (λ y. item_fits receives (drop (item_place b j) y) ≡ true)
      each j l = unfold item_of if◌then◌or_else◌ in fills_message_item (item_place b j) (omega (arith, h, l)) receives
