-- THE PARTS OF A ROW stored, each in its own words. Assumes nothing.
use Prim.Native.Char.{code}
use Prim.Native.Nat.{ℕ, ◌+◌, ◌≤◌, ◌<◌}
use mathlib.Core.Path.{◌≡◌, ◌∙◌, refl, sym, ap}
use mathlib.Core.Bool.{Bool, true, false, not, ◌&&◌, ◌||◌, false≢true}
use mathlib.Core.List.{List, [], ◌∷◌}
use mathlib.Core.Logic.{◌⊎◌, inl, inr, ⊎_elim}
use native.Mathlib.Omega.{arith}
use lib.Dec.{eqb, leb, ltb}
use lib.ListN.{length}
use borrow.Author.Tests.{eqb-true, ltb-true, not-true}
use Rattle.std.proofs.lemmas.Bool.{or_right, or_cases}
use Rattle.base_words.specs.All.{all}
use Rattle.base_words.specs.Pick.{if◌then◌or_else◌}
use Rattle.base_words.specs.Words.{at}
use Rattle.base_words.proofs.AllLaws.{all_at, and_left, and_right}
use Rattle.base_words.proofs.PickLaws.{pick_yes, pick_no, and_true}
use Rattle.base_kinds.specs.declared.Kind.{Kind}
use Rattle.base_kinds.specs.Kinds.{kind_of}
use Rattle.base_table.specs.Places.{task_place, mode_place, entries_place, exits_place, condition_place, message_place, assignments_place, element_words}
use Rattle.text_readers.specs.Reading.{Reader, ◌then◌, nothing, sign}
use Rattle.text_parts.specs.Parts.{part_of}
use Rattle.text_elements.specs.Elements.{kind_count, parts_from}
use Rattle.proof_roundtrip.specs.Trip.{spans, region_of}
use Rattle.proof_roundtrip.proofs.ReadsLaws.{Both}
use Rattle.proof_roundtrip.proofs.NumberReads.{else_of}
use Rattle.proof_roundtrip.proofs.KindLaws.{of_kind_lem}
use Rattle.proof_roundtrip.proofs.RowLaws.{listed}
use Rattle.proof_roundtrip.proofs.PartsReads.{listed_first, listed_later, listed_cases, listed_blank}
use Rattle.proof_roundtrip.proofs.FillLaws.{Fills, same_words, idle_sign, fills_then, fills_behind, fills_wider, fills_as}
use Rattle.proof_roundtrip.proofs.PartFills.{test_region, good, suits, fills_part}

-- some part of a row stores the word i
unfoldable pub stores : List ℕ → ℕ → Bool
stores [] i = false
stores (c ∷ cs) i = if eqb c (code " ") then false or_else region_of c i || stores cs i

-- no two parts store the same word; each part suits its row
unfoldable pub clear : List ℕ → Bool
clear [] = true
clear (c ∷ cs) = if eqb c (code " ") then true or_else all (λ i. not (region_of c i && stores cs i)) element_words && clear cs

unfoldable pub suiting : Kind → List ℕ → Bool
suiting r [] = true
suiting r (c ∷ cs) = if eqb c (code " ") then true or_else suits r c && suiting r cs

pub row_clear : (k : ℕ) → 0 < k → k < kind_count + 1 → clear (kind_of k).parts ≡ true
unfolding all clear stores region_of spans kind_of if◌then◌or_else◌
row_clear k l u = of_kind_lem (λ j. clear (kind_of j).parts) refl k l u

pub row_suits : (k : ℕ) → 0 < k → k < kind_count + 1 → suiting (kind_of k) (kind_of k).parts ≡ true
unfolding all suiting suits kind_of if◌then◌or_else◌
row_suits k l u = of_kind_lem (λ j. suiting (kind_of j) (kind_of j).parts) refl k l u

-- a part stores words of an element
span_below : (from to i : ℕ) → to ≤ element_words → spans from to i ≡ true → i < element_words
unfolding spans
span_below from to i u h = let l = ltb-true i to (and_right (leb from i) (ltb i to) h) in omega (arith, u, l)

arms : (b x y : Bool) → (if b then x or_else y) ≡ true → (x ≡ true) ⊎ (y ≡ true)
unfolding if◌then◌or_else◌
arms true x y h = inl h
arms false x y h = inr h

region_inside : (c i : ℕ) → region_of c i ≡ true → i < element_words
unfolding region_of
region_inside c i h =
    ⊎_elim (span_below entries_place exits_place i (omega arith)) (λ h.
    ⊎_elim (span_below exits_place (condition_place 0) i (omega arith)) (λ h.
    ⊎_elim
    (λ n. ⊎_elim (λ e. let q = eqb-true i task_place e in omega (arith, q)) (λ n. ⊎_elim (λ e. let q = eqb-true i mode_place e in omega (arith, q)) (λ n. ⊎_elim (span_below (condition_place 0) (condition_place 1) i (omega arith)) (span_below assignments_place element_words i (omega arith)) (or_cases _ _ n)) (or_cases _ _ n)) (or_cases _ _ n))
    (λ h.
    ⊎_elim (span_below (message_place 0) (message_place 1) i (omega arith)) (λ h.
    ⊎_elim (span_below exits_place (message_place 0) i (omega arith)) (λ h.
    ⊎_elim (span_below exits_place (condition_place 0) i (omega arith)) (span_below (message_place 0) assignments_place i (omega arith)) (or_cases _ _ h))
    (arms _ _ _ h)) (arms _ _ _ h)) (arms _ _ _ h)) (arms _ _ _ h)) (arms _ _ _ h)

-- the row from a part on
module _ (r : Kind) (c : ℕ) (cs : List ℕ) (n : eqb c (code " ") ≡ false) where
  clear_first : clear (c ∷ cs) ≡ true → (i : ℕ) → region_of c i ≡ true → stores cs i ≡ true → ⊥
  unfolding clear
  clear_first h i a b =
      let q = else_of (eqb c (code " ")) true (all (λ i. not (region_of c i && stores cs i)) element_words && clear cs) true h n in
      let o = not-true (region_of c i && stores cs i) (all_at (λ i. not (region_of c i && stores cs i)) element_words (and_left (all (λ i. not (region_of c i && stores cs i)) element_words) (clear cs) q) i (region_inside c i a)) in
      false≢true (sym o ∙ and_true (region_of c i) (stores cs i) a b)

  clear_later : clear (c ∷ cs) ≡ true → clear cs ≡ true
  unfolding clear
  clear_later h = and_right (all (λ i. not (region_of c i && stores cs i)) element_words) (clear cs) (else_of (eqb c (code " ")) true (all (λ i. not (region_of c i && stores cs i)) element_words && clear cs) true h n)

  pub suits_first : suiting r (c ∷ cs) ≡ true → suits r c ≡ true
  unfolding suiting
  suits_first h = and_left (suits r c) (suiting r cs) (else_of (eqb c (code " ")) true (suits r c && suiting r cs) true h n)

  pub suits_later : suiting r (c ∷ cs) ≡ true → suiting r cs ≡ true
  unfolding suiting
  suits_later h = and_right (suits r c) (suiting r cs) (else_of (eqb c (code " ")) true (suits r c && suiting r cs) true h n)

  stores_both : (i : ℕ) → Both (λ i. region_of c i ≡ true) (λ i. stores cs i ≡ true) i → stores (c ∷ cs) i ≡ true
  unfolding stores
  stores_both i b = sym (pick_no (eqb c (code " ")) _ _ _ n refl) ∙ either b
    where
      either : (region_of c i ≡ true) ⊎ (stores cs i ≡ true) → region_of c i || stores cs i ≡ true
      either (inl a) = rw a
      either (inr a) = or_right (region_of c i) (stores cs i) a

stores_none : (c : ℕ) (cs : List ℕ) (i : ℕ) → eqb c (code " ") ≡ true → stores (c ∷ cs) i ≡ true → ⊥
unfolding stores
stores_none c cs i e h = false≢true (pick_yes (eqb c (code " ")) false _ _ e refl ∙ h)

-- THE LAW
module _ (r : Kind) where
  abbrev pub Good : List ℕ → List ℕ → Type 0
  Good cs y = (c : ℕ) → listed cs c ≡ true → good r c y ≡ true

  abbrev pub Row : ℕ → List ℕ → Type 0
  Row s cs = Fills (parts_from s cs) (λ i. stores cs i ≡ true) (Good cs)

  fills_nothing : (cs : List ℕ) → ((c : ℕ) → listed cs c ≡ true → ⊥) → ((i : ℕ) → stores cs i ≡ true → ⊥) → Fills nothing (λ i. stores cs i ≡ true) (Good cs)
  fills_nothing cs l s =
      record {
        decide = λ i. test_region (stores cs i);
        local = λ y z a b c h. absurd (l c h);
        fills = λ text x from q y e n o.
            let w = same_words from q x y e in
            record { same_length = ap length (sym w); others = λ i k. ap (λ (u : List ℕ). at u i) (sym w); small = λ i k. absurd (s i k); good = λ c h. absurd (l c h) };
      }

  pub fills_row : (s : ℕ) (cs : List ℕ) → clear cs ≡ true → suiting r cs ≡ true → Row s cs
  unfolding parts_from
  fills_row s [] h f = fills_nothing [] (λ c e. false≢true (unfold listed in e)) (λ i e. false≢true (unfold stores in e))
  fills_row s (c ∷ cs) h f = go (eqb c (code " ")) refl (fills_row (code ",") cs)
    where
      go : (b : Bool) → eqb c (code " ") ≡ b → (clear cs ≡ true → suiting r cs ≡ true → Row (code ",") cs) → Row s (c ∷ cs)
      go true e k =
          fills_as (λ text x from q y m. (from, ap (λ (g : Reader). g text from x) (pick_yes (eqb c (code " ")) nothing nothing _ e refl) ∙ m))
          (fills_nothing (c ∷ cs) (λ d. listed_blank c cs d e) (λ i. stores_none c cs i e))
      go false e k =
          fills_as (λ text x from q y m. (from, ap (λ (g : Reader). g text from x) (pick_no (eqb c (code " ")) (sign s then part_of c then parts_from (code ",") cs) nothing _ e refl) ∙ m))
          (fills_behind (idle_sign s)
          (fills_wider (λ i. test_region (stores (c ∷ cs) i)) (stores_both r c cs e)
          local
          (λ y q z. join y q.0 q.1)
          pair))
        where
          pair : Fills (part_of c then parts_from (code ",") cs) (Both (λ i. region_of c i ≡ true) (λ i. stores cs i ≡ true)) (λ y. (good r c y ≡ true) × Good cs y)
          pair = fills_then (fills_part r c (suits_first r c cs e f)) (k (clear_later r c cs e h) (suits_later r c cs e f)) (clear_first r c cs e h)

          join : (y : List ℕ) → good r c y ≡ true → Good cs y → Good (c ∷ cs) y
          join y a b d l = ⊎_elim (λ q. ap (λ (j : ℕ). good r j y) q ∙ a) (b d) (listed_cases c cs e d l)

          local : (y z : List ℕ) → ((i : ℕ) → stores (c ∷ cs) i ≡ true → at z i ≡ at y i) → Good (c ∷ cs) y → Good (c ∷ cs) z
          local y z s g =
              let q = pair.local y z (λ i b. s i (stores_both r c cs e i b)) (g c (listed_first c cs e), λ d l. g d (listed_later c cs e d l)) in
              join z q.0 q.1
