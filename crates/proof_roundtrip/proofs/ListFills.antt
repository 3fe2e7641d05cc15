-- Lists stored: how many items there are, each of them, and 0 in the places of the others. Assumes nothing.
use Prim.Native.Char.{code}
use Prim.Native.Nat.{ℕ, zero, suc, ◌+◌, ◌-◌, ◌*◌, ◌≤◌, ◌<◌}
use mathlib.Core.Path.{◌≡◌, ◌∙◌, refl, sym, ap, subst}
use mathlib.Core.Bool.{Bool, true, false}
use mathlib.Core.List.{List}
use mathlib.Core.Logic.{◌⊎◌, inl, inr, ⊎_elim}
use native.Mathlib.Decide.{ℕ_discrete}
use native.Mathlib.Omega.{arith}
use lib.Dec.{eqb, ltb}
use lib.ListN.{length, drop, set}
use lib.Seq.{drop-drop}
use borrow.Author.Tests.{ltb-false, eqb-true}
use Rattle.base_words.specs.All.{all}
use Rattle.base_words.specs.Pick.{if◌then◌or_else◌}
use Rattle.base_words.specs.Words.{at, greatest}
use Rattle.base_words.proofs.AllLaws.{all_of}
use Rattle.base_words.proofs.PickLaws.{and_true}
use Rattle.base_table.specs.Places.{element_words}
use Rattle.check_limits.specs.Limits.{zeros, things}
use Rattle.text_readers.specs.Reading.{Reader, misplaced, excessive, passed_to, refused_at, if_at, onward, ◌then◌, place_of, sign_at, sign}
use Rattle.text_parts.specs.declared.Series.{Series}
use Rattle.text_parts.specs.Parts.{store, item_of, starts, too_many, counted, items_from, items, inside, series}
use Rattle.proof_roundtrip.proofs.NumberReads.{Span, then_of, else_of}
use Rattle.proof_roundtrip.proofs.FillLaws.{refused_passed, same_words, Fills, Filled, filled_set, idle_sign, fills_then, fills_before, fills_behind, fills_wider, fills_as, fills_store, either_region}
use Rattle.proof_roundtrip.proofs.ExpressionFills.{zeros_of, fills_choice}

-- n things of w words each from a place on, k of them right, and 0 behind them
pub things_of : (y : List ℕ) (base w n k : ℕ) (right : List ℕ → Bool) → ((j : ℕ) → j < k → right (drop (base + w * j) y) ≡ true) → ((i : ℕ) → Span (base + w * k) (w * (n - k)) i → at y i ≡ 0) → things (drop base y) w n k right ≡ true
unfolding things
things_of y base w n k right r z =
    and_true (all (λ j. right (drop (w * j) (drop base y))) k) (zeros (drop (w * k) (drop base y)) (w * (n - k)))
    (all_of (λ j. right (drop (w * j) (drop base y))) k (λ j l. ap right (drop-drop (w * j) base y) ∙ r j l))
    (ap (λ (x : List ℕ). zeros x (w * (n - k))) (drop-drop (w * k) base y) ∙ zeros_of y (base + w * k) (w * (n - k)) (λ i a b. z i (a, b)))

too_many_lem : (b : Bool) (p q : ℕ) (x y : List ℕ) → too_many b p x ≡ passed_to q y → ⊥
unfolding too_many
too_many_lem b p q x y e = refused_passed (if b then excessive or_else misplaced) p q x y e

module _ (item : ℕ → Reader) (starting : List ℕ → ℕ → Bool) (least count top : ℕ) (I : ℕ → ℕ → Type 0) (Q : ℕ → List ℕ → Type 0)
    (each-fills : (j : ℕ) → j < top → Fills (item j) (I j) (Q j)) (apart : (j k i : ℕ) → j < k → k < top → I j i → I k i → ⊥)
    (outside : (j : ℕ) → j < top → I j count → ⊥) (h : count < element_words) (small : top ≤ greatest) where
  -- the places of the count and of n items from item k on
  abbrev pub Region : ℕ → ℕ → ℕ → Type 0
  Region k zero i = i ≡ count
  Region k (suc n) i = I k i ⊎ Region (k + 1) n i

  region_count : (n k : ℕ) → Region k n count
  region_count zero k = refl
  region_count (suc n) k = inr (region_count n (k + 1))

  pub region_item : (n k j i : ℕ) → k ≤ j → j < k + n → I j i → Region k n i
  region_item zero k j i l u m = absurd (omega (arith, l, u))
  region_item (suc n) k j i l u m = go (ℕ_discrete j k) (λ a b. region_item n (k + 1) j i a b m)
    where
      go : Dec (j ≡ k) → (k + 1 ≤ j → j < k + 1 + n → Region (k + 1) n i) → Region k (suc n) i
      go (yes e) f = inl (subst (λ (z : ℕ). I z i) e m)
      go (no e) f = inr (f (omega (arith, l, e)) (omega (arith, u)))

  pub region_cases : (n k i : ℕ) → Region k n i → (i ≡ count) ⊎ ((j : ℕ) × (k ≤ j) × (j < k + n) × I j i)
  region_cases zero k i e = inl e
  region_cases (suc n) k i (inl m) = inr (k, omega arith, omega arith, m)
  region_cases (suc n) k i (inr r) = ⊎_elim (λ e. inl e) (λ m. inr (m.0, omega (arith, m.1), omega (arith, m.2), m.3)) (region_cases n (k + 1) i r)

  -- an item's places are not those of the later ones
  later : (n k j i : ℕ) → j < k → k + n ≤ top → I j i → Region k n i → ⊥
  later zero k j i l u m e = outside j (omega (arith, l, u)) (subst (I j) e m)
  later (suc n) k j i l u m (inl e) = apart j k i l (omega (arith, u)) m e
  later (suc n) k j i l u m (inr e) = later n (k + 1) j i (omega (arith, l)) (omega (arith, u)) m e

  region_dec : (n k : ℕ) → k + n ≤ top → (i : ℕ) → Dec (Region k n i)
  region_dec zero k u i = ℕ_discrete i count
  region_dec (suc n) k u i = either_region (I k) (Region (k + 1) n) i ((each-fills k (omega (arith, u))).decide i) (region_dec n (k + 1) (omega (arith, u)) i)

  -- how many there are, from item k on, where n may be
  pub record Many (low k n : ℕ) (y : List ℕ) : Type 0 where
    pub number : ℕ
    pub above : low ≤ number
    pub most : number ≤ k + n
    pub counts : at y count ≡ number
    pub enough : least ≤ number
    pub right : (j : ℕ) → k ≤ j → j < number → Q j y
    pub rest : (j : ℕ) → number ≤ j → j < k + n → (i : ℕ) → I j i → at y i ≡ 0

  many_local : (low k n : ℕ) → low ≤ k + n → k ≤ low → k + n ≤ top → (y z : List ℕ) → ((i : ℕ) → Region k n i → at z i ≡ at y i) → Many low k n y → Many low k n z
  many_local low k n a b u y z s m =
      record {
        number = m.number;
        above = m.above;
        most = m.most;
        counts = s count (region_count n k) ∙ m.counts;
        enough = m.enough;
        right = λ j l o. (each-fills j (omega (arith, o, m.most, u))).local y z (λ i r. s i (region_item n k j i l (omega (arith, o, m.most)) r)) (m.right j l o);
        rest = λ j l o i r. s i (region_item n k j i (omega (arith, l, m.above, b)) o r) ∙ m.rest j l o i r;
      }

  -- the list ends behind k items
  fills_counted : (k : ℕ) → k ≤ top → Fills (counted least count k) (λ i. i ≡ count) (λ y. (at y count ≡ k) × (least ≤ k))
  unfolding counted
  fills_counted k u =
      record {
        decide = λ i. ℕ_discrete i count;
        local = λ y z s q. (s count refl ∙ q.0, q.1);
        fills = λ text x from q y e l o. go (ltb k least) refl text x from q y e l;
      }
    where
      go : (b : Bool) → ltb k least ≡ b → (text x : List ℕ) (from q : ℕ) (y : List ℕ) → (if b then refused_at misplaced (place_of text from) x or_else passed_to from (set x count k)) ≡ passed_to q y → length x ≡ element_words
          → Filled x y (λ i. i ≡ count) (λ y. (at y count ≡ k) × (least ≤ k))
      go true t text x from q y e l = absurd (refused_passed misplaced (place_of text from) q x y (unfold if◌then◌or_else◌ in e))
      go false t text x from q y e l =
          let f = filled_set x count k l h (omega (arith, u, small)) in
          subst (λ (z : List ℕ). Filled x z (λ i. i ≡ count) (λ y. (at y count ≡ k) × (least ≤ k))) (same_words from q (set x count k) y (unfold if◌then◌or_else◌ in e))
          (record { same_length = f.same_length; others = f.others; small = f.small; good = (f.good, ltb-false k least t) })

  ends_here : (n k : ℕ) → k + n ≤ top → Fills (counted least count k) (Region k n) (Many k k n)
  ends_here n k u =
      fills_wider (region_dec n k u) (λ i e. subst (Region k n) (sym e) (region_count n k)) (many_local k k n (omega arith) (omega arith) u)
      (λ y q z.
      record {
        number = k;
        above = omega arith;
        most = omega arith;
        counts = q.0;
        enough = q.1;
        right = λ j l o. absurd (omega (arith, l, o));
        rest = λ j l o i r. z i (region_item n k j i l o r) (λ e. outside j (omega (arith, o, u)) (subst (I j) e r));
      })
      (fills_counted k (omega (arith, u)))

  -- THE ITEMS, from item k on
  pub fills_items : (n k : ℕ) → k + n ≤ top → Fills (items_from item starting least count n k) (Region k n) (Many (k + 1) k n)
  unfolding items_from
  fills_items zero k u =
      record {
        decide = region_dec zero k u;
        local = λ y z s m. absurd (omega (arith, m.above, m.most));
        fills = λ text x from q y e l o. absurd (too_many_lem (starting text from) (place_of text from) q x y e);
      }
  fills_items (suc n) k u =
      fills_wider (region_dec (suc n) k u) (λ i r. r) (many_local (k + 1) k (suc n) (omega arith) (omega arith) u) first
      (fills_as (λ text x from q y e. (from, whole text x from q y e))
      (fills_then (each-fills k (omega (arith, u)))
      (fills_choice (code ",")
      (fills_wider (region_dec n (k + 1) (omega (arith, u))) (λ i r. r) (many_local (k + 1) (k + 1) n (omega arith) (omega arith) (omega (arith, u))) (λ y m z. lower y m) (fills_items n (k + 1) (omega (arith, u))))
      (ends_here n (k + 1) (omega (arith, u))))
      (λ i r. later n (k + 1) k i (omega arith) (omega (arith, u)) r)))
    where
      lower : (y : List ℕ) → Many (k + 1 + 1) (k + 1) n y → Many (k + 1) (k + 1) n y
      lower y m = record { number = m.number; above = omega (arith, m.above); most = m.most; counts = m.counts; enough = m.enough; right = m.right; rest = m.rest }

      first : (y : List ℕ) → Q k y × Many (k + 1) (k + 1) n y → ((i : ℕ) → Region k (suc n) i → (Region k (suc n) i → ⊥) → at y i ≡ 0) → Many (k + 1) k (suc n) y
      first y q z =
          let m = q.1 in
          record {
            number = m.number;
            above = m.above;
            most = omega (arith, m.most);
            counts = m.counts;
            enough = m.enough;
            right = λ j l o. which j l o (ℕ_discrete j k);
            rest = λ j l o. m.rest j l (omega (arith, o));
          }
        where
          which : (j : ℕ) → k ≤ j → j < q.1.number → Dec (j ≡ k) → Q j y
          which j l o (yes e) = subst (λ (p : ℕ). Q p y) (sym e) q.0
          which j l o (no e) = q.1.right j (omega (arith, l, e)) o

      whole : (text x : List ℕ) (from q : ℕ) (y : List ℕ)
          → onward (item k text from x) (λ q y. if_at (sign_at (code ",") text q) (λ a. items_from item starting least count n (k + 1) text a y) (counted least count (k + 1) text q y)) ≡ passed_to q y
          → (item k then (λ text from x. if_at (sign_at (code ",") text from) (λ a. items_from item starting least count n (k + 1) text a x) (counted least count (k + 1) text from x))) text from x ≡ passed_to q y
      whole text x from q y e = unfold ◌then◌ in e

  pub fills_all : Fills (items_from item starting least count top 0) (Region 0 top) (Many 0 0 top)
  fills_all = fills_wider (region_dec top 0 (omega arith)) (λ i r. r) (many_local 0 0 top (omega arith) (omega arith) (omega arith)) (λ y m z. lower y m) (fills_items top 0 (omega arith))
    where
      lower : (y : List ℕ) → Many (0 + 1) 0 top y → Many 0 0 top y
      lower y m = record { number = m.number; above = omega arith; most = m.most; counts = m.counts; enough = m.enough; right = m.right; rest = m.rest }

  -- an empty list
  pub fills_empty : least ≡ 0 → Fills (store count 0) (Region 0 top) (Many 0 0 top)
  fills_empty e =
      fills_wider (region_dec top 0 (omega arith)) (λ i q. subst (Region 0 top) (sym q) (region_count top 0)) (many_local 0 0 top (omega arith) (omega arith) (omega arith))
      (λ y q z.
      record {
        number = 0;
        above = omega arith;
        most = omega arith;
        counts = q;
        enough = omega (arith, e);
        right = λ j l o. absurd (omega (arith, o));
        rest = λ j l o i r. z i (region_item top 0 j i l o r) (λ p. outside j (omega (arith, o)) (subst (I j) p r));
      })
      (fills_store count 0 h (omega arith))

-- a list between its signs
module _ (s : Series) {R : ℕ → Type 0} {P : List ℕ → Type 0} (all-items : Fills (items_from (item_of s) (starts s.item) s.least s.count s.most 0) R P) (empty : s.least ≡ 0 → Fills (store s.count 0) R P) where
  closed : Fills (items s then sign s.closer) R P
  unfolding items
  closed = fills_before all-items (idle_sign s.closer)

  fills_inside : Fills (inside s) R P
  unfolding inside
  fills_inside = go (eqb s.least 0) refl
    where
      go : (b : Bool) → eqb s.least 0 ≡ b → Fills (inside s) R P
      go true e =
          fills_as (λ text x from q y h. (from, then_of (eqb s.least 0) _ _ (passed_to q y) h e)) (fills_choice s.closer (empty (eqb-true s.least 0 e)) closed)
      go false e = fills_as (λ text x from q y h. (from, else_of (eqb s.least 0) _ _ (passed_to q y) h e)) closed

  pub fills_series : Fills (series s) R P
  unfolding series
  fills_series = fills_behind (idle_sign s.opener) fills_inside
