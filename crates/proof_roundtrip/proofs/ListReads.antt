-- LISTS READ BACK, from what is known of their items. Assumes nothing.
use Prim.Native.Nat.{ℕ, zero, suc, ◌+◌, ◌<◌, ◌≤◌}
use mathlib.Core.Path.{◌≡◌, ◌∙◌, refl, sym, ap, subst}
use mathlib.Core.Bool.{Bool, true}
use mathlib.Core.List.{List, [], ◌∷◌, ◌++◌, append_assoc, append-nil}
use mathlib.Core.Logic.{◌⊎◌, inl, inr, ⊎_elim}
use native.Mathlib.Decide.{ℕ_discrete}
use native.Mathlib.Nat.{not-suc-le-zero}
use native.Mathlib.Omega.{arith}
use lib.Dec.{eqb, ltb}
use lib.ListN.{set}
use borrow.Author.Tests.{eq-eqb, ne_eqb, le-ltb}
use Rattle.base_words.specs.Each.{joined}
use Rattle.base_words.specs.Words.{at}
use Rattle.base_words.proofs.PickLaws.{pick_yes, pick_no}
use Rattle.base_table.specs.Places.{element_words}
use Rattle.text_lexer.specs.Lexer.{is_sign}
use Rattle.base_bytes.specs.Bytes.{among}
use Rattle.text_readers.specs.Reading.{Reader, passed_to, if_at, ◌then◌, sign_at, sign}
use Rattle.text_parts.specs.declared.Series.{Series}
use Rattle.text_parts.specs.Parts.{store, item_of, starts, counted, items_from, items, inside, series}
use Rattle.write_shown.specs.Shown.{lead, separated, commas, enclosed_by}
use Rattle.proof_roundtrip.specs.Trip.{may_close}
use Rattle.proof_roundtrip.proofs.ReadsLaws.{Reads, Both, anything, reads_text, reads_before, reads_wider, reads_as, reads_then, reads_store}
use Rattle.proof_roundtrip.proofs.SignReads.{opens, opens_on, shuts, shuts_closes, shuts_opens, comma_closes, reads_sign, reads_hit, reads_miss}

-- THE TEXT OF A LIST from the front: n pieces from piece k on, a sign before each
unfoldable pub onwards : ℕ → (ℕ → List ℕ) → ℕ → ℕ → List ℕ
onwards s f k zero = []
onwards s f k (suc n) = s ∷ (f k ++ onwards s f (k + 1) n)

module _ (s : ℕ) (f : ℕ → List ℕ) where
  onwards_last : (n k : ℕ) → onwards s f k n ++ (s ∷ f (k + n)) ≡ onwards s f k (suc n)
  unfolding onwards
  onwards_last zero k = ap (λ (w : List ℕ). s ∷ w) (ap f (let e : k + 0 ≡ k = omega arith in e) ∙ sym (append-nil (f k)))
  onwards_last (suc n) k =
      ap (λ (w : List ℕ). s ∷ w)
      (append_assoc (f k) (onwards s f (k + 1) n) (s ∷ f (k + suc n))
      ∙ ap (λ (w : List ℕ). f k ++ w)
      (ap (λ (q : ℕ). onwards s f (k + 1) n ++ (s ∷ f q)) (let e : k + suc n ≡ k + 1 + n = omega arith in e) ∙ onwards_last n (k + 1)))

  lead_none : lead s 0 ≡ []
  unfolding lead
  lead_none = sym (pick_yes (eqb 0 0) _ _ _ refl refl)

  lead_some : (k : ℕ) → lead s (suc k) ≡ s ∷ []
  unfolding lead
  lead_some k = sym (pick_no (eqb (suc k) 0) _ _ _ (ne_eqb (suc k) 0 (λ e. omega (arith, e))) refl)

  pub separated_none : separated s f 0 ≡ []
  unfolding separated joined
  separated_none = refl

  pub separated_some : (n : ℕ) → f 0 ++ onwards s f 1 n ≡ separated s f (suc n)
  unfolding separated joined onwards
  separated_some zero = append-nil (f 0) ∙ ap (λ (w : List ℕ). w ++ f 0) (sym lead_none)
  separated_some (suc n) =
      ap (λ (w : List ℕ). f 0 ++ w) (sym (onwards_last n 1) ∙ ap (λ (q : ℕ). onwards s f 1 n ++ (s ∷ f q)) (let e : 1 + n ≡ suc n = omega arith in e))
      ∙ sym (append_assoc (f 0) (onwards s f 1 n) (s ∷ f (suc n)))
      ∙ ap (λ (w : List ℕ). w ++ (s ∷ f (suc n))) (separated_some n)
      ∙ ap (λ (w : List ℕ). separated s f (suc n) ++ (w ++ f (suc n))) (sym (lead_some n))

-- ITEMS, n of them: item q is read back from f q
module _ (el : List ℕ) (item : ℕ → Reader) (starting : List ℕ → ℕ → Bool) (least count n : ℕ) (f : ℕ → List ℕ) (r : ℕ → ℕ → Type 0)
    (is : at el count ≡ n) (h : count < element_words) (l : least ≤ n) (one : (q : ℕ) → q < n → Reads el (item q) (f q) may_close (r q)) where
  -- the count, and the words of an item from k on
  abbrev Listed : ℕ → ℕ → Type 0
  Listed k i = (i ≡ count) ⊎ ((q : ℕ) × (k ≤ q) × (q < n) × r q i)

  reads_counted : (k : ℕ) → k ≡ n → Reads el (counted least count k) [] anything (λ i. i ≡ count)
  unfolding counted
  reads_counted k e =
      reads_as (λ text rest x from d g. sym (pick_no (ltb k least) (passed_to from (set x count k)) _ _ (le-ltb k least (omega (arith, e, l))) refl))
      (reads_store count k h (e ∙ sym is))

  -- behind an item: the end of the list, or a comma and the next one
  next : ℕ → ℕ → Reader
  next m k text q y = if_at (sign_at 44 text q) (λ a. items_from item starting least count m (k + 1) text a y) (counted least count (k + 1) text q y)

  reads_last : (m k : ℕ) → k + 1 ≡ n → Reads el (next m k) [] shuts (λ i. i ≡ count)
  unfolding next
  reads_last m k e = reads_miss 44 _ (λ rest g. shuts_opens rest g) (reads_before (λ rest g. refl) (reads_counted (k + 1) e))

  reads_next : (m k : ℕ) (v : List ℕ) → Reads el (items_from item starting least count m (k + 1)) v shuts (Listed (k + 1)) → Reads el (next m k) (44 ∷ v) shuts (Listed (k + 1))
  unfolding next
  reads_next m k v g = reads_hit 44 (counted least count (k + 1)) (unfold is_sign among in refl) g

  turn : (m k : ℕ) (text x : List ℕ) (from : ℕ) → items_from item starting least count (suc m) k text from x ≡ (item k then next m k) text from x
  unfolding items_from ◌then◌ next
  turn m k text x from = refl

  pub reads_items : (j k m : ℕ) → k + suc j ≡ n → j < m → Reads el (items_from item starting least count m k) (f k ++ onwards 44 f (k + 1) j) shuts (Listed k)
  unfolding onwards
  reads_items j k zero e g = absurd (not-suc-le-zero g)
  reads_items zero k (suc m) e g =
      reads_as (λ text rest x from d z. turn m k text x from)
      (reads_wider (λ i. ⊎_elim (λ a. inl (inr a)) (λ a. inl (inl (subst (λ (q : ℕ). r q i) (let z : a.0 ≡ k = omega (arith, e, a.1, a.2) in z) a.3))))
      (reads_then (one k (omega (arith, e))) (reads_last m k (omega (arith, e))) (λ rest z. shuts_closes rest z)))
  reads_items (suc j) k (suc m) e g =
      reads_as (λ text rest x from d z. turn m k text x from)
      (reads_wider (λ i. ⊎_elim (λ a. inl (inr (inl a))) (λ a. inl (rest_of i a (ℕ_discrete a.0 k))))
      (reads_then (one k (omega (arith, e))) (reads_next m k (f (k + 1) ++ onwards 44 f (k + 1 + 1) j) (reads_items j (k + 1) m (omega (arith, e)) (omega (arith, g)))) (λ rest z. comma_closes _)))
    where
      rest_of : (i : ℕ) (a : (q : ℕ) × (k ≤ q) × (q < n) × r q i) → Dec (a.0 ≡ k) → Both (r k) (Listed (k + 1)) i
      rest_of i a (yes z) = inl (subst (λ (q : ℕ). r q i) z a.3)
      rest_of i a (no z) = inr (inr (a.0, omega (arith, z, a.1), a.2, a.3))

  pub reads_commas : (m : ℕ) → 1 ≤ n → n ≤ m → Reads el (items_from item starting least count m 0) (commas f n) shuts (Listed 0)
  reads_commas m a b = go n refl a b
    where
      go : (k : ℕ) → k ≡ n → 1 ≤ k → k ≤ m → Reads el (items_from item starting least count m 0) (commas f k) shuts (Listed 0)
      go zero e a b = absurd (not-suc-le-zero a)
      go (suc j) e a b = reads_text (separated_some 44 f j) (reads_items j 0 m (omega (arith, e)) b)

-- A LIST BETWEEN TWO SIGNS
module _ (el : List ℕ) (s : Series) (n : ℕ) (f : ℕ → List ℕ) (r : ℕ → ℕ → Type 0)
    (is : at el s.count ≡ n) (h : s.count < element_words) (l : s.least ≤ n) (m : n ≤ s.most)
    (begins : is_sign s.opener ≡ true) (finishes : is_sign s.closer ≡ true) (shutting : (rest : List ℕ) → shuts (s.closer ∷ rest) ≡ true)
    (first : 0 < n → opens s.closer (f 0) ≡ true)
    (one : (q : ℕ) → q < n → Reads el (item_of s q) (f q) may_close (r q)) where
  abbrev pub Within : ℕ → Type 0
  Within i = (i ≡ s.count) ⊎ ((q : ℕ) × (q < n) × r q i)

  reads_some : 1 ≤ n → Reads el (items s then sign s.closer) (commas f n ++ (s.closer ∷ [])) anything Within
  unfolding items
  reads_some a =
      reads_wider (λ i. ⊎_elim (λ z. inl (inl (inl z))) (λ z. inl (inl (inr (z.0, omega arith, z.1, z.2)))))
      (reads_then (reads_commas el (item_of s) (starts s.item) s.least s.count n f r is h l one s.most a m) (reads_sign s.closer finishes) (λ rest k. shutting rest))

  -- the text opens with no closing sign
  opening : 1 ≤ n → (rest : List ℕ) → opens s.closer ((commas f n ++ (s.closer ∷ [])) ++ rest) ≡ true
  opening a rest = go n refl
    where
      go : (k : ℕ) → k ≡ n → opens s.closer ((commas f n ++ (s.closer ∷ [])) ++ rest) ≡ true
      go zero e = absurd (omega (arith, e, a))
      go (suc j) e =
          opens_on s.closer (commas f n ++ (s.closer ∷ [])) rest
          (opens_on s.closer (commas f n) (s.closer ∷ [])
          (ap (opens s.closer) (ap (commas f) (sym e) ∙ sym (separated_some 44 f j)) ∙ opens_on s.closer (f 0) (onwards 44 f 1 j) (first a)))

  inside_none : n ≡ 0 → Reads el (inside s) (commas f n ++ (s.closer ∷ [])) anything Within
  unfolding inside
  inside_none e =
      reads_text (ap (λ (w : List ℕ). w ++ (s.closer ∷ [])) (sym (ap (commas f) e ∙ separated_none 44 f)))
      (reads_as (λ text rest x from d k. sym (pick_yes (eqb s.least 0) (if_at (sign_at s.closer text from) (λ q. store s.count 0 text q x) ((items s then sign s.closer) text from x)) _ _ (eq-eqb s.least 0 (omega (arith, e, l))) refl))
      (reads_wider (λ i. ⊎_elim inl (λ z. absurd (not-suc-le-zero (subst (λ (k : ℕ). z.0 < k) e z.1))))
      (reads_hit s.closer (items s then sign s.closer) finishes (reads_store s.count 0 h (sym e ∙ sym is)))))

  inside_some : 1 ≤ n → Reads el (inside s) (commas f n ++ (s.closer ∷ [])) anything Within
  unfolding inside
  inside_some a = go (ℕ_discrete s.least 0)
    where
      go : Dec (s.least ≡ 0) → Reads el (inside s) (commas f n ++ (s.closer ∷ [])) anything Within
      go (yes e) =
          reads_as (λ text rest x from d k. sym (pick_yes (eqb s.least 0) (if_at (sign_at s.closer text from) (λ q. store s.count 0 text q x) ((items s then sign s.closer) text from x)) _ _ (eq-eqb s.least 0 e) refl))
          (reads_miss s.closer (λ q text x. store s.count 0 text q x) (λ rest k. opening a rest) (reads_some a))
      go (no e) =
          reads_as (λ text rest x from d k. sym (pick_no (eqb s.least 0) ((items s then sign s.closer) text from x) _ _ (ne_eqb s.least 0 e) refl)) (reads_some a)

  -- THE LAW for a list
  pub reads_series : Reads el (series s) (enclosed_by s.opener s.closer (commas f n)) anything Within
  unfolding series
  reads_series = reads_wider (λ i z. inl (inr z)) (reads_then (reads_sign s.opener begins) (go (ℕ_discrete n 0)) (λ rest k. refl))
    where
      go : Dec (n ≡ 0) → Reads el (inside s) (commas f n ++ (s.closer ∷ [])) anything Within
      go (yes e) = inside_none e
      go (no e) = inside_some (omega (arith, e))
