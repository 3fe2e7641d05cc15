-- WHAT IS SPELLED, READ: pieces with bars between them, pools, and the text whole, wherever each piece is read as what stands beside it. Assumes nothing.
use Prim.Native.Char.{code}
use Prim.Native.Nat.{ℕ, zero, suc, ◌+◌, ◌≤◌, ◌<◌}
use mathlib.Core.Path.{◌≡◌, refl, sym, ◌∙◌, ap, ap₂, subst}
use mathlib.Core.Bool.{Bool, true, false}
use mathlib.Core.List.{List, [], ◌∷◌, ◌++◌, append_assoc, append-nil}
use native.Mathlib.Nat.{le_of_suc-le-suc, zero-add}
use native.Mathlib.Omega.{arith}
use lib.Dec.{eqb}
use lib.ListN.{length, get_or, drop, take, replicate, length-append, length-replicate}
use lib.Seq.{take_all, drop-append_seam}
use Rattle.base_words.specs.Counts.{pools, elements, pool_numbers, instances}
use Rattle.base_words.specs.Each.{each, joined, tab}
use Rattle.base_words.specs.Pick.{if◌then◌or_else◌}
use Rattle.base_words.specs.Text.{bytes}
use Rattle.base_words.specs.Words.{at}
use Rattle.base_table.specs.Places.{element_words}
use Rattle.check_model.specs.Checks.{Pool}
use Rattle.text_lexer.specs.declared.Token.{Token}
use Rattle.text_lexer.specs.declared.Form.TheVariants.{End}
use Rattle.text_lexer.specs.Lexer.{is_word, is_sign, is_blank, placed, token_at, if_sign, if_end}
use Rattle.base_bytes.specs.Bytes.{is_letter, is_digit, among, between as amidst}
use Rattle.text_lexer.proofs.TokenLaws.{left_at, end_at_lem}
use Rattle.std.specs.declared.result.Result.TheVariants.{Ok}
use Rattle.text_readers.specs.Reading.{Read, Refused, Parsed, misplaced, passed_to, if_at, sign_at, end_at}
use Rattle.text_elements.specs.Elements.{starts_element, element}
use Rattle.text_read.specs.Notation.{Got, no_pool, barred, element_alone, elements_at, pool, starts_pool, pools_at, model}
use Rattle.write_decimals.specs.Decimals.{shown}
use Rattle.write_shown.specs.Shown.{separated, enclosed_by, shown_element}
use Rattle.proof_roundtrip.proofs.SignReads.{opens, sign_miss}
use Rattle.proof_roundtrip.proofs.EndModels.{Every, Right}
use Rattle.proof_roundtrip.proofs.BarLaws.{tab_front, Comes, separated_trip}
use Rattle.proof_roundtrip.proofs.ElementReads.{element_trip}
use Rattle.proof_roundtrip.proofs.PoolReads.{plain_trip, multiple_trip}
use Rattle.proof_spelling.specs.Spelling.{parted}
use Rattle.proof_spelling.proofs.Lists.{separated-parted}

-- TWO LISTS, thing by thing
abbrev pub Pairs : {A B : Type 0} → (A → B → Type 0) → List A → List B → Type 0
Pairs R [] [] = 0 ≤ 0
Pairs R [] (y ∷ ys) = ⊥
Pairs R (x ∷ xs) [] = ⊥
Pairs R (x ∷ xs) (y ∷ ys) = R x y × Pairs R xs ys

module _ {A B : Type 0} (R : A → B → Type 0) where
  pub pairs_append : (xs us : List A) (ys vs : List B) → Pairs R xs ys → Pairs R us vs → Pairs R (xs ++ us) (ys ++ vs)
  pairs_append [] us [] vs p q = q
  pairs_append [] us (y ∷ ys) vs p q = absurd p
  pairs_append (x ∷ xs) us [] vs p q = absurd p
  pairs_append (x ∷ xs) us (y ∷ ys) vs p q = (p.0, pairs_append xs us ys vs p.1 q)

  pub pairs_joined : (f : ℕ → List A) (g : ℕ → List B) (n : ℕ) → ((k : ℕ) → k < n → Pairs R (f k) (g k)) → Pairs R (joined f n) (joined g n)
  unfolding joined
  pairs_joined f g zero h = omega arith
  pairs_joined f g (suc n) h = pairs_append (joined f n) (f n) (joined g n) (g n) (pairs_joined f g n (λ k l. h k (omega (arith, l)))) (h n (omega arith))

  pub pairs_one : (b : Bool) (x : A) (y : B) → (b ≡ true → R x y) → Pairs R (if b then x ∷ [] or_else []) (if b then y ∷ [] or_else [])
  unfolding if◌then◌or_else◌
  pairs_one true x y h = (h refl, omega arith)
  pairs_one false x y h = omega arith

  pub pairs_long : (xs : List A) (ys : List B) → Pairs R xs ys → length xs ≡ length ys
  pairs_long [] [] p = refl
  pairs_long [] (y ∷ ys) p = absurd p
  pairs_long (x ∷ xs) [] p = absurd p
  pairs_long (x ∷ xs) (y ∷ ys) p = ap suc (pairs_long xs ys p.1)

  pub pairs_at : (xs : List A) (ys : List B) (a : A) (b : B) (i : ℕ) → Pairs R xs ys → i < length xs → R (get_or xs i a) (get_or ys i b)
  pairs_at [] [] a b i p l = absurd (omega (arith, l))
  pairs_at [] (y ∷ ys) a b i p l = absurd p
  pairs_at (x ∷ xs) [] a b i p l = absurd p
  pairs_at (x ∷ xs) (y ∷ ys) a b zero p l = p.0
  pairs_at (x ∷ xs) (y ∷ ys) a b (suc i) p l = pairs_at xs ys a b i p.1 (le_of_suc-le-suc l)

pub tab_of : {A : Type 0} (xs : List A) (d : A) → tab (λ j. get_or xs j d) (length xs) ≡ xs
tab_of [] d = unfold tab in refl
tab_of (x ∷ xs) d = tab_front (λ j. get_or (x ∷ xs) j d) (length xs) ∙ ap (λ l. x ∷ l) (tab_of xs d)

-- PIECES WITH BARS BETWEEN THEM
pub barred_read : {A : Type 0} (thing : List ℕ → ℕ → Got A) (starting : List ℕ → ℕ → Bool) (xs : List (List ℕ)) (vs : List A) (e : A) (m : ℕ) → Pairs (Comes thing) xs vs → 0 < length xs → length xs ≤ m
    → (text rest : List ℕ) (from a b : ℕ) → drop from text ≡ parted (code "|") xs ++ rest → sign_at (code "|") text (from + length (parted (code "|") xs)) ≡ Refused a b
    → barred thing starting m text from ≡ record { end = Ok (from + length (parted (code "|") xs)); value = vs }
barred_read {A} thing starting xs vs e m p l h text rest from a b d s =
    separated_trip thing starting (length xs) m l h (λ i. get_or xs i []) (λ i. get_or vs i e) (λ j u. pairs_at (Comes thing) xs vs [] e j p u) text rest from a b
    (d ∙ ap (λ (w : List ℕ). w ++ rest) (sym same)) (ap (λ (w : List ℕ). sign_at (code "|") text (from + length w)) same ∙ s)
    ∙ ap (λ (w : List ℕ). record { end = Ok (from + length w); value = tab (λ i. get_or vs i e) (length xs) }) same
    ∙ ap (λ (v : List A). record { end = Ok (from + length (parted (code "|") xs)); value = v }) (ap (tab (λ i. get_or vs i e)) (pairs_long (Comes thing) xs vs p) ∙ tab_of vs e)
  where
    same : separated (code "|") (λ i. get_or xs i []) (length xs) ≡ parted (code "|") xs
    same = separated-parted (code "|") xs

-- AN ELEMENT that is right
pub element_comes : (el : List ℕ) → Right el → Comes element_alone (shown_element el) el
element_comes el r = record { comes = λ text rest from d. alone text from (length (shown_element el)) (trip text rest from d) }
  where
    whole : take element_words el ≡ el
    whole = take_all element_words el (omega (arith, r.long))

    trip : (text rest : List ℕ) (from : ℕ) → drop from text ≡ shown_element el ++ rest → element text from (replicate element_words 0) ≡ passed_to (from + length (shown_element el)) el
    trip text rest from d =
        element_trip el r.small r.fits text rest (replicate element_words 0) from d (length-replicate {A = ℕ} element_words 0) (omega (arith, r.long))
        ∙ ap (passed_to (from + length (shown_element el))) whole

    alone : (text : List ℕ) (from n : ℕ) → element text from (replicate element_words 0) ≡ passed_to (from + n) el → element_alone text from ≡ record { end = Ok (from + n); value = el }
    alone text from n e = unfold element_alone in ap (λ (r : Parsed). record { end = r.end; value = r.words }) e

-- A POOL, by its elements
module _ (xs els : List (List ℕ)) (p : Pairs (Comes element_alone) xs els) (some : 0 < length xs) (most : length xs ≤ elements) (i : ℕ) (low : 1 ≤ i) (high : i ≤ pool_numbers) where
  abbrev inside : List ℕ
  inside = parted (code "|") xs

  elements_read : (text rest : List ℕ) (from : ℕ) → drop from text ≡ inside ++ rest → opens (code "|") rest ≡ true → elements_at text from ≡ record { end = Ok (from + length inside); value = els }
  unfolding elements_at
  elements_read text rest from d o =
      barred_read element_alone starts_element xs els [] elements p some most text rest from misplaced (from + length inside) d (sign_miss text (from + length inside) 124 rest (left_at text from inside rest d) o)

  abbrev plain_text : List ℕ
  plain_text = bytes "pool" ++ enclosed_by (code "(") (code ")") (shown i ++ (code "," ∷ inside))

  plain_opened : (rest : List ℕ) → plain_text ++ rest ≡ bytes "pool" ++ (code "(" ∷ (shown i ++ (code "," ∷ (inside ++ (code ")" ∷ rest)))))
  plain_opened rest =
      ap (λ (z : List ℕ). bytes "pool" ++ (code "(" ∷ z))
      (append_assoc (shown i ++ (code "," ∷ inside)) (code ")" ∷ []) rest ∙ append_assoc (shown i) (code "," ∷ inside) (code ")" ∷ rest))

  pub plain_comes : Comes pool plain_text (record { number = i; limit = 0; elements = els })
  plain_comes = record { comes = go }
    where
      far : 4 + (length (shown i) + 2 + (length inside + 1)) ≡ length plain_text
      far = omega (arith, length-append plain_text [], ap length (plain_opened []), length-append (shown i) (code "," ∷ (inside ++ (code ")" ∷ []))), length-append inside (code ")" ∷ []))

      go : (text rest : List ℕ) (from : ℕ) → drop from text ≡ plain_text ++ rest → pool text from ≡ record { end = Ok (from + length plain_text); value = record { number = i; limit = 0; elements = els } }
      go text rest from d =
          plain_trip text rest from i els inside low high (d ∙ plain_opened rest) (λ a h. elements_read text (code ")" ∷ rest) a h (unfold opens is_word is_letter is_digit amidst is_sign among in refl))
          ∙ ap (λ (q : ℕ). record { end = Ok (from + q); value = record { number = i; limit = 0; elements = els } }) far

  module _ (m : ℕ) (lm : 1 ≤ m) (um : m ≤ instances) where
    abbrev many_text : List ℕ
    many_text = bytes "miPool" ++ enclosed_by (code "(") (code ")") (shown i ++ (code "," ∷ (inside ++ (code "," ∷ shown m))))

    many_opened : (rest : List ℕ) → many_text ++ rest ≡ bytes "miPool" ++ (code "(" ∷ (shown i ++ (code "," ∷ (inside ++ (code "," ∷ (shown m ++ (code ")" ∷ rest)))))))
    many_opened rest =
        ap (λ (z : List ℕ). bytes "miPool" ++ (code "(" ∷ z))
        (append_assoc (shown i ++ (code "," ∷ (inside ++ (code "," ∷ shown m)))) (code ")" ∷ []) rest
        ∙ append_assoc (shown i) (code "," ∷ (inside ++ (code "," ∷ shown m))) (code ")" ∷ rest)
        ∙ ap (λ (z : List ℕ). shown i ++ (code "," ∷ z)) (append_assoc inside (code "," ∷ shown m) (code ")" ∷ rest)))

    pub many_comes : Comes pool many_text (record { number = i; limit = m; elements = els })
    many_comes = record { comes = go }
      where
        far : 6 + (length (shown i) + 2 + (length inside + (length (shown m) + 2))) ≡ length many_text
        far =
            omega (
              arith,
              length-append many_text [],
              ap length (many_opened []),
              length-append (shown i) (code "," ∷ (inside ++ (code "," ∷ (shown m ++ (code ")" ∷ []))))),
              length-append inside (code "," ∷ (shown m ++ (code ")" ∷ []))),
              length-append (shown m) (code ")" ∷ []),
            )

        go : (text rest : List ℕ) (from : ℕ) → drop from text ≡ many_text ++ rest → pool text from ≡ record { end = Ok (from + length many_text); value = record { number = i; limit = m; elements = els } }
        go text rest from d =
            multiple_trip text rest from i els inside low high m lm um (d ∙ many_opened rest)
            (λ a h. elements_read text (code "," ∷ (shown m ++ (code ")" ∷ rest))) a h (unfold opens is_word is_letter is_digit amidst is_sign among in refl))
            ∙ ap (λ (q : ℕ). record { end = Ok (from + q); value = record { number = i; limit = m; elements = els } }) far

-- THE TEXT WHOLE
module _ (xs : List (List ℕ)) (ps : List Pool) (p : Pairs (Comes pool) xs ps) (some : 0 < length xs) (most : length xs ≤ pools) where
  abbrev body : List ℕ
  body = parted (code "|") xs

  abbrev whole : List ℕ
  whole = body ++ (code "\n" ∷ [])

  ending : token_at whole (length body) ≡ placed End (length whole) (length whole)
  ending = end_at_lem whole (length body) (unfold each is_blank among in ap (each is_blank) (drop-append_seam body (code "\n" ∷ []))) (omega (arith, length-append body (code "\n" ∷ [])))

  no_bar : sign_at (code "|") whole (length body) ≡ Refused misplaced (length whole)
  unfolding sign_at if_sign
  no_bar = ap (λ (k : Token). if_sign k.form (λ c. if eqb c (code "|") then Ok k.next or_else Refused misplaced k.at) (Refused misplaced k.at)) ending

  the_end : end_at whole (length body) ≡ Ok (length whole)
  unfolding end_at if_end
  the_end = ap (λ (k : Token). if_end k.form (Ok k.next) (Refused misplaced k.at)) ending

  pools_read : pools_at whole 0 ≡ record { end = Ok (length body); value = ps }
  unfolding pools_at
  pools_read =
      barred_read pool starts_pool xs ps no_pool pools p some most whole (code "\n" ∷ []) 0 misplaced (length whole) refl (ap (sign_at (code "|") whole) (zero-add (length body)) ∙ no_bar)
      ∙ ap (λ (q : ℕ). record { end = Ok q; value = ps }) (zero-add (length body))

  pub whole_read : model whole ≡ record { end = Ok (length whole); value = ps }
  unfolding model if_at
  whole_read =
      ap (λ (g : Got (List Pool)). record { end = if_at g.end (end_at whole) g.end; value = g.value }) pools_read
      ∙ ap (λ (r : Read). record { end = r; value = ps }) the_end
