-- A POOL READ BACK, wherever its text stands, where its elements are. Assumes nothing.
use Prim.Native.Char.{code}
use Prim.Native.Nat.{ℕ, ◌+◌, ◌≤◌, ◌<◌}
use mathlib.Core.Path.{◌≡◌, ◌∙◌, refl, sym, ap}
use mathlib.Core.Bool.{true, false}
use mathlib.Core.List.{List, [], ◌∷◌, ◌++◌, append_assoc}
use native.Mathlib.Decide.{ℕ_discrete}
use native.Mathlib.Omega.{arith}
use lib.Dec.{eqb}
use lib.ListN.{length, drop, length-append}
use borrow.Author.Tests.{eq-eqb, ne_eqb}
use Rattle.base_words.specs.Counts.{pool_numbers, instances, elements}
use Rattle.base_words.specs.Each.{each, tab}
use Rattle.base_words.specs.Pick.{if◌then◌or_else◌}
use Rattle.base_words.specs.Text.{bytes}
use Rattle.base_words.specs.Words.{at, part}
use Rattle.base_words.proofs.PickLaws.{pick_yes, pick_no}
use Rattle.base_table.specs.Places.{pool_place, limit_place}
use Rattle.base_table.specs.Table.{element_count, element_at}
use Rattle.text_lexer.specs.declared.Token.{Token}
use Rattle.text_lexer.specs.Lexer.{is_word, is_sign, if_word}
use Rattle.base_bytes.specs.Bytes.{is_letter, is_digit, among, between}
use Rattle.text_lexer.proofs.TokenLaws.{left_at, bytes_at}
use Rattle.base_bytes.specs.Bytes.{same_bytes}
use Rattle.std.specs.declared.result.Result.TheVariants.{Ok}
use Rattle.text_readers.specs.Reading.{Refused, Parsed, misplaced, passed_to, if_at}
use Rattle.write_decimals.specs.Decimals.{shown}
use Rattle.text_elements.specs.Elements.{starts_element}
use Rattle.check_model.specs.Checks.{Pool}
use Rattle.text_read.specs.Notation.{element_alone, elements_at, plain, pool_word, opening, closing, unread, closed, inside_pool, pool_of_word, pool}
use Rattle.write_shown.specs.Shown.{shown_element, shown_elements, shown_limit, shown_pool}
use Rattle.proof_roundtrip.specs.Trip.{may_follow}
use Rattle.proof_roundtrip.proofs.SignReads.{opens, sign_miss, sign_stops}
use Rattle.proof_roundtrip.proofs.NumberReads.{Worded, word_token}
use Rattle.proof_roundtrip.specs.Blocks.{words_at, block_at}
use Rattle.proof_roundtrip.proofs.BarLaws.{Comes, separated_trip}
use Rattle.proof_roundtrip.proofs.OpenReads.{behind_number, opening_trip, closing-plain, closing-multiple}

abbrev block : ℕ → ℕ → List (List ℕ) → Pool
block n m els = record { number = n; limit = m; elements = els }

-- inside the parentheses: its number, its elements, its end
inside_at : (k : ℕ) (text : List ℕ) (h : Parsed) (a c : ℕ) (w : List ℕ) (els : List (List ℕ)) (r : Parsed)
    → h ≡ passed_to a w → elements_at text a ≡ record { end = Ok c; value = els } → closing k text c w ≡ r → inside_pool k text h ≡ closed r els
unfolding inside_pool if_at
inside_at k text h a c w els r e f g = rw (e, f, g)

-- the word of a pool, and what is inside
pool-at : (text w rest : List ℕ) (from k : ℕ) → drop from text ≡ w ++ rest → Worded w → may_follow rest ≡ true → pool_word w ≡ k → (k ≡ 0 → ⊥)
    → pool text from ≡ inside_pool k text (opening text (from + length w) (0 ∷ 0 ∷ []))
pool-at text w rest from k d g s e n =
    taken
    ∙ ap (λ (j : ℕ). pool_of_word j text from (from + length w)) e
    ∙ chosen
  where
    taken : pool text from ≡ pool_of_word (pool_word w) text from (from + length w)
    taken =
        unfold pool if_word in
        ap (λ (z : Token). if_word z.form (pool_of_word (pool_word (part text z.at z.next)) text z.at z.next) (unread (Refused misplaced z.at))) (word_token text w rest from d g s)
        ∙ ap (λ (v : List ℕ). pool_of_word (pool_word v) text from (from + length w)) (bytes_at text from w rest d)

    chosen : pool_of_word k text from (from + length w) ≡ inside_pool k text (opening text (from + length w) (0 ∷ 0 ∷ []))
    chosen = unfold pool_of_word in sym (pick_no (eqb k 0) _ _ _ (ne_eqb k 0 n) refl)

module _ (text rest : List ℕ) (from n : ℕ) (els : List (List ℕ)) (es : List ℕ) (l : 1 ≤ n) (u : n ≤ pool_numbers) where
  -- what stands inside, and what is read of it
  abbrev Elements : ℕ → Type 0
  Elements a = elements_at text a ≡ record { end = Ok (a + length es); value = els }

  -- `pool(n,..)`
  pub plain_trip : drop from text ≡ bytes "pool" ++ (code "(" ∷ (shown n ++ (code "," ∷ (es ++ (code ")" ∷ rest)))))
      → ((a : ℕ) → drop a text ≡ es ++ (code ")" ∷ rest) → Elements a)
      → pool text from ≡ record { end = Ok (from + (4 + (length (shown n) + 2 + (length es + 1)))); value = block n 0 els }
  plain_trip d h =
      pool-at text (bytes "pool") (code "(" ∷ (shown n ++ (code "," ∷ (es ++ (code ")" ∷ rest))))) from 1 d (record { some = omega arith; plain = unfold each is_word is_letter is_digit between in refl })
      (sign_stops (code "(") _ (unfold is_sign among in refl)) (unfold pool_word same_bytes if◌then◌or_else◌ in refl) (λ e. omega (arith, e))
      ∙ inside_at 1 text _ a (a + length es) (n ∷ 0 ∷ []) els (passed_to (a + length es + 1) (n ∷ 0 ∷ []))
      (opening_trip text (es ++ (code ")" ∷ rest)) (from + 4) n l u d₁) (h a d₂) (closing-plain text rest (a + length es) (n ∷ 0 ∷ []) (left_at text a es (code ")" ∷ rest) d₂))
      ∙ done
    where
      a : ℕ
      a = from + 4 + (length (shown n) + 2)

      d₁ : drop (from + 4) text ≡ code "(" ∷ (shown n ++ (code "," ∷ (es ++ (code ")" ∷ rest))))
      d₁ = left_at text from (bytes "pool") _ d

      d₂ : drop a text ≡ es ++ (code ")" ∷ rest)
      d₂ = behind_number text (es ++ (code ")" ∷ rest)) (from + 4) (code "(") (code ",") n d₁

      done : closed (passed_to (a + length es + 1) (n ∷ 0 ∷ [])) els ≡ record { end = Ok (from + (4 + (length (shown n) + 2 + (length es + 1)))); value = block n 0 els }
      done = unfold closed in ap (λ (q : ℕ). record { end = Ok q; value = block n 0 els }) (omega arith)

  -- `miPool(n,..,m)`
  pub multiple_trip : (m : ℕ) → 1 ≤ m → m ≤ instances → drop from text ≡ bytes "miPool" ++ (code "(" ∷ (shown n ++ (code "," ∷ (es ++ (code "," ∷ (shown m ++ (code ")" ∷ rest)))))))
      → ((a : ℕ) → drop a text ≡ es ++ (code "," ∷ (shown m ++ (code ")" ∷ rest))) → Elements a)
      → pool text from ≡ record { end = Ok (from + (6 + (length (shown n) + 2 + (length es + (length (shown m) + 2))))); value = block n m els }
  multiple_trip m lm um d h =
      pool-at text (bytes "miPool") (code "(" ∷ (shown n ++ (code "," ∷ (es ++ (code "," ∷ (shown m ++ (code ")" ∷ rest))))))) from 2 d (record { some = omega arith; plain = unfold each is_word is_letter is_digit between in refl })
      (sign_stops (code "(") _ (unfold is_sign among in refl)) (unfold pool_word same_bytes if◌then◌or_else◌ in refl) (λ e. omega (arith, e))
      ∙ inside_at 2 text _ a (a + length es) (n ∷ 0 ∷ []) els (passed_to (a + length es + (length (shown m) + 2)) (n ∷ m ∷ []))
      (opening_trip text (es ++ (code "," ∷ (shown m ++ (code ")" ∷ rest)))) (from + 6) n l u d₁) (h a d₂)
      (closing-multiple text rest (a + length es) m n lm um (left_at text a es (code "," ∷ (shown m ++ (code ")" ∷ rest))) d₂))
      ∙ done
    where
      a : ℕ
      a = from + 6 + (length (shown n) + 2)

      d₁ : drop (from + 6) text ≡ code "(" ∷ (shown n ++ (code "," ∷ (es ++ (code "," ∷ (shown m ++ (code ")" ∷ rest))))))
      d₁ = left_at text from (bytes "miPool") _ d

      d₂ : drop a text ≡ es ++ (code "," ∷ (shown m ++ (code ")" ∷ rest)))
      d₂ = behind_number text (es ++ (code "," ∷ (shown m ++ (code ")" ∷ rest)))) (from + 6) (code "(") (code ",") n d₁

      done : closed (passed_to (a + length es + (length (shown m) + 2)) (n ∷ m ∷ [])) els ≡ record { end = Ok (from + (6 + (length (shown n) + 2 + (length es + (length (shown m) + 2))))); value = block n m els }
      done = unfold closed in ap (λ (q : ℕ). record { end = Ok q; value = block n m els }) (omega arith)

around : (w num els lim rest : List ℕ) → (w ++ (code "(" ∷ ((num ++ (code "," ∷ (els ++ lim))) ++ (code ")" ∷ [])))) ++ rest ≡ w ++ (code "(" ∷ (num ++ (code "," ∷ (els ++ (lim ++ (code ")" ∷ rest))))))
around w num els lim rest =
    append_assoc w (code "(" ∷ ((num ++ (code "," ∷ (els ++ lim))) ++ (code ")" ∷ []))) rest
    ∙ ap (λ (l : List ℕ). w ++ (code "(" ∷ l))
    (append_assoc (num ++ (code "," ∷ (els ++ lim))) (code ")" ∷ []) rest
    ∙ append_assoc num (code "," ∷ (els ++ lim)) (code ")" ∷ rest)
    ∙ ap (λ (l : List ℕ). num ++ (code "," ∷ l)) (append_assoc els lim (code ")" ∷ rest)))

-- THE LAW
module _ (t : List ℕ) (p : ℕ) (l : 1 ≤ at t (pool_place p)) (u : at t (pool_place p) ≤ pool_numbers) (um : at t (limit_place p) ≤ instances)
    (lc : 0 < element_count t p) (uc : element_count t p ≤ elements) (each-comes : (e : ℕ) → e < element_count t p → Comes element_alone (shown_element (element_at t p e)) (words_at t p e)) where
  -- its elements, behind which stands no bar
  elements_trip : (text rest : List ℕ) (from : ℕ) → drop from text ≡ shown_elements t p ++ rest → opens (code "|") rest ≡ true
      → elements_at text from ≡ record { end = Ok (from + length (shown_elements t p)); value = tab (words_at t p) (element_count t p) }
  unfolding elements_at shown_elements
  elements_trip text rest from d o =
      separated_trip element_alone starts_element (element_count t p) elements lc uc (λ e. shown_element (element_at t p e)) (words_at t p) each-comes text rest from misplaced (from + length (shown_elements t p)) d
      (sign_miss text (from + length (shown_elements t p)) 124 rest (left_at text from (shown_elements t p) rest d) o)

  -- its text, by its limit
  text_plain : (rest : List ℕ) → at t (limit_place p) ≡ 0 → shown_pool t p ++ rest ≡ bytes "pool" ++ (code "(" ∷ (shown (at t (pool_place p)) ++ (code "," ∷ (shown_elements t p ++ (code ")" ∷ rest)))))
  unfolding shown_pool shown_limit
  text_plain rest e =
      let b : eqb (at t (limit_place p)) 0 ≡ true = eq-eqb (at t (limit_place p)) 0 e in
      around (if eqb (at t (limit_place p)) 0 then bytes "pool" or_else bytes "miPool") (shown (at t (pool_place p))) (shown_elements t p) (shown_limit (at t (limit_place p))) rest
      ∙ ap (λ (w : List ℕ). w ++ (code "(" ∷ (shown (at t (pool_place p)) ++ (code "," ∷ (shown_elements t p ++ (shown_limit (at t (limit_place p)) ++ (code ")" ∷ rest)))))))
      (sym (pick_yes (eqb (at t (limit_place p)) 0) (bytes "pool") (bytes "pool") (bytes "miPool") b refl))
      ∙ ap (λ (w : List ℕ). bytes "pool" ++ (code "(" ∷ (shown (at t (pool_place p)) ++ (code "," ∷ (shown_elements t p ++ (w ++ (code ")" ∷ rest)))))))
      (sym (pick_yes (eqb (at t (limit_place p)) 0) [] [] (code "," ∷ shown (at t (limit_place p))) b refl))

  text_multiple : (rest : List ℕ) → (at t (limit_place p) ≡ 0 → ⊥) → shown_pool t p ++ rest ≡ bytes "miPool" ++ (code "(" ∷ (shown (at t (pool_place p)) ++ (code "," ∷ (shown_elements t p ++ (code "," ∷ (shown (at t (limit_place p)) ++ (code ")" ∷ rest)))))))
  unfolding shown_pool shown_limit
  text_multiple rest e =
      let b : eqb (at t (limit_place p)) 0 ≡ false = ne_eqb (at t (limit_place p)) 0 e in
      around (if eqb (at t (limit_place p)) 0 then bytes "pool" or_else bytes "miPool") (shown (at t (pool_place p))) (shown_elements t p) (shown_limit (at t (limit_place p))) rest
      ∙ ap (λ (w : List ℕ). w ++ (code "(" ∷ (shown (at t (pool_place p)) ++ (code "," ∷ (shown_elements t p ++ (shown_limit (at t (limit_place p)) ++ (code ")" ∷ rest)))))))
      (sym (pick_no (eqb (at t (limit_place p)) 0) (bytes "miPool") (bytes "pool") (bytes "miPool") b refl))
      ∙ ap (λ (w : List ℕ). bytes "miPool" ++ (code "(" ∷ (shown (at t (pool_place p)) ++ (code "," ∷ (shown_elements t p ++ (w ++ (code ")" ∷ rest)))))))
      (sym (pick_no (eqb (at t (limit_place p)) 0) (code "," ∷ shown (at t (limit_place p))) [] (code "," ∷ shown (at t (limit_place p))) b refl))

  pub pool_comes : Comes pool (shown_pool t p) (block_at t p)
  unfolding block_at
  pool_comes = record { comes = λ text rest from d. go text rest from d (ℕ_discrete (at t (limit_place p)) 0) }
    where
      go : (text rest : List ℕ) (from : ℕ) → drop from text ≡ shown_pool t p ++ rest → Dec (at t (limit_place p) ≡ 0)
          → pool text from ≡ record { end = Ok (from + length (shown_pool t p)); value = block (at t (pool_place p)) (at t (limit_place p)) (tab (words_at t p) (element_count t p)) }
      go text rest from d (yes e) =
          plain_trip text rest from (at t (pool_place p)) (tab (words_at t p) (element_count t p)) (shown_elements t p) l u (d ∙ text_plain rest e)
          (λ a h. elements_trip text (code ")" ∷ rest) a h (unfold opens is_word is_letter is_digit between is_sign among in refl))
          ∙ ap (λ (q : ℕ). record { end = Ok (from + q); value = block (at t (pool_place p)) 0 (tab (words_at t p) (element_count t p)) })
          (let z : 4 + (length (shown (at t (pool_place p))) + 2 + (length (shown_elements t p) + 1)) ≡ length (shown_pool t p) =
          omega (arith, length-append (shown_pool t p) [], ap length (text_plain [] e), length-append (shown (at t (pool_place p))) (code "," ∷ (shown_elements t p ++ (code ")" ∷ []))), length-append (shown_elements t p) (code ")" ∷ [])) in z)
          ∙ ap (λ (k : ℕ). record { end = Ok (from + length (shown_pool t p)); value = block (at t (pool_place p)) k (tab (words_at t p) (element_count t p)) }) (sym e)
      go text rest from d (no e) =
          multiple_trip text rest from (at t (pool_place p)) (tab (words_at t p) (element_count t p)) (shown_elements t p) l u (at t (limit_place p)) (omega (arith, e)) um (d ∙ text_multiple rest e)
          (λ a h. elements_trip text (code "," ∷ (shown (at t (limit_place p)) ++ (code ")" ∷ rest))) a h (unfold opens is_word is_letter is_digit between is_sign among in refl))
          ∙ ap (λ (q : ℕ). record { end = Ok (from + q); value = block (at t (pool_place p)) (at t (limit_place p)) (tab (words_at t p) (element_count t p)) })
          (let z : 6 + (length (shown (at t (pool_place p))) + 2 + (length (shown_elements t p) + (length (shown (at t (limit_place p))) + 2))) ≡ length (shown_pool t p) =
          omega (
            arith,
            length-append (shown_pool t p) [],
            ap length (text_multiple [] e),
            length-append (shown (at t (pool_place p))) (code "," ∷ (shown_elements t p ++ (code "," ∷ (shown (at t (limit_place p)) ++ (code ")" ∷ []))))),
            length-append (shown_elements t p) (code "," ∷ (shown (at t (limit_place p)) ++ (code ")" ∷ []))),
            length-append (shown (at t (limit_place p))) (code ")" ∷ []),
          ) in z)
