-- A TABLE'S TEXT READ BACK: the model that it means. Assumes nothing.
use Prim.Native.Char.{code}
use Prim.Native.Nat.{ℕ, zero, suc, ◌+◌, ◌≤◌, ◌<◌}
use mathlib.Core.Path.{◌≡◌, ◌∙◌, refl, sym, ap, subst}
use mathlib.Core.Bool.{true}
use mathlib.Core.List.{List, [], ◌∷◌, ◌++◌, append-nil}
use native.Mathlib.Decide.{dec_lt}
use native.Mathlib.Nat.{zero-add}
use native.Mathlib.Omega.{arith}
use lib.Dec.{eqb, ltb}
use lib.ListN.{length, drop, replicate, length-append, length-replicate}
use lib.Seq.{get_or-drop, drop-append_seam}
use borrow.Author.Tests.{lt-ltb, le-ltb}
use Rattle.base_words.specs.Counts.{pools}
use Rattle.base_words.specs.Each.{each, joined, tab}
use Rattle.base_words.specs.Pick.{if◌then◌or_else◌}
use Rattle.base_words.specs.Words.{at, greatest}
use Rattle.base_words.proofs.JoinLaws.{joined_ext}
use Rattle.base_words.proofs.PickLaws.{pick_yes, pick_no}
use Rattle.base_table.specs.Places.{element_words, element_place, table_words}
use Rattle.base_table.specs.Table.{pool_count, element_count, element_at}
use Rattle.check_limits.specs.Limits.{table_fits}
use Rattle.text_lexer.specs.declared.Token.{Token}
use Rattle.text_lexer.specs.declared.Form.TheVariants.{End}
use Rattle.text_lexer.specs.Lexer.{is_blank, placed, token_at, if_sign, if_end}
use Rattle.base_bytes.specs.Bytes.{among}
use Rattle.text_lexer.proofs.TokenLaws.{end_at_lem}
use Rattle.std.specs.declared.result.Result.TheVariants.{Ok}
use Rattle.text_readers.specs.Reading.{Read, Refused, Parsed, misplaced, passed_to, if_at, sign_at, end_at}
use Rattle.text_elements.specs.Elements.{element}
use Rattle.check_model.specs.Checks.{Pool}
use Rattle.text_read.specs.Notation.{Got, element_alone, pool, starts_pool, pools_at, model}
use Rattle.write_shown.specs.Shown.{lead, separated, shown_element, shown_pool, shown_pools, shown_table}
use Rattle.proof_roundtrip.specs.Blocks.{words_at, block_at, blocks_of}
use Rattle.proof_roundtrip.proofs.BarLaws.{Comes, separated_trip}
use Rattle.proof_roundtrip.proofs.TableFits.{pools_low, pools_high, pools_fit, number_low, number_high, limit_high, elements_low, elements_high, elements_fit, element_long}
use Rattle.proof_roundtrip.proofs.ElementReads.{element_trip}
use Rattle.proof_roundtrip.proofs.PoolReads.{pool_comes}

-- the pieces that are in use, of m
all_used : {A : Type 0} (f : ℕ → List A) (n : ℕ) → joined (λ k. if ltb k n then f k or_else []) n ≡ joined f n
all_used f n = joined_ext (λ k. if ltb k n then f k or_else []) f n (λ k h. sym (pick_yes (ltb k n) (f k) (f k) [] (lt-ltb k n h) refl))

used_first : {A : Type 0} (f : ℕ → List A) (n m : ℕ) → n ≤ m → joined (λ k. if ltb k n then f k or_else []) m ≡ joined f n
used_first f n zero l = ap (joined (λ k. if ltb k n then f k or_else [])) (let z : 0 ≡ n = omega (arith, l) in z) ∙ all_used f n
used_first {A} f n (suc m) l = go (dec_lt n (suc m)) (used_first f n m)
  where
    piece : ℕ → List A
    piece k = if ltb k n then f k or_else []

    last : n ≤ m → joined piece (suc m) ≡ joined piece m
    last h =
        unfold joined in
        ap (λ (w : List A). joined piece m ++ w) (sym (pick_no (ltb m n) [] (f m) [] (le-ltb m n h) refl))
        ∙ append-nil (joined piece m)

    go : Dec (n < suc m) → (n ≤ m → joined piece m ≡ joined f n) → joined piece (suc m) ≡ joined f n
    go (yes h) k = last (omega (arith, h)) ∙ k (omega (arith, h))
    go (no h) k = ap (joined piece) (let z : suc m ≡ n = omega (arith, h, l) in z) ∙ all_used f n

-- the end of a text, but for blanks
module _ (text : List ℕ) (from : ℕ) (e : token_at text from ≡ placed End (length text) (length text)) where
  no_bar : sign_at (code "|") text from ≡ Refused misplaced (length text)
  unfolding sign_at if_sign
  no_bar = ap (λ (k : Token). if_sign k.form (λ c. if eqb c (code "|") then Ok k.next or_else Refused misplaced k.at) (Refused misplaced k.at)) e

  the_end : end_at text from ≡ Ok (length text)
  unfolding end_at if_end
  the_end = ap (λ (k : Token). if_end k.form (Ok k.next) (Refused misplaced k.at)) e

module _ (t : List ℕ) (small : (i : ℕ) → at t i ≤ greatest) (fit : table_fits t ≡ true) (long : length t ≡ table_words) where
  element_comes : (p e : ℕ) → p < pool_count t → e < element_count t p → Comes element_alone (shown_element (element_at t p e)) (words_at t p e)
  element_comes p e hp he =
      record {
        comes = λ text rest from d. alone text from (length (shown_element (element_at t p e))) (words_at t p e)
            (element_trip (element_at t p e) small_here (elements_fit t p (pools_fit t fit p hp) e he) text rest (replicate element_words 0) from d
            (length-replicate {A = ℕ} element_words 0) (element_long t p e long (omega (arith, hp, pools_high t fit)) (omega (arith, he, elements_high t p (pools_fit t fit p hp)))));
      }
    where
      small_here : (i : ℕ) → at (element_at t p e) i ≤ greatest
      small_here i = subst (λ (v : ℕ). v ≤ greatest) (sym (get_or-drop (element_place p e) t i 0)) (small (element_place p e + i))

      alone : (text : List ℕ) (from n : ℕ) (w : List ℕ) → element text from (replicate element_words 0) ≡ passed_to (from + n) w → element_alone text from ≡ record { end = Ok (from + n); value = w }
      alone text from n w e = unfold element_alone in ap (λ (r : Parsed). record { end = r.end; value = r.words }) e

  pool_read : (p : ℕ) → p < pool_count t → Comes pool (shown_pool t p) (block_at t p)
  pool_read p h =
      let f = pools_fit t fit p h in
      pool_comes t p (number_low t p f) (number_high t p f) (limit_high t p f) (elements_low t p f) (elements_high t p f) (λ e l. element_comes p e h l)

  text_pools : shown_pools t ≡ separated (code "|") (shown_pool t) (pool_count t)
  unfolding shown_pools separated
  text_pools = used_first (λ p. lead (code "|") p ++ shown_pool t p) (pool_count t) pools (pools_high t fit)

  ending : token_at (shown_table t) (length (shown_pools t)) ≡ placed End (length (shown_table t)) (length (shown_table t))
  ending = end_at_lem (shown_table t) (length (shown_pools t)) blank within
    where
      blank : each is_blank (drop (length (shown_pools t)) (shown_table t)) ≡ true
      blank = unfold shown_table each is_blank among in ap (each is_blank) (drop-append_seam (shown_pools t) (code "\n" ∷ []))

      within : length (shown_pools t) ≤ length (shown_table t)
      within = unfold shown_table in omega (arith, length-append (shown_pools t) (code "\n" ∷ []))

  pools_read : pools_at (shown_table t) 0 ≡ record { end = Ok (length (shown_pools t)); value = blocks_of t }
  unfolding pools_at blocks_of
  pools_read =
      separated_trip pool starts_pool (pool_count t) pools (pools_low t fit) (pools_high t fit) (shown_pool t) (block_at t) pool_read (shown_table t) (code "\n" ∷ []) 0 misplaced (length (shown_table t))
      whole (ap (sign_at (code "|") (shown_table t)) far ∙ no_bar (shown_table t) (length (shown_pools t)) ending)
      ∙ ap (λ (q : ℕ). record { end = Ok q; value = tab (block_at t) (pool_count t) }) far
    where
      whole : drop 0 (shown_table t) ≡ separated (code "|") (shown_pool t) (pool_count t) ++ (code "\n" ∷ [])
      whole = unfold shown_table in ap (λ (w : List ℕ). w ++ (code "\n" ∷ [])) text_pools

      far : 0 + length (separated (code "|") (shown_pool t) (pool_count t)) ≡ length (shown_pools t)
      far = zero-add (length (separated (code "|") (shown_pool t) (pool_count t))) ∙ ap length (sym text_pools)

  -- THE LAW
  pub model_read : model (shown_table t) ≡ record { end = Ok (length (shown_table t)); value = blocks_of t }
  unfolding model if_at
  model_read =
      ap (λ (g : Got (List Pool)). record { end = if_at g.end (end_at (shown_table t)) g.end; value = g.value }) pools_read
      ∙ ap (λ (r : Read). record { end = r; value = blocks_of t }) (the_end (shown_table t) (length (shown_pools t)) ending)
