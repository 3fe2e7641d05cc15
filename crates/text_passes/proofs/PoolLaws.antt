-- A pool, by the calls on the way. Assumes nothing.
use Prim.Native.Nat.{ℕ, ◌+◌}
use mathlib.Core.Path.{◌≡◌, refl, sym, ◌∙◌, ap, ap₂}
use mathlib.Core.Bool.{Bool, true, false, not}
use mathlib.Core.List.{List, [], ◌∷◌}
use denote.Enum.Declared.{tag_of}
use lib.Dec.{eqb}
use lib.ListN.{length, replicate, length-replicate}
use borrow.Author.Tests.{eq-eqb, ne_eqb}
use Rattle.base_words.specs.Pick.{if◌then◌or_else◌}
use Rattle.base_words.specs.Text.{bytes}
use Rattle.base_words.specs.Words.{at, part}
use Rattle.base_words.specs.Counts.{pool_numbers, instances}
use Rattle.base_words.proofs.PickLaws.{pick_yes, pick_no, flag_is}
use Rattle.base_table.specs.Places.{element_words, limit_in}
use Rattle.text_lexer.specs.declared.Token.{Token}
use Rattle.text_lexer.specs.declared.Form.TheVariants.{Word}
use Rattle.text_lexer.specs.Lexer.{token_at}
use Rattle.text_lexer.specs.contracts.Form.{the_type}
use Rattle.base_bytes.specs.Bytes.{same_bytes}
use Rattle.std.specs.Result.{IsErrAnd}
use Rattle.std.specs.declared.result.Result.TheVariants.{Ok, Err}
use Rattle.text_readers.specs.declared.Refusal.{Refusal}
use Rattle.text_readers.specs.Reading.{Read, Refused, Parsed, Reader, misplaced, if_at, ◌then◌, sign_at, sign, number, end_at}
use Rattle.text_readers.proofs.ReadingLaws.{then_passed, then_stopped, sign_passed, sign_stopped, sign_last, if_at_at, if_at_refused, handed}
use Rattle.text_readers.proofs.WordLaws.{word_read, word_missed}
use Rattle.text_elements.specs.Elements.{element}
use Rattle.text_elements.proofs.ElementLaws.{element_any}
use Rattle.check_model.specs.Checks.{Pool}
use Rattle.text_ends.specs.Room.{noted_words}
use Rattle.text_passes.specs.Model.{Got, element_alone, elements_at, plain, multiple, pool_word, opening, closing, unread, closed, inside_pool, pool_of_word, pool, starts_pool, pools_at, model}
use Rattle.text_passes.specs.Passes.{kept_element, kept_all, summed, elements_placed, headed, kept_head, kept_pool, Passed}
use Rattle.text_passes.proofs.BarLaws.{stopped}

-- an element, whatever stood in its words x
pub alone : (text : List ℕ) (at : ℕ) (x y : List ℕ) (r : Read) → length x ≡ element_words → record { end = r; words = y } ≡ element text at x → ◌≡◌ {A = Got (List ℕ)} (record { end = r; value = y }) (element_alone text at)
unfolding element_alone
alone text at x y r l e =
    ap (λ (g : Parsed). record { end = g.end; value = g.words })
    (e ∙ element_any text at x (replicate element_words 0) (l ∙ sym (length-replicate {A = ℕ} element_words 0)))

-- the keywords
pub plain_named : (w : List ℕ) (b : Bool) → b ≡ same_bytes w (bytes "pool") → b ≡ true → plain ≡ pool_word w
unfolding pool_word
plain_named w b e h = pick_yes _ _ _ _ (sym e ∙ h) refl

module _ (w : List ℕ) (b c : Bool) (e : b ≡ same_bytes w (bytes "pool")) (h : b ≡ false) (f : c ≡ same_bytes w (bytes "miPool")) where
  pub multiple_named : c ≡ true → multiple ≡ pool_word w
  unfolding pool_word
  multiple_named k = pick_no _ _ _ _ (sym e ∙ h) (pick_yes _ _ _ _ (sym f ∙ k) refl)

  pub not_named : c ≡ false → 0 ≡ pool_word w
  unfolding pool_word
  not_named k = pick_no _ _ _ _ (sym e ∙ h) (pick_no _ _ _ _ (sym f ∙ k) refl)

-- what opens a pool, and closes it
pub opened : (text : List ℕ) (at : ℕ) (h : List ℕ) (w : Parsed) → w ≡ (sign 40 then number 1 pool_numbers 0 then sign 44) text at h → w ≡ opening text at h
unfolding opening
opened text at h w e = e

module _ (k : ℕ) (text : List ℕ) (at : ℕ) (h : List ℕ) where
  pub closed-plain : (r : Read) → k ≡ plain → r ≡ sign_at 41 text at → record { end = r; words = h } ≡ closing k text at h
  unfolding closing if◌then◌or_else◌
  closed-plain r e f = rw (eq-eqb k plain e) (sign_last 41 text at h r f)

  pub closed-multiple : (w : Parsed) → (k ≡ plain → ⊥) → w ≡ (sign 44 then number 1 instances limit_in then sign 41) text at h → w ≡ closing k text at h
  unfolding closing if◌then◌or_else◌
  closed-multiple w n e = rw (ne_eqb k plain n) e

-- THE ELEMENTS of pool i, in its summary or in the table
module _ (i : ℕ) (g : Got (List (List ℕ))) (s w : List ℕ) (r : Read) where
  pub only_placed : (fills : Bool) (v : List ℕ) → fills ≡ true → Passed (kept_all (kept_element fills i) 0) g w r v → Passed (summed fills i) g s r s × Passed (elements_placed fills i) g w r v
  unfolding summed elements_placed
  only_placed fills v e p =
      (record { ended = p.ended; left = λ q h. pick_yes _ _ _ _ e refl }, record { ended = p.ended; left = λ q h. pick_yes _ _ _ _ e (p.left q h) })

  pub only_summed : (fills : Bool) (u : List ℕ) → fills ≡ false → Passed (kept_all (kept_element fills i) 0) g s r u → Passed (summed fills i) g s r u × Passed (elements_placed fills i) g w r w
  unfolding summed elements_placed
  only_summed fills u e p =
      (record { ended = p.ended; left = λ q h. pick_no _ _ _ _ e (p.left q h) }, record { ended = p.ended; left = λ q h. pick_no _ _ _ _ e refl })

-- BEHIND THE OPENING, whose words are h
module _ (fills : Bool) (i k : ℕ) (text : List ℕ) (a : ℕ) (h : List ℕ) (w : List ℕ) (r : Read) (s u : List ℕ)
    (es : Passed (summed fills i) (elements_at text a) (replicate noted_words 0) r s) (eu : Passed (elements_placed fills i) (elements_at text a) w r u) where
  abbrev Whole : Read → List ℕ → Type 0
  Whole e v = Passed (kept_pool fills i) (inside_pool k text (record { end = Ok a; words = h })) w e v

  pub elements_stopped : (d : Refusal) (z : Read) → r ≡ Err d → IsErrAnd z (λ (x : Refusal). x ≡ d) → Whole z u
  unfolding inside_pool if_at
  elements_stopped d z e f =
      let same = handed r z d e f in
      stopped _ _ w u z d
      (same ∙ es.ended ∙ sym (ap (λ (g : Got Pool). g.end) (if_at_refused (elements_at text a).end _ (unread (elements_at text a).end) d (sym es.ended ∙ e)))) (same ∙ e)

  module _ (c : ℕ) (ec : r ≡ Ok c) (b : Read) (y : List ℕ) (eb : record { end = b; words = y } ≡ closing k text c h) where
    value : inside_pool k text (record { end = Ok a; words = h }) ≡ closed (record { end = b; words = y }) (elements_at text a).value
    unfolding inside_pool if_at
    value = if_at_at (elements_at text a).end _ _ c (sym es.ended ∙ ec) ∙ ap (λ (z : Parsed). closed z (elements_at text a).value) (sym eb)

    pub closing-stopped : (d : Refusal) (z : Read) → b ≡ Err d → IsErrAnd z (λ (x : Refusal). x ≡ d) → Whole z u
    unfolding closed
    closing-stopped d z e f =
        let same = handed b z d e f in
        stopped _ _ w u z d (same ∙ sym (ap (λ (g : Got Pool). g.end) value)) (same ∙ e)

    pub closing_passed : (q x l : ℕ) (v : List ℕ) → b ≡ Ok q → x ≡ at y 0 → l ≡ at y limit_in → v ≡ kept_head fills i x l s u → Whole (Ok q) v
    unfolding closed kept_pool
    closing_passed q x l v e ex el ev =
        record {
          ended = sym e ∙ sym (ap (λ (g : Got Pool). g.end) value);
          left = λ z f.
              ev ∙ ap₂ (λ m n. kept_head fills i m n s u) ex el
              ∙ ap₂ (kept_head fills i (at y 0) (at y limit_in)) (es.left c ec) (eu.left c ec)
              ∙ ap (λ (g : Got Pool). kept_pool fills i g.value w) (sym value);
        }

-- BEHIND THE KEYWORD
module _ (fills : Bool) (i k : ℕ) (text : List ℕ) (at : ℕ) (w : List ℕ) (r : Read) (h : List ℕ)
    (e : record { end = r; words = h } ≡ opening text at (0 ∷ 0 ∷ [])) where
  abbrev Behind : Read → List ℕ → Type 0
  Behind b v = Passed (kept_pool fills i) (inside_pool k text (opening text at (0 ∷ 0 ∷ []))) w b v

  pub opening-stopped : (d : Refusal) (z : Read) → r ≡ Err d → IsErrAnd z (λ (x : Refusal). x ≡ d) → (v : List ℕ) → Behind z v
  unfolding inside_pool
  opening-stopped d z f k v =
      let same = handed r z d f k in
      stopped _ _ w v z d (same ∙ rw (← e) (sym (ap (λ (g : Got Pool). g.end) (if_at_refused r _ (unread r) d f)))) (same ∙ f)

  pub opening_passed : (a : ℕ) (b : Read) (v : List ℕ) → r ≡ Ok a → Passed (kept_pool fills i) (inside_pool k text (record { end = Ok a; words = h })) w b v → Behind b v
  opening_passed a b v f p = rw (← e, f) p

-- A POOL BY ITS FIRST TOKEN
module _ (text : List ℕ) (at : ℕ) (t : Token) (e : t ≡ token_at text at) where
  pub starts_no : (t.form ≡ Word → ⊥) → false ≡ starts_pool text at
  unfolding starts_pool
  starts_no f = word_missed text at t e (λ l p q. not (eqb (pool_word l) 0)) (λ p. false) false f refl

  pub starts_yes : (l : List ℕ) (k : ℕ) → t.form ≡ Word → l ≡ part text t.at t.next → k ≡ pool_word l → not (eqb k 0) ≡ starts_pool text at
  unfolding starts_pool
  starts_yes l k f h n = word_read text at t e (λ z p q. not (eqb (pool_word z) 0)) (λ p. false) (not (eqb k 0)) l f h (ap (λ j. not (eqb j 0)) n)

module _ (fills : Bool) (i : ℕ) (text : List ℕ) (at : ℕ) (w : List ℕ) (t : Token) (e : t ≡ token_at text at) where
  abbrev of_word : List ℕ → ℕ → ℕ → Got Pool
  of_word l p q = pool_of_word (pool_word l) text p q

  abbrev of_other : ℕ → Got Pool
  of_other p = unread (Refused misplaced p)

  abbrev PoolHere : Read → List ℕ → Type 0
  PoolHere b v = Passed (kept_pool fills i) (pool text at) w b v

  pub pool_missed : (t.form ≡ Word → ⊥) → PoolHere (Refused misplaced t.at) w
  unfolding pool
  pool_missed f =
      stopped _ _ w w (Refused misplaced t.at) (record { number = misplaced; place = t.at })
      (ap (λ (g : Got Pool). g.end) (word_missed text at t e of_word of_other (unread (Refused misplaced t.at)) f refl)) refl

  module _ (l : List ℕ) (k : ℕ) (f : t.form ≡ Word) (el : l ≡ part text t.at t.next) (ek : k ≡ pool_word l) where
    here : pool_of_word k text t.at t.next ≡ pool text at
    unfolding pool
    here = word_read text at t e of_word of_other (pool_of_word k text t.at t.next) l f el (ap (λ j. pool_of_word j text t.at t.next) ek)

    pub pool_unnamed : k ≡ 0 → PoolHere (Refused misplaced t.at) w
    unfolding pool_of_word
    pool_unnamed z =
        stopped _ _ w w (Refused misplaced t.at) (record { number = misplaced; place = t.at })
        (ap (λ (g : Got Pool). g.end) (pick_yes (eqb k 0) (unread (Refused misplaced t.at)) _ _ (eq-eqb k 0 z) refl ∙ here)) refl

    pub pool_passed : (b : Read) (v : List ℕ) → (k ≡ 0 → ⊥) → Passed (kept_pool fills i) (inside_pool k text (opening text t.next (0 ∷ 0 ∷ []))) w b v → PoolHere b v
    unfolding pool_of_word
    pool_passed b v n p =
        let same : inside_pool k text (opening text t.next (0 ∷ 0 ∷ [])) ≡ pool text at = pick_no (eqb k 0) (inside_pool k text (opening text t.next (0 ∷ 0 ∷ []))) _ _ (ne_eqb k 0 n) refl ∙ here in
        rw (← same) p
