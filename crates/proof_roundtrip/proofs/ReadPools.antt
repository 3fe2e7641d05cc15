-- Pools that were read are within their limits. Assumes nothing.
use Prim.Native.Char.{code}
use Prim.Native.Nat.{ℕ, zero, suc, ◌≤◌, ◌<◌}
use mathlib.Core.Path.{◌≡◌, ◌∙◌, refl, sym, ap, subst}
use mathlib.Core.Bool.{Bool, true, false, false≢true}
use mathlib.Core.List.{List, [], ◌∷◌}
use native.Mathlib.Omega.{arith}
use lib.Dec.{eqb}
use lib.ListN.{length, replicate, set, length-replicate}
use Rattle.base_words.specs.Counts.{pools, elements, pool_numbers, instances}
use Rattle.base_words.specs.Pick.{if◌then◌or_else◌}
use Rattle.base_words.specs.Words.{at}
use Rattle.base_table.specs.Places.{element_words, limit_in}
use Rattle.text_lexer.specs.declared.Form.{Form}
use Rattle.text_lexer.specs.declared.Form.TheVariants.{Word, Sign, Assign, End, Other}
use Rattle.text_lexer.specs.Lexer.{token_at, if_word}
use Rattle.std.specs.declared.result.Result.TheVariants.{Ok, Err}
use Rattle.text_readers.specs.Reading.{Read, Refused, Parsed, Reader, misplaced, passed_to, if_at, onward, ◌then◌, place_of, behind, letters, sign_at, end_at, sign, number}
use Rattle.text_elements.specs.Elements.{element, starts_element}
use Rattle.check_model.specs.Checks.{Pool}
use Rattle.text_read.specs.Notation.{Got, one_too_many, put_before, barred, element_alone, elements_at, plain, pool_word, opening, closing, unread, closed, inside_pool, pool_of_word, pool, starts_pool, pools_at, model}
use Rattle.proof_roundtrip.proofs.EndModels.{Every, Right, Fit, Model}
use Rattle.proof_roundtrip.proofs.FillLaws.{onward_passed}
use Rattle.proof_roundtrip.proofs.WordFills.{Kept, number_passed}
use Rattle.proof_roundtrip.proofs.ReadElements.{element_right}

-- a refusal is no place
pub not_at : (n p q : ℕ) → Refused n p ≡ Ok q → ⊥
unfolding if_at
not_at n p q e = false≢true (ap (λ (r : Read). if_at r (λ k. true) false) e)

-- THINGS WITH BARS BETWEEN THEM
module _ {A : Type 0} (thing : List ℕ → ℕ → Got A) (starting : List ℕ → ℕ → Bool) (P : A → Type 0) (good : (text : List ℕ) (from q : ℕ) → (thing text from).end ≡ Ok q → P (thing text from).value) where
  pub record Some (n : ℕ) (vs : List A) : Type 0 where
    pub low : 0 < length vs
    pub high : length vs ≤ n
    pub every : Every P vs

  -- behind a thing: a bar and more things, or their end
  behind_one : (n q a : ℕ) (v : A) (s : Read) (more : ℕ → Got (List A)) → P v → ((b : ℕ) → (more b).end ≡ Ok q → Some n (more b).value)
      → (if_at s (λ b. put_before v (more b)) (record { end = Ok a; value = v ∷ [] })).end ≡ Ok q → Some (suc n) (if_at s (λ b. put_before v (more b)) (record { end = Ok a; value = v ∷ [] })).value
  unfolding if_at put_before
  behind_one n q a v (Ok b) more p f e = let m = f b e in record { low = omega arith; high = omega (arith, m.high); every = (p, m.every) }
  behind_one n q a v (Err x) more p f e = record { low = omega arith; high = omega arith; every = (p, omega arith) }

  one_first : (n q : ℕ) (r : Read) (go : ℕ → Got (List A)) → ((a : ℕ) → r ≡ Ok a → (go a).end ≡ Ok q → Some n (go a).value)
      → (if_at r go (record { end = r; value = [] })).end ≡ Ok q → Some n (if_at r go (record { end = r; value = [] })).value
  unfolding if_at
  one_first n q (Ok a) go f e = f a refl e
  one_first n q (Err x) go f e = absurd (not_at x.number x.place q e)

  too_many_lem : (b : Bool) (p q : ℕ) → one_too_many b p ≡ Ok q → ⊥
  unfolding one_too_many
  too_many_lem b p q e = not_at _ p q e

  pub barred_some : (n : ℕ) (text : List ℕ) (from q : ℕ) → (barred thing starting n text from).end ≡ Ok q → Some n (barred thing starting n text from).value
  unfolding barred
  barred_some zero text from q e = absurd (too_many_lem (starting text from) (place_of text from) q e)
  barred_some (suc n) text from q e =
      one_first (suc n) q (thing text from).end
      (λ a. if_at (sign_at (code "|") text a) (λ b. put_before (thing text from).value (barred thing starting n text b)) (record { end = Ok a; value = (thing text from).value ∷ [] }))
      (λ a h k. behind_one n q a (thing text from).value (sign_at (code "|") text a) (barred thing starting n text) (good text from a h) (λ b m. barred_some n text b q m) k) e

-- ELEMENTS
element_good : (text : List ℕ) (from q : ℕ) → (element_alone text from).end ≡ Ok q → Right (element_alone text from).value
unfolding element_alone
element_good text from q e =
    element_right text (replicate element_words 0) from q (element text from (replicate element_words 0)).words (length-replicate {A = ℕ} element_words 0)
    (ap (λ (r : Read). record { end = r; words = (element text from (replicate element_words 0)).words }) e)

pub Elements : ℕ → List (List ℕ) → Type 0
Elements = Some element_alone starts_element Right element_good

elements_good : (text : List ℕ) (from q : ℕ) → (elements_at text from).end ≡ Ok q → Elements elements (elements_at text from).value
unfolding elements_at Elements
elements_good text from q e = barred_some element_alone starts_element Right element_good elements text from q e

-- A POOL
-- a number between two signs
number_kept : (least most place : ℕ) (g : Reader) (text x y : List ℕ) (from q : ℕ) (w : List ℕ) → x ≡ y → ((text z : List ℕ) (from q : ℕ) (w : List ℕ) → g text from z ≡ passed_to q w → w ≡ z)
    → onward (number least most place text from y) (g text) ≡ passed_to q w → Kept least most place x w
number_kept least most place g text x y from q w e idle h =
    let o = onward_passed (number least most place text from y) (g text) q w h in
    let k = number_passed least most place text y from o.place o.words o.first in
    record { value = k.value; low = k.low; high = k.high; put = same_put k.value o.words k.put (idle text o.words o.place q w o.further) }
  where
    same_put : (v : ℕ) (z : List ℕ) → set y place v ≡ z → w ≡ z → set x place v ≡ w
    same_put v z a b = ap (λ (u : List ℕ). set u place v) e ∙ a ∙ sym b

between_kept : (a b least most place : ℕ) (text x : List ℕ) (from q : ℕ) (w : List ℕ) → (sign a then number least most place then sign b) text from x ≡ passed_to q w → Kept least most place x w
unfolding ◌then◌
between_kept a b least most place text x from q w e =
    let m = onward_passed (sign a text from x) ((number least most place then sign b) text) q w e in
    number_kept least most place (sign b) text x m.words m.place q w (ap (λ (r : Parsed). r.words) m.first) (λ text z from q w h. sym (ap (λ (r : Parsed). r.words) h)) m.further

-- its number, and its limit
opening_words : (text : List ℕ) (from a : ℕ) (w : List ℕ) → opening text from (0 ∷ 0 ∷ []) ≡ passed_to a w → (v : ℕ) × (1 ≤ v) × (v ≤ pool_numbers) × (v ∷ 0 ∷ [] ≡ w)
unfolding opening
opening_words text from a w e = let k = between_kept (code "(") (code ",") 1 pool_numbers 0 text (0 ∷ 0 ∷ []) from a w e in (k.value, k.low, k.high, k.put)

abbrev Closed : ℕ → List ℕ → Type 0
Closed v w = (at w 0 ≡ v) × (at w limit_in ≤ instances)

closing_words : (k v : ℕ) (text : List ℕ) (from q : ℕ) (w : List ℕ) → closing k text from (v ∷ 0 ∷ []) ≡ passed_to q w → Closed v w
unfolding closing
closing_words k v text from q w e = go (eqb k plain) e
  where
    go : (b : Bool) → (if b then sign (code ")") or_else sign (code ",") then number 1 instances limit_in then sign (code ")")) text from (v ∷ 0 ∷ []) ≡ passed_to q w → Closed v w
    go true e = unfold if◌then◌or_else◌ in subst (Closed v) (ap (λ (r : Parsed). r.words) e) (refl, omega arith)
    go false e = unfold if◌then◌or_else◌ in let k = between_kept (code ",") (code ")") 1 instances limit_in text (v ∷ 0 ∷ []) from q w e in subst (Closed v) k.put (refl, k.high)

-- what was read where reading passed
passed_as : (r : Parsed) (q : ℕ) → r.end ≡ Ok q → r ≡ passed_to q r.words
passed_as r q e = ap (λ (z : Read). record { end = z; words = r.words }) e

closed_fit : (r : Parsed) (els : List (List ℕ)) (q v : ℕ) → 1 ≤ v → v ≤ pool_numbers → Closed v r.words → Elements elements els → (closed r els).end ≡ Ok q → Fit (closed r els).value
unfolding closed Elements
closed_fit r els q v l u c m e =
    record { number_low = omega (arith, c.0, l); number_high = omega (arith, c.0, u); limit_high = c.1; low = m.low; high = m.high; every = m.every }

-- inside the parentheses
got_passed : (r : Read) (go : ℕ → Got Pool) (q : ℕ) → ((a : ℕ) → r ≡ Ok a → (go a).end ≡ Ok q → Fit (go a).value) → (if_at r go (unread r)).end ≡ Ok q → Fit (if_at r go (unread r)).value
unfolding if_at
got_passed (Ok a) go q f e = f a refl e
got_passed (Err d) go q f e = absurd (not_at d.number d.place q e)

closing_end : (r : Parsed) (els : List (List ℕ)) (q : ℕ) → (closed r els).end ≡ Ok q → r ≡ passed_to q r.words
unfolding closed
closing_end r els q e = passed_as r q e

inside_fit : (k : ℕ) (text : List ℕ) (from q : ℕ) → (inside_pool k text (opening text from (0 ∷ 0 ∷ []))).end ≡ Ok q → Fit (inside_pool k text (opening text from (0 ∷ 0 ∷ []))).value
unfolding inside_pool
inside_fit k text from q e =
    got_passed (opening text from (0 ∷ 0 ∷ [])).end _ q
    (λ a z.
    let o = opening_words text from a (opening text from (0 ∷ 0 ∷ [])).words (passed_as (opening text from (0 ∷ 0 ∷ [])) a z) in
    got_passed (elements_at text a).end _ q
    (λ c y h. ended a c (opening text from (0 ∷ 0 ∷ [])).words o.0 o.1 o.2 o.3 y h))
    e
  where
    ended : (a c : ℕ) (w : List ℕ) (v : ℕ) → 1 ≤ v → v ≤ pool_numbers → v ∷ 0 ∷ [] ≡ w → (elements_at text a).end ≡ Ok c
        → (closed (closing k text c w) (elements_at text a).value).end ≡ Ok q → Fit (closed (closing k text c w) (elements_at text a).value).value
    ended a c w v l u s y h =
        closed_fit (closing k text c w) (elements_at text a).value q v l u
        (closing_words k v text c q (closing k text c w).words (ap (closing k text c) s ∙ closing_end (closing k text c w) (elements_at text a).value q h))
        (elements_good text a c y) h

pool_of_fit : (k p : ℕ) (text : List ℕ) (from q : ℕ) → (pool_of_word k text p from).end ≡ Ok q → Fit (pool_of_word k text p from).value
unfolding pool_of_word
pool_of_fit k p text from q e = go (eqb k 0) e
  where
    go : (b : Bool) → (if b then unread (Refused misplaced p) or_else inside_pool k text (opening text from (0 ∷ 0 ∷ []))).end ≡ Ok q
        → Fit (if b then unread (Refused misplaced p) or_else inside_pool k text (opening text from (0 ∷ 0 ∷ []))).value
    go true e = absurd (not_at misplaced p q (unfold if◌then◌or_else◌ in e))
    go false e = unfold if◌then◌or_else◌ in inside_fit k text from q e

word_got : (form : Form) (g : Got Pool) (n p q : ℕ) → (g.end ≡ Ok q → Fit g.value) → (if_word form g (unread (Refused n p))).end ≡ Ok q → Fit (if_word form g (unread (Refused n p))).value
unfolding if_word
word_got Word g n p q f e = f e
word_got (Sign s) g n p q f e = absurd (not_at n p q e)
word_got Assign g n p q f e = absurd (not_at n p q e)
word_got End g n p q f e = absurd (not_at n p q e)
word_got Other g n p q f e = absurd (not_at n p q e)

pool_fit : (text : List ℕ) (from q : ℕ) → (pool text from).end ≡ Ok q → Fit (pool text from).value
unfolding pool
pool_fit text from q e =
    word_got (token_at text from).form (pool_of_word (pool_word (letters text from)) text (place_of text from) (behind text from)) misplaced (place_of text from) q
    (pool_of_fit (pool_word (letters text from)) (place_of text from) text (behind text from) q) e

-- THE MODEL: 1 to 4 pools
pub model_fit : (text : List ℕ) (q : ℕ) → (model text).end ≡ Ok q → Model (model text).value
unfolding model
model_fit text q e = by (pools_at text 0).end refl e
  where
    some : (a : ℕ) → (pools_at text 0).end ≡ Ok a → Model (pools_at text 0).value
    some a h = unfold pools_at in let m = barred_some pool starts_pool Fit pool_fit pools text 0 a h in record { low = m.low; high = m.high; every = m.every }

    by : (r : Read) → (pools_at text 0).end ≡ r → if_at r (end_at text) r ≡ Ok q → Model (pools_at text 0).value
    by (Ok a) h e = some a h
    by (Err d) h e = absurd (not_at d.number d.place q (unfold if_at in e))
