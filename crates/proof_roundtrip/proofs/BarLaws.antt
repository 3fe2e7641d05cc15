-- Things with bars between them: written from the first on, and read back. Assumes nothing.
use Prim.Native.Char.{code}
use Prim.Native.Nat.{ℕ, zero, suc, ◌+◌, ◌≤◌, ◌<◌}
use mathlib.Core.Path.{◌≡◌, ◌∙◌, refl, sym, ap}
use mathlib.Core.Bool.{Bool}
use mathlib.Core.List.{List, [], ◌∷◌, ◌++◌, append_assoc, append-nil}
use native.Mathlib.Omega.{arith}
use lib.Dec.{eqb}
use lib.ListN.{length, drop, length-append}
use borrow.Author.Tests.{ne_eqb}
use Rattle.base_words.specs.Each.{joined, tab}
use Rattle.base_words.specs.Pick.{if◌then◌or_else◌}
use Rattle.base_words.proofs.JoinLaws.{joined_ext}
use Rattle.base_words.proofs.PickLaws.{pick_no}
use Rattle.text_lexer.specs.Lexer.{is_sign}
use Rattle.base_bytes.specs.Bytes.{among}
use Rattle.text_lexer.proofs.TokenLaws.{left_at}
use Rattle.std.specs.declared.result.Result.TheVariants.{Ok}
use Rattle.text_readers.specs.Reading.{Refused, if_at, sign_at}
use Rattle.text_read.specs.Notation.{Got, put_before, barred}
use Rattle.write_shown.specs.Shown.{lead, separated}
use Rattle.proof_roundtrip.proofs.SignReads.{sign_hit}

-- a list's first thing, and the others
pub tab_front : {A : Type 0} (v : ℕ → A) (n : ℕ) → tab v (suc n) ≡ v 0 ∷ tab (λ k. v (suc k)) n
unfolding tab
tab_front v zero = refl
tab_front v (suc n) = ap (λ l. l ++ (v (suc n) ∷ [])) (tab_front v n)

joined_front : {A : Type 0} (f : ℕ → List A) (n : ℕ) → joined f (suc n) ≡ f 0 ++ joined (λ k. f (suc k)) n
unfolding joined
joined_front f zero = sym (append-nil (f 0))
joined_front f (suc n) = ap (λ l. l ++ f (suc n)) (joined_front f n) ∙ append_assoc (f 0) (joined (λ k. f (suc k)) n) (f (suc n))

-- n pieces behind a first one, each behind a sign
unfoldable pub fronted : ℕ → (ℕ → List ℕ) → ℕ → List ℕ
fronted s f zero = f 0
fronted s f (suc n) = f 0 ++ (s ∷ fronted s (λ k. f (suc k)) n)

behind : (s : ℕ) (f : ℕ → List ℕ) (n : ℕ) → f 0 ++ joined (λ k. s ∷ f (suc k)) n ≡ fronted s f n
unfolding fronted joined
behind s f zero = append-nil (f 0)
behind s f (suc n) =
    ap (λ (l : List ℕ). f 0 ++ l) (joined_front (λ k. s ∷ f (suc k)) n ∙ ap (λ (l : List ℕ). s ∷ l) (behind s (λ k. f (suc k)) n))

lead_none : (s : ℕ) → lead s 0 ≡ []
unfolding lead if◌then◌or_else◌
lead_none s = refl

lead_some : (s k : ℕ) → lead s (suc k) ≡ s ∷ []
unfolding lead
lead_some s k = sym (pick_no (eqb (suc k) 0) _ _ _ (ne_eqb (suc k) 0 (λ e. omega (arith, e))) refl)

pub separated_front : (s : ℕ) (f : ℕ → List ℕ) (n : ℕ) → separated s f (suc n) ≡ fronted s f n
separated_front s f n =
    open_up
    ∙ joined_front (λ k. lead s k ++ f k) n
    ∙ first
    ∙ behind s f n
  where
    open_up : separated s f (suc n) ≡ joined (λ k. lead s k ++ f k) (suc n)
    open_up = unfold separated in refl

    first : (lead s 0 ++ f 0) ++ joined (λ k. lead s (suc k) ++ f (suc k)) n ≡ f 0 ++ joined (λ k. s ∷ f (suc k)) n
    first =
        ap (λ (l : List ℕ). (l ++ f 0) ++ joined (λ k. lead s (suc k) ++ f (suc k)) n) (lead_none s)
        ∙ ap (λ (l : List ℕ). f 0 ++ l) (joined_ext (λ k. lead s (suc k) ++ f (suc k)) (λ k. s ∷ f (suc k)) n (λ k h. ap (λ (l : List ℕ). l ++ f (suc k)) (lead_some s k)))

-- wherever w stands, the thing v is read from it
pub record Comes {A : Type 0} (thing : List ℕ → ℕ → Got A) (w : List ℕ) (v : A) : Type 0 where
  pub comes : (text rest : List ℕ) (from : ℕ) → drop from text ≡ w ++ rest → thing text from ≡ record { end = Ok (from + length w); value = v }

module _ {A : Type 0} (thing : List ℕ → ℕ → Got A) (starting : List ℕ → ℕ → Bool) where
  abbrev gone : List ℕ → ℕ → Got A → Got (List A)
  gone text m g =
      if_at g.end
      (λ q. if_at (sign_at (code "|") text q) (λ a. put_before g.value (barred thing starting m text a)) (record { end = Ok q; value = g.value ∷ [] }))
      (record { end = g.end; value = [] })

  -- the last thing, and one before others
  barred_last : (m : ℕ) (text : List ℕ) (from q a b : ℕ) (v : A) → thing text from ≡ record { end = Ok q; value = v } → sign_at (code "|") text q ≡ Refused a b
      → barred thing starting (suc m) text from ≡ record { end = Ok q; value = v ∷ [] }
  unfolding barred
  barred_last m text from q a b v e s = ap (gone text m) e ∙ rest
    where
      rest : gone text m (record { end = Ok q; value = v }) ≡ record { end = Ok q; value = v ∷ [] }
      rest = unfold if_at in rw s

  barred_more : (m : ℕ) (text : List ℕ) (from q a : ℕ) (v : A) → thing text from ≡ record { end = Ok q; value = v } → sign_at (code "|") text q ≡ Ok a
      → barred thing starting (suc m) text from ≡ put_before v (barred thing starting m text a)
  unfolding barred
  barred_more m text from q a v e s = ap (gone text m) e ∙ rest
    where
      rest : gone text m (record { end = Ok q; value = v }) ≡ put_before v (barred thing starting m text a)
      rest = unfold if_at in rw s

  -- THE LAW
  pub barred_trip : (n m : ℕ) → n < m → (f : ℕ → List ℕ) (v : ℕ → A) → ((k : ℕ) → k ≤ n → Comes thing (f k) (v k))
      → (text rest : List ℕ) (from a b : ℕ) → drop from text ≡ fronted (code "|") f n ++ rest → sign_at (code "|") text (from + length (fronted (code "|") f n)) ≡ Refused a b
      → barred thing starting m text from ≡ record { end = Ok (from + length (fronted (code "|") f n)); value = tab v (suc n) }
  barred_trip n zero h f v c text rest from a b d s = absurd (omega (arith, h))
  barred_trip zero (suc m) h f v c text rest from a b d s =
      unfold fronted tab in barred_last m text from (from + length (f 0)) a b (v 0) ((c 0 (omega arith)).comes text rest from d) s
  barred_trip (suc n) (suc m) h f v c text rest from a b d s =
      barred_more m text from (from + length (f 0)) (from + length (f 0) + 1) (v 0) ((c 0 (omega arith)).comes text (code "|" ∷ (others ++ rest)) from d₁)
      (sign_hit text (from + length (f 0)) (code "|") (others ++ rest) d₂ (unfold is_sign among in refl))
      ∙ ap (put_before (v 0)) (later (barred_trip n m (omega (arith, h)) (λ k. f (suc k)) (λ k. v (suc k)) (λ k l. c (suc k) (omega (arith, l)))))
      ∙ put
    where
      others : List ℕ
      others = fronted (code "|") (λ k. f (suc k)) n

      place : ℕ
      place = from + length (f 0) + 1

      d₁ : drop from text ≡ f 0 ++ (code "|" ∷ (others ++ rest))
      d₁ = unfold fronted in d ∙ append_assoc (f 0) (code "|" ∷ others) rest

      d₂ : drop (from + length (f 0)) text ≡ code "|" ∷ (others ++ rest)
      d₂ = left_at text from (f 0) (code "|" ∷ (others ++ rest)) d₁

      d₃ : drop (from + length (f 0) + 1) text ≡ others ++ rest
      d₃ = left_at text (from + length (f 0)) (code "|" ∷ []) (others ++ rest) d₂

      far : from + length (f 0) + 1 + length others ≡ from + length (fronted (code "|") f (suc n))
      far = unfold fronted in omega (arith, length-append (f 0) (code "|" ∷ others))

      later : ((text rest : List ℕ) (from a b : ℕ) → drop from text ≡ others ++ rest → sign_at (code "|") text (from + length others) ≡ Refused a b
          → barred thing starting m text from ≡ record { end = Ok (from + length others); value = tab (λ k. v (suc k)) (suc n) })
          → barred thing starting m text (from + length (f 0) + 1) ≡ record { end = Ok (from + length (fronted (code "|") f (suc n))); value = tab (λ k. v (suc k)) (suc n) }
      later r =
          r text rest (from + length (f 0) + 1) a b d₃ (ap (sign_at (code "|") text) far ∙ s)
          ∙ ap (λ (q : ℕ). record { end = Ok q; value = tab (λ k. v (suc k)) (suc n) }) far

      put : put_before (v 0) (record { end = Ok (from + length (fronted (code "|") f (suc n))); value = tab (λ k. v (suc k)) (suc n) }) ≡ record { end = Ok (from + length (fronted (code "|") f (suc n))); value = tab v (suc (suc n)) }
      put = unfold put_before in ap (λ (l : List A). record { end = Ok (from + length (fronted (code "|") f (suc n))); value = l }) (sym (tab_front v (suc n)))

  -- the same for k things that are written with bars between them
  pub separated_trip : (k m : ℕ) → 0 < k → k ≤ m → (f : ℕ → List ℕ) (v : ℕ → A) → ((j : ℕ) → j < k → Comes thing (f j) (v j))
      → (text rest : List ℕ) (from a b : ℕ) → drop from text ≡ separated (code "|") f k ++ rest → sign_at (code "|") text (from + length (separated (code "|") f k)) ≡ Refused a b
      → barred thing starting m text from ≡ record { end = Ok (from + length (separated (code "|") f k)); value = tab v k }
  separated_trip zero m l h f v c text rest from a b d s = absurd (omega (arith, l))
  separated_trip (suc n) m l h f v c text rest from a b d s =
      let e : separated (code "|") f (suc n) ≡ fronted (code "|") f n = separated_front 124 f n in
      barred_trip n m (omega (arith, h)) f v (λ j u. c j (omega (arith, u))) text rest from a b
      (d ∙ ap (λ (w : List ℕ). w ++ rest) e) (ap (λ (w : List ℕ). sign_at (code "|") text (from + length w)) (sym e) ∙ s)
      ∙ ap (λ (w : List ℕ). record { end = Ok (from + length w); value = tab v (suc n) }) (sym e)
