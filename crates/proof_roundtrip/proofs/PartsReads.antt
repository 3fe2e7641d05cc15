-- The parts of a row read back, one after the other. Assumes nothing.
use Prim.Native.Char.{code}
use Prim.Native.Nat.{ℕ, suc, ◌<◌}
use mathlib.Core.Path.{◌≡◌, ◌∙◌, refl, sym, ap, subst}
use mathlib.Core.Bool.{Bool, true, false, not, ◌||◌, false≢true}
use mathlib.Core.List.{List, [], ◌∷◌, ◌++◌}
use mathlib.Core.Logic.{◌⊎◌, inl, inr, ⊎_elim}
use native.Mathlib.Omega.{arith}
use lib.Dec.{eqb}
use lib.ListN.{length}
use borrow.Author.Tests.{eq-eqb, eqb-true, eqb-false}
use Rattle.std.proofs.lemmas.Bool.{or_right, or_cases}
use Rattle.base_words.specs.Pick.{if◌then◌or_else◌}
use Rattle.base_words.specs.Words.{at}
use Rattle.base_words.proofs.AllLaws.{and_left, and_right}
use Rattle.base_words.proofs.PickLaws.{pick_yes, pick_no}
use Rattle.text_lexer.specs.Lexer.{is_sign}
use Rattle.base_bytes.specs.Bytes.{among}
use Rattle.text_readers.specs.Reading.{Reader, nothing, ◌then◌, sign}
use Rattle.text_parts.specs.Parts.{part_of}
use Rattle.text_elements.specs.Elements.{parts_from}
use Rattle.write_shown.specs.Shown.{shown_part, shown_parts}
use Rattle.proof_roundtrip.specs.Trip.{Trip, may_close, ends, behind_part, region_of}
use Rattle.proof_roundtrip.proofs.ReadsLaws.{Reads, reads_nothing, reads_before, reads_of, reads_as, reads_text, reads_wider, reads_then}
use Rattle.proof_roundtrip.proofs.SignReads.{reads_sign}
use Rattle.proof_roundtrip.proofs.RowLaws.{listed, bare, lastly}

-- some part of a row stores the word i
pub record Stored (cs : List ℕ) (i : ℕ) : Type 0 where
  pub part : ℕ
  pub has : listed cs part ≡ true
  pub region : region_of part i ≡ true

-- each part of a row is read back
abbrev pub PartTrips : List ℕ → List ℕ → Type 0
PartTrips el cs = (c : ℕ) → listed cs c ≡ true → Trip el (part_of c) (shown_part c el) (behind_part c) (region_of c)

-- the row from a part on
module _ (c : ℕ) (cs : List ℕ) (n : eqb c (code " ") ≡ false) where
  pub listed_first : listed (c ∷ cs) c ≡ true
  unfolding listed if◌then◌or_else◌
  listed_first = rw (n, eq-eqb c c refl)

  pub listed_later : (d : ℕ) → listed cs d ≡ true → listed (c ∷ cs) d ≡ true
  unfolding listed if◌then◌or_else◌
  listed_later d h = rw n (or_right (eqb d c) (listed cs d) h)

  pub listed_cases : (d : ℕ) → listed (c ∷ cs) d ≡ true → (d ≡ c) ⊎ (listed cs d ≡ true)
  listed_cases d h = go (or_cases (eqb d c) (listed cs d) (plain h))
    where
      plain : listed (c ∷ cs) d ≡ true → eqb d c || listed cs d ≡ true
      plain h = unfold listed in pick_no (eqb c (code " ")) _ _ _ n refl ∙ h

      go : (eqb d c ≡ true) ⊎ (listed cs d ≡ true) → (d ≡ c) ⊎ (listed cs d ≡ true)
      go (inl e) = inl (eqb-true d c e)
      go (inr e) = inr e

  lastly_first : lastly (c ∷ cs) ≡ true → not (eqb c (code "B")) || bare cs ≡ true
  lastly_first h = and_left (not (eqb c (code "B")) || bare cs) (lastly cs) (unfold lastly in pick_no (eqb c (code " ")) _ _ _ n refl ∙ h)

  lastly_later : lastly (c ∷ cs) ≡ true → lastly cs ≡ true
  lastly_later h = and_right (not (eqb c (code "B")) || bare cs) (lastly cs) (unfold lastly in pick_no (eqb c (code " ")) _ _ _ n refl ∙ h)

pub listed_blank : (c : ℕ) (cs : List ℕ) (d : ℕ) → eqb c (code " ") ≡ true → listed (c ∷ cs) d ≡ true → ⊥
unfolding listed
listed_blank c cs d e h = false≢true (pick_yes (eqb c (code " ")) false _ _ e refl ∙ h)

-- a part's place in a row
pub listed_place : (cs : List ℕ) (c : ℕ) → listed cs c ≡ true → (i : ℕ) × (i < length cs) × (c ≡ at cs i) × (c ≡ code " " → ⊥)
listed_place [] c h = absurd (false≢true (unfold listed in h))
listed_place (d ∷ cs) c h = go (eqb d (code " ")) refl (listed_place cs c)
  where
    go : (b : Bool) → eqb d (code " ") ≡ b → (listed cs c ≡ true → (i : ℕ) × (i < length cs) × (c ≡ at cs i) × (c ≡ code " " → ⊥))
        → (i : ℕ) × (i < suc (length cs)) × (c ≡ at (d ∷ cs) i) × (c ≡ code " " → ⊥)
    go true e k = absurd (listed_blank d cs c e h)
    go false e k =
        ⊎_elim (λ q. (0, omega arith, q, λ z. eqb-false d 32 e (sym q ∙ z))) (λ q. let r = k q in (suc r.0, omega (arith, r.1), r.2, r.3)) (listed_cases d cs e c h)

-- what stands behind a part: the next part, or what stands behind them all
ends_closes : (rest : List ℕ) → ends rest ≡ true → may_close rest ≡ true
unfolding ends may_close
ends_closes [] e = absurd (false≢true e)
ends_closes (b ∷ rest) e = rw (eqb-true b 41 e)

none_shown : (cs el : List ℕ) (s : ℕ) → bare cs ≡ true → shown_parts s cs el ≡ []
unfolding shown_parts bare
none_shown [] el s h = refl
none_shown (c ∷ cs) el s h = sym (pick_yes (eqb c (code " ")) _ _ _ h refl)

more_closes : (cs el rest : List ℕ) → ends rest ≡ true → may_close (shown_parts (code ",") cs el ++ rest) ≡ true
unfolding shown_parts
more_closes [] el rest e = ends_closes rest e
more_closes (c ∷ cs) el rest e = go (eqb c (code " "))
  where
    go : (b : Bool) → may_close ((if b then [] or_else code "," ∷ (shown_part c el ++ shown_parts (code ",") cs el)) ++ rest) ≡ true
    go true = unfold if◌then◌or_else◌ in ends_closes rest e
    go false = unfold if◌then◌or_else◌ may_close in refl

part_followed : (c : ℕ) (cs el rest : List ℕ) → not (eqb c (code "B")) || bare cs ≡ true → ends rest ≡ true → behind_part c (shown_parts (code ",") cs el ++ rest) ≡ true
unfolding behind_part
part_followed c cs el rest h e = go (eqb c (code "B")) h
  where
    go : (b : Bool) → not b || bare cs ≡ true → (if b then ends (shown_parts (code ",") cs el ++ rest) or_else may_close (shown_parts (code ",") cs el ++ rest)) ≡ true
    go true h = unfold if◌then◌or_else◌ in ap (λ (w : List ℕ). ends (w ++ rest)) (none_shown cs el 44 h) ∙ e
    go false h = unfold if◌then◌or_else◌ in more_closes cs el rest e

-- THE LAW
module _ (el : List ℕ) where
  reads_none : (R : ℕ → Type 0) → ((i : ℕ) → R i → ⊥) → Reads el nothing [] ends R
  reads_none R n = reads_before (λ rest e. refl) (reads_wider (λ i r. absurd (n i r)) reads_nothing)

  pub reads_parts : (s : ℕ) → is_sign s ≡ true → (cs : List ℕ) → lastly cs ≡ true → PartTrips el cs → Reads el (parts_from s cs) (shown_parts s cs el) ends (Stored cs)
  unfolding parts_from shown_parts
  reads_parts s g [] h t = reads_none (Stored []) (λ i r. false≢true (unfold listed in r.has))
  reads_parts s g (c ∷ cs) h t = go (eqb c (code " ")) refl (reads_parts (code ",") (unfold is_sign among in refl) cs)
    where
      go : (b : Bool) → eqb c (code " ") ≡ b → (lastly cs ≡ true → PartTrips el cs → Reads el (parts_from (code ",") cs) (shown_parts (code ",") cs el) ends (Stored cs))
          → Reads el (if eqb c (code " ") then nothing or_else sign s then part_of c then parts_from (code ",") cs) (if eqb c (code " ") then [] or_else s ∷ (shown_part c el ++ shown_parts (code ",") cs el)) ends (Stored (c ∷ cs))
      go true e k =
          reads_text (pick_yes (eqb c (code " ")) _ _ _ e refl)
          (reads_as (λ text rest x from d f. ap (λ (r : Reader). r text from x) (sym (pick_yes (eqb c (code " ")) _ _ _ e refl)))
          (reads_none (Stored (c ∷ cs)) (λ i r. listed_blank c cs r.part e r.has)))
      go false e k =
          reads_text (pick_no (eqb c (code " ")) _ _ _ e refl)
          (reads_as (λ text rest x from d f. ap (λ (r : Reader). r text from x) (sym (pick_no (eqb c (code " ")) _ _ _ e refl)))
          (reads_wider (λ i r. inl (inr (place i r (listed_cases c cs e r.part r.has))))
          (reads_then (reads_sign s g)
          (reads_then (reads_of (t c (listed_first c cs e))) (k (lastly_later c cs e h) (λ d m. t d (listed_later c cs e d m))) (λ rest f. part_followed c cs el rest (lastly_first c cs e h) f))
          (λ rest f. refl))))
        where
          place : (i : ℕ) (r : Stored (c ∷ cs) i) → (r.part ≡ c) ⊎ (listed cs r.part ≡ true) → (region_of c i ≡ true) ⊎ Stored cs i
          place i r (inl q) = inl (subst (λ (d : ℕ). region_of d i ≡ true) q r.region)
          place i r (inr q) = inr (record { part = r.part; has = q; region = r.region })
