-- THE NAME OF A START TAG, as it stands: it begins as names do, and every byte of it is of a name. Assumes nothing.
use mathlib.Core.Path.{◌≡◌, ◌∙◌, refl, ap, subst}
use mathlib.Core.Bool.{Bool, true, false}
use mathlib.Core.List.{List, [], ◌∷◌}
use Prim.Native.Nat.{ℕ, zero, suc, ◌+◌, ◌-◌, ◌<◌}
use native.Mathlib.Omega.{arith}
use lib.ListN.{length, take, drop}
use lib.Seq.{drop-cons}
use Rattle.base_words.specs.Each.{each}
use Rattle.base_words.specs.Pick.{if◌then◌or_else◌}
use Rattle.base_words.specs.Words.{at}
use Rattle.base_words.proofs.PickLaws.{and_true}
use Rattle.base_bytes.specs.Bytes.{past}
use Rattle.base_bytes.proofs.PastLaws.{past_from}
use Rattle.xml_markup.specs.declared.Class.TheVariants.{Name}
use Rattle.xml_markup.specs.declared.Opener.TheVariants.{Start}
use Rattle.xml_markup.specs.Spans.{is_of, run, name_from, name_at, bytes_of, opener}
use Rattle.proof_local.proofs.Names.{name_behind}
use Rattle.proof_local.proofs.BrokenNames.{Opens, tagged, of_name, run_more}
use Rattle.proof_local.proofs.Elements.{Names}

-- bytes that are passed are of the class
all_of : (f : ℕ → Bool) (s : List ℕ) (i k : ℕ) → past f s i ≡ i + k → each f (take k s) ≡ true
unfolding past each if◌then◌or_else◌
all_of f s i zero e = refl
all_of f [] i (suc k) e = absurd (omega (arith, e))
all_of f (b ∷ s) i (suc k) e = go (f b) refl e (all_of f s (i + 1) k)
  where
    go : (x : Bool) → f b ≡ x → (if x then past f s (i + 1) or_else i) ≡ i + suc k → (past f s (i + 1) ≡ i + 1 + k → each f (take k s) ≡ true) → each f (take (suc k) (b ∷ s)) ≡ true
    go true ef q r = and_true (f b) (each f (take k s)) ef (r (omega (arith, q)))
    go false ef q r = absurd (omega (arith, q))

pub record NamedSo (t : List ℕ) (p : ℕ) : Type 0 where
  pub first : ℕ
  pub more : List ℕ
  pub is : bytes_of t (name_at t p) ≡ first ∷ more
  pub name : Names first more

module _ (t : List ℕ) (p : ℕ) (o : opener t p ≡ Start) where
  opens : Opens t p
  opens = (tagged t p (rw o refl)).opens

  from_in : name_from t p < length t
  from_in = omega (arith, opens.ends, name_behind t p)

  -- it is not empty
  pub some_name : name_from t p < (name_at t p).to
  unfolding name_at
  some_name = omega (arith, run_more t (name_from t p) from_in (of_name (at t (name_from t p)) opens.name), past_from (is_of Name) (drop (name_from t p + 1) t) (name_from t p + 1))

  abbrev j : ℕ
  j = (name_at t p).to - name_from t p - 1

  long : (name_at t p).to - name_from t p ≡ suc j
  long = omega (arith, some_name)

  begins : take ((name_at t p).to - name_from t p) (drop (name_from t p) t) ≡ at t (name_from t p) ∷ take j (drop (suc (name_from t p)) t)
  begins = ap (λ (k : ℕ). take k (drop (name_from t p) t)) long ∙ ap (take (suc j)) (drop-cons t (name_from t p) 0 from_in)

  every : each (is_of Name) (take ((name_at t p).to - name_from t p) (drop (name_from t p) t)) ≡ true
  every = all_of (is_of Name) (drop (name_from t p) t) (name_from t p) ((name_at t p).to - name_from t p) (unfold name_at run in omega (arith, past_from (is_of Name) (drop (name_from t p) t) (name_from t p)))

  pub named_so : NamedSo t p
  unfolding bytes_of name_at
  named_so =
      record {
        first = at t (name_from t p);
        more = take j (drop (suc (name_from t p)) t);
        is = begins;
        name = record { begins = opens.name; every = subst (λ (l : List ℕ). each (is_of Name) l ≡ true) begins every };
      }
