-- Which columns of the table of kinds go with which part of an element's text. Assumes nothing.
use Prim.Native.Char.{code}
use Prim.Native.Nat.{ℕ, ◌+◌, ◌<◌}
use mathlib.Core.Path.{◌≡◌, refl, sym, subst}
use mathlib.Core.Bool.{Bool, true, false, ◌&&◌, ◌||◌}
use lib.Dec.{eqb}
use borrow.Author.Tests.{eqb-true, ne_eqb}
use Rattle.base_words.specs.All.{all}
use Rattle.base_words.specs.Each.{each}
use Rattle.base_words.specs.Pick.{if◌then◌or_else◌}
use Rattle.base_words.specs.Words.{at}
use Rattle.base_words.proofs.AllLaws.{all_at, and_left, and_right}
use Rattle.base_words.proofs.ListLaws.{each_at}
use Rattle.base_kinds.specs.declared.Kind.{Kind}
use Rattle.base_kinds.specs.Kinds.{none, one, many, no_kind, kinds, kind_of}
use Rattle.proof_roundtrip.proofs.NumberReads.{then_of, else_of}

-- a part with a code stands in an element of the kind k
unfoldable pub goes : Kind → ℕ → Bool
goes k c =
    if eqb c (code "E") then eqb k.entries one
    or_else if eqb c (code "X") then eqb k.exits one
    or_else if eqb c (code "F") then eqb k.entries many
    or_else if eqb c (code "Y") then eqb k.exits many
    or_else if eqb c (code "N") then eqb k.task one && eqb k.conditions one
    or_else if eqb c (code "T") then eqb (k.receives + k.sends) one
    or_else if eqb c (code "S") then eqb k.receives none && eqb k.sends one
    or_else if eqb c (code "G") then eqb k.exits many && eqb k.conditions many
    or_else eqb c (code "B") && (eqb k.exits many && eqb (k.receives + k.sends) many)

-- the same, taken apart
pub data Coded (k : Kind) : ℕ → Type 0 where
  entry : k.entries ≡ 1 → Coded k (code "E")
  exit : k.exits ≡ 1 → Coded k (code "X")
  entries : k.entries ≡ 2 → Coded k (code "F")
  exits : k.exits ≡ 2 → Coded k (code "Y")
  task : k.task ≡ 1 → k.conditions ≡ 1 → Coded k (code "N")
  template : k.receives + k.sends ≡ 1 → Coded k (code "T")
  output : k.receives ≡ 0 → k.sends ≡ 1 → Coded k (code "S")
  guards : k.exits ≡ 2 → k.conditions ≡ 2 → Coded k (code "G")
  receivers : k.exits ≡ 2 → k.receives + k.sends ≡ 2 → Coded k (code "B")

by_if : {P : Type 0} (b x y : Bool) → (if b then x or_else y) ≡ true → (b ≡ true → x ≡ true → P) → (y ≡ true → P) → P
by_if {P} b x y h f g = go b refl
  where
    go : (t : Bool) → b ≡ t → P
    go true e = f e (then_of b x y true h e)
    go false e = g (else_of b x y true h e)

both : (a b c d : ℕ) → eqb a b && eqb c d ≡ true → (a ≡ b) × (c ≡ d)
both a b c d e = (eqb-true a b (and_left (eqb a b) (eqb c d) e), eqb-true c d (and_right (eqb a b) (eqb c d) e))

pub coded : (k : Kind) (c : ℕ) → goes k c ≡ true → Coded k c
unfolding goes
coded k c h =
    by_if _ _ _ h (λ e x. is (code "E") e (entry (eqb-true _ 1 x))) (λ h.
    by_if _ _ _ h (λ e x. is (code "X") e (exit (eqb-true _ 1 x))) (λ h.
    by_if _ _ _ h (λ e x. is (code "F") e (entries (eqb-true _ 2 x))) (λ h.
    by_if _ _ _ h (λ e x. is (code "Y") e (exits (eqb-true _ 2 x))) (λ h.
    by_if _ _ _ h (λ e x. let z = both k.task 1 k.conditions 1 x in is (code "N") e (task z.0 z.1)) (λ h.
    by_if _ _ _ h (λ e x. is (code "T") e (template (eqb-true _ 1 x))) (λ h.
    by_if _ _ _ h (λ e x. let z = both k.receives 0 k.sends 1 x in is (code "S") e (output z.0 z.1)) (λ h.
    by_if _ _ _ h (λ e x. let z = both k.exits 2 k.conditions 2 x in is (code "G") e (guards z.0 z.1)) (λ h.
    let z = both k.exits 2 (k.receives + k.sends) 2 (and_right (eqb c (code "B")) (eqb k.exits 2 && eqb (k.receives + k.sends) 2) h) in
    is (code "B") (and_left (eqb c (code "B")) (eqb k.exits 2 && eqb (k.receives + k.sends) 2) h) (receivers z.0 z.1)))))))))
  where
    is : (d : ℕ) → eqb c d ≡ true → Coded k d → Coded k c
    is d e p = subst (Coded k) (sym (eqb-true c d e)) p

-- THE TABLE: each code of a row, up to the blanks
abbrev row_goes : Kind → Bool
row_goes k = all (λ i. eqb (at k.parts i) (code " ") || goes k (at k.parts i)) 4

kinds_go : each row_goes kinds ≡ true
unfolding each all goes if◌then◌or_else◌
kinds_go = refl

pub parts_go : (k i : ℕ) → i < 4 → (at (kind_of k).parts i ≡ (code " ") → ⊥) → goes (kind_of k) (at (kind_of k).parts i) ≡ true
unfolding kind_of
parts_go k i l n =
    or_last (eqb (at (kind_of k).parts i) (code " ")) _ (ne_eqb (at (kind_of k).parts i) (code " ") n)
    (all_at (λ i. eqb (at (kind_of k).parts i) (code " ") || goes (kind_of k) (at (kind_of k).parts i)) 4 (each_at row_goes kinds no_kind kinds_go (unfold all goes if◌then◌or_else◌ in refl) k) i l)
  where
    or_last : (a b : Bool) → a ≡ false → a || b ≡ true → b ≡ true
    or_last a b e h = rw e at h
