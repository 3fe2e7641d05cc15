-- OUTSIDE THE ROOT, from a place on: a reader of a beginning of a text comes to the element or to the fault that it comes to in the text, or it is at fault at the end of the beginning, or it ends there. Assumes nothing.
use Rattle.std.specs.Prelude.{Ok, Err}
use mathlib.Core.Logic.{◌⊎◌, inl, inr}
use mathlib.Core.Path.{◌≡◌, ◌∙◌, refl, sym, ap, subst}
use mathlib.Core.Bool.{Bool, true, false, false≢true}
use mathlib.Core.List.{List}
use Prim.Native.Nat.{ℕ, zero, suc, ◌+◌, ◌<◌, ◌≤◌}
use native.Mathlib.Omega.{arith}
use lib.ListN.{length, take}
use borrow.Author.Tests.{le-leb}
use Rattle.base_words.specs.Pick.{if◌then◌or_else◌}
use Rattle.base_bytes.proofs.PieceLaws.{by_order}
use Rattle.xml_markup.specs.declared.Class.TheVariants.{Blanks}
use Rattle.xml_markup.specs.declared.Opener.TheVariants.{Start}
use Rattle.xml_markup.specs.Spans.{run, opener}
use Rattle.xml_document.specs.declared.Outside.{Outside}
use Rattle.xml_document.specs.declared.Outside.TheVariants.{Element, On, Nothing, Fault}
use Rattle.xml_document.specs.Document.{outside_at, outside}
use Rattle.xml_document.specs.Around.{last_by, last_from}
use Rattle.xml_document.proofs.Laws.{Beyond, at_beyond, ran, outside_end, outside_on, outside_stops, outside_past}
use Rattle.proof_local.proofs.Beginnings.{long, ran as run-cut}
use Rattle.xml_skip.specs.Skipping.{tag_of, Reached, fault_at}
use Rattle.xml_markup.specs.Markup.{markup}
use Rattle.proof_local.proofs.Parts.{LateTag, tag_late}
use Rattle.proof_local.proofs.Names.{Whole}
use Rattle.proof_local.proofs.Keeping.{Begins, outside_begins}
use Rattle.proof_local.proofs.Outsides.{CutOutside, same, element, no_element, broken, outside_cut}

abbrev is_element : Outside → Bool
is_element (Element p) = true
is_element (On q) = false
is_element Nothing = false
is_element (Fault q) = false

abbrev is_on : Outside → Bool
is_on (Element p) = false
is_on (On q) = true
is_on Nothing = false
is_on (Fault q) = false

abbrev is_nothing : Outside → Bool
is_nothing (Element p) = false
is_nothing (On q) = false
is_nothing Nothing = true
is_nothing (Fault q) = false

abbrev pub is_past : Reached → Bool
is_past (Ok q) = true
is_past (Err q) = false

abbrev place_of : Outside → ℕ
place_of (Element p) = p
place_of (On q) = q
place_of Nothing = 0
place_of (Fault q) = q

-- it is not before the place where the reading starts
not_before : (t : List ℕ) (k p r : ℕ) → length t ≤ p + k → outside t p ≡ Element r → p ≤ r
not_before t zero p r h e = absurd (false≢true (ap is_element (sym (outside_end t p (omega arith)) ∙ e)))
not_before t (suc k) p r h e = go (outside_at t (run Blanks t p)) refl (λ q l. not_before t k q r (omega (arith, h, l)))
  where
    go : (g : Outside) → g ≡ outside_at t (run Blanks t p) → ((q : ℕ) → p < q → outside t q ≡ Element r → q ≤ r) → p ≤ r
    go (Element q) eg f = let z : q ≡ r = ap place_of (sym (outside_stops t p (run Blanks t p) refl (Element q) eg (λ v d. absurd (false≢true (ap is_on d)))) ∙ e) in omega (arith, z, subst (Beyond (run Blanks t p)) (sym eg) (at_beyond t (run Blanks t p)), ran t p)
    go (On q) eg f = let l : p < q = outside_past t p (run Blanks t p) refl (On q) eg q refl in omega (arith, l, f q l (sym (outside_on t p (run Blanks t p) refl (On q) eg q refl) ∙ e))
    go Nothing eg f = absurd (false≢true (ap is_element (sym (outside_stops t p (run Blanks t p) refl Nothing eg (λ v d. absurd (false≢true (ap is_on d)))) ∙ e)))
    go (Fault q) eg f = absurd (false≢true (ap is_element (sym (outside_stops t p (run Blanks t p) refl (Fault q) eg (λ v d. absurd (false≢true (ap is_on d)))) ∙ e)))

-- and it is a start tag
pub starts_there : (t : List ℕ) (k p r : ℕ) → length t ≤ p + k → outside t p ≡ Element r → opener t r ≡ Start
starts_there t zero p r h e = absurd (false≢true (ap is_element (sym (outside_end t p (omega arith)) ∙ e)))
starts_there t (suc k) p r h e = go (outside_at t (run Blanks t p)) refl (λ q l. starts_there t k q r (omega (arith, h, l)))
  where
    go : (g : Outside) → g ≡ outside_at t (run Blanks t p) → ((q : ℕ) → p < q → outside t q ≡ Element r → opener t r ≡ Start) → opener t r ≡ Start
    go (Element q) eg f = subst (Begins t) (sym eg ∙ sym (outside_stops t p (run Blanks t p) refl (Element q) eg (λ v d. absurd (false≢true (ap is_on d)))) ∙ e) (outside_begins t (run Blanks t p))
    go (On q) eg f = f q (outside_past t p (run Blanks t p) refl (On q) eg q refl) (sym (outside_on t p (run Blanks t p) refl (On q) eg q refl) ∙ e)
    go Nothing eg f = absurd (false≢true (ap is_element (sym (outside_stops t p (run Blanks t p) refl Nothing eg (λ v d. absurd (false≢true (ap is_on d)))) ∙ e)))
    go (Fault q) eg f = absurd (false≢true (ap is_element (sym (outside_stops t p (run Blanks t p) refl (Fault q) eg (λ v d. absurd (false≢true (ap is_on d)))) ∙ e)))

-- an element from n on, if any
abbrev pub From : ℕ → Outside → Type 0
From n (Element r) = n ≤ r
From n (On q) = Unit {0}
From n Nothing = Unit {0}
From n (Fault q) = Unit {0}

from_is : (n : ℕ) (x : Outside) → ((r : ℕ) → x ≡ Element r → n ≤ r) → From n x
from_is n (Element r) f = f r refl
from_is n (On q) f = tt
from_is n Nothing f = tt
from_is n (Fault q) f = tt

-- x is the text's, y the beginning's, n long
pub data CutAround (t : List ℕ) (n : ℕ) (x y : Outside) : Type 0 where
  at_fault : (q : ℕ) → x ≡ Fault q → y ≡ Fault q → CutAround t n x y
  whole_element : (r : ℕ) → r < n → x ≡ Element r → y ≡ Element r → opener t r ≡ Start → Whole t n r → CutAround t n x y
  cut_element : (r : ℕ) → r < n → x ≡ Element r → y ≡ Fault n → opener t r ≡ Start → LateTag n (tag_of (markup t r) r) → CutAround t n x y
  cut_off : y ≡ Fault n → From n x → CutAround t n x y
  ended : y ≡ Nothing → From n x → CutAround t n x y

module _ (t : List ℕ) (n : ℕ) (inside : n ≤ length t) where
  module _ (p : ℕ) (IH : (q : ℕ) → p < q → q ≤ n → CutAround t n (outside t q) (outside (take n t) q)) (s : ℕ) (h : s < n) (es : s ≡ run Blanks t p) (eu : s ≡ run Blanks (take n t) p) where
    stopped : (u : List ℕ) → s ≡ run Blanks u p → (x g : Outside) → x ≡ g → x ≡ outside_at u s → (k : ((v : ℕ) → g ≡ On v → ⊥)) → outside u p ≡ g
    stopped u e x g a ex k = outside_stops u p s e g (sym a ∙ ex) k

    step : (x y : Outside) → x ≡ outside_at t s → y ≡ outside_at (take n t) s → CutOutside t n s x y → CutAround t n (outside t p) (outside (take n t) p)
    step x y ex ey (element ax ay o v) = whole_element s h (stopped t es x (Element s) ax ex (λ v d. absurd (false≢true (ap is_on d)))) (stopped (take n t) eu y (Element s) ay ey (λ v d. absurd (false≢true (ap is_on d)))) o v
    step x y ex ey (no_element ax ay o l) = cut_element s h (stopped t es x (Element s) ax ex (λ v d. absurd (false≢true (ap is_on d)))) (stopped (take n t) eu y (Fault n) ay ey (λ v d. absurd (false≢true (ap is_on d)))) o (tag_late t n s l)
    step (Element q) y ex ey (same k l) = absurd l
    step (On q) y ex ey (same k l) = rw (outside_on t p s es (On q) ex q refl, outside_on (take n t) p s eu (On q) (sym k ∙ ey) q refl) (IH q (outside_past t p s es (On q) ex q refl) l)
    step Nothing y ex ey (same k l) = absurd l
    step (Fault q) y ex ey (same k l) = at_fault q (stopped t es (Fault q) (Fault q) refl ex (λ v d. absurd (false≢true (ap is_on d)))) (stopped (take n t) eu y (Fault q) k ey (λ v d. absurd (false≢true (ap is_on d))))
    step (Element q) y ex ey (broken k l) = absurd l
    step (On q) y ex ey (broken k l) = cut_off (stopped (take n t) eu y (Fault n) k ey (λ v d. absurd (false≢true (ap is_on d)))) (rw (outside_on t p s es (On q) ex q refl) (from_is n (outside t q) (λ r e. omega (arith, l, not_before t (length t) q r (omega arith) e))))
    step Nothing y ex ey (broken k l) = absurd l
    step (Fault q) y ex ey (broken k l) = cut_off (stopped (take n t) eu y (Fault n) k ey (λ v d. absurd (false≢true (ap is_on d)))) (rw (stopped t es (Fault q) (Fault q) refl ex (λ v d. absurd (false≢true (ap is_on d)))) tt)

  -- the blanks before an element end before it
  blanks_before : (p r : ℕ) → outside t p ≡ Element r → run Blanks t p ≤ r
  blanks_before p r e = go (outside_at t (run Blanks t p)) refl
    where
      go : (g : Outside) → g ≡ outside_at t (run Blanks t p) → run Blanks t p ≤ r
      go (Element q) eg = let z : q ≡ r = ap place_of (sym (outside_stops t p (run Blanks t p) refl (Element q) eg (λ v d. absurd (false≢true (ap is_on d)))) ∙ e) in omega (arith, z, subst (Beyond (run Blanks t p)) (sym eg) (at_beyond t (run Blanks t p)))
      go (On q) eg = omega (arith, subst (Beyond (run Blanks t p)) (sym eg) (at_beyond t (run Blanks t p)), not_before t (length t) q r (omega arith) (sym (outside_on t p (run Blanks t p) refl (On q) eg q refl) ∙ e))
      go Nothing eg = absurd (false≢true (ap is_element (sym (outside_stops t p (run Blanks t p) refl Nothing eg (λ v d. absurd (false≢true (ap is_on d)))) ∙ e)))
      go (Fault q) eg = absurd (false≢true (ap is_element (sym (outside_stops t p (run Blanks t p) refl (Fault q) eg (λ v d. absurd (false≢true (ap is_on d)))) ∙ e)))

  nothing_there : Nothing ≡ outside_at (take n t) n
  unfolding outside_at if◌then◌or_else◌
  nothing_there = rw (le-leb (length (take n t)) n (omega (arith, long t n inside))) refl

  cut_from : (k p : ℕ) → n ≤ p + k → p ≤ n → CutAround t n (outside t p) (outside (take n t) p)
  cut_from zero p m l = ended (outside_end (take n t) p (omega (arith, m, long t n inside))) (from_is n (outside t p) (λ r e. omega (arith, m, not_before t (length t) p r (omega arith) e)))
  cut_from (suc k) p m l =
      by_order n (run Blanks t p)
      (λ h. ended (outside_stops (take n t) p n (sym ((run-cut t n inside Blanks p l).cut h)) Nothing nothing_there (λ v d. absurd (false≢true (ap is_on d)))) (from_is n (outside t p) (λ r e. omega (arith, h, blanks_before p r e))))
      (λ h.
      step p (λ q a b. cut_from k q (omega (arith, m, a)) b) (run Blanks t p) h refl (sym ((run-cut t n inside Blanks p l).same (omega (arith, h))))
      (outside_at t (run Blanks t p)) (outside_at (take n t) (run Blanks t p)) refl refl (outside_cut t n inside (run Blanks t p) h))

  -- THE LAW
  pub around_cut : (p : ℕ) → p ≤ n → CutAround t n (outside t p) (outside (take n t) p)
  around_cut p l = cut_from n p (omega arith) l

  -- behind the root, where nothing is at fault in the text
  last_none : (x : Outside) (q : ℕ) → last_by x t ≡ Ok q → x ≡ Nothing
  unfolding last_by
  last_none (Element r) z e = absurd (false≢true (ap is_past e))
  last_none (On q) z e = absurd (false≢true (ap is_past e))
  last_none Nothing z e = refl
  last_none (Fault q) z e = absurd (false≢true (ap is_past e))

  last_by_lem : (x y : Outside) → x ≡ Nothing → CutAround t n x y → (last_by y (take n t) ≡ Ok n) ⊎ (last_by y (take n t) ≡ fault_at n)
  unfolding last_by
  last_by_lem x y e (at_fault q a b) = absurd (false≢true (ap is_nothing (sym a ∙ e)))
  last_by_lem x y e (whole_element r l a b o v) = absurd (false≢true (ap is_nothing (sym a ∙ e)))
  last_by_lem x y e (cut_element r l a b o v) = absurd (false≢true (ap is_nothing (sym a ∙ e)))
  last_by_lem x y e (cut_off b f) = inr (rw b refl)
  last_by_lem x y e (ended b f) = inl (rw b (ap Ok (long t n inside)))

  pub last_cut : (p : ℕ) → p ≤ n → (q : ℕ) → last_from t p ≡ Ok q → (last_from (take n t) p ≡ Ok n) ⊎ (last_from (take n t) p ≡ fault_at n)
  unfolding last_from
  last_cut p l q e = last_by_lem (outside t p) (outside (take n t) p) (last_none (outside t p) q e) (around_cut p l)
