-- THE MARKUP AT A PLACE of a beginning of a text: the text's own, where that ends before the end of the beginning; else a fault at that end, or character data up to it. Assumes nothing.
use mathlib.Core.Path.{◌≡◌, ◌∙◌, refl, sym, ap, subst}
use mathlib.Core.Bool.{Bool, true, false, false≢true}
use mathlib.Core.List.{List}
use Prim.Native.Nat.{ℕ, ◌<◌, ◌≤◌}
use native.Mathlib.Omega.{arith}
use lib.ListN.{length, take, drop}
use borrow.Author.Tests.{lt-leb}
use Rattle.base_words.specs.Pick.{if◌then◌or_else◌}
use Rattle.base_words.specs.Words.{at}
use Rattle.xml_scanner.specs.declared.Sort.{Sort}
use Rattle.xml_scanner.specs.declared.Sort.TheVariants.{StartTag, EmptyTag, EndTag, Text, Reference, Comment, Data, Instruction, End, Fault as AFault}
use Rattle.xml_markup.specs.declared.Scan.{Scan}
use Rattle.xml_markup.specs.declared.Scan.TheVariants.{On, Past, Fault}
use Rattle.xml_markup.specs.declared.Markup.{Markup}
use Rattle.xml_markup.specs.Markup.{scan, opens_markup, text_from, marked, placed, markup}
use Rattle.proof_local.proofs.Beginnings.{long, byte}
use Rattle.proof_local.proofs.Scans.{Cut as CutScan, same as scan-same, broken as scan-broken, Late as LateScan, scan_cut}
use Rattle.proof_local.proofs.Texts.{AtLeast, CutText, same as text_same, onward, text_cut}

-- what is no fault ends behind n
abbrev pub Late : ℕ → Sort → ℕ → Type 0
Late n StartTag q = n < q
Late n EmptyTag q = n < q
Late n EndTag q = n < q
Late n Text q = n < q
Late n Reference q = n < q
Late n Comment q = n < q
Late n Data q = n < q
Late n Instruction q = n < q
Late n End q = n < q
Late n AFault q = Unit {0}

-- character data that goes as far as n, or is at fault
abbrev pub Onto : ℕ → Sort → ℕ → Type 0
Onto n StartTag q = ⊥
Onto n EmptyTag q = ⊥
Onto n EndTag q = ⊥
Onto n Text q = n ≤ q
Onto n Reference q = ⊥
Onto n Comment q = ⊥
Onto n Data q = ⊥
Onto n Instruction q = ⊥
Onto n End q = ⊥
Onto n AFault q = Unit {0}

-- x is the text's, y the beginning's, n long
pub data Cut (n : ℕ) (x y : Markup) : Type 0 where
  same : y ≡ x → Cut n x y
  broken : y ≡ marked AFault n → Late n x.sort x.next → Cut n x y
  text : y ≡ marked Text n → Onto n x.sort x.next → Cut n x y

late_sort : (n : ℕ) (s : Sort) (q : ℕ) → n < q → Late n s q
late_sort n StartTag q h = h
late_sort n EmptyTag q h = h
late_sort n EndTag q h = h
late_sort n Text q h = h
late_sort n Reference q h = h
late_sort n Comment q h = h
late_sort n Data q h = h
late_sort n Instruction q h = h
late_sort n End q h = h
late_sort n AFault q h = tt

pub late_placed : (n : ℕ) (x : Scan) → LateScan n x → Late n (placed x).sort (placed x).next
unfolding placed
late_placed n (On c) h = tt
late_placed n (Past s q) h = late_sort n s q h
late_placed n (Fault q) h = tt

onto_placed : (n : ℕ) (x : Scan) → AtLeast n x → Onto n (placed x).sort (placed x).next
unfolding placed
onto_placed n (On c) h = tt
onto_placed n (Past s q) h = subst (λ (k : Sort). Onto n k q) (sym h.0) h.1
onto_placed n (Fault q) h = tt

scan-placed : (n : ℕ) (x y : Scan) → CutScan n x y → Cut n (placed x) (placed y)
scan-placed n x y (scan-same e) = same (ap placed e)
scan-placed n x y (scan-broken e l) = broken (unfold placed in ap placed e) (late_placed n x l)

text_placed : (n : ℕ) (x y : Scan) → CutText n x y → Cut n (placed x) (placed y)
text_placed n x y (text_same e) = same (ap placed e)
text_placed n x y (onward e l) = text (unfold placed in ap placed e) (onto_placed n x l)

module _ (t : List ℕ) (n : ℕ) (inside : n ≤ length t) (p : ℕ) (h : p < n) where
  pub markup_cut : Cut n (markup t p) (markup (take n t) p)
  unfolding markup
  markup_cut = rw (lt-leb (length t) p (omega arith), lt-leb (length (take n t)) p (omega (arith, h, long t n inside)), byte t n inside p h) (go (opens_markup (at t p)))
    where
      go : (o : Bool) → Cut n (if false then marked End (length t) or_else if o then placed (scan t p) or_else placed (text_from t (drop p t) p)) (if false then marked End (length (take n t)) or_else if o then placed (scan (take n t) p) or_else placed (text_from (take n t) (drop p (take n t)) p))
      go true = unfold if◌then◌or_else◌ in scan-placed n _ _ (scan_cut t n inside p (omega arith))
      go false = unfold if◌then◌or_else◌ in text_placed n _ _ (text_cut t n inside p (omega arith))

  -- what opens a markup is read as one in both
  pub opened_is : opens_markup (at t p) ≡ true → markup t p ≡ placed (scan t p)
  unfolding markup if◌then◌or_else◌
  opened_is o = rw (lt-leb (length t) p (omega arith), o) refl

  pub opened_in : opens_markup (at t p) ≡ true → markup (take n t) p ≡ placed (scan (take n t) p)
  unfolding markup if◌then◌or_else◌
  opened_in o = rw (lt-leb (length (take n t)) p (omega (arith, h, long t n inside)), byte t n inside p h, o) refl

-- where the beginning is at fault at its end, the text's markup is late
abbrev is_fault : Sort → Bool
is_fault StartTag = false
is_fault EmptyTag = false
is_fault EndTag = false
is_fault Text = false
is_fault Reference = false
is_fault Comment = false
is_fault Data = false
is_fault Instruction = false
is_fault End = false
is_fault AFault = true

pub late_of : (n : ℕ) (x y : Markup) → Cut n x y → y ≡ marked AFault n → Late n x.sort x.next
late_of n x y (same e) f = subst (λ (m : Markup). Late n m.sort m.next) (sym f ∙ e) tt
late_of n x y (broken e l) f = l
late_of n x y (text e o) f = absurd (false≢true (ap (λ (m : Markup). is_fault m.sort) (sym e ∙ f)))

-- what opens a markup is no character data
pub data CutOpened (n : ℕ) (x y : Markup) : Type 0 where
  whole : y ≡ x → CutOpened n x y
  broken_off : y ≡ marked AFault n → Late n x.sort x.next → CutOpened n x y

opened_placed : (n : ℕ) (x y : Scan) → CutScan n x y → CutOpened n (placed x) (placed y)
opened_placed n x y (scan-same e) = whole (ap placed e)
opened_placed n x y (scan-broken e l) = broken_off (unfold placed in ap placed e) (late_placed n x l)

pub opened_cut : (t : List ℕ) (n : ℕ) (inside : n ≤ length t) (p : ℕ) (h : p < n) → opens_markup (at t p) ≡ true → CutOpened n (markup t p) (markup (take n t) p)
opened_cut t n inside p h o = rw (opened_is t n inside p h o, opened_in t n inside p h o) (opened_placed n (scan t p) (scan (take n t) p) (scan_cut t n inside p (omega arith)))
