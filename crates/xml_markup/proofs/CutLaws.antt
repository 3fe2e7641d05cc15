-- What the end of the text cuts off is the end (R4): a beginning of a text has the same markup at a place, or the fault at its length. Assumes nothing.
use mathlib.Core.Logic.{◌⊎◌, inl, inr, ⊎_elim}
use mathlib.Core.Path.{◌≡◌, ◌∙◌, sym, ap}
use mathlib.Core.Bool.{true}
use mathlib.Core.List.{List}
use Prim.Native.Nat.{ℕ, ◌+◌, ◌-◌, ◌<◌, ◌≤◌}
use native.Mathlib.Omega.{arith}
use lib.ListN.{length, take, drop, length-drop}
use lib.Seq.{get_or-take, take-take, take-add, drop_at, length-take-le}
use borrow.Author.Tests.{lt-leb}
use Rattle.base_words.specs.Pick.{if◌then◌or_else◌}
use Rattle.base_words.specs.Words.{at}
use Rattle.xml_scanner.specs.declared.Sort.TheVariants.{Fault as AFault}
use Rattle.xml_markup.specs.declared.Scan.TheVariants.{Fault}
use Rattle.xml_markup.specs.declared.Markup.{Markup}
use Rattle.xml_markup.specs.Tokens.{begun}
use Rattle.xml_markup.specs.Markup.{scan, opens_markup, marked, placed, markup}
use Rattle.xml_markup.proofs.ScanLaws.{cut_from}
use Rattle.xml_markup.proofs.MarkupLaws.{markup_within}

pub rest_of : (l : List ℕ) (p n : ℕ) → p ≤ n → p ≤ length l → drop p (take n l) ≡ take (n - p) (drop p l)
rest_of l p n h k =
    ap (λ (m : ℕ). drop p (take m l)) (let e : n ≡ p + (n - p) = omega arith in e)
    ∙ ap (drop p) (take-add p (n - p) l)
    ∙ drop_at (take p l) (take (n - p) (drop p l)) p (length-take-le p l k)

module _ (t : List ℕ) (n p : ℕ) (before : p < n) (inside : n ≤ length t) (opens : opens_markup (at t p) ≡ true) where
  whole_is : markup t p ≡ placed (scan t p)
  unfolding markup if◌then◌or_else◌
  whole_is = rw (lt-leb (length t) p (omega arith), opens)

  part_is : markup (take n t) p ≡ placed (scan (take n t) p)
  unfolding markup if◌then◌or_else◌
  part_is = rw (length-take-le n t inside, lt-leb n p before, get_or-take n t p 0 before, opens)

  cut_scan : (scan (take n t) p ≡ scan t p) ⊎ (scan (take n t) p ≡ Fault n)
  unfolding scan
  cut_scan =
      rw (rest_of t p n (omega arith) (omega arith))
      (⊎_elim inl (λ e. inr (e ∙ ap Fault ends))
      (cut_from t (take n t) n inside (length-take-le n t inside) (λ i h. get_or-take n t i 0 h) (λ i h. take-take (i - 0) n t (omega arith)) p (drop p t) (begun p) p (n - p) (omega arith)))
    where
      ends : p + length (take (n - p) (drop p t)) ≡ n
      ends = omega (arith, length-take-le (n - p) (drop p t) (omega (arith, length-drop p t)))

  pub cut_off : (markup (take n t) p ≡ markup t p) ⊎ (markup (take n t) p ≡ marked AFault n)
  unfolding placed
  cut_off = ⊎_elim (λ e. inl (part_is ∙ ap placed e ∙ sym whole_is)) (λ e. inr (part_is ∙ ap placed e)) cut_scan

  -- a beginning that ends inside the markup is refused at its length
  pub cut_inside : n < (markup t p).next → markup (take n t) p ≡ marked AFault n
  cut_inside h = ⊎_elim (λ e. absurd (omega (arith, h, ap (λ (m : Markup). m.next) e, markup_within (take n t) p, length-take-le n t inside))) (λ e. e) cut_off
