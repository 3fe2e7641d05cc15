-- WHAT STANDS BETWEEN ELEMENTS, at a place of a beginning of a text: the text's own, or a fault at the end of the beginning. Assumes nothing.
use mathlib.Core.Path.{◌≡◌, ◌∙◌, refl, ap, subst}
use mathlib.Core.Bool.{Bool, true, false}
use mathlib.Core.List.{List}
use Prim.Native.Nat.{ℕ, ◌+◌, ◌<◌, ◌≤◌}
use native.Mathlib.Omega.{arith}
use lib.Dec.{eqb}
use lib.ListN.{length, take}
use borrow.Author.Tests.{lt-leb}
use Rattle.base_words.specs.Pick.{if◌then◌or_else◌}
use Rattle.base_words.specs.Text.{bytes}
use Rattle.base_words.specs.Words.{at}
use Rattle.base_bytes.proofs.PieceLaws.{by_order}
use Rattle.xml_scanner.specs.declared.Sort.{Sort}
use Rattle.xml_scanner.specs.declared.Sort.TheVariants.{StartTag, EmptyTag, EndTag, Text, Reference, Comment, Data, Instruction, End, Fault as AFault}
use Rattle.xml_markup.specs.declared.Markup.{Markup}
use Rattle.xml_markup.specs.declared.Opener.{Opener}
use Rattle.xml_markup.specs.declared.Opener.TheVariants.{Start, End as EndOpener, Other}
use Rattle.xml_markup.specs.Markup.{marked, markup, opens_markup}
use Rattle.xml_markup.specs.Spans.{name_at, opener}
use Rattle.xml_document.specs.declared.Outside.{Outside}
use Rattle.xml_document.specs.declared.Outside.TheVariants.{Element, On, Nothing, Fault}
use Rattle.xml_document.specs.Document.{other_by, other_of, opens_data, tag_for, tag_at, outside_at}
use Rattle.proof_local.proofs.Beginnings.{long, byte}
use Rattle.proof_local.proofs.Names.{Whole, opener_same, opener_cut}
use Rattle.proof_local.proofs.Texts.{begins_same, begins_not}
use Rattle.proof_local.proofs.Markups.{Late, CutOpened, whole, broken_off, opened_cut, markup_cut, late_of}
use Rattle.proof_local.proofs.BrokenNames.{broken_name, tag_less}
use Rattle.proof_local.proofs.Parts.{next_within}
use Rattle.proof_local.proofs.Sections.{broken_data, no_name}

abbrev pub EarlyOutside : ℕ → Outside → Type 0
EarlyOutside n (Element p) = ⊥
EarlyOutside n (On q) = q ≤ n
EarlyOutside n Nothing = ⊥
EarlyOutside n (Fault q) = Unit {0}

abbrev pub LateOutside : ℕ → Outside → Type 0
LateOutside n (Element p) = ⊥
LateOutside n (On q) = n < q
LateOutside n Nothing = ⊥
LateOutside n (Fault q) = Unit {0}

-- x is the text's, y the beginning's, n long, at p
pub data CutOutside (t : List ℕ) (n p : ℕ) (x y : Outside) : Type 0 where
  same : y ≡ x → EarlyOutside n x → CutOutside t n p x y
  element : x ≡ Element p → y ≡ Element p → opener t p ≡ Start → Whole t n p → CutOutside t n p x y
  no_element : x ≡ Element p → y ≡ Fault n → opener t p ≡ Start → Late n (markup t p).sort (markup t p).next → CutOutside t n p x y
  broken : y ≡ Fault n → LateOutside n x → CutOutside t n p x y

early_by : (n p : ℕ) (s : Sort) (q : ℕ) → q ≤ n → EarlyOutside n (other_by s q p)
unfolding other_by
early_by n p StartTag q h = tt
early_by n p EmptyTag q h = tt
early_by n p EndTag q h = tt
early_by n p Text q h = tt
early_by n p Reference q h = tt
early_by n p Comment q h = h
early_by n p Data q h = tt
early_by n p Instruction q h = h
early_by n p End q h = tt
early_by n p AFault q h = tt

late_by : (n p : ℕ) (s : Sort) (q : ℕ) → Late n s q → LateOutside n (other_by s q p)
unfolding other_by
late_by n p StartTag q h = tt
late_by n p EmptyTag q h = tt
late_by n p EndTag q h = tt
late_by n p Text q h = tt
late_by n p Reference q h = tt
late_by n p Comment q h = h
late_by n p Data q h = tt
late_by n p Instruction q h = h
late_by n p End q h = tt
late_by n p AFault q h = tt

other_by_lem : (t : List ℕ) (n p : ℕ) (x y : Markup) → y.next ≤ n → CutOpened n x y → CutOutside t n p (other_of x p) (other_of y p)
unfolding other_of
other_by_lem t n p x y h (whole e) = same (ap (λ (m : Markup). other_of m p) e) (early_by n p x.sort x.next (subst (λ (m : Markup). m.next ≤ n) e h))
other_by_lem t n p x y h (broken_off e l) = broken (unfold other_by in ap (λ (m : Markup). other_of m p) e) (late_by n p x.sort x.next l)

module _ (t : List ℕ) (n : ℕ) (inside : n ≤ length t) (p : ℕ) (h : p < n) where
  other : opens_markup (at t p) ≡ true → CutOutside t n p (other_of (markup t p) p) (other_of (markup (take n t) p) p)
  other o = other_by_lem t n p (markup t p) (markup (take n t) p) (next_within t n inside p h) (opened_cut t n inside p h o)

  fault_is : markup (take n t) p ≡ marked AFault n → other_of (markup (take n t) p) p ≡ Fault n
  unfolding other_of other_by
  fault_is m = ap (λ (r : Markup). other_of r p) m

  data_same : p + 9 ≤ n → opens_data (take n t) p ≡ opens_data t p
  unfolding opens_data
  data_same k = begins_same t n inside (bytes "<![CDATA[") p k

  data_not : n < p + 9 → opens_data (take n t) p ≡ false
  unfolding opens_data
  data_not k = begins_not t n inside (bytes "<![CDATA[") p (omega arith) k

  -- no tag
  no_tag : opens_markup (at t p) ≡ true → CutOutside t n p (tag_for Other t p) (tag_for Other (take n t) p)
  unfolding tag_for
  no_tag o = by_order (p + 9) n (λ k. rw (data_same k) (go (opens_data t p))) (λ k. rw (data_not k) (cut k (opens_data t p) refl))
    where
      go : (b : Bool) → CutOutside t n p (if b then Fault p or_else other_of (markup t p) p) (if b then Fault p or_else other_of (markup (take n t) p) p)
      go true = unfold if◌then◌or_else◌ in same refl tt
      go false = unfold if◌then◌or_else◌ in other o

      cut : n < p + 9 → (b : Bool) → opens_data t p ≡ b → CutOutside t n p (if b then Fault p or_else other_of (markup t p) p) (if false then Fault p or_else other_of (markup (take n t) p) p)
      cut k true e = unfold if◌then◌or_else◌ in broken (fault_is (broken_data t n inside p h e k)) tt
      cut k false e = unfold if◌then◌or_else◌ in other o

  -- a whole name
  named : opens_markup (at t p) ≡ true → Whole t n p → (g : Opener) → opener t p ≡ g → CutOutside t n p (tag_for g t p) (tag_for g (take n t) p)
  named o v Start e = unfold tag_for in element refl refl e v
  named o v EndOpener e = unfold tag_for in same refl tt
  named o v Other e = no_tag o

  -- one that is cut off: no CDATA section
  module _ (c : n ≤ (name_at t p).to) where
    never : (b : Bool) → opens_data t p ≡ b → p + 9 ≤ n → b ≡ false
    never true e k = absurd (omega (arith, k, c, no_name t n inside p h e (omega arith)))
    never false e k = refl

    no_data : opens_data (take n t) p ≡ false
    no_data = by_order (p + 9) n (λ k. data_same k ∙ never (opens_data t p) refl k) data_not

    broken_tag : opener t p ≡ Start → markup (take n t) p ≡ marked AFault n
    broken_tag e = broken_name t n inside p h c (rw e refl)

    broken_end : opener t p ≡ EndOpener → markup (take n t) p ≡ marked AFault n
    broken_end e = broken_name t n inside p h c (rw e refl)

    is_other : tag_for Other (take n t) p ≡ other_of (markup (take n t) p) p
    unfolding tag_for if◌then◌or_else◌
    is_other = rw no_data refl

    cut_named : opens_markup (at t p) ≡ true → (g : Opener) → opener t p ≡ g → CutOutside t n p (tag_for g t p) (tag_for Other (take n t) p)
    cut_named o Start e = unfold tag_for in no_element refl (unfold tag_for in is_other ∙ fault_is (broken_tag e)) e (late_of n (markup t p) (markup (take n t) p) (markup_cut t n inside p h) (broken_tag e))
    cut_named o EndOpener e = unfold tag_for in broken (unfold tag_for in is_other ∙ fault_is (broken_end e)) tt
    cut_named o Other e = no_tag o

  tag_at_lem : opens_markup (at t p) ≡ true → CutOutside t n p (tag_at t p) (tag_at (take n t) p)
  unfolding tag_at
  tag_at_lem o =
      by_order n (name_at t p).to
      (λ c. rw (opener_cut t n inside p h c) (cut_named c o (opener t p) refl))
      (λ v. rw (opener_same t n inside p h v) (named o v (opener t p) refl))

  -- THE LAW
  pub outside_cut : CutOutside t n p (outside_at t p) (outside_at (take n t) p)
  unfolding outside_at
  outside_cut = rw (lt-leb (length t) p (omega arith), lt-leb (length (take n t)) p (omega (arith, h, long t n inside)), byte t n inside p h) (go (eqb (at t p) 60) refl (eqb (at t p) 38) refl)
    where
      go : (a : Bool) → eqb (at t p) 60 ≡ a → (b : Bool) → eqb (at t p) 38 ≡ b → CutOutside t n p (if false then Nothing or_else if a then tag_at t p or_else if b then other_of (markup t p) p or_else Fault p) (if false then Nothing or_else if a then tag_at (take n t) p or_else if b then other_of (markup (take n t) p) p or_else Fault p)
      go true ea b eb = unfold if◌then◌or_else◌ in tag_at_lem (unfold opens_markup in rw ea refl)
      go false ea true eb = unfold if◌then◌or_else◌ in other (unfold opens_markup in rw (ea, eb) refl)
      go false ea false eb = unfold if◌then◌or_else◌ in same refl tt

  -- behind a `</` whose name is cut off
  pub other_fault : n ≤ (name_at t p).to → opener t p ≡ EndOpener → outside_at (take n t) p ≡ Fault n
  unfolding outside_at tag_at if◌then◌or_else◌
  other_fault c e =
      rw (lt-leb (length (take n t)) p (omega (arith, h, long t n inside)), byte t n inside p h, tag_less t p (rw e refl), opener_cut t n inside p h c)
      (is_other c ∙ fault_is (broken_end c e))
