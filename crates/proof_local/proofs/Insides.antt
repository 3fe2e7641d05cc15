-- WHAT STANDS IN THE LOG, THE TRACE OR AN EVENT, at a place of a beginning of a text: the text's own, or a fault at the end of the beginning. Assumes nothing.
use mathlib.Core.Path.{◌≡◌, refl, ap, subst}
use mathlib.Core.Bool.{Bool, true, false}
use mathlib.Core.List.{List}
use Prim.Native.Nat.{ℕ, ◌<◌, ◌≤◌}
use native.Mathlib.Omega.{arith}
use lib.ListN.{length, take, get_or-eq_default}
use borrow.Author.Tests.{le-leb}
use Rattle.base_words.specs.Pick.{if◌then◌or_else◌}
use Rattle.base_bytes.proofs.PieceLaws.{by_order}
use Rattle.xml_scanner.specs.declared.Sort.{Sort}
use Rattle.xml_scanner.specs.declared.Sort.TheVariants.{StartTag, EmptyTag, EndTag, Text, Reference, Comment, Data, Instruction, End, Fault as AFault}
use Rattle.xml_markup.specs.declared.Markup.{Markup}
use Rattle.xml_markup.specs.declared.Opener.{Opener}
use Rattle.xml_markup.specs.declared.Opener.TheVariants.{Start, End as EndOpener, Other}
use Rattle.xml_markup.specs.Markup.{marked, markup}
use Rattle.xml_markup.specs.Spans.{name_at, opens_name, opener, same_name}
use Rattle.xml_skip.specs.declared.Part.TheVariants.{Fault as PartFault}
use Rattle.xml_skip.specs.Skipping.{part_by, part_of, part_for, part_at}
use Rattle.xml_document.specs.declared.Outside.{Outside}
use Rattle.xml_document.specs.declared.Outside.TheVariants.{Element as OutsideElement, On as Onward, Nothing, Fault as OutsideFault}
use Rattle.xml_document.specs.Document.{outside_at}
use Rattle.log_text.specs.declared.Inside.{Inside}
use Rattle.log_text.specs.declared.Inside.TheVariants.{Element, Close, On, Fault}
use Rattle.log_text.specs.Inside.{ends_at, closing, between, inside_at}
use Rattle.proof_local.proofs.Beginnings.{long}
use Rattle.proof_local.proofs.Names.{Whole, opener_same, opener_cut, same_names}
use Rattle.proof_local.proofs.Markups.{Late, CutOpened, whole, broken_off, opened_cut, late_of, markup_cut}
use Rattle.proof_local.proofs.BrokenNames.{broken_name, end_opens}
use Rattle.proof_local.proofs.Parts.{next_within}
use Rattle.proof_local.proofs.Outsides.{CutOutside, same as outside-same, element as outside-element, no_element as outside-none, broken as outside-broken, outside_cut, other_fault}

abbrev pub EarlyInside : ℕ → Inside → Type 0
EarlyInside n (Element p) = ⊥
EarlyInside n (Close q) = q ≤ n
EarlyInside n (On q) = q ≤ n
EarlyInside n (Fault q) = Unit {0}

abbrev pub LateInside : ℕ → Inside → Type 0
LateInside n (Element p) = ⊥
LateInside n (Close q) = n < q
LateInside n (On q) = n < q
LateInside n (Fault q) = Unit {0}

-- x is the text's, y the beginning's, n long, at p
pub data CutInside (t : List ℕ) (n p : ℕ) (x y : Inside) : Type 0 where
  same : y ≡ x → EarlyInside n x → CutInside t n p x y
  element : x ≡ Element p → y ≡ Element p → opener t p ≡ Start → Whole t n p → CutInside t n p x y
  no_element : x ≡ Element p → y ≡ Fault n → opener t p ≡ Start → Late n (markup t p).sort (markup t p).next → CutInside t n p x y
  broken : y ≡ Fault n → LateInside n x → CutInside t n p x y

between_cut : (t : List ℕ) (n p e f : ℕ) (x y : Outside) → CutOutside t n p x y → CutInside t n p (between x e) (between y f)
unfolding between
between_cut t n p e f (OutsideElement q) y (outside-same k l) = absurd l
between_cut t n p e f (Onward q) y (outside-same k l) = rw k (same refl l)
between_cut t n p e f Nothing y (outside-same k l) = absurd l
between_cut t n p e f (OutsideFault q) y (outside-same k l) = rw k (same refl tt)
between_cut t n p e f x y (outside-element ex ey s v) = rw (ex, ey) (element refl refl s v)
between_cut t n p e f x y (outside-none ex ey s l) = rw (ex, ey) (no_element refl refl s l)
between_cut t n p e f (OutsideElement q) y (outside-broken k l) = absurd l
between_cut t n p e f (Onward q) y (outside-broken k l) = rw k (broken refl l)
between_cut t n p e f Nothing y (outside-broken k l) = absurd l
between_cut t n p e f (OutsideFault q) y (outside-broken k l) = rw k (broken refl tt)

-- AN END TAG
early_by : (n p : ℕ) (s : Sort) (q : ℕ) → q ≤ n → EarlyInside n (closing (part_by s q) p)
unfolding part_by closing
early_by n p StartTag q h = tt
early_by n p EmptyTag q h = tt
early_by n p EndTag q h = h
early_by n p Text q h = tt
early_by n p Reference q h = tt
early_by n p Comment q h = tt
early_by n p Data q h = tt
early_by n p Instruction q h = tt
early_by n p End q h = tt
early_by n p AFault q h = tt

late_by : (n p : ℕ) (s : Sort) (q : ℕ) → Late n s q → LateInside n (closing (part_by s q) p)
unfolding part_by closing
late_by n p StartTag q h = tt
late_by n p EmptyTag q h = tt
late_by n p EndTag q h = h
late_by n p Text q h = tt
late_by n p Reference q h = tt
late_by n p Comment q h = tt
late_by n p Data q h = tt
late_by n p Instruction q h = tt
late_by n p End q h = tt
late_by n p AFault q h = tt

closing_by : (t : List ℕ) (n p : ℕ) (x y : Markup) → y.next ≤ n → CutOpened n x y → CutInside t n p (closing (part_of x) p) (closing (part_of y) p)
unfolding part_of
closing_by t n p x y h (whole e) = same (ap (λ (m : Markup). closing (part_of m) p) e) (early_by n p x.sort x.next (subst (λ (m : Markup). m.next ≤ n) e h))
closing_by t n p x y h (broken_off e l) = broken (unfold part_by closing in ap (λ (m : Markup). closing (part_of m) p) e) (late_by n p x.sort x.next l)

module _ (t : List ℕ) (n : ℕ) (inside : n ≤ length t) (p : ℕ) (h : p < n) (lacking : Bool) (outer : ℕ) (k : outer < n) (w : Whole t n outer) where
  between-at : CutInside t n p (between (outside_at t p) (length t)) (between (outside_at (take n t) p) (length (take n t)))
  between-at = between_cut t n p (length t) (length (take n t)) (outside_at t p) (outside_at (take n t) p) (outside_cut t n inside p h)

  -- the end tag with a whole name
  end_at_lem : opener t p ≡ EndOpener → Whole t n p → (b : Bool) → CutInside t n p (if b then Fault p or_else closing (part_for EndOpener t outer p) p) (if b then Fault p or_else closing (part_for EndOpener (take n t) outer p) p)
  unfolding if◌then◌or_else◌ part_for
  end_at_lem e v true = same refl tt
  end_at_lem e v false = rw (same_names t n inside outer p k h w v) (go (same_name t outer p))
    where
      go : (b : Bool) → CutInside t n p (closing (if b then part_of (markup t p) or_else PartFault p) p) (closing (if b then part_of (markup (take n t) p) or_else PartFault p) p)
      go true = unfold if◌then◌or_else◌ in closing_by t n p (markup t p) (markup (take n t) p) (next_within t n inside p h) (opened_cut t n inside p h (end_opens t p e))
      go false = unfold if◌then◌or_else◌ closing in same refl tt

  whole_name : Whole t n p → (o : Opener) → opener t p ≡ o → CutInside t n p (if ends_at o then (if lacking then Fault p or_else closing (part_for o t outer p) p) or_else between (outside_at t p) (length t)) (if ends_at o then (if lacking then Fault p or_else closing (part_for o (take n t) outer p) p) or_else between (outside_at (take n t) p) (length (take n t)))
  whole_name v Start e = unfold ends_at if◌then◌or_else◌ in between-at
  whole_name v EndOpener e = unfold ends_at if◌then◌or_else◌ in end_at_lem e v lacking
  whole_name v Other e = unfold ends_at if◌then◌or_else◌ in between-at

  -- the name is cut off: a fault at the end
  late_end : markup (take n t) p ≡ marked AFault n → (b c : Bool) → LateInside n (if b then Fault p or_else closing (if c then part_of (markup t p) or_else PartFault p) p)
  unfolding if◌then◌or_else◌ part_of
  late_end m true c = tt
  late_end m false true = late_by n p (markup t p).sort (markup t p).next (late_of n (markup t p) (markup (take n t) p) (markup_cut t n inside p h) m)
  late_end m false false = unfold closing in tt

  cut_name : n ≤ (name_at t p).to → (o : Opener) → opener t p ≡ o → CutInside t n p (if ends_at o then (if lacking then Fault p or_else closing (part_for o t outer p) p) or_else between (outside_at t p) (length t)) (between (outside_at (take n t) p) (length (take n t)))
  cut_name c Start e = unfold ends_at if◌then◌or_else◌ in between-at
  cut_name c EndOpener e = broken (unfold between in rw (other_fault t n inside p h c e) refl) (unfold ends_at if◌then◌or_else◌ part_for in late_end (broken_name t n inside p h c (rw e refl)) lacking (same_name t outer p))
  cut_name c Other e = unfold ends_at if◌then◌or_else◌ in between-at

  -- THE LAW
  pub inside_cut : CutInside t n p (inside_at lacking t outer p) (inside_at lacking (take n t) outer p)
  unfolding inside_at part_at
  inside_cut =
      by_order n (name_at t p).to
      (λ c. rw (opener_cut t n inside p h c) (unfold ends_at if◌then◌or_else◌ in cut_name c (opener t p) refl))
      (λ v. rw (opener_same t n inside p h v) (whole_name v (opener t p) refl))

-- at the end of the beginning, or behind it
pub inside_end : (t : List ℕ) (n : ℕ) (inside : n ≤ length t) (lacking : Bool) (outer : ℕ) → inside_at lacking (take n t) outer n ≡ Fault n
unfolding inside_at ends_at opener opens_name between outside_at if◌then◌or_else◌
inside_end t n inside lacking outer =
    let short : length (take n t) ≤ n = omega (arith, long t n inside) in
    rw (get_or-eq_default (take n t) 0 short, le-leb (length (take n t)) n short, long t n inside) refl
