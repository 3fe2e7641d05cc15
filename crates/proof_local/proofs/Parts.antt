-- THE PARTS OF CONTENT AND THE TAGS OF ELEMENTS in a beginning of a text: the text's own, or a fault at the end of the beginning. Assumes nothing.
use mathlib.Core.Path.{◌≡◌, refl, ap, subst}
use mathlib.Core.Bool.{Bool, true, false}
use mathlib.Core.List.{List}
use Prim.Native.Nat.{ℕ, ◌<◌, ◌≤◌}
use native.Mathlib.Omega.{arith}
use lib.ListN.{length, take}
use Rattle.base_words.specs.Pick.{if◌then◌or_else◌}
use Rattle.base_words.specs.Words.{at}
use Rattle.base_bytes.proofs.PieceLaws.{by_order}
use Rattle.xml_scanner.specs.declared.Sort.{Sort}
use Rattle.xml_scanner.specs.declared.Sort.TheVariants.{StartTag, EmptyTag, EndTag, Text, Reference, Comment, Data, Instruction, End, Fault as AFault}
use Rattle.xml_markup.specs.declared.Markup.{Markup}
use Rattle.xml_markup.specs.declared.Opener.{Opener}
use Rattle.xml_markup.specs.declared.Opener.TheVariants.{Start, End as EndOpener, Other}
use Rattle.xml_markup.specs.declared.Scan.{Scan}
use Rattle.xml_markup.specs.Markup.{marked, markup, opens_markup, placed, scan}
use Rattle.xml_markup.specs.Spans.{name_at, opener, same_name}
use Rattle.xml_markup.proofs.MarkupLaws.{markup_within}
use Rattle.xml_skip.specs.declared.Part.{Part}
use Rattle.xml_skip.specs.declared.Part.TheVariants.{Element, Close, On, Fault as PartFault}
use Rattle.xml_skip.specs.declared.Tag.{Tag}
use Rattle.xml_skip.specs.declared.Tag.TheVariants.{Open, Empty, Fault as TagFault}
use Rattle.xml_skip.specs.Skipping.{part_by, part_of, part_for, part_at, tag_by, tag_of}
use Rattle.proof_local.proofs.Beginnings.{long}
use Rattle.proof_local.proofs.Names.{Whole, opener_same, opener_cut, same_names}
use Rattle.proof_local.proofs.Scans.{Cut as CutScan, same as scan-same, broken as scan-broken, scan_cut}
use Rattle.proof_local.proofs.Markups.{Late, Onto, Cut as CutMarkup, same as markup-same, broken as markup-broken, text as markup-text, markup_cut, opened_is, opened_in, late_placed, late_of}
use Rattle.proof_local.proofs.BrokenNames.{broken_name}

-- A PART: no element, ends before n; behind it; goes up to it
abbrev pub EarlyPart : ℕ → Part → Type 0
EarlyPart n Element = ⊥
EarlyPart n (Close q) = q ≤ n
EarlyPart n (On q) = q ≤ n
EarlyPart n (PartFault q) = Unit {0}

abbrev pub LatePart : ℕ → Part → Type 0
LatePart n Element = ⊥
LatePart n (Close q) = n < q
LatePart n (On q) = n < q
LatePart n (PartFault q) = Unit {0}

abbrev pub OntoPart : ℕ → Part → Type 0
OntoPart n Element = ⊥
OntoPart n (Close q) = ⊥
OntoPart n (On q) = n ≤ q
OntoPart n (PartFault q) = Unit {0}

-- x is the text's, y the beginning's, n long, at p
pub data CutPart (t : List ℕ) (n p : ℕ) (x y : Part) : Type 0 where
  same : y ≡ x → EarlyPart n x → CutPart t n p x y
  element : x ≡ Element → y ≡ Element → opener t p ≡ Start → Whole t n p → CutPart t n p x y
  no_element : x ≡ Element → y ≡ PartFault n → opener t p ≡ Start → Late n (markup t p).sort (markup t p).next → CutPart t n p x y
  broken : y ≡ PartFault n → LatePart n x → CutPart t n p x y
  text : y ≡ On n → OntoPart n x → CutPart t n p x y

early_by : (n : ℕ) (s : Sort) (q : ℕ) → q ≤ n → EarlyPart n (part_by s q)
unfolding part_by
early_by n StartTag q h = h
early_by n EmptyTag q h = h
early_by n EndTag q h = h
early_by n Text q h = h
early_by n Reference q h = h
early_by n Comment q h = h
early_by n Data q h = h
early_by n Instruction q h = h
early_by n End q h = tt
early_by n AFault q h = tt

late_by : (n : ℕ) (s : Sort) (q : ℕ) → Late n s q → LatePart n (part_by s q)
unfolding part_by
late_by n StartTag q h = h
late_by n EmptyTag q h = h
late_by n EndTag q h = h
late_by n Text q h = h
late_by n Reference q h = h
late_by n Comment q h = h
late_by n Data q h = h
late_by n Instruction q h = h
late_by n End q h = tt
late_by n AFault q h = tt

onto_by : (n : ℕ) (s : Sort) (q : ℕ) → Onto n s q → OntoPart n (part_by s q)
unfolding part_by
onto_by n StartTag q h = absurd h
onto_by n EmptyTag q h = absurd h
onto_by n EndTag q h = absurd h
onto_by n Text q h = h
onto_by n Reference q h = absurd h
onto_by n Comment q h = absurd h
onto_by n Data q h = absurd h
onto_by n Instruction q h = absurd h
onto_by n End q h = absurd h
onto_by n AFault q h = tt

part_of_lem : (t : List ℕ) (n p : ℕ) (x y : Markup) → y.next ≤ n → CutMarkup n x y → CutPart t n p (part_of x) (part_of y)
unfolding part_of
part_of_lem t n p x y h (markup-same e) = same (ap part_of e) (early_by n x.sort x.next (subst (λ (m : Markup). m.next ≤ n) e h))
part_of_lem t n p x y h (markup-broken e l) = broken (unfold part_by in ap part_of e) (late_by n x.sort x.next l)
part_of_lem t n p x y h (markup-text e l) = text (unfold part_by in ap part_of e) (onto_by n x.sort x.next l)

module _ (t : List ℕ) (n : ℕ) (inside : n ≤ length t) (p : ℕ) (h : p < n) where
  pub next_within : (markup (take n t) p).next ≤ n
  next_within = omega (arith, markup_within (take n t) p, long t n inside)

  other : CutPart t n p (part_of (markup t p)) (part_of (markup (take n t) p))
  other = part_of_lem t n p (markup t p) (markup (take n t) p) next_within (markup_cut t n inside p h)

  module _ (outer : ℕ) (k : outer < n) (w : Whole t n outer) where
    -- a whole name
    named_part : Whole t n p → (o : Opener) → opener t p ≡ o → CutPart t n p (part_for o t outer p) (part_for o (take n t) outer p)
    unfolding part_for
    named_part v Start e = element refl refl e v
    named_part v EndOpener e = rw (same_names t n inside outer p k h w v) (go (same_name t outer p))
      where
        go : (b : Bool) → CutPart t n p (if b then part_of (markup t p) or_else PartFault p) (if b then part_of (markup (take n t) p) or_else PartFault p)
        go true = unfold if◌then◌or_else◌ in other
        go false = unfold if◌then◌or_else◌ in same refl tt
    named_part v Other e = other

    -- one that is cut off
    cut_part : n ≤ (name_at t p).to → (o : Opener) → opener t p ≡ o → CutPart t n p (part_for o t outer p) (part_of (markup (take n t) p))
    unfolding part_for
    cut_part c Start e = no_element refl (unfold part_of part_by in ap part_of m) e (late_of n _ _ (markup_cut t n inside p h) m)
      where
        m : markup (take n t) p ≡ marked AFault n
        m = broken_name t n inside p h c (rw e refl)
    cut_part c EndOpener e = broken (unfold part_of part_by in ap part_of m) (go (same_name t outer p))
      where
        m : markup (take n t) p ≡ marked AFault n
        m = broken_name t n inside p h c (rw e refl)

        go : (b : Bool) → LatePart n (if b then part_of (markup t p) or_else PartFault p)
        go true = unfold if◌then◌or_else◌ part_of in late_by n _ _ (late_of n _ _ (markup_cut t n inside p h) m)
        go false = unfold if◌then◌or_else◌ in tt
    cut_part c Other e = other

    pub part_cut : CutPart t n p (part_at t outer p) (part_at (take n t) outer p)
    unfolding part_at
    part_cut =
        by_order n (name_at t p).to
        (λ c. rw (opener_cut t n inside p h c) (unfold part_for in cut_part c (opener t p) refl))
        (λ v. rw (opener_same t n inside p h v) (named_part v (opener t p) refl))

-- A TAG
abbrev pub EarlyTag : ℕ → Tag → Type 0
EarlyTag n (Open q) = q ≤ n
EarlyTag n (Empty q) = q ≤ n
EarlyTag n (TagFault q) = Unit {0}

abbrev pub LateTag : ℕ → Tag → Type 0
LateTag n (Open q) = n < q
LateTag n (Empty q) = n < q
LateTag n (TagFault q) = Unit {0}

pub data CutTag (n : ℕ) (x y : Tag) : Type 0 where
  same_tag : y ≡ x → EarlyTag n x → CutTag n x y
  broken_tag : y ≡ TagFault n → LateTag n x → CutTag n x y

early_tag : (n : ℕ) (s : Sort) (q p : ℕ) → q ≤ n → EarlyTag n (tag_by s q p)
unfolding tag_by
early_tag n StartTag q p h = h
early_tag n EmptyTag q p h = h
early_tag n EndTag q p h = tt
early_tag n Text q p h = tt
early_tag n Reference q p h = tt
early_tag n Comment q p h = tt
early_tag n Data q p h = tt
early_tag n Instruction q p h = tt
early_tag n End q p h = tt
early_tag n AFault q p h = tt

late_tag : (n : ℕ) (s : Sort) (q p : ℕ) → Late n s q → LateTag n (tag_by s q p)
unfolding tag_by
late_tag n StartTag q p h = h
late_tag n EmptyTag q p h = h
late_tag n EndTag q p h = tt
late_tag n Text q p h = tt
late_tag n Reference q p h = tt
late_tag n Comment q p h = tt
late_tag n Data q p h = tt
late_tag n Instruction q p h = tt
late_tag n End q p h = tt
late_tag n AFault q p h = tt

pub tag_late : (t : List ℕ) (n p : ℕ) → Late n (markup t p).sort (markup t p).next → LateTag n (tag_of (markup t p) p)
unfolding tag_of
tag_late t n p l = late_tag n (markup t p).sort (markup t p).next p l

-- a tag ends within the text
pub tag_inside : (t : List ℕ) (p : ℕ) → EarlyTag (length t) (tag_of (markup t p) p)
unfolding tag_of
tag_inside t p = early_tag (length t) (markup t p).sort (markup t p).next p (markup_within t p)

module _ (t : List ℕ) (n : ℕ) (inside : n ≤ length t) (p : ℕ) (h : p < n) (opens : opens_markup (at t p) ≡ true) where
  go : (x y : Scan) → CutScan n x y → (placed y).next ≤ n → CutTag n (tag_of (placed x) p) (tag_of (placed y) p)
  unfolding tag_of
  go x y (scan-same e) k = same_tag (ap (λ (r : Scan). tag_of (placed r) p) e) (early_tag n (placed x).sort (placed x).next p (subst (λ (r : Scan). (placed r).next ≤ n) e k))
  go x y (scan-broken e l) k = broken_tag (unfold placed tag_by in ap (λ (r : Scan). tag_of (placed r) p) e) (late_tag n (placed x).sort (placed x).next p (late_placed n x l))

  pub tag_cut : CutTag n (tag_of (markup t p) p) (tag_of (markup (take n t) p) p)
  tag_cut = rw (opened_is t n inside p h opens, opened_in t n inside p h opens) (go (scan t p) (scan (take n t) p) (scan_cut t n inside p (omega arith)) (rw (opened_in t n inside p h opens) at (next_within t n inside p h)))
