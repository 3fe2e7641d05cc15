-- ONE MOVE. A reader of a log at a place of a beginning of a text, the names of its open tags whole there, moves as in the text where it then is no further than the end of the beginning; else it is refused at
-- that end, or where the text is refused. And so in any text that begins alike. Assumes nothing.
use Rattle.std.specs.Prelude.{Ok, Err}
use mathlib.Core.Path.{◌≡◌, refl}
use mathlib.Core.Bool.{Bool, true, false}
use mathlib.Core.List.{List}
use Prim.Native.Nat.{ℕ, ◌<◌, ◌≤◌}
use native.Mathlib.Omega.{arith}
use lib.ListN.{length, take}
use Rattle.base_words.specs.Pick.{if◌then◌or_else◌}
use Rattle.base_bytes.proofs.PieceLaws.{by_order}
use Rattle.xml_markup.specs.declared.Class.TheVariants.{Blanks}
use Rattle.xml_markup.specs.Markup.{markup}
use Rattle.xml_markup.specs.Spans.{run, opener}
use Rattle.xml_skip.specs.declared.Part.{Part}
use Rattle.xml_skip.specs.declared.Part.TheVariants.{Element as PartElement, Close as PartClose, On as PartOn, Fault as PartFault}
use Rattle.xml_skip.specs.declared.Tag.{Tag}
use Rattle.xml_skip.specs.declared.Tag.TheVariants.{Open, Empty, Fault as TagFault}
use Rattle.xml_skip.specs.Skipping.{part_at, tag_of, skipped, Reached}
use Rattle.xml_skip.proofs.Laws.{Further, Onward as PartOnward, Behind, part_onward, tag_behind, skipped_further}
use Rattle.xml_document.specs.declared.Outside.{Outside}
use Rattle.xml_document.specs.declared.Outside.TheVariants.{Element as OutsideElement, On as OutsideOn, Nothing, Fault as OutsideFault}
use Rattle.xml_document.specs.Document.{outside_at}
use Rattle.xml_document.proofs.Laws.{Beyond as OutsideBeyond, at_beyond}
use Rattle.log_text.specs.declared.Inside.{Inside}
use Rattle.log_text.specs.declared.Inside.TheVariants.{Element, Close, On as Onward, Fault as InsideFault}
use Rattle.log_text.specs.declared.Level.{Level}
use Rattle.log_text.specs.declared.Level.TheVariants.{Log, Trace, Event}
use Rattle.log_text.specs.declared.Cursor.{Cursor}
use Rattle.log_text.specs.declared.Move.TheVariants.{Fault}
use Rattle.log_text.specs.Inside.{ends_at, closing, between, inside_at}
use Rattle.log_text.specs.Cursors.{tag_by, lacks_by}
use Rattle.log_text.specs.Logs.{left_by, by_inside, advance}
use Rattle.proof_local.proofs.Beginnings.{next_is, next_in, ran}
use Rattle.proof_local.proofs.Names.{Whole}
use Rattle.proof_local.proofs.Parts.{LateTag, tag_late}
use Rattle.proof_local.proofs.Skips.{Late as LateSkip, skipped_late}
use Rattle.proof_local.proofs.Insides.{CutInside, same as inside-same, element, no_element, broken as inside-broken, inside_cut, inside_end}
use Rattle.proof_local.proofs.Advances.{Early, Late, Cut, same, broken, late_entered, entered_cut}

-- AT A PLACE FROM n ON what is passed ends behind n
abbrev From : ℕ → Inside → Type 0
From n (Element q) = n ≤ q
From n (Close q) = n < q
From n (Onward q) = n < q
From n (InsideFault q) = Unit {0}

from_if : (n : ℕ) (b : Bool) (x y : Inside) → From n x → From n y → From n (if b then x or_else y)
unfolding if◌then◌or_else◌
from_if n true x y h k = h
from_if n false x y h k = k

closing_from : (n p : ℕ) (g : Part) → n ≤ p → PartOnward p g → From n (closing g p)
unfolding closing
closing_from n p PartElement h k = tt
closing_from n p (PartClose q) h k = omega (arith, h, k)
closing_from n p (PartOn q) h k = tt
closing_from n p (PartFault q) h k = tt

between_from : (n p e : ℕ) (o : Outside) → n ≤ p → OutsideBeyond p o → From n (between o e)
unfolding between
between_from n p e (OutsideElement q) h k = omega (arith, h, k)
between_from n p e (OutsideOn q) h k = omega (arith, h, k)
between_from n p e Nothing h k = tt
between_from n p e (OutsideFault q) h k = tt

inside_from : (t : List ℕ) (n p : ℕ) (b : Bool) (outer : ℕ) → n ≤ p → From n (inside_at b t outer p)
unfolding inside_at
inside_from t n p b outer h =
    from_if n (ends_at (opener t p)) _ (between (outside_at t p) (length t))
    (from_if n b (InsideFault p) (closing (part_at t outer p) p) tt (closing_from n p (part_at t outer p) h (part_onward t outer p)))
    (between_from n p (length t) (outside_at t p) h (at_beyond t p))

late_skip : (n p : ℕ) (r : Reached) → n ≤ p → Further p r → LateSkip n r
late_skip n p (Ok q) h k = omega (arith, h, k)
late_skip n p (Err q) h k = tt

late_tag : (n p : ℕ) (g : Tag) → n ≤ p → Behind p g → LateTag n g
late_tag n p (Open q) h k = omega (arith, h, k)
late_tag n p (Empty q) h k = omega (arith, h, k)
late_tag n p (TagFault q) h k = tt

late_left : (n : ℕ) (t : List ℕ) (c : Cursor) (l : Level) (q : ℕ) → n < q → Late n (left_by l t c q)
unfolding left_by
late_left n t c Log q h = h
late_left n t c Trace q h = h
late_left n t c Event q h = h

late_inside : (t : List ℕ) (n : ℕ) (c : Cursor) (g : Inside) → From n g → Late n (by_inside g t c)
unfolding by_inside
late_inside t n c (Element q) h = late_entered t n q c (late_skip n q (skipped t q) h (skipped_further t q)) c.level (late_tag n q (tag_of (markup t q) q) h (tag_behind t q))
late_inside t n c (Close q) h = late_left n t c c.level q h
late_inside t n c (Onward q) h = h
late_inside t n c (InsideFault q) h = tt

late_advance : (t : List ℕ) (n : ℕ) (c : Cursor) → n ≤ run Blanks t c.at → Late n (advance t c)
unfolding advance
late_advance t n c h = late_inside t n c (inside_at (lacks_by c.level c) t (tag_by c.level c) (run Blanks t c.at)) (inside_from t n (run Blanks t c.at) (lacks_by c.level c) (tag_by c.level c) h)

-- ONE MOVE
module _ (t : List ℕ) (n : ℕ) (inside : n ≤ length t) (c : Cursor) (few : c.events < n) where
  left_same : (l : Level) (q : ℕ) → left_by l (take n t) c q ≡ left_by l t c q
  unfolding left_by
  left_same Log q = refl
  left_same Trace q = refl
  left_same Event q = rw (next_in t n inside c.events few, next_is t n inside c.events (omega arith)) refl

  left_early : (l : Level) (q : ℕ) → q ≤ n → Early n (left_by l t c q)
  unfolding left_by
  left_early Log q h = h
  left_early Trace q h = h
  left_early Event q h = h

  by_inside_lem : (p : ℕ) → p < n → (x y : Inside) → CutInside t n p x y → Cut n (by_inside x t c) (by_inside y (take n t) c)
  unfolding by_inside
  by_inside_lem p h (Element q) y (inside-same e l) = absurd l
  by_inside_lem p h (Close q) y (inside-same e l) = rw e (same (left_same c.level q) (left_early c.level q l))
  by_inside_lem p h (Onward q) y (inside-same e l) = rw e (same refl l)
  by_inside_lem p h (InsideFault q) y (inside-same e l) = rw e (same refl tt)
  by_inside_lem p h x y (element ex ey s v) = rw (ex, ey) (entered_cut t n inside p h s v c c.level)
  by_inside_lem p h x y (no_element ex ey s l) = rw (ex, ey) (broken refl (late_entered t n p c (skipped_late t n inside p (tag_late t n p l)) c.level (tag_late t n p l)))
  by_inside_lem p h (Element q) y (inside-broken e l) = absurd l
  by_inside_lem p h (Close q) y (inside-broken e l) = rw e (broken refl (late_left n t c c.level q l))
  by_inside_lem p h (Onward q) y (inside-broken e l) = rw e (broken refl l)
  by_inside_lem p h (InsideFault q) y (inside-broken e l) = rw e (broken refl tt)

  module _ (before : c.at ≤ n) (tag : tag_by c.level c < n) (named : Whole t n (tag_by c.level c)) where
    at_end : n ≤ run Blanks t c.at → advance (take n t) c ≡ Fault n
    unfolding advance by_inside
    at_end h = rw ((ran t n inside Blanks c.at before).cut h, inside_end t n inside (lacks_by c.level c) (tag_by c.level c)) refl

    -- THE LAW
    pub advance_cut : Cut n (advance t c) (advance (take n t) c)
    advance_cut =
        by_order n (run Blanks t c.at)
        (λ h. broken (at_end h) (late_advance t n c h))
        (λ h. unfold advance in rw ((ran t n inside Blanks c.at before).same (omega (arith, h))) (by_inside_lem (run Blanks t c.at) h _ _ (inside_cut t n inside (run Blanks t c.at) h (lacks_by c.level c) (tag_by c.level c) tag named)))
