-- AN ELEMENT SKIPPED in a beginning of a text: as in the text, where it ends before the end of the beginning; else a fault at that end, or the text's own fault. Assumes nothing.
use Rattle.std.specs.Prelude.{Ok, Err}
use mathlib.Core.Path.{◌≡◌, ◌∙◌, refl, ap}
use mathlib.Core.Bool.{Bool, true, false}
use mathlib.Core.List.{List}
use Prim.Native.Nat.{ℕ, zero, suc, ◌+◌, ◌-◌, ◌<◌, ◌≤◌}
use native.Mathlib.Omega.{arith}
use lib.Dec.{eqb}
use lib.ListN.{length, take}
use borrow.Author.Tests.{lt-leb}
use Rattle.base_words.specs.Pick.{if◌then◌or_else◌}
use Rattle.base_words.specs.Words.{at}
use Rattle.base_bytes.proofs.PieceLaws.{by_order}
use Rattle.xml_markup.specs.declared.Opener.TheVariants.{Start}
use Rattle.xml_markup.specs.Markup.{markup, opens_markup}
use Rattle.xml_markup.specs.Spans.{opener}
use Rattle.xml_skip.specs.declared.Part.{Part}
use Rattle.xml_skip.specs.declared.Part.TheVariants.{Element, Close, On, Fault as PartFault}
use Rattle.xml_skip.specs.declared.Tag.{Tag}
use Rattle.xml_skip.specs.declared.Tag.TheVariants.{Open, Empty, Fault as TagFault}
use Rattle.xml_skip.specs.Skipping.{part_at, tag_of, go_on, by_tag, element_by, by_part, content_by, content_at, element_at, depth, skipped, Reached, fault_at}
use Rattle.xml_skip.proofs.Laws.{Further, Onward, Behind, part_onward, tag_behind, content_is, content_end, element_past}
use Rattle.proof_local.proofs.Beginnings.{long}
use Rattle.proof_local.proofs.Names.{Whole}
use Rattle.proof_local.proofs.BrokenNames.{start_opens}
use Rattle.proof_local.proofs.Parts.{LatePart, OntoPart, CutPart, same as same-part, element, no_element, broken as broken-part, text, part_cut, LateTag, CutTag, same_tag, broken_tag, tag_cut, tag_late}

-- ends before n; behind it
abbrev pub Early : ℕ → Reached → Type 0
Early n (Ok q) = q ≤ n
Early n (Err q) = Unit {0}

abbrev pub Late : ℕ → Reached → Type 0
Late n (Ok q) = n < q
Late n (Err q) = Unit {0}

-- x is the text's, y the beginning's, n long
pub data Cut (n : ℕ) (x y : Reached) : Type 0 where
  same : y ≡ x → Early n x → Cut n x y
  broken : y ≡ fault_at n → Late n x → Cut n x y

late_further : (n q : ℕ) (r : Reached) → n ≤ q → Further q r → Late n r
late_further n q (Ok x) h k = omega (arith, h, k)
late_further n q (Err x) h k = tt

further_on : (p q : ℕ) (r : Reached) → p < q → Further q r → Further p r
further_on p q (Ok x) h k = omega (arith, h, k)
further_on p q (Err x) h k = tt

-- CONTENT, as a step and then content
pub content_step : (t : List ℕ) (outer p d : ℕ) → p < length t → content_at t outer p d ≡ by_part (part_at t outer p) (element_at t p d) (λ q. content_at t outer q d)
unfolding content_by element_at if◌then◌or_else◌
content_step t outer p d h = content_is t outer p d ∙ rw (lt-leb (length t) p h) refl

further_step : (t : List ℕ) (outer p d : ℕ) → ((q : ℕ) → p < q → Further q (content_at t outer q d)) → (g : Part) → Onward p g → (r : Reached) → r ≡ element_at t p d → Further p (by_part g r (λ q. content_at t outer q d))
unfolding by_part go_on
further_step t outer p d f Element o (Ok q) e = further_on p q (content_at t outer q d) (element_past t p d (Ok q) e q refl) (f q (element_past t p d (Ok q) e q refl))
further_step t outer p d f Element o (Err q) e = tt
further_step t outer p d f (Close q) o r e = o
further_step t outer p d f (On q) o r e = further_on p q (content_at t outer q d) o (f q o)
further_step t outer p d f (PartFault q) o r e = tt

pub content_further : (t : List ℕ) (k outer p d : ℕ) → length t ≤ p + k → Further p (content_at t outer p d)
content_further t zero outer p d h = rw (content_end t outer p d (omega arith)) tt
content_further t (suc k) outer p d h =
    by_order (length t) p
    (λ l. rw (content_end t outer p d l) tt)
    (λ l. rw (content_step t outer p d l) (further_step t outer p d (λ q m. content_further t k outer q d (omega (arith, h, m))) (part_at t outer p) (part_onward t outer p) (element_at t p d) refl))

module _ (t : List ℕ) (n : ℕ) (inside : n ≤ length t) where
  late_content : (outer q d : ℕ) → n ≤ q → Late n (content_at t outer q d)
  late_content outer q d h = late_further n q (content_at t outer q d) h (content_further t (length t) outer q d (omega arith))

  late_behind : (outer d : ℕ) (r : Reached) → Late n r → Late n (go_on r (λ q. content_at t outer q d))
  unfolding go_on
  late_behind outer d (Ok q) l = late_content outer q d (omega (arith, l))
  late_behind outer d (Err q) l = tt

  late_tagged : (p d : ℕ) (g : Tag) → LateTag n g → Late n (by_tag g (λ q. content_at t p q (d - 1)))
  unfolding by_tag
  late_tagged p d (Open q) l = late_content p q (d - 1) (omega (arith, l))
  late_tagged p d (Empty q) l = l
  late_tagged p d (TagFault q) l = tt

  late_part : (outer d : ℕ) (r : Reached) (g : Part) → LatePart n g → Late n (by_part g r (λ q. content_at t outer q d))
  unfolding by_part
  late_part outer d r Element l = absurd l
  late_part outer d r (Close q) l = l
  late_part outer d r (On q) l = late_content outer q d (omega (arith, l))
  late_part outer d r (PartFault q) l = tt

  onto_part : (outer d : ℕ) (r : Reached) (g : Part) → OntoPart n g → Late n (by_part g r (λ q. content_at t outer q d))
  unfolding by_part
  onto_part outer d r Element l = absurd l
  onto_part outer d r (Close q) l = absurd l
  onto_part outer d r (On q) l = late_content outer q d l
  onto_part outer d r (PartFault q) l = tt

  -- a choice by the depth
  late_deep : (p : ℕ) (b : Bool) (r : Reached) → Late n r → Late n (if b then fault_at p or_else r)
  unfolding if◌then◌or_else◌
  late_deep p true r l = tt
  late_deep p false r l = l

  late_element : (p d : ℕ) → LateTag n (tag_of (markup t p) p) → Late n (element_at t p d)
  unfolding element_at element_by
  late_element p d l = late_deep p (eqb d 0) _ (late_tagged p d (tag_of (markup t p) p) l)

  -- where content behind p is read alike
  module _ (p : ℕ) (h : p < n) (IH : (outer q d : ℕ) → p < q → q ≤ n → outer < n → Whole t n outer → Cut n (content_at t outer q d) (content_at (take n t) outer q d)) where
    deep : (b : Bool) (x y : Reached) → Cut n x y → Cut n (if b then fault_at p or_else x) (if b then fault_at p or_else y)
    unfolding if◌then◌or_else◌
    deep true x y c = same refl tt
    deep false x y c = c

    module _ (d : ℕ) (w : Whole t n p) where
      by_tag_lem : (g k : Tag) → Behind p g → CutTag n g k → Cut n (by_tag g (λ q. content_at t p q (d - 1))) (by_tag k (λ q. content_at (take n t) p q (d - 1)))
      unfolding by_tag
      by_tag_lem (Open q) k o (same_tag e l) = rw e (IH p q (d - 1) o l h w)
      by_tag_lem (Empty q) k o (same_tag e l) = rw e (same refl l)
      by_tag_lem (TagFault q) k o (same_tag e l) = rw e (same refl tt)
      by_tag_lem g k o (broken_tag e l) = rw e (broken refl (late_tagged p d g l))

      element_cut : opens_markup (at t p) ≡ true → Cut n (element_at t p d) (element_at (take n t) p d)
      unfolding element_at element_by
      element_cut o = deep (eqb d 0) _ _ (by_tag_lem (tag_of (markup t p) p) (tag_of (markup (take n t) p) p) (tag_behind t p) (tag_cut t n inside p h o))

    module _ (outer d : ℕ) (k : outer < n) (w : Whole t n outer) where
      by_behind : (x y : Reached) → Further p x → Cut n x y → Cut n (go_on x (λ q. content_at t outer q d)) (go_on y (λ q. content_at (take n t) outer q d))
      unfolding go_on
      by_behind (Ok q) y f (same e l) = rw e (IH outer q d f l k w)
      by_behind (Err q) y f (same e l) = rw e (same refl tt)
      by_behind x y f (broken e l) = rw e (broken refl (late_behind outer d x l))

      element_further : (r : Reached) → r ≡ element_at t p d → Further p r
      element_further (Ok q) e = element_past t p d (Ok q) e q refl
      element_further (Err q) e = tt

      by_part_lem : (x y : Part) → Onward p x → CutPart t n p x y → Cut n (by_part x (element_at t p d) (λ q. content_at t outer q d)) (by_part y (element_at (take n t) p d) (λ q. content_at (take n t) outer q d))
      unfolding by_part
      by_part_lem Element y o (same-part e l) = absurd l
      by_part_lem (Close q) y o (same-part e l) = rw e (same refl l)
      by_part_lem (On q) y o (same-part e l) = rw e (IH outer q d o l k w)
      by_part_lem (PartFault q) y o (same-part e l) = rw e (same refl tt)
      by_part_lem x y o (element ex ey s v) = rw (ex, ey) (by_behind (element_at t p d) (element_at (take n t) p d) (element_further (element_at t p d) refl) (element_cut d v (start_opens t p s)))
      by_part_lem x y o (no_element ex ey s l) = rw (ex, ey) (broken refl (late_behind outer d (element_at t p d) (late_element p d (tag_late t n p l))))
      by_part_lem x y o (broken-part e l) = rw e (broken refl (late_part outer d (element_at t p d) x l))
      by_part_lem x y o (text e l) = rw e (broken (content_end (take n t) outer n d (omega (arith, long t n inside)) ∙ ap fault_at (long t n inside)) (onto_part outer d (element_at t p d) x l))

      content_on : Cut n (content_at t outer p d) (content_at (take n t) outer p d)
      content_on =
          rw (content_step t outer p d (omega (arith, h, inside)), content_step (take n t) outer p d (omega (arith, h, long t n inside)))
          (by_part_lem (part_at t outer p) (part_at (take n t) outer p) (part_onward t outer p) (part_cut t n inside p h outer k w))

  at_end : (outer p d : ℕ) → n ≤ p → Cut n (content_at t outer p d) (content_at (take n t) outer p d)
  at_end outer p d h = broken (content_end (take n t) outer p d (omega (arith, h, long t n inside)) ∙ ap fault_at (long t n inside)) (late_content outer p d h)

  -- each step passes a byte
  content_in : (k outer p d : ℕ) → n ≤ p + k → outer < n → Whole t n outer → Cut n (content_at t outer p d) (content_at (take n t) outer p d)
  content_in zero outer p d h o w = at_end outer p d (omega (arith, h))
  content_in (suc k) outer p d h o w =
      by_order n p
      (λ l. at_end outer p d l)
      (λ l. content_on p l (λ r q e m i j v. content_in k r q e (omega (arith, h, m)) j v) outer d o w)

  -- THE LAWS
  pub content_cut : (outer p d : ℕ) → outer < n → Whole t n outer → Cut n (content_at t outer p d) (content_at (take n t) outer p d)
  content_cut outer p d o w = content_in n outer p d (omega arith) o w

  pub skipped_cut : (p : ℕ) → p < n → opener t p ≡ Start → Whole t n p → Cut n (skipped t p) (skipped (take n t) p)
  unfolding skipped
  skipped_cut p h s w = element_cut p h (λ r q e m i j v. content_cut r q e j v) depth w (start_opens t p s)

  pub skipped_late : (p : ℕ) → LateTag n (tag_of (markup t p) p) → Late n (skipped t p)
  unfolding skipped
  skipped_late p l = late_element p depth l
