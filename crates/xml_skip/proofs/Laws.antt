-- The laws of content that the proofs cite. Assumes nothing.
use Rattle.std.specs.Prelude.{Ok, Err}
use mathlib.Core.Path.{◌≡◌, refl, sym, ◌∙◌}
use mathlib.Core.List.{List}
use mathlib.Core.Bool.{Bool, true, false}
use Prim.Native.Nat.{ℕ, zero, suc, ◌+◌, ◌-◌, ◌<◌, ◌≤◌}
use native.Mathlib.Omega.{arith}
use lib.Dec.{leb, eqb}
use lib.ListN.{length}
use borrow.Author.Tests.{le-leb, lt-leb, ne_eqb}
use Rattle.base_words.specs.Pick.{if◌then◌or_else◌}
use Rattle.xml_scanner.specs.declared.Sort.{Sort}
use Rattle.xml_scanner.specs.declared.Sort.TheVariants.{StartTag, EmptyTag, EndTag, Text, Reference, Comment, Data, Instruction, End, Fault as AFault}
use Rattle.xml_markup.specs.declared.Markup.{Markup}
use Rattle.xml_markup.specs.declared.Opener.{Opener}
use Rattle.xml_markup.specs.declared.Opener.TheVariants.{Start, End as EndOpener, Other}
use Rattle.xml_markup.specs.Markup.{markup}
use Rattle.xml_markup.specs.Spans.{opener, same_name}
use Rattle.xml_markup.proofs.MarkupLaws.{Ahead, markup_ahead, markup_within}
use Rattle.xml_skip.specs.declared.Fault.{Fault}
use Rattle.xml_skip.specs.declared.Part.{Part}
use Rattle.xml_skip.specs.declared.Part.TheVariants.{Element, Close, On, Fault as PartFault}
use Rattle.xml_skip.specs.declared.Tag.{Tag}
use Rattle.xml_skip.specs.declared.Tag.TheVariants.{Open, Empty, Fault as TagFault}
use Rattle.xml_skip.specs.Skipping.{part_by, part_of, part_for, part_at, tag_by, tag_of, go_on, by_tag, element_by, by_part, content_by, content_in, content_at, element_at, depth, skipped, Reached, fault_at}

-- WHAT IS PASSED IS FURTHER ON
abbrev pub Further : ℕ → Reached → Type 0
Further p (Ok q) = p < q
Further p (Err q) = Unit {0}

abbrev pub Onward : ℕ → Part → Type 0
Onward p Element = Unit {0}
Onward p (Close q) = p < q
Onward p (On q) = p < q
Onward p (PartFault q) = Unit {0}

abbrev pub Behind : ℕ → Tag → Type 0
Behind p (Open q) = p < q
Behind p (Empty q) = p < q
Behind p (TagFault q) = Unit {0}

further_from : (p q : ℕ) (r : Reached) → p < q → Further q r → Further p r
further_from p q (Ok x) h o = omega arith
further_from p q (Err x) h o = tt

further_if : (p : ℕ) (b : Bool) (x y : Reached) → Further p x → Further p y → Further p (if b then x or_else y)
unfolding if◌then◌or_else◌
further_if p true x y h k = h
further_if p false x y h k = k

part_by_lem : (s : Sort) (q p : ℕ) → Ahead s p q → Onward p (part_by s q)
unfolding part_by
part_by_lem StartTag q p h = h
part_by_lem EmptyTag q p h = h
part_by_lem EndTag q p h = h
part_by_lem Text q p h = h
part_by_lem Reference q p h = h
part_by_lem Comment q p h = h
part_by_lem Data q p h = h
part_by_lem Instruction q p h = h
part_by_lem End q p h = tt
part_by_lem AFault q p h = tt

tag_by_lem : (s : Sort) (q p : ℕ) → Ahead s p q → Behind p (tag_by s q p)
unfolding tag_by
tag_by_lem StartTag q p h = h
tag_by_lem EmptyTag q p h = h
tag_by_lem EndTag q p h = tt
tag_by_lem Text q p h = tt
tag_by_lem Reference q p h = tt
tag_by_lem Comment q p h = tt
tag_by_lem Data q p h = tt
tag_by_lem Instruction q p h = tt
tag_by_lem End q p h = tt
tag_by_lem AFault q p h = tt

pub part_onward : (t : List ℕ) (outer p : ℕ) → Onward p (part_at t outer p)
unfolding part_at
part_onward t outer p = go (opener t p)
  where
    here : Onward p (part_of (markup t p))
    here = unfold part_of in part_by_lem (markup t p).sort (markup t p).next p (markup_ahead t p)

    by : (b : Bool) → Onward p (if b then part_of (markup t p) or_else PartFault p)
    by true = unfold if◌then◌or_else◌ in here
    by false = unfold if◌then◌or_else◌ in tt

    go : (o : Opener) → Onward p (part_for o t outer p)
    go Start = unfold part_for in tt
    go EndOpener = unfold part_for in by (same_name t outer p)
    go Other = unfold part_for in here

pub tag_behind : (t : List ℕ) (p : ℕ) → Behind p (tag_of (markup t p) p)
unfolding tag_of
tag_behind t p = tag_by_lem (markup t p).sort (markup t p).next p (markup_ahead t p)

-- the content of an element begins within the text
abbrev pub Within : ℕ → Tag → Type 0
Within e (Open q) = q ≤ e
Within e (Empty q) = Unit {0}
Within e (TagFault q) = Unit {0}

within_by : (s : Sort) (q p e : ℕ) → q ≤ e → Within e (tag_by s q p)
unfolding tag_by
within_by StartTag q p e h = h
within_by EmptyTag q p e h = tt
within_by EndTag q p e h = tt
within_by Text q p e h = tt
within_by Reference q p e h = tt
within_by Comment q p e h = tt
within_by Data q p e h = tt
within_by Instruction q p e h = tt
within_by End q p e h = tt
within_by AFault q p e h = tt

pub tag_within : (t : List ℕ) (p : ℕ) → Within (length t) (tag_of (markup t p) p)
unfolding tag_of
tag_within t p = within_by (markup t p).sort (markup t p).next p (length t) (markup_within t p)

-- one step goes on, where what follows goes on
module _ (C : ℕ → ℕ → ℕ → Reached) (on : (o q e : ℕ) → Further q (C o q e)) (t : List ℕ) (p d : ℕ) where
  by_tag_lem : (g : Tag) → Behind p g → Further p (by_tag g (λ q. C p q (d - 1)))
  unfolding by_tag
  by_tag_lem (Open q) h = further_from p q (C p q (d - 1)) h (on p q (d - 1))
  by_tag_lem (Empty q) h = h
  by_tag_lem (TagFault q) h = tt

  element_on : Further p (element_by C t p d)
  unfolding element_by
  element_on = further_if p (eqb d 0) _ _ tt (by_tag_lem (tag_of (markup t p) p) (tag_behind t p))

  behind_on : (outer : ℕ) (r : Reached) → Further p r → Further p (go_on r (λ q. C outer q d))
  unfolding go_on
  behind_on outer (Ok q) o = further_from p q (C outer q d) o (on outer q d)
  behind_on outer (Err q) o = tt

  by_part_lem : (outer : ℕ) (g : Part) → Onward p g → Further p (by_part g (element_by C t p d) (λ q. C outer q d))
  unfolding by_part
  by_part_lem outer Element h = behind_on outer (element_by C t p d) element_on
  by_part_lem outer (Close q) h = h
  by_part_lem outer (On q) h = further_from p q (C outer q d) h (on outer q d)
  by_part_lem outer (PartFault q) h = tt

  content_on : (outer : ℕ) → Further p (content_by C t outer p d)
  unfolding content_by
  content_on outer = further_if p (leb (length t) p) _ _ tt (by_part_lem outer (part_at t outer p) (part_onward t outer p))

in_on : (n : ℕ) (t : List ℕ) (outer p d : ℕ) → Further p (content_in n t outer p d)
unfolding content_in
in_on zero t outer p d = tt
in_on (suc n) t outer p d = content_on (content_in n t) (in_on n t) t p d outer

-- ENOUGH STEPS. One step gives the same, where what follows gives the same.
module _ (C D : ℕ → ℕ → ℕ → Reached) (on : (o q e : ℕ) → Further q (D o q e)) (t : List ℕ) (p d : ℕ) (same : (o q e : ℕ) → p < q → C o q e ≡ D o q e) where
  tag_same : (g : Tag) → Behind p g → by_tag g (λ q. C p q (d - 1)) ≡ by_tag g (λ q. D p q (d - 1))
  unfolding by_tag
  tag_same (Open q) h = same p q (d - 1) h
  tag_same (Empty q) h = refl
  tag_same (TagFault q) h = refl

  element_same : element_by C t p d ≡ element_by D t p d
  unfolding element_by
  element_same = rw (tag_same (tag_of (markup t p) p) (tag_behind t p))

  behind_same : (outer : ℕ) (r : Reached) → Further p r → go_on r (λ q. C outer q d) ≡ go_on r (λ q. D outer q d)
  unfolding go_on
  behind_same outer (Ok q) o = same outer q d o
  behind_same outer (Err q) o = refl

  part_same : (outer : ℕ) (g : Part) → Onward p g → by_part g (element_by D t p d) (λ q. C outer q d) ≡ by_part g (element_by D t p d) (λ q. D outer q d)
  unfolding by_part
  part_same outer Element h = behind_same outer (element_by D t p d) (element_on D on t p d)
  part_same outer (Close q) h = refl
  part_same outer (On q) h = same outer q d h
  part_same outer (PartFault q) h = refl

  content_same : (outer : ℕ) → content_by C t outer p d ≡ content_by D t outer p d
  unfolding content_by
  content_same outer = rw (element_same, part_same outer (part_at t outer p) (part_onward t outer p))

-- any two numbers of steps that are enough give the same
stable : (n m : ℕ) (t : List ℕ) (outer p d : ℕ) → length t ≤ p + n → length t ≤ p + m → content_in n t outer p d ≡ content_in m t outer p d
unfolding content_in content_by if◌then◌or_else◌
stable zero zero t outer p d h k = refl
stable zero (suc m) t outer p d h k = sym (rw (le-leb (length t) p (omega arith)))
stable (suc n) zero t outer p d h k = rw (le-leb (length t) p (omega arith))
stable (suc n) (suc m) t outer p d h k = content_same (content_in n t) (content_in m t) (in_on m t) t p d (λ o q e l. stable n m t o q e (omega arith) (omega arith)) outer

-- the equation that content is: a step, and then content
pub content_is : (t : List ℕ) (outer p d : ℕ) → content_at t outer p d ≡ content_by (content_at t) t outer p d
unfolding content_at content_in
content_is t outer p d = stable (length t) (suc (length t)) t outer p d (omega arith) (omega arith)

pub element_past : (t : List ℕ) (p d : ℕ) (r : Reached) → r ≡ element_at t p d → (q : ℕ) → r ≡ Ok q → p < q
unfolding element_at content_at
element_past t p d r er q e = rw (← er, e) at (element_on (content_at t) (in_on (length t) t) t p d)

pub skipped_further : (t : List ℕ) (p : ℕ) → Further p (skipped t p)
unfolding skipped element_at content_at
skipped_further t p = element_on (content_at t) (in_on (length t) t) t p depth

-- the part at a place of content, as the loop meets it
pub part_past : (t : List ℕ) (outer p : ℕ) (g : Part) → g ≡ part_at t outer p → (q : ℕ) → g ≡ On q → p < q
part_past t outer p g eg q e = rw (← eg, e) at (part_onward t outer p)

pub content_end : (t : List ℕ) (outer p d : ℕ) → length t ≤ p → content_at t outer p d ≡ fault_at (length t)
unfolding content_by if◌then◌or_else◌
content_end t outer p d h = content_is t outer p d ∙ rw (le-leb (length t) p h)

module _ (t : List ℕ) (outer p d : ℕ) (in_text : p < length t) (g : Part) (eg : g ≡ part_at t outer p) where
  content_part : content_at t outer p d ≡ by_part g (element_at t p d) (λ q. content_at t outer q d)
  unfolding content_by element_at if◌then◌or_else◌
  content_part = content_is t outer p d ∙ rw (lt-leb (length t) p in_text, ← eg)

  pub content_close : (q : ℕ) → g ≡ Close q → content_at t outer p d ≡ Ok q
  unfolding by_part
  content_close q e = content_part ∙ rw e

  pub content_fault : (q : ℕ) → g ≡ PartFault q → content_at t outer p d ≡ fault_at q
  unfolding by_part
  content_fault q e = content_part ∙ rw e

  pub content_onward : (q : ℕ) → g ≡ On q → content_at t outer p d ≡ content_at t outer q d
  unfolding by_part
  content_onward q e = content_part ∙ rw e

  pub content_past : g ≡ Element → (r : Reached) → r ≡ element_at t p d → (q : ℕ) → r ≡ Ok q → content_at t outer p d ≡ content_at t outer q d
  unfolding by_part go_on
  content_past k r er q e = content_part ∙ rw (k, ← er, e)

  pub content_refused : g ≡ Element → (r : Reached) → r ≡ element_at t p d → (q : Fault) → r ≡ Err q → content_at t outer p d ≡ r
  unfolding by_part go_on
  content_refused k r er q e = content_part ∙ rw (k, ← er, e)

-- an element at p
pub element_deep : (t : List ℕ) (p d : ℕ) → d ≡ 0 → element_at t p d ≡ fault_at p
unfolding element_at element_by if◌then◌or_else◌
element_deep t p d e = rw e

module _ (t : List ℕ) (p d : ℕ) (deep : d ≡ 0 → ⊥) (m : Markup) (em : m ≡ markup t p) (g : Tag) (eg : g ≡ tag_of m p) where
  element_tag : element_at t p d ≡ by_tag g (λ q. content_at t p q (d - 1))
  unfolding element_at element_by if◌then◌or_else◌
  element_tag = rw (ne_eqb d 0 deep, ← em, ← eg)

  pub element_open : (q : ℕ) → g ≡ Open q → element_at t p d ≡ content_at t p q (d - 1)
  unfolding by_tag
  element_open q e = element_tag ∙ rw e

  pub element_empty : (q : ℕ) → g ≡ Empty q → element_at t p d ≡ Ok q
  unfolding by_tag
  element_empty q e = element_tag ∙ rw e

  pub element_fault : (q : ℕ) → g ≡ TagFault q → element_at t p d ≡ fault_at q
  unfolding by_tag
  element_fault q e = element_tag ∙ rw e

  pub open_past : (q : ℕ) → g ≡ Open q → p < q
  open_past q e = rw (← em, ← eg, e) at (tag_behind t p)

  pub open_within : (q : ℕ) → g ≡ Open q → q ≤ length t
  open_within q e = rw (← em, ← eg, e) at (tag_within t p)
