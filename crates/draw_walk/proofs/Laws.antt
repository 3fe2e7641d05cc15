-- The laws of the walk that the proofs cite. Assumes nothing.
use Rattle.std.specs.Prelude.{Option, Some, None, Ok, Err}
use mathlib.Core.Path.{◌≡◌, refl, sym, ap, ◌∙◌}
use mathlib.Core.List.{List}
use mathlib.Core.Bool.{Bool, true, false}
use Prim.Native.Nat.{ℕ, zero, suc, ◌+◌, ◌<◌, ◌≤◌}
use native.Mathlib.Omega.{arith}
use lib.Dec.{leb, eqb}
use lib.ListN.{length}
use borrow.Author.Tests.{le-leb, lt-leb}
use Rattle.base_words.specs.Pick.{if◌then◌or_else◌}
use Rattle.base_words.specs.Text.{bytes}
use Rattle.base_words.specs.Words.{part}
use Rattle.text_numerals.specs.Numerals.{number_of}
use Rattle.xml_markup.specs.Markup.{markup}
use Rattle.xml_markup.specs.Spans.{attribute}
use Rattle.xml_skip.specs.declared.Part.{Part}
use Rattle.xml_skip.specs.declared.Part.TheVariants.{Element, Close, On, Fault as PartFault}
use Rattle.xml_skip.specs.declared.Tag.{Tag}
use Rattle.xml_skip.specs.declared.Tag.TheVariants.{Open, Empty, Fault as TagFault}
use Rattle.xml_skip.specs.Skipping.{part_at, tag_of, skipped, Reached, fault_at}
use Rattle.xml_skip.proofs.Laws.{Further, Onward, Behind, Within, part_onward, tag_behind, tag_within, skipped_further}
use Rattle.xml_document.specs.Around.{root_at, last_from}
use Rattle.draw_things.specs.Things.{definitions}
use Rattle.draw_things.specs.Names.{named_at, drawn_as}
use Rattle.draw_walk.specs.declared.Walked.{Walked}
use Rattle.draw_walk.specs.declared.Outer.{Outer}
use Rattle.draw_walk.specs.Walk.{Walk, walk_told, walked, is_number, judged, multiplicity_by, multiplicity, is_passed, passed, tag_from, entered, noted, counted, outer, Content, by_tag, thing_by, by_end, walk_on, by_part, content_by, content_in, content_at, thing_at, walk}

-- WHAT IS PASSED IS FURTHER ON
further_from : (p q : ℕ) (r : Reached) → p < q → Further q r → Further p r
further_from p q (Ok x) h o = omega arith
further_from p q (Err x) h o = tt

further_if : (p : ℕ) (b : Bool) (x y : Reached) → Further p x → Further p y → Further p (if b then x or_else y)
unfolding if◌then◌or_else◌
further_if p true x y h k = h
further_if p false x y h k = k

module _ (t : List ℕ) (p : ℕ) where
  multiplicity_further : (a : Option (ℕ × ℕ)) → Further p (multiplicity_by a t p)
  unfolding multiplicity_by judged
  multiplicity_further (Some (from, to)) = further_if p (is_number (number_of (part t from to))) (skipped t p) _ (skipped_further t p) (further_if p (leb (markup t p).next to) (skipped t p) (fault_at from) (skipped_further t p) tt)
  multiplicity_further None = skipped_further t p

  passed_further : (s : ℕ) → Further p (passed s t p)
  unfolding passed multiplicity
  passed_further s = further_if p (eqb s 4) _ _ (multiplicity_further (attribute t p _)) (skipped_further t p)

-- the content of an element begins behind its `<` and within the text
abbrev Entered : ℕ → ℕ → Tag → Type 0
Entered p e (Open q) = (p < q) × (q ≤ e)
Entered p e (Empty q) = p < q
Entered p e (TagFault q) = Unit {0}

entered_by_lem : (p e : ℕ) (g : Tag) → Behind p g → Within e g → Entered p e g
entered_by_lem p e (Open q) h k = (h, k)
entered_by_lem p e (Empty q) h k = h
entered_by_lem p e (TagFault q) h k = tt

entered_from : (p e : ℕ) (r : Reached) → Further p r → Entered p e (tag_from r)
unfolding tag_from
entered_from p e (Ok q) h = h
entered_from p e (Err q) h = tt

entered_if : (p e : ℕ) (b : Bool) (x y : Tag) → Entered p e x → Entered p e y → Entered p e (if b then x or_else y)
unfolding if◌then◌or_else◌
entered_if p e true x y h k = h
entered_if p e false x y h k = k

entered_on : (s : ℕ) (t : List ℕ) (p : ℕ) → Entered p (length t) (entered s t p)
unfolding entered
entered_on s t p =
    entered_if p (length t) (eqb s 0) (tag_from (skipped t p)) _ (entered_from p (length t) (skipped t p) (skipped_further t p))
    (entered_if p (length t) (is_passed s) (tag_from (passed s t p)) (tag_of (markup t p) p) (entered_from p (length t) (passed s t p) (passed_further t p s)) (entered_by_lem p (length t) (tag_of (markup t p) p) (tag_behind t p) (tag_within t p)))

-- one step goes on, where what follows goes on
module _ (C : Content) (on : (o : Outer) (q : ℕ) (w : List ℕ) (n : ℕ) → Further q (C o q w n).end) (t : List ℕ) (p : ℕ) (w : List ℕ) (n : ℕ) where
  by_tag_lem : (o : Outer) (g : Tag) (v : List ℕ) (m : ℕ) → Entered p (length t) g → Further p (by_tag g (λ q. C o q v m) v m).end
  unfolding by_tag walk_told
  by_tag_lem o (Open q) v m h = further_from p q (C o q v m).end h.0 (on o q v m)
  by_tag_lem o (Empty q) v m h = h
  by_tag_lem o (TagFault q) v m h = tt

  thing_on : (s d k : ℕ) → Further p (thing_by C s d t k p w n).end
  unfolding thing_by
  thing_on s d k = by_tag_lem (outer s n p) (entered s t p) (noted d p k w n) (counted d n) (entered_on s t p)

  behind_on : (o : Outer) (r : Walk) (e : Reached) → r.end ≡ e → Further p e → Further p (by_end e (λ q. C o q r.words r.count) r).end
  unfolding by_end
  behind_on o r (Ok q) er h = further_from p q (C o q r.words r.count).end h (on o q r.words r.count)
  behind_on o r (Err q) er h = rw er tt

  by_part_lem : (o : Outer) (g : Part) (r : Walk) → Further p r.end → Onward p g → Further p (by_part g r (C o) w n).end
  unfolding by_part walk_on walk_told
  by_part_lem o Element r f h = behind_on o r r.end refl f
  by_part_lem o (Close q) r f h = h
  by_part_lem o (On q) r f h = further_from p q (C o q w n).end h (on o q w n)
  by_part_lem o (PartFault q) r f h = tt

  content_on : (o : Outer) → Further p (content_by C t o p w n).end
  unfolding content_by
  content_on o = go (leb (length t) p)
    where
      r : Walk
      r = thing_by C (named_at o.sort t p) (drawn_as (named_at o.sort t p) o.sort t p) t o.thing p w n

      go : (b : Bool) → Further p (if b then walk_told (walked (fault_at (length t)) n) w or_else by_part (part_at t o.tag p) r (C o) w n).end
      go true = unfold if◌then◌or_else◌ walk_told in tt
      go false = unfold if◌then◌or_else◌ in by_part_lem o (part_at t o.tag p) r (thing_on (named_at o.sort t p) (drawn_as (named_at o.sort t p) o.sort t p) o.thing) (part_onward t o.tag p)

in_on : (m : ℕ) (t : List ℕ) (o : Outer) (p : ℕ) (w : List ℕ) (n : ℕ) → Further p (content_in m t o p w n).end
unfolding content_in walk_told
in_on zero t o p w n = tt
in_on (suc m) t o p w n = content_on (content_in m t) (in_on m t) t p w n o

-- ENOUGH STEPS. One step gives the same, where what follows gives the same.
module _ (C D : Content) (on : (o : Outer) (q : ℕ) (w : List ℕ) (n : ℕ) → Further q (D o q w n).end) (t : List ℕ) (p : ℕ) (same : (o : Outer) (q : ℕ) (w : List ℕ) (n : ℕ) → p < q → C o q w n ≡ D o q w n) (w : List ℕ) (n : ℕ) where
  tag_same : (o : Outer) (g : Tag) (v : List ℕ) (m : ℕ) → Entered p (length t) g → by_tag g (λ q. C o q v m) v m ≡ by_tag g (λ q. D o q v m) v m
  unfolding by_tag
  tag_same o (Open q) v m h = same o q v m h.0
  tag_same o (Empty q) v m h = refl
  tag_same o (TagFault q) v m h = refl

  thing_same : (s d k : ℕ) → thing_by C s d t k p w n ≡ thing_by D s d t k p w n
  unfolding thing_by
  thing_same s d k = tag_same (outer s n p) (entered s t p) (noted d p k w n) (counted d n) (entered_on s t p)

  behind_same : (o : Outer) (r : Walk) (e : Reached) → Further p e → by_end e (λ q. C o q r.words r.count) r ≡ by_end e (λ q. D o q r.words r.count) r
  unfolding by_end
  behind_same o r (Ok q) h = same o q r.words r.count h
  behind_same o r (Err q) h = refl

  part_same : (o : Outer) (g : Part) (r : Walk) → Further p r.end → Onward p g → by_part g r (C o) w n ≡ by_part g r (D o) w n
  unfolding by_part walk_on
  part_same o Element r f h = behind_same o r r.end f
  part_same o (Close q) r f h = refl
  part_same o (On q) r f h = same o q w n h
  part_same o (PartFault q) r f h = refl

  content_same : (o : Outer) → content_by C t o p w n ≡ content_by D t o p w n
  unfolding content_by
  content_same o =
      let s = named_at o.sort t p in
      let d = drawn_as s o.sort t p in
      rw (thing_same s d o.thing, part_same o (part_at t o.tag p) (thing_by D s d t o.thing p w n) (thing_on D on t p w n s d o.thing) (part_onward t o.tag p))

-- any two numbers of steps that are enough give the same
stable : (m l : ℕ) (t : List ℕ) (o : Outer) (p : ℕ) (w : List ℕ) (n : ℕ) → length t ≤ p + m → length t ≤ p + l → content_in m t o p w n ≡ content_in l t o p w n
unfolding content_in content_by if◌then◌or_else◌
stable zero zero t o p w n h k = refl
stable zero (suc l) t o p w n h k = sym (rw (le-leb (length t) p (omega arith)))
stable (suc m) zero t o p w n h k = rw (le-leb (length t) p (omega arith))
stable (suc m) (suc l) t o p w n h k = content_same (content_in m t) (content_in l t) (in_on l t) t p (λ i q v j g. stable m l t i q v j (omega arith) (omega arith)) w n o

-- the equation that content is: a step, and then content
content_is : (t : List ℕ) (o : Outer) (p : ℕ) (w : List ℕ) (n : ℕ) → content_at t o p w n ≡ content_by (content_at t) t o p w n
unfolding content_at content_in
content_is t o p w n = stable (length t) (suc (length t)) t o p w n (omega arith) (omega arith)

pub content_end : (t : List ℕ) (o : Outer) (p : ℕ) (w : List ℕ) (n : ℕ) → length t ≤ p → content_at t o p w n ≡ walk_told (walked (fault_at (length t)) n) w
unfolding content_by if◌then◌or_else◌
content_end t o p w n h = content_is t o p w n ∙ rw (le-leb (length t) p h)

-- the part at a place of content, as the loop meets it
pub part_past : (t : List ℕ) (tag p : ℕ) (g : Part) → g ≡ part_at t tag p → (q : ℕ) → g ≡ On q → p < q
part_past t tag p g eg q e = rw (← eg, e) at (part_onward t tag p)

module _ (t : List ℕ) (o : Outer) (p : ℕ) (w : List ℕ) (n : ℕ) (in_text : p < length t) (g : Part) (eg : g ≡ part_at t o.tag p) where
  content_part : content_at t o p w n ≡ by_part g (thing_at (named_at o.sort t p) (drawn_as (named_at o.sort t p) o.sort t p) t o.thing p w n) (content_at t o) w n
  unfolding content_by thing_at if◌then◌or_else◌
  content_part = content_is t o p w n ∙ rw (lt-leb (length t) p in_text, ← eg)

  pub content_close : (q : ℕ) → g ≡ Close q → content_at t o p w n ≡ walk_told (walked (Ok q) n) w
  unfolding by_part
  content_close q e = content_part ∙ rw e

  pub content_fault : (q : ℕ) → g ≡ PartFault q → content_at t o p w n ≡ walk_told (walked (fault_at q) n) w
  unfolding by_part
  content_fault q e = content_part ∙ rw e

  pub content_onward : (q : ℕ) → g ≡ On q → content_at t o p w n ≡ content_at t o q w n
  unfolding by_part
  content_onward q e = content_part ∙ rw e

  module _ (k : g ≡ Element) (s : ℕ) (es : s ≡ named_at o.sort t p) (d : ℕ) (ed : d ≡ drawn_as s o.sort t p) (r : Walked) (v : List ℕ) (er : walk_told r v ≡ thing_at s d t o.thing p w n) where
    content_thing : content_at t o p w n ≡ walk_on (walk_told r v) (content_at t o)
    unfolding by_part
    content_thing = content_part ∙ rw (k, ← es, ← ed, er)

    pub content_past : (q : ℕ) → r.end ≡ Ok q → content_at t o p w n ≡ content_at t o q v r.count
    unfolding walk_on by_end walk_told
    content_past q e = content_thing ∙ rw e

    pub content_refused : (q : ℕ) → r.end ≡ fault_at q → content_at t o p w n ≡ walk_told r v
    unfolding walk_on by_end walk_told
    content_refused q e = content_thing ∙ rw e

-- a thing at p
pub thing_past : (s d : ℕ) (t : List ℕ) (k p : ℕ) (w : List ℕ) (n : ℕ) (r : Walked) (v : List ℕ) → walk_told r v ≡ thing_at s d t k p w n → (q : ℕ) → r.end ≡ Ok q → p < q
unfolding thing_at content_at walk_told
thing_past s d t k p w n r v er q e =
    let f : r.end ≡ (thing_by (content_at t) s d t k p w n).end = ap (λ (x : Walk). x.end) er in
    rw (← f, e) at (thing_on (content_at t) (in_on (length t) t) t p w n s d k)

module _ (s d : ℕ) (t : List ℕ) (k p : ℕ) (w : List ℕ) (n : ℕ) (v : List ℕ) (ev : v ≡ noted d p k w n) (m : ℕ) (em : m ≡ counted d n) (g : Tag) (eg : g ≡ entered s t p) where
  thing_tag : thing_at s d t k p w n ≡ by_tag g (λ q. content_at t (outer s n p) q v m) v m
  unfolding thing_at thing_by
  thing_tag = rw (← eg, ← ev, ← em)

  pub thing_open : (q : ℕ) → g ≡ Open q → thing_at s d t k p w n ≡ content_at t (outer s n p) q v m
  unfolding by_tag
  thing_open q e = thing_tag ∙ rw e

  pub thing_empty : (q : ℕ) → g ≡ Empty q → thing_at s d t k p w n ≡ walk_told (walked (Ok q) m) v
  unfolding by_tag
  thing_empty q e = thing_tag ∙ rw e

  pub thing_fault : (q : ℕ) → g ≡ TagFault q → thing_at s d t k p w n ≡ walk_told (walked (fault_at q) m) v
  unfolding by_tag
  thing_fault q e = thing_tag ∙ rw e

module _ (s : ℕ) (t : List ℕ) (p : ℕ) (g : Tag) (eg : g ≡ entered s t p) (q : ℕ) (e : g ≡ Open q) where
  open_right : Entered p (length t) (Open q)
  open_right = rw (← eg, e) at (entered_on s t p)

  pub open_past : p < q
  open_past = open_right.0

  pub open_within : q ≤ length t
  open_within = open_right.1

-- the whole walk, by what the calls gave
module _ (t w : List ℕ) (root : Reached) (er : root ≡ root_at (bytes "definitions") t) where
  pub walk_rootless : (q : ℕ) → root ≡ fault_at q → walk_told (walked root 0) w ≡ walk t w
  unfolding walk by_end
  walk_rootless q e = rw (← er, e)

  module _ (p : ℕ) (e : root ≡ Ok p) (r : Walked) (v : List ℕ) (ew : walk_told r v ≡ thing_at definitions definitions t 0 p w 0) where
    walk_root : walk t w ≡ walk_on (walk_told r v) (λ q u n. walk_told (walked (last_from t q) n) u)
    unfolding walk by_end
    walk_root = rw (← er, e, ← ew)

    pub walk_refused : (q : ℕ) → r.end ≡ fault_at q → walk_told r v ≡ walk t w
    unfolding walk_on by_end walk_told
    walk_refused q f = sym (walk_root ∙ rw f)

    pub walk_whole : (q : ℕ) → r.end ≡ Ok q → (l : Reached) → l ≡ last_from t q → walk_told (walked l r.count) v ≡ walk t w
    unfolding walk_on by_end walk_told
    walk_whole q f l el = sym (walk_root ∙ rw (f, ← el))
