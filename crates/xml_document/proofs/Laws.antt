-- What stands outside the root, step by step, as the loop goes. Assumes nothing.
use mathlib.Core.Path.{◌≡◌, ◌∙◌, refl, sym}
use mathlib.Core.Bool.{Bool, true, false}
use mathlib.Core.List.{List}
use Prim.Native.Char.{code}
use Prim.Native.Nat.{ℕ, zero, suc, ◌+◌, ◌<◌, ◌≤◌}
use native.Mathlib.Omega.{arith}
use lib.Dec.{leb, eqb}
use lib.ListN.{length, drop}
use borrow.Author.Tests.{le-leb}
use Rattle.base_words.specs.Pick.{if◌then◌or_else◌}
use Rattle.base_words.specs.Words.{at}
use Rattle.base_bytes.proofs.PastLaws.{past_from}
use Rattle.xml_scanner.specs.declared.Sort.{Sort}
use Rattle.xml_scanner.specs.declared.Sort.TheVariants.{StartTag, EmptyTag, EndTag, Text, Reference, Comment, Data, Instruction, End, Fault as AFault}
use Rattle.xml_markup.specs.declared.Class.TheVariants.{Blanks}
use Rattle.xml_markup.specs.declared.Opener.{Opener}
use Rattle.xml_markup.specs.declared.Opener.TheVariants.{Start, End as EndOpener, Other}
use Rattle.xml_markup.specs.Markup.{markup}
use Rattle.xml_markup.specs.Spans.{is_of, run, opener}
use Rattle.xml_markup.proofs.MarkupLaws.{Ahead, markup_ahead}
use Rattle.xml_document.specs.declared.Outside.{Outside}
use Rattle.xml_document.specs.declared.Outside.TheVariants.{Element, On, Nothing, Fault}
use Rattle.xml_document.specs.Document.{other_by, other_of, opens_data, tag_for, tag_at, outside_at, further, outside_in, outside}

-- WHAT IS PASSED IS FURTHER ON
abbrev pub Beyond : ℕ → Outside → Type 0
Beyond p (Element q) = p ≤ q
Beyond p (On q) = p < q
Beyond p Nothing = Unit {0}
Beyond p (Fault q) = Unit {0}

beyond_from : (p q : ℕ) (g : Outside) → p ≤ q → Beyond q g → Beyond p g
beyond_from p q (Element x) h k = omega (arith, h, k)
beyond_from p q (On x) h k = omega (arith, h, k)
beyond_from p q Nothing h k = tt
beyond_from p q (Fault x) h k = tt

beyond_if : (p : ℕ) (b : Bool) (x y : Outside) → Beyond p x → Beyond p y → Beyond p (if b then x or_else y)
unfolding if◌then◌or_else◌
beyond_if p true x y h k = h
beyond_if p false x y h k = k

other_by_lem : (s : Sort) (q p : ℕ) → Ahead s p q → Beyond p (other_by s q p)
unfolding other_by
other_by_lem StartTag q p h = tt
other_by_lem EmptyTag q p h = tt
other_by_lem EndTag q p h = tt
other_by_lem Text q p h = tt
other_by_lem Reference q p h = tt
other_by_lem Comment q p h = h
other_by_lem Data q p h = tt
other_by_lem Instruction q p h = h
other_by_lem End q p h = tt
other_by_lem AFault q p h = tt

module _ (t : List ℕ) (p : ℕ) where
  other_beyond : Beyond p (other_of (markup t p) p)
  unfolding other_of
  other_beyond = other_by_lem (markup t p).sort (markup t p).next p (markup_ahead t p)

  tag_for_lem : (o : Opener) → Beyond p (tag_for o t p)
  unfolding tag_for
  tag_for_lem Start = omega arith
  tag_for_lem EndOpener = tt
  tag_for_lem Other = beyond_if p (opens_data t p) (Fault p) (other_of (markup t p) p) tt other_beyond

  pub at_beyond : Beyond p (outside_at t p)
  unfolding outside_at tag_at
  at_beyond =
      beyond_if p (leb (length t) p) Nothing _ tt
      (beyond_if p (eqb (at t p) (code "<")) (tag_at t p) _ (tag_for_lem (opener t p))
      (beyond_if p (eqb (at t p) (code "&")) (other_of (markup t p) p) (Fault p) other_beyond tt))

  pub ran : p ≤ run Blanks t p
  unfolding run
  ran = past_from (is_of Blanks) (drop p t) p

-- blanks first
step_beyond : (t : List ℕ) (p : ℕ) → Beyond p (outside_at t (run Blanks t p))
step_beyond t p = beyond_from p (run Blanks t p) (outside_at t (run Blanks t p)) (ran t p) (at_beyond t (run Blanks t p))

pub step_end : (t : List ℕ) (p : ℕ) → length t ≤ p → outside_at t (run Blanks t p) ≡ Nothing
unfolding outside_at if◌then◌or_else◌
step_end t p h = rw (le-leb (length t) (run Blanks t p) (omega (arith, h, ran t p)))

further_same : (p : ℕ) (f h : ℕ → Outside) → ((q : ℕ) → p < q → f q ≡ h q) → (g : Outside) → Beyond p g → further g f ≡ further g h
unfolding further
further_same p f h same (Element q) k = refl
further_same p f h same (On q) k = same q k
further_same p f h same Nothing k = refl
further_same p f h same (Fault q) k = refl

-- any two numbers of steps that are enough give the same
stable : (n m : ℕ) (t : List ℕ) (p : ℕ) → length t ≤ p + n → length t ≤ p + m → outside_in n t p ≡ outside_in m t p
unfolding outside_in further
stable zero zero t p h k = refl
stable zero (suc m) t p h k = sym (rw (step_end t p (omega arith)))
stable (suc n) zero t p h k = rw (step_end t p (omega arith))
stable (suc n) (suc m) t p h k = further_same p (outside_in n t) (outside_in m t) (λ q l. stable n m t q (omega arith) (omega arith)) (outside_at t (run Blanks t p)) (step_beyond t p)

outside_is : (t : List ℕ) (p : ℕ) → outside t p ≡ further (outside_at t (run Blanks t p)) (outside t)
unfolding outside outside_in
outside_is t p = stable (length t) (suc (length t)) t p (omega arith) (omega arith)

pub outside_end : (t : List ℕ) (p : ℕ) → length t ≤ p → outside t p ≡ Nothing
unfolding further
outside_end t p h = outside_is t p ∙ rw (step_end t p h)

not_on : (g : Outside) (f : ℕ → Outside) → ((v : ℕ) → g ≡ On v → ⊥) → further g f ≡ g
unfolding further
not_on (Element q) f e = refl
not_on (On q) f e = absurd (e q refl)
not_on Nothing f e = refl
not_on (Fault q) f e = refl

-- the place r behind the blanks, and what stands there
module _ (t : List ℕ) (p r : ℕ) (er : r ≡ run Blanks t p) (g : Outside) (eg : g ≡ outside_at t r) where
  pub outside_on : (q : ℕ) → g ≡ On q → outside t p ≡ outside t q
  unfolding further
  outside_on q e = outside_is t p ∙ rw (← er, ← eg, e)

  pub outside_stops : ((v : ℕ) → g ≡ On v → ⊥) → outside t p ≡ g
  outside_stops o = outside_is t p ∙ rw (← er, ← eg) (not_on g (outside t) o)

  pub outside_past : (q : ℕ) → g ≡ On q → p < q
  outside_past q e = rw (← er, ← eg, e) at (step_beyond t p)
