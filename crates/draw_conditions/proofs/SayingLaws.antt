-- What is said, step by step, as the loop goes. Assumes nothing.
use mathlib.Core.Path.{◌≡◌, ◌∙◌, refl, sym}
use mathlib.Core.Bool.{Bool, true, false}
use mathlib.Core.List.{List}
use Prim.Native.Char.{code}
use Prim.Native.Nat.{ℕ, zero, suc, ◌+◌, ◌<◌, ◌≤◌}
use native.Mathlib.Nat.{min-eq_left, min-eq_right}
use native.Mathlib.Omega.{arith}
use lib.Dec.{leb, ltb, eqb}
use lib.ListN.{length}
use borrow.Author.Tests.{le-leb, lt-ltb, le-ltb}
use Rattle.base_words.specs.Pick.{if◌then◌or_else◌}
use Rattle.base_words.specs.Text.{bytes}
use Rattle.base_words.specs.Words.{at}
use Rattle.base_bytes.proofs.PieceLaws.{by_order}
use Rattle.xml_scanner.specs.declared.Sort.{Sort}
use Rattle.xml_scanner.specs.declared.Sort.TheVariants.{StartTag, EmptyTag, EndTag, Text, Reference, Comment, Data, Instruction, End as TheEnd, Fault}
use Rattle.xml_markup.specs.declared.Scan.{Scan}
use Rattle.xml_markup.specs.declared.Scan.TheVariants.{On as OnScan, Past, Fault as ScanFault}
use Rattle.xml_markup.specs.Markup.{begins_at}
use Rattle.xml_markup.specs.Spans.{after, is_called}
use Rattle.xml_skip.specs.Skipping.{depth}
use Rattle.draw_conditions.specs.Outline.{outline, if_past}
use Rattle.draw_conditions.proofs.OutlineLaws.{Ahead, outline_ahead, past_is, past_not}
use Rattle.xml_document.specs.Decoding.{behind_line, plain_at, decoded}
use Rattle.draw_conditions.specs.declared.saying.Spot.{Spot}
use Rattle.draw_conditions.specs.declared.saying.Step.{Step}
use Rattle.draw_conditions.specs.declared.saying.Step.TheVariants.{Byte, On, End}
use Rattle.std.proofs.Common.{Some, None}
use Rattle.draw_conditions.specs.Saying.{Said, spot, inside, forward, plain_step, is_skipped, tag_step, step_by, markup_step, skip_by, skip_markup, skip_step, text_step, section_step, step_at, further, said_in, said, seen}

-- n bytes on
module _ (t : List ℕ) (i n : ℕ) where
  pub forward_out : length t ≤ i → length t ≡ forward t i n
  unfolding forward
  forward_out h = sym (min-eq_right (let z : length t ≤ i + n = omega arith in z))

  pub forward_end : length t ≤ i + n → length t ≡ forward t i n
  unfolding forward
  forward_end h = sym (min-eq_right h)

  pub forward_in : i + n ≤ length t → i + n ≡ forward t i n
  unfolding forward
  forward_in h = sym (min-eq_left h)

-- WHAT IS PASSED IS FURTHER ON
abbrev Onward : ℕ → Step → Type 0
Onward p (Byte b i s) = p < s.at
Onward p (On s) = p < s.at
Onward p End = Unit {0}

onward_if : (p : ℕ) (b : Bool) (x y : Step) → Onward p x → Onward p y → Onward p (if b then x or_else y)
unfolding if◌then◌or_else◌
onward_if p true x y h k = h
onward_if p false x y h k = k

module _ (t : List ℕ) (i : ℕ) (in_text : i < length t) where
  forward_ahead : (n : ℕ) → i < forward t i (suc n)
  forward_ahead n =
      by_order (length t) (i + suc n)
      (λ h. omega (arith, in_text, forward_end t i (suc n) h))
      (λ h. omega (arith, forward_in t i (suc n) (let z : i + suc n ≤ length t = omega arith in z)))

  after_is : after t i ≡ i + 1
  unfolding after if◌then◌or_else◌
  after_is = rw (lt-ltb i (length t) in_text)

  line_ahead : (j : ℕ) → j ≤ length t → j ≤ behind_line t j
  unfolding behind_line
  line_ahead j h = by (eqb (at t j) (code "\n"))
    where
      on : j ≤ after t j
      on = unfold after if◌then◌or_else◌ in by_order (length t) j (λ l. rw (le-ltb j (length t) l) h) (λ l. rw (lt-ltb j (length t) l) (omega arith))

      by : (b : Bool) → j ≤ (if b then after t j or_else j)
      by true = unfold if◌then◌or_else◌ in on
      by false = unfold if◌then◌or_else◌ in omega arith

  plain_ahead : i < (plain_at t i).next
  unfolding plain_at
  plain_ahead = by (eqb (at t i) (code "\r"))
    where
      by : (b : Bool) → i < (if b then decoded (code "\n") (behind_line t (after t i)) or_else decoded (at t i) (after t i)).next
      by true = unfold if◌then◌or_else◌ in omega (arith, after_is, line_ahead (after t i) (omega (arith, after_is, in_text)))
      by false = unfold if◌then◌or_else◌ in omega (arith, after_is)

  plain_onward : (section : Bool) → Onward i (plain_step t section i)
  unfolding plain_step
  plain_onward section = plain_ahead

  tag_onward : (d q : ℕ) → i < q → Onward i (tag_step t d i q)
  unfolding tag_step
  tag_onward d q h = onward_if i (is_skipped t i) (On (inside d q)) (Byte 0 i (spot false q)) h h

  step_by_lem : (s : Sort) (q : ℕ) → i < q → Onward i (step_by s t i q)
  unfolding step_by
  step_by_lem StartTag q h = tag_onward 1 q h
  step_by_lem EmptyTag q h = tag_onward 0 q h
  step_by_lem EndTag q h = tt
  step_by_lem Text q h = tt
  step_by_lem Reference q h = h
  step_by_lem Comment q h = h
  step_by_lem Data q h = forward_ahead 8
  step_by_lem Instruction q h = h
  step_by_lem TheEnd q h = tt
  step_by_lem Fault q h = tt

  by_outline : (r : Scan) (f : Sort → ℕ → Step) → Ahead i r → ((s : Sort) (q : ℕ) → i < q → Onward i (f s q)) → Onward i (if_past r f End)
  unfolding if_past
  by_outline (OnScan c) f h k = tt
  by_outline (Past s q) f h k = k s q h
  by_outline (ScanFault q) f h k = tt

  markup_onward : Onward i (markup_step t i)
  unfolding markup_step
  markup_onward = by_outline (outline t i) (λ s q. step_by s t i q) (outline_ahead t i) step_by_lem

  skip_by_lem : (d : ℕ) (s : Sort) (q : ℕ) → i < q → Onward i (skip_by s d q)
  unfolding skip_by
  skip_by_lem d StartTag q h = onward_if i (ltb d depth) (On (inside (d + 1) q)) End h tt
  skip_by_lem d EmptyTag q h = h
  skip_by_lem d EndTag q h = h
  skip_by_lem d Text q h = h
  skip_by_lem d Reference q h = h
  skip_by_lem d Comment q h = h
  skip_by_lem d Data q h = h
  skip_by_lem d Instruction q h = h
  skip_by_lem d TheEnd q h = tt
  skip_by_lem d Fault q h = tt

  skip_onward : (d : ℕ) → Onward i (skip_step t d i)
  unfolding skip_step skip_markup
  skip_onward d =
      onward_if i (eqb (at t i) (code "<")) (if_past (outline t i) (λ s q. skip_by s d q) End) (On (inside d (forward t i 1)))
      (by_outline (outline t i) (λ s q. skip_by s d q) (outline_ahead t i) (skip_by_lem d)) (forward_ahead 0)

  text_onward : Onward i (text_step t i)
  unfolding text_step
  text_onward =
      onward_if i (eqb (at t i) (code "<")) (markup_step t i) _ markup_onward
      (onward_if i (eqb (at t i) (code "&")) (markup_step t i) (plain_step t false i) markup_onward (plain_onward false))

  section_onward : Onward i (section_step t i)
  unfolding section_step
  section_onward = onward_if i (begins_at t i (bytes "]]>")) (On (spot false (forward t i 3))) (plain_step t true i) (forward_ahead 2) (plain_onward true)

module _ (t : List ℕ) (s : Spot) where
  step_end : length t ≤ s.at → step_at t s ≡ End
  unfolding step_at if◌then◌or_else◌
  step_end h = rw (le-leb (length t) s.at h)

  step_onward : Onward s.at (step_at t s)
  unfolding step_at
  step_onward =
      by_order (length t) s.at
      (λ h. rw (le-leb (length t) s.at h) (unfold if◌then◌or_else◌ in tt))
      (λ h. onward_if s.at (leb (length t) s.at) End _ tt (onward_if s.at s.section (section_step t s.at) _ (section_onward t s.at h) (onward_if s.at (ltb 0 s.deep) (skip_step t s.deep s.at) (text_step t s.at) (skip_onward t s.at h s.deep) (text_onward t s.at h))))

further_same : (p : ℕ) (f g : Spot → List Said) → ((s : Spot) → p < s.at → f s ≡ g s) → (x : Step) → Onward p x → further x f ≡ further x g
unfolding further
further_same p f g same (Byte b i s) h = rw (same s h)
further_same p f g same (On s) h = same s h
further_same p f g same End h = refl

-- any two numbers of steps that are enough give the same
stable : (n m : ℕ) (t : List ℕ) (s : Spot) → length t ≤ s.at + n → length t ≤ s.at + m → said_in n t s ≡ said_in m t s
unfolding said_in further
stable zero zero t s h k = refl
stable zero (suc m) t s h k = sym (rw (step_end t s (omega arith)))
stable (suc n) zero t s h k = rw (step_end t s (omega arith))
stable (suc n) (suc m) t s h k = further_same s.at (said_in n t) (said_in m t) (λ q l. stable n m t q (omega arith) (omega arith)) (step_at t s) (step_onward t s)

said_is : (t : List ℕ) (s : Spot) → said t s ≡ further (step_at t s) (said t)
unfolding said said_in
said_is t s = stable (length t) (suc (length t)) t s (omega arith) (omega arith)

pub said_end : (t : List ℕ) (s : Spot) → length t ≤ s.at → said t s ≡ seen t None
unfolding further seen
said_end t s h = said_is t s ∙ rw (step_end t s h)

module _ (t : List ℕ) (s : Spot) (g : Step) (eg : g ≡ step_at t s) where
  pub said_byte : (b i : ℕ) (q : Spot) → g ≡ Byte b i q → said t s ≡ seen t (Some (record { byte = b; place = i; next = q }))
  unfolding further seen
  said_byte b i q e = said_is t s ∙ rw (← eg, e)

  pub said_on : (q : Spot) → g ≡ On q → said t s ≡ said t q
  unfolding further
  said_on q e = said_is t s ∙ rw (← eg, e)

  pub said_over : g ≡ End → said t s ≡ seen t None
  unfolding further seen
  said_over e = said_is t s ∙ rw (← eg, e)

  pub on_past : (q : Spot) → g ≡ On q → s.at < q.at
  on_past q e = rw (← eg, e) at (step_onward t s)

-- ONE STEP, by what the calls gave
module _ (t : List ℕ) (i : ℕ) where
  pub skipped_first : (r : Bool) → r ≡ is_called t i (bytes "documentation") → r ≡ true → r ≡ is_skipped t i
  unfolding is_skipped
  skipped_first r e h = rw (← e, h)

  pub skipped_second : (r s : Bool) → r ≡ is_called t i (bytes "documentation") → r ≡ false → s ≡ is_called t i (bytes "extensionElements") → s ≡ is_skipped t i
  unfolding is_skipped
  skipped_second r s e h k = rw (← e, h) k

  module _ (o : Scan) (eo : o ≡ outline t i) where
    pub markup_none : ((v : Sort) (w : ℕ) → o ≡ Past v w → ⊥) → End ≡ markup_step t i
    unfolding markup_step
    markup_none f = rw (← eo) (sym (past_not o (λ s q. step_by s t i q) End f))

    pub markup_past : (s : Sort) (q : ℕ) → o ≡ Past s q → (r : Step) → r ≡ step_by s t i q → r ≡ markup_step t i
    unfolding markup_step
    markup_past s q e r h = rw (← eo) (h ∙ sym (past_is o (λ s q. step_by s t i q) End s q e))

    pub skip_none : (d : ℕ) → ((v : Sort) (w : ℕ) → o ≡ Past v w → ⊥) → End ≡ skip_markup t d i
    unfolding skip_markup
    skip_none d f = rw (← eo) (sym (past_not o (λ s q. skip_by s d q) End f))

    pub skip_past : (d : ℕ) (s : Sort) (q : ℕ) → o ≡ Past s q → (r : Step) → r ≡ skip_by s d q → r ≡ skip_markup t d i
    unfolding skip_markup
    skip_past d s q e r h = rw (← eo) (h ∙ sym (past_is o (λ s q. skip_by s d q) End s q e))
