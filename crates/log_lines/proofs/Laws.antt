-- What is read one behind another, put together as the definitions have it; the values of a tuple, as the loop goes. Assumes nothing.
use mathlib.Core.Path.{◌≡◌, ◌∙◌, refl, sym, ap}
use mathlib.Core.Bool.{Bool, true, false, ◌&&◌}
use mathlib.Core.List.{List, [], ◌∷◌}
use Prim.Native.Char.{code}
use Prim.Native.Nat.{ℕ, zero, suc, ◌+◌, ◌-◌, ◌<◌, ◌≤◌}
use native.Mathlib.Nat.{not-suc-le-zero}
use native.Mathlib.Omega.{arith}
use lib.Dec.{leb, ltb}
use lib.ListN.{length, set}
use denote.Enum.Declared.{tag_of}
use borrow.Author.Tests.{le-leb, lt-leb, eq-eqb, ne_eqb}
use Rattle.base_words.specs.Pick.{if◌then◌or_else◌}
use Rattle.base_words.specs.Text.{bytes}
use Rattle.base_words.specs.Words.{at, part}
use Rattle.base_words.proofs.PickLaws.{pick_yes, pick_no}
use Rattle.meaning.specs.declared.Name.{Name}
use Rattle.meaning.specs.declared.Tuple.{Tuple}
use Rattle.meaning.specs.Tuples.{empty}
use Rattle.text_numerals.specs.declared.Number.{Number}
use Rattle.text_numerals.specs.declared.Number.TheVariants.{Value}
use Rattle.text_numerals.specs.Numerals.{if_value}
use Rattle.base_bytes.specs.Bytes.{same_bytes}
use Rattle.text_numerals.specs.contracts.Number.{the_type as number-type}
use Rattle.text_numerals.proofs.AnswerLaws.{is_value, not_value}
use Rattle.xml_markup.specs.declared.Class.TheVariants.{Value as NotByte}
use Rattle.xml_markup.specs.Spans.{run, after}
use Rattle.log_lines.specs.declared.Numbered.{Numbered}
use Rattle.log_lines.specs.declared.Given.{Given}
use Rattle.log_lines.specs.declared.Message.{Message}
use Rattle.log_lines.specs.declared.Placed.{Placed}
use Rattle.log_lines.specs.declared.Entry.{Entry}
use Rattle.log_lines.specs.Entries.{number_up_to, is_small, value_in, number_before, given, added, values_in, values_from, message_from, traffic_from, number_place, number_at, five_placed, all_right, name_of, no_entry, step_entry, post_name, post_entry}
use Rattle.base_words.specs.Words.{one_more}

pub none_is : (r : Given) (b : Bool) (g : Tuple) → r ≡ given b g → g ≡ empty → r ≡ given b empty
none_is r b g e h = e ∙ ap (λ (x : Tuple). given b x) h

pub message_is_lem : (w : List ℕ) (p : ℕ) (m : Numbered) (g : Given) (b : Bool) → m ≡ number_before (code ":") w p → g ≡ values_from w m.next → b ≡ (m.right && g.right) → ◌≡◌ {A = Message} (record { right = b; name = m.value; tuple = g.tuple }) (message_from w p)
unfolding message_from
message_is_lem w p m g b hm hg hb = rw (hb, hg, hm)

-- THE VALUES from q on, behind those of g, in n steps at most
module _ (w : List ℕ) (q : ℕ) (g : Tuple) where
  pub values_out : (n : ℕ) → n ≤ 0 → values_in n w q g ≡ given false empty
  unfolding values_in
  values_out zero h = refl
  values_out (suc n) h = absurd (not-suc-le-zero h)

  -- what stands at q up to a comma or the end
  module _ (x : Number) (ex : x ≡ number_up_to (code ",") w q) where
    pub values_wrong : (n : ℕ) → ((v : ℕ) → x ≡ Value v → ⊥) → values_in n w q g ≡ given false empty
    unfolding values_in
    values_wrong zero o = refl
    values_wrong (suc n) o = rw (← ex) (not_value x _ _ o)

    module _ (v : ℕ) (ev : x ≡ Value v) (e : ℕ) (ee : e ≡ run (NotByte (code ",")) w q) (more : Tuple) (em : more ≡ added g v) where
      value_is : {A : Type 0} (a : ℕ → A) (b : A) → if_value (number_up_to (code ",") w q) a b ≡ a v
      value_is a b = is_value (number_up_to (code ",") w q) a b v (sym ex ∙ ev)

      pub values_last : (n : ℕ) → 0 < n → length w ≤ e → values_in n w q g ≡ given true more
      unfolding values_in if◌then◌or_else◌
      values_last zero k h = absurd (not-suc-le-zero k)
      values_last (suc n) k h = value_is _ _ ∙ rw (← ee, le-leb (length w) e h, em)

      pub values_next : (n : ℕ) → 0 < n → e < length w → values_in n w q g ≡ values_in (n - 1) w (e + 1) more
      unfolding values_in if◌then◌or_else◌
      values_next zero k h = absurd (not-suc-le-zero k)
      values_next (suc n) k h = let m : suc n - 1 ≡ n = omega arith in value_is _ _ ∙ rw (m, ← ee, lt-leb (length w) e h, em)

-- what was sent or consumed: the bytes from p on, the first of them, and the message behind it
module _ (w : List ℕ) (p : ℕ) (rest : List ℕ) (et : rest ≡ part w p (length w)) (s : Bool) (es : s ≡ same_bytes rest (bytes "-")) where
  same_as : (b : Bool) → s ≡ b → same_bytes (part w p (length w)) (bytes "-") ≡ b
  same_as b h = sym (ap (λ (l : List ℕ). same_bytes l (bytes "-")) et) ∙ sym es ∙ h

  pub traffic_none : s ≡ true → given true empty ≡ traffic_from w p
  unfolding traffic_from
  traffic_none h = pick_yes _ _ _ _ (same_as true h) refl

  module _ (h : s ≡ false) (b : ℕ) (eb : b ≡ at w p) (q : ℕ) (eq : q ≡ after w p) (m : Message) (em : m ≡ message_from w q) where
    message_as : m ≡ message_from w (after w p)
    message_as = em ∙ ap (message_from w) eq

    pub traffic_sent : b ≡ code "!" → given m.right empty ≡ traffic_from w p
    unfolding traffic_from
    traffic_sent k = pick_no _ _ _ _ (same_as false h) (pick_yes _ _ _ _ (eq-eqb _ _ (sym eb ∙ k)) (ap (λ (x : Message). given x.right empty) message_as))

    pub traffic_consumed : (b ≡ code "!" → ⊥) → b ≡ code "?" → given m.right m.tuple ≡ traffic_from w p
    unfolding traffic_from
    traffic_consumed l k = pick_no _ _ _ _ (same_as false h) (pick_no _ _ _ _ (ne_eqb _ _ (λ z. l (eb ∙ z))) (pick_yes _ _ _ _ (eq-eqb _ _ (sym eb ∙ k)) (ap (λ (x : Message). given x.right x.tuple) message_as)))

    pub traffic_other : (b ≡ code "!" → ⊥) → (b ≡ code "?" → ⊥) → given false empty ≡ traffic_from w p
    unfolding traffic_from
    traffic_other l k = pick_no _ _ _ _ (same_as false h) (pick_no _ _ _ _ (ne_eqb _ _ (λ z. l (eb ∙ z))) (pick_no _ _ _ _ (ne_eqb _ _ (λ z. k (eb ∙ z))) refl))

-- a step's line: its numbers, what was sent or consumed, and whether both are right
module _ (w : List ℕ) (p : Placed) (ep : p ≡ five_placed w) (g : Given) (eg : g ≡ traffic_from w p.branch.next) (a : Bool) (ea : a ≡ all_right p) (r : Bool) (er : r ≡ (a && g.right)) where
  traffic_as : traffic_from w (five_placed w).branch.next ≡ traffic_from w (number_place w 5)
  unfolding five_placed number_at number_place
  traffic_as = refl

  traffic_is : traffic_from w (number_place w 5) ≡ g
  traffic_is = sym (eg ∙ ap (λ (x : Placed). traffic_from w x.branch.next) ep ∙ traffic_as)

  right_as : (all_right (five_placed w) && (traffic_from w (number_place w 5)).right) ≡ r
  right_as = rw (traffic_is, er, ea, ep)

  pub step_not : r ≡ false → no_entry ≡ step_entry w
  unfolding step_entry
  step_not h = pick_no _ _ _ _ (right_as ∙ h) refl

  pub step_is : r ≡ true → (n : Name) → n ≡ name_of p g.tuple → ◌≡◌ {A = Entry} (record { right = true; posts = false; name = n }) (step_entry w)
  unfolding step_entry
  step_is h n en = pick_yes _ _ _ _ (right_as ∙ h) (rw (en, traffic_is, ep))

-- a post's
module _ (w : List ℕ) (m : Message) (em : m ≡ message_from w 5) where
  right_of : (b : Bool) → m.right ≡ b → (message_from w 5).right ≡ b
  right_of b h = sym (ap (λ (x : Message). x.right) em) ∙ h

  pub post_is : m.right ≡ true → (n : Name) → n ≡ post_name m → ◌≡◌ {A = Entry} (record { right = true; posts = true; name = n }) (post_entry w)
  unfolding post_entry
  post_is h n en = pick_yes _ _ _ _ (right_of true h) (rw (en, em))
