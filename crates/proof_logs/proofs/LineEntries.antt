-- THE LINES THAT ARE TOLD, READ BACK: the line of a step is the step's, that of a post the post's. Assumes nothing.
use Prim.Native.Nat.{ℕ, ◌≤◌}
use mathlib.Core.Path.{◌≡◌, ◌∙◌, refl, sym, ap, subst}
use mathlib.Core.Bool.{true, false, false≢true}
use mathlib.Core.List.{List, [], ◌∷◌, ◌++◌}
use native.Mathlib.Omega.{arith}
use lib.ListN.{length, take, drop}
use borrow.Author.Tests.{eq-eqb, ne_eqb}
use Rattle.base_words.specs.Each.{each}
use Rattle.base_words.specs.Pick.{if◌then◌or_else◌}
use Rattle.base_words.specs.Text.{bytes}
use Rattle.base_words.specs.Words.{part}
use Rattle.base_words.proofs.AllLaws.{and_left}
use Rattle.base_bytes.specs.Bytes.{same_bytes}
use Rattle.write_decimals.specs.Decimals.{shown, is_digit}
use Rattle.write_decimals.proofs.DecimalLaws.{shown_some, shown-digits}
use Rattle.write_lines.specs.Lines.{values_line, traffic_line, step_line}
use Rattle.meaning.specs.declared.Answer.{Answer}
use Rattle.meaning.specs.declared.Name.{Name}
use Rattle.meaning.specs.declared.Tuple.{Tuple}
use Rattle.meaning.specs.Queues.{tidied}
use Rattle.proof_steps.proofs.Choices.{passed}
use Rattle.xml_markup.specs.Markup.{begins_at}
use Rattle.log_lines.specs.Entries.{number_most, post_name, step_entry, post_entry, entry_of}
use Rattle.log_pieces.specs.Pieces.{post_line}
use Rattle.proof_logs.proofs.StepEntries.{Sound, Small, step_of, given_by, whole, place_spaced, step_from, message_read}

-- a text is the same as itself
pub same_self : (w : List ℕ) → same_bytes w w ≡ true
unfolding same_bytes
same_self [] = refl
same_self (x ∷ w) = rw (eq-eqb x x refl, same_self w) refl

-- the bytes that a line begins with
begins_is : (w : List ℕ) → begins_at w 0 (bytes "post ") ≡ same_bytes (take 5 w) (bytes "post ")
unfolding begins_at
begins_is w = ap (λ (s : List ℕ). same_bytes (part s 0 5) (bytes "post ")) (whole w 0)

-- a digit is no letter
letter : is_digit 112 ≡ false
letter = refl

other_first : (d : ℕ) (r : List ℕ) → is_digit d ≡ true → same_bytes (take 5 (d ∷ r)) (bytes "post ") ≡ false
unfolding same_bytes
other_first d r e =
    let apart : d ≡ 112 → ⊥ = λ (h : d ≡ 112). absurd (false≢true (sym letter ∙ subst (λ (b : ℕ). is_digit b ≡ true) h e)) in
    rw (ne_eqb d 112 apart) refl

digits_first : (w rest : List ℕ) → 1 ≤ length w → each is_digit w ≡ true → begins_at (w ++ rest) 0 (bytes "post ") ≡ false
unfolding each
digits_first [] rest some e = absurd (omega (arith, some))
digits_first (d ∷ w) rest some e = begins_is (d ∷ (w ++ rest)) ∙ other_first d (w ++ rest) (and_left (is_digit d) (each is_digit w) e)

module _ (n : Name) (a : Answer) where
  step_first : begins_at (step_line n a) 0 (bytes "post ") ≡ false
  unfolding step_line
  step_first =
      ap (λ (w : List ℕ). begins_at w 0 (bytes "post ")) (place_spaced n (traffic_line a))
      ∙ digits_first (shown n.pool) _ (shown_some n.pool) (shown-digits n.pool)

  pub step_entry_lem : Small n → a.name ≤ number_most → Sound a.tuple → entry_of (step_line n a) ≡ step_of n (given_by a.traffic a.tuple)
  unfolding entry_of
  step_entry_lem s few g =
      passed (begins_at (step_line n a) 0 (bytes "post ")) (post_entry (step_line n a)) (step_entry (step_line n a)) step_first
      ∙ step_from n a (step_line n a) s few g refl

module _ (m : ℕ) (g : Tuple) where
  post_first : begins_at (post_line m g) 0 (bytes "post ") ≡ true
  unfolding post_line same_bytes
  post_first = begins_is (post_line m g) ∙ refl

  behind_first : drop 5 (post_line m g) ≡ shown m ++ 58 ∷ values_line g
  unfolding post_line
  behind_first = refl

  pub post_entry_lem : m ≤ number_most → Sound g → entry_of (post_line m g) ≡ record { right = true; posts = true; name = post_name (record { right = true; name = m; tuple = tidied g }) }
  unfolding entry_of post_entry if◌then◌or_else◌
  post_entry_lem few s = rw (post_first, message_read (post_line m g) 5 m g few s behind_first) refl
