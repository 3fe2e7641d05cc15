-- The line of a step, and that of a post, are plain: digits, blanks, `!`, `?`, `:`, `,`, `-` and the letters of `post`. Assumes nothing.
use mathlib.Core.Path.{◌≡◌, ◌∙◌, refl}
use mathlib.Core.Bool.{Bool, true, false}
use mathlib.Core.List.{List, [], ◌∷◌, ◌++◌}
use Prim.Native.Nat.{ℕ, zero, suc, ◌+◌, ◌≤◌}
use native.Mathlib.Omega.{arith}
use lib.Dec.{leb, eqb}
use borrow.Author.Tests.{leb-true, le-ltb, ne_eqb}
use Rattle.base_words.specs.Pick.{if◌then◌or_else◌}
use Rattle.base_words.specs.Text.{bytes}
use Rattle.base_words.specs.Words.{at}
use Rattle.base_words.specs.Each.{each, joined}
use Rattle.base_words.proofs.AllLaws.{and_left, and_right}
use Rattle.base_words.proofs.PickLaws.{and_true}
use Rattle.base_words.proofs.EachLaws.{each_append}
use Rattle.meaning.specs.declared.Name.{Name}
use Rattle.meaning.specs.declared.Answer.{Answer}
use Rattle.meaning.specs.declared.Tuple.{Tuple}
use Rattle.meaning.specs.declared.Traffic.{Traffic}
use Rattle.meaning.specs.declared.Traffic.TheVariants.{Nothing, Consumed, Sent}
use Rattle.write_decimals.specs.Decimals.{is_digit, shown}
use Rattle.write_decimals.proofs.DecimalLaws.{shown-digits}
use Rattle.xml_markup.specs.Staying.{is_plain}
use Rattle.write_lines.specs.Lines.{marked_off, row, values_line, message_line, signed, traffic_line, place_line, step_line}
use Rattle.proof_logs.proofs.Events.{Plain}

-- one behind the other
pub plain_append : (v w : List ℕ) → Plain v → Plain w → Plain (v ++ w)
plain_append v w a b = each_append (is_plain 34) v w ∙ and_true (each (is_plain 34) v) (each (is_plain 34) w) a b

digit_plain : (b : ℕ) → is_digit b ≡ true → is_plain 34 b ≡ true
unfolding is_plain if◌then◌or_else◌
digit_plain b e = rw (le-ltb b 32 (omega (arith, low)), ne_eqb b 34 (λ q. omega (arith, low, q)), ne_eqb b 38 (λ q. omega (arith, low, q)), ne_eqb b 60 (λ q. omega (arith, high, q))) refl
  where
    low : 48 ≤ b
    low = leb-true 48 b (and_left (leb 48 b) (leb b 57) e)

    high : b ≤ 57
    high = leb-true b 57 (and_right (leb 48 b) (leb b 57) e)

pub digits_plain : (w : List ℕ) → each is_digit w ≡ true → Plain w
unfolding each
digits_plain [] e = refl
digits_plain (b ∷ w) e = and_true (is_plain 34 b) (each (is_plain 34) w) (digit_plain b (and_left (is_digit b) (each is_digit w) e)) (digits_plain w (and_right (is_digit b) (each is_digit w) e))

pub number_plain : (n : ℕ) → Plain (shown n)
number_plain n = digits_plain (shown n) (shown-digits n)

module _ (mark : List ℕ) (plain : Plain mark) where
  marked_plain : (j x : ℕ) → Plain (marked_off mark j x)
  unfolding marked_off
  marked_plain j x = go (eqb j 0)
    where
      go : (b : Bool) → Plain (if b then shown x or_else mark ++ shown x)
      go true = unfold if◌then◌or_else◌ in number_plain x
      go false = unfold if◌then◌or_else◌ in plain_append mark (shown x) plain (number_plain x)

  joined_plain : (s : List ℕ) (n : ℕ) → Plain (joined (λ j. marked_off mark j (at s j)) n)
  unfolding joined each
  joined_plain s zero = refl
  joined_plain s (suc n) = plain_append (joined (λ j. marked_off mark j (at s j)) n) (marked_off mark n (at s n)) (joined_plain s n) (marked_plain n (at s n))

  row_plain : (s : List ℕ) (n : ℕ) → Plain (row mark s n)
  unfolding row
  row_plain s n = joined_plain s n

pub values_plain : (g : Tuple) → Plain (values_line g)
unfolding values_line each is_plain if◌then◌or_else◌
values_plain g = row_plain (bytes ",") refl _ _

-- one byte between
between_plain : (v w : List ℕ) (b : ℕ) → Plain v → is_plain 34 b ≡ true → Plain w → Plain (v ++ (b ∷ []) ++ w)
unfolding each
between_plain v w b a p c = plain_append (v ++ (b ∷ [])) w (plain_append v (b ∷ []) a (rw p refl)) c

pub message_plain : (a : Answer) → Plain (message_line a)
unfolding message_line is_plain if◌then◌or_else◌
message_plain a = between_plain (shown a.name) (values_line a.tuple) 58 (number_plain a.name) refl (values_plain a.tuple)

signed_plain : (s : Traffic) (m : List ℕ) → Plain m → Plain (signed s m)
unfolding signed each is_plain if◌then◌or_else◌
signed_plain Nothing m e = refl
signed_plain Consumed m e = plain_append (bytes "?") m refl e
signed_plain Sent m e = plain_append (bytes "!") m refl e

place_plain : (n : Name) → Plain (place_line n)
unfolding place_line each is_plain if◌then◌or_else◌
place_plain n = row_plain (bytes " ") refl _ _

pub step_plain : (n : Name) (a : Answer) → Plain (step_line n a)
unfolding step_line traffic_line is_plain if◌then◌or_else◌
step_plain n a = between_plain (place_line n) (signed a.traffic (message_line a)) 32 (place_plain n) refl (signed_plain a.traffic (message_line a) (message_plain a))

-- "`post M:V`"
pub post_plain : (name : ℕ) (g : Tuple) → Plain (bytes "post " ++ (shown name ++ (bytes ":" ++ values_line g)))
unfolding each is_plain if◌then◌or_else◌
post_plain name g =
    plain_append (bytes "post ") (shown name ++ (bytes ":" ++ values_line g)) refl
    (plain_append (shown name) (bytes ":" ++ values_line g) (number_plain name) (plain_append (bytes ":") (values_line g) refl (values_plain g)))
