-- The date of an event is plain, and stands in one tag; or there is none. Assumes nothing.
use mathlib.Core.Path.{◌≡◌, ◌∙◌, refl, ap}
use mathlib.Core.Bool.{Bool, true, false}
use mathlib.Core.List.{List, [], ◌∷◌, ◌++◌, append_assoc}
use Prim.Native.Nat.{ℕ, ◌+◌, ◌/◌, ◌%◌}
use native.Mathlib.Omega.{arith}
use lib.Dec.{eqb, ltb}
use borrow.Author.Tests.{le-leb}
use Rattle.base_words.specs.Pick.{if◌then◌or_else◌}
use Rattle.base_words.specs.Text.{bytes}
use Rattle.base_words.specs.Each.{each}
use Rattle.write_decimals.specs.Decimals.{digit, is_digit}
use Rattle.xml_markup.specs.Staying.{is_plain}
use Rattle.log_write.specs.declared.times.Day.{Day}
use Rattle.log_write.specs.Times.{moments_end, day_of, two, field, day_text, clock_text, millis_text, moment_text, date_opening, stamp_text}
use Rattle.proof_logs.proofs.Known.{date_tag}
use Rattle.proof_logs.proofs.Events.{Plain}
use Rattle.proof_logs.proofs.PlainLines.{plain_append, digits_plain}

one_plain : (n : ℕ) → Plain (digit (n % 10) ∷ [])
one_plain n = digits_plain (digit (n % 10) ∷ []) is_digit_lem
  where
    is_digit_lem : each is_digit (digit (n % 10) ∷ []) ≡ true
    is_digit_lem = unfold each in rw (le-leb 48 (48 + n % 10) (omega arith), le-leb (48 + n % 10) 57 (omega arith))

two_plain : (n : ℕ) → Plain (two n)
unfolding two
two_plain n = plain_append (digit (n / 10 % 10) ∷ []) (digit (n % 10) ∷ []) (one_plain (n / 10)) (one_plain n)

field_plain : (sign n : ℕ) → Plain (sign ∷ []) → Plain (field sign n)
unfolding field
field_plain sign n s = plain_append (sign ∷ []) (two n) s (two_plain n)

day_plain : (d : Day) → Plain (day_text d)
unfolding day_text each is_plain if◌then◌or_else◌
day_plain d =
    plain_append (two (d.year / 100) ++ two d.year ++ field 45 d.month) (field 45 d.day)
    (plain_append (two (d.year / 100) ++ two d.year) (field 45 d.month) (plain_append (two (d.year / 100)) (two d.year) (two_plain (d.year / 100)) (two_plain d.year)) (field_plain 45 d.month refl))
    (field_plain 45 d.day refl)

clock_plain : (m : ℕ) → Plain (clock_text m)
unfolding clock_text each is_plain if◌then◌or_else◌
clock_plain m =
    plain_append (field 84 (m / 3600000 % 24) ++ field 58 (m / 60000 % 60)) (field 58 (m / 1000 % 60))
    (plain_append (field 84 (m / 3600000 % 24)) (field 58 (m / 60000 % 60)) (field_plain 84 (m / 3600000 % 24) refl) (field_plain 58 (m / 60000 % 60) refl))
    (field_plain 58 (m / 1000 % 60) refl)

millis_plain : (m : ℕ) → Plain (millis_text m)
unfolding millis_text each is_plain if◌then◌or_else◌
millis_plain m =
    plain_append ((46 ∷ []) ++ (digit (m / 100 % 10) ∷ [])) (two m) (plain_append (46 ∷ []) (digit (m / 100 % 10) ∷ []) refl (one_plain (m / 100))) (two_plain m)

moment_plain : (m : ℕ) → Plain (moment_text m)
unfolding moment_text each is_plain if◌then◌or_else◌
moment_plain m =
    plain_append (day_text (day_of m) ++ clock_text m ++ millis_text m) (bytes "+00:00")
    (plain_append (day_text (day_of m) ++ clock_text m) (millis_text m) (plain_append (day_text (day_of m)) (clock_text m) (day_plain (day_of m)) (clock_plain m)) (millis_plain m))
    refl

-- none, or a plain moment in its tag
pub data Stamped (stamp : List ℕ) : Type 0 where
  none : stamp ≡ [] → Stamped stamp
  dated : (v : List ℕ) → stamp ≡ date_tag ++ (v ++ bytes "\"/>") → Plain v → Stamped stamp

pub stamp_is : (moment : ℕ) → Stamped (stamp_text moment)
unfolding stamp_text date_opening
stamp_is moment = go (eqb moment 0) (ltb moment moments_end)
  where
    go : (a b : Bool) → Stamped (if a then [] or_else if b then date_tag ++ moment_text moment ++ bytes "\"/>" or_else [])
    go true b = unfold if◌then◌or_else◌ in none refl
    go false true = unfold if◌then◌or_else◌ in dated (moment_text moment) (append_assoc date_tag (moment_text moment) (bytes "\"/>")) (moment_plain moment)
    go false false = unfold if◌then◌or_else◌ in none refl
