-- WHEN AN EVENT WAS: a moment in milliseconds since 1970-01-01T00:00:00Z, as XML Schema's dateTime has it, in UTC. Days are counted from the first of March of the year 0 on, so that a leap day is the last of its
-- year: a century has 36,524 days and a quarter, a year of it 365 and a quarter, and five months 153, and division finds each.
use Rattle.std.specs.Prelude.{ℕ, ◌+◌, ◌*◌, ◌-◌, ◌/◌, ◌%◌, List, [], ◌∷◌, ◌++◌, ltb, leb, eqb}
use Rattle.base_words.specs.Blocks.{Bytes}
use Rattle.base_words.specs.Pick.{if◌then◌or_else◌}
use Rattle.base_words.specs.Text.{bytes}
use Rattle.write_decimals.specs.Decimals.{digit}
use Rattle.log_write.specs.declared.times.Day.{Day}

-- a day in milliseconds, and the days from the first of March of the year 0 to 1970-01-01
abbrev pub day_long : ℕ
day_long = 86400000

abbrev pub days_before : ℕ
days_before = 719468

-- behind the last moment of the year 9999
abbrev pub moments_end : ℕ
moments_end = 253402300800000

-- four times the days, and of those in the century, each with what a division by so many quarters leaves out
unfoldable pub quarters : ℕ → ℕ
quarters moment = 4 * (moment / day_long + days_before) + 3

unfoldable pub in_century : ℕ → ℕ
in_century q = 4 * (q % 146097 / 4) + 3

-- five times the days of a year from March on, where March is the third month and February the fourteenth
unfoldable pub fifths : ℕ → ℕ
fifths q = 5 * (q % 1461 / 4) + 461

-- the year as it is counted from March on is the calendar's until December
unfoldable pub day_in : ℕ → ℕ → Day
day_in year f =
    if leb (f / 153) 12 then record { year = year; month = f / 153; day = f % 153 / 5 + 1 }
    or_else record { year = year + 1; month = f / 153 - 12; day = f % 153 / 5 + 1 }

unfoldable pub day_of : ℕ → Day
day_of moment =
    day_in (100 * (quarters moment / 146097) + in_century (quarters moment) / 1461) (fifths (in_century (quarters moment)))

-- the last two digits of a number, and a sign before them
unfoldable pub two : ℕ → Bytes
two n = (digit (n / 10 % 10) ∷ []) ++ (digit (n % 10) ∷ [])

unfoldable pub field : ℕ → ℕ → Bytes
field sign n = (sign ∷ []) ++ two n

-- "2026-11-16"
unfoldable pub day_text : Day → Bytes
day_text d = two (d.year / 100) ++ two d.year ++ field 45 d.month ++ field 45 d.day

-- "T12:00:00", ".000"
unfoldable pub clock_text : ℕ → Bytes
clock_text moment = field 84 (moment / 3600000 % 24) ++ field 58 (moment / 60000 % 60) ++ field 58 (moment / 1000 % 60)

unfoldable pub millis_text : ℕ → Bytes
millis_text moment = (46 ∷ []) ++ (digit (moment / 100 % 10) ∷ []) ++ two moment

unfoldable pub moment_text : ℕ → Bytes
moment_text moment = day_text (day_of moment) ++ clock_text moment ++ millis_text moment ++ bytes "+00:00"

unfoldable pub date_opening : Bytes
date_opening = bytes "<date key=\"time:timestamp\" value=\""

-- a `date` of an event; 0 is no moment, and behind the year 9999 there is none that is written
unfoldable pub stamp_text : ℕ → Bytes
stamp_text moment =
    if eqb moment 0 then []
    or_else if ltb moment moments_end then date_opening ++ moment_text moment ++ bytes "\"/>"
    or_else []

-- the greatest length
abbrev pub stamp_most : ℕ
stamp_most = 34 + 29 + 3
