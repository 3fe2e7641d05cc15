-- Moments at the ends of days, months, years, leap years and of the calendar, each computed.
use mathlib.Core.Path.{◌≡◌, refl}
use mathlib.Core.List.{[], ◌++◌}
use Rattle.base_words.specs.Text.{bytes}
use Rattle.base_words.specs.Pick.{if◌then◌or_else◌}
use Rattle.log_write.specs.Times.{quarters, in_century, fifths, day_in, day_of, two, field, day_text, clock_text, millis_text, moment_text, date_opening, stamp_text}

pub record Moments : Type 0 where
  pub first : moment_text 1 ≡ bytes "1970-01-01T00:00:00.001+00:00"
  pub end_of_day : moment_text 86399999 ≡ bytes "1970-01-01T23:59:59.999+00:00"
  pub next_day : moment_text 86400000 ≡ bytes "1970-01-02T00:00:00.000+00:00"
  pub leap_century : moment_text 951782400000 ≡ bytes "2000-02-29T00:00:00.000+00:00"
  pub behind_it : moment_text 951868800000 ≡ bytes "2000-03-01T00:00:00.000+00:00"
  pub leap_year : moment_text 1709251199999 ≡ bytes "2024-02-29T23:59:59.999+00:00"
  pub an_event : moment_text 1794830400000 ≡ bytes "2026-11-16T12:00:00.000+00:00"
  pub last_of_year : moment_text 1798761599999 ≡ bytes "2026-12-31T23:59:59.999+00:00"
  pub first_of_year : moment_text 1798761600000 ≡ bytes "2027-01-01T00:00:00.000+00:00"
  pub no_leap_century : moment_text 4107542400000 ≡ bytes "2100-03-01T00:00:00.000+00:00"
  pub before_it : moment_text 4107542399999 ≡ bytes "2100-02-28T23:59:59.999+00:00"
  pub last : stamp_text 253402300799999 ≡ bytes "<date key=\"time:timestamp\" value=\"9999-12-31T23:59:59.999+00:00\"/>"
  pub behind_the_last : stamp_text 253402300800000 ≡ []
  pub greatest : stamp_text 18446744073709551615 ≡ []
  pub none : stamp_text 0 ≡ []

pub moments : Moments
unfolding quarters in_century fifths day_in day_of two field day_text clock_text millis_text moment_text date_opening stamp_text if◌then◌or_else◌
moments =
    record {
      first = refl;
      end_of_day = refl;
      next_day = refl;
      leap_century = refl;
      behind_it = refl;
      leap_year = refl;
      an_event = refl;
      last_of_year = refl;
      first_of_year = refl;
      no_leap_century = refl;
      before_it = refl;
      last = refl;
      behind_the_last = refl;
      greatest = refl;
      none = refl;
    }
