-- THE CALLS on the words of four records, f being what the desk's list was taken apart into: what they return, and the records to put back. t is a table, z a state.
use Rattle.std.specs.Prelude.{ℕ}
use Rattle.meaning.specs.declared.Name.{Name}
use Rattle.state_records.specs.declared.Four.{Four}
use Rattle.state_records.specs.Records.{lent_words, four_left}
use Rattle.step_poll.specs.Poll.{Polling}
use Rattle.engine.specs.Engine.{Stepped, RanTo}
use Rattle.engine.specs.Desk.{AtDesk, stepped_at, ran_at, polled_at, figured_to}
use Rattle.base_words.specs.Blocks.{Block, Table, State}

pub record AtFour (A : Type 0) : Type 0 where
  pub done : A
  pub four : Four

abbrev pub in_four : {A : Type 0} → Four → AtDesk A → AtFour A
in_four f a = record { done = a.done; four = four_left f a.records }

unfoldable pub stepped_four : Table → State → Four → Name → AtFour Stepped
stepped_four t z f n = in_four f (stepped_at t z (lent_words f) n)

unfoldable pub ran_four : Table → State → Four → ℕ → AtFour RanTo
ran_four t z f limit = in_four f (ran_at t z (lent_words f) limit)

unfoldable pub polled_four : Table → State → Four → Block → ℕ → AtFour Polling
polled_four t z f w count = in_four f (polled_at t z (lent_words f) w count)

unfoldable pub figured_four : Table → State → Four → AtFour ℕ
figured_four t z f = record { done = (figured_to t z (lent_words f)).number; four = four_left f (figured_to t z (lent_words f)).records }
