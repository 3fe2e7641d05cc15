-- The words of what is claimed of a whole poll.
use Rattle.std.specs.Prelude.{ℕ, ◌+◌, List, [], ◌∷◌, eqb}
use Rattle.base_words.specs.Pick.{if◌then◌or_else◌}
use Rattle.step_poll.specs.Poll.{Polling}

-- how many calls are accepted before the first refusal, by their numbers
unfoldable pub until_refused : List ℕ → ℕ
until_refused [] = 0
until_refused (k ∷ ks) = if eqb k 0 then until_refused ks + 1 or_else 0

-- a poll, and then, if all of it was accepted, another
unfoldable pub then_poll : Polling → Polling → Polling
then_poll p q = if eqb p.number 0 then record { number = q.number; accepted = q.accepted + p.accepted; state = q.state } or_else p

abbrev pub poll_numbers : List ℕ
poll_numbers = 0 ∷ 10 ∷ 11 ∷ 12 ∷ 13 ∷ 14 ∷ 15 ∷ 16 ∷ 17 ∷ 18 ∷ 19 ∷ 22 ∷ 25 ∷ 26 ∷ []
