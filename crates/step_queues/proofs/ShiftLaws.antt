-- What is closed up behind the last message: nothing. Assumes nothing.
use Prim.Native.Nat.{ℕ, ◌+◌, ◌-◌, ◌*◌, ◌≤◌}
use mathlib.Core.Path.{◌≡◌}
use mathlib.Core.List.{List}
use native.Mathlib.Omega.{arith}
use Rattle.base_words.specs.Words.{at}
use Rattle.base_words.proofs.WritesLaws.{writes_none}
use Rattle.base_state.specs.Places.{slot_words, slot_place}
use Rattle.meaning.specs.Queues.{message_count}
use Rattle.step_queues.specs.Changes.{closed_up}

-- w and n are what the code read as the count, and one less
pub closed_last : (q : List ℕ) (m k w n : ℕ) → w ≡ message_count q m → n ≡ w - 1 → n ≤ k → q ≡ closed_up q m k
unfolding closed_up
closed_last q m k w n e f h =
    let none : slot_words * (message_count q m - 1 - k) ≡ 0 = omega arith in
    rw none (writes_none (λ i. at q (slot_place m k + i + slot_words)) q (slot_place m k))
