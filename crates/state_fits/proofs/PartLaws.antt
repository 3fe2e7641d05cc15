-- The instances of a pool and the messages of a queue, by how many there are: n is what says so. Assumes nothing.
use mathlib.Core.Path.{◌≡◌, sym, ap}
use mathlib.Core.Bool.{Bool, ◌&&◌}
use mathlib.Core.List.{List}
use Prim.Native.Nat.{ℕ, ◌-◌, ◌*◌}
use lib.Dec.{leb}
use lib.ListN.{drop}
use Rattle.base_words.specs.All.{all}
use Rattle.base_words.specs.Counts.{instances, messages}
use Rattle.base_state.specs.Instances.{made_count, instance_at}
use Rattle.base_state.specs.Places.{instance_words, slot_words, slot_place}
use Rattle.check_limits.specs.Limits.{zeros}
use Rattle.meaning.specs.Queues.{message_count}
use Rattle.state_fits.specs.Fits.{made_fits, usable, instance_fits, instances_fit, slot_fits, queue_fits}

-- the first n instances of a pool fit; the words of the others are 0
abbrev pub Firsts : List ℕ → List ℕ → ℕ → ℕ → Bool
Firsts u s p n = all (λ i. instance_fits u (instance_at s p i)) n

abbrev pub Rest : List ℕ → ℕ → ℕ → Bool
Rest s p n = zeros (instance_at s p n) (instance_words * (instances - n))

pub parted : (t s : List ℕ) (p n : ℕ) → n ≡ made_count s p → instances_fit t s p ≡ made_fits t p n && Firsts (usable t p) s p n && Rest s p n
unfolding instances_fit
parted t s p n made = ap (λ k. made_fits t p k && Firsts (usable t p) s p k && Rest s p k) (sym made)

-- the words behind the first n messages of a queue are 0
abbrev pub Behind : List ℕ → ℕ → ℕ → Bool
Behind q m n = zeros (drop (slot_place m n) q) (slot_words * (messages - n))

pub shared : (q : List ℕ) (m n : ℕ) → n ≡ message_count q m → queue_fits q m ≡ leb n messages && all (slot_fits q m) n && Behind q m n
unfolding queue_fits
shared q m n count = ap (λ k. leb k messages && all (slot_fits q m) k && Behind q m k) (sym count)
