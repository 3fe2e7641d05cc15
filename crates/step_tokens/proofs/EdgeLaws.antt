-- Entries go down and exits go up: what that asks and does on each edge. Assumes nothing.
use Prim.Native.Nat.{ℕ}
use mathlib.Core.Path.{◌≡◌, refl}
use mathlib.Core.List.{List}
use Rattle.base_words.specs.All.{all}
use Rattle.base_words.specs.Iter.{iter}
use Rattle.base_words.specs.Pick.{if◌then◌or_else◌}
use Rattle.base_kinds.specs.Moves.{up, down}
use Rattle.base_table.specs.Places.{entries_place, exits_place}
use Rattle.meaning.specs.Requirements.{has_token, edge_has_room}
use Rattle.meaning.specs.Changes.{count_changed, take_one, put_one}
use Rattle.step_tokens.specs.Edges.{allows, change_one}

pub entries_allow : (el h : List ℕ) (f n : ℕ) → all (allows el h entries_place down f) n ≡ all (has_token el h f) n
unfolding allows has_token if◌then◌or_else◌
entries_allow el h f n = refl

pub exits_allow : (el h : List ℕ) (f n : ℕ) → all (allows el h exits_place up f) n ≡ all (edge_has_room el h f) n
unfolding allows edge_has_room if◌then◌or_else◌
exits_allow el h f n = refl

pub entries_change : (el h : List ℕ) (f n : ℕ) → iter (change_one el entries_place down f) h n ≡ iter (take_one el f) h n
unfolding change_one take_one count_changed if◌then◌or_else◌
entries_change el h f n = refl

pub exits_change : (el h : List ℕ) (f n : ℕ) → iter (change_one el exits_place up f) h n ≡ iter (put_one el f) h n
unfolding change_one put_one count_changed if◌then◌or_else◌
exits_change el h f n = refl
